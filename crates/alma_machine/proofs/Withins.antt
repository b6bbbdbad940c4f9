-- How far a run came, and what its sink and its buffer hold then.
use Rattle.std.proofs.Common.{◌≡◌, ◌≤◌, ◌<◌, ◌+◌, ◌-◌, ℕ, List, [], ◌++◌, refl, sym, ap, ◌∙◌, subst, arith, append_assoc}
use Rattle.std.specs.Prelude.{Result, Ok, Err, is_err, true, false}
use Rattle.alma_code.specs.declared.step.End.{End}
use Rattle.alma_code.specs.declared.step.End.TheVariants as end
use Rattle.alma_code.specs.declared.step.Step.{Step}
use Rattle.alma_code.specs.Machine.{State, after, prints}
use Rattle.alma_io.proofs.BufferLemmas.{buffers_then, fails_last, gains_last, none_held}
use Rattle.alma_io.proofs.PartLemmas.{fails_of}
use Rattle.alma_io.specs.Buffer.{GainsAllBut, Buffers}
use Rattle.alma_io.specs.Outside.{FailsWithin, Writes}
use Rattle.alma_io.specs.Sides.{SinkSide}
use Rattle.alma_machine.specs.declared.machine.RunEnd.{RunEnd}
use Rattle.alma_machine.specs.declared.machine.RunEnd.TheVariants as run
use Rattle.alma_machine.specs.Runs.{all_written, end_of, last_print, made, run_end_of}
use Rattle.alma_machine.specs.View.{MachineView, runs_after}
use Rattle.alma_machine.specs.Within.{RunsWithin}
use Rattle.alma_machine.proofs.Budget.{Progress, Finished, made_is, shows}

-- ---- how far it came

-- a machine is where it is after so many steps, whatever it shows
pub record Reached (old new : MachineView) (m : ℕ) : Type 0 where
  pub state : new.state ≡ after old.code old.input (made old new) old.state
  pub count : made old new ≡ m
  pub steps : new.state.steps ≡ old.state.steps + m
  pub same : (new.code ≡ old.code) × (new.input ≡ old.input)

-- by its progress
pub reached_by_progress : (old new : MachineView) (m : ℕ) → Progress old new m → Reached old new m
reached_by_progress old new m h = record {
  state = h.state ∙ ap (λ k. after old.code old.input k old.state) (sym (made_is old new m h));
  count = made_is old new m h;
  steps = h.steps;
  same = (h.code, h.input);
}

-- the same steps were made where the state stays
pub made_still : (old now new : MachineView) → new.state ≡ now.state → made old new ≡ made old now
made_still old now new stays = ap (λ (s : State). s.steps - old.state.steps) stays

-- and it is there still
pub reached_still : (old now new : MachineView) (m : ℕ) → Reached old now m → new.state ≡ now.state
    → (new.code ≡ now.code) × (new.input ≡ now.input) → Reached old new m
reached_still old now new m h stays same = record {
  state = stays ∙ h.state ∙ ap (λ k. after old.code old.input k old.state) (sym (made_still old now new stays));
  count = made_still old now new stays ∙ h.count;
  steps = ap (λ (s : State). s.steps) stays ∙ h.steps;
  same = (same.0 ∙ h.same.0, same.1 ∙ h.same.1);
}

-- a machine stops where a step is refused
pub err_stops : {E : Type 0} (result : Result Step E) → is_err result ≡ true → runs_after result ≡ false
err_stops (Ok step) e = absurd (cc)
err_stops (Err fault) e = refl

-- memory was wanted
pub starves : (old new : MachineView) (m budget : ℕ) → Reached old new m → m ≤ budget → new.running ≡ false → new.printed ≡ []
    → RunsWithin old new budget run.Memory
starves old new m budget h le ends shown = record {
  answer = tt;
  state = tt;
  all_prints = tt;
  few = omega (arith, h.steps, le);
  state_is = h.state;
  steps_out = tt;
  shows = shown;
  running = ends;
  same = h.same;
}

-- the sink failed
pub fails_at : (old new : MachineView) (m budget : ℕ) → Reached old new m → m ≤ budget → new.running ≡ false → new.printed ≡ []
    → RunsWithin old new budget run.WriteFault
fails_at old new m budget h le ends shown = record {
  answer = tt;
  state = tt;
  all_prints = tt;
  few = omega (arith, h.steps, le);
  state_is = h.state;
  steps_out = tt;
  shows = shown;
  running = ends;
  same = h.same;
}

-- the sink failed behind the run
pub fails_behind : (old now new : MachineView) (budget : ℕ) (result : RunEnd) → RunsWithin old now budget result → new.state ≡ now.state
    → (new.running ≡ false) × (new.printed ≡ []) → (new.code ≡ now.code) × (new.input ≡ now.input)
    → RunsWithin old new budget run.WriteFault
fails_behind old now new budget result h stays stopped same = record {
  answer = tt;
  state = tt;
  all_prints = tt;
  few = omega (arith, ap (λ (s : State). s.steps) stays, h.few);
  state_is = stays ∙ h.state_is ∙ ap (λ k. after old.code old.input k old.state) (sym (made_still old now new stays));
  steps_out = tt;
  shows = stopped.1;
  running = stopped.0;
  same = (same.0 ∙ h.same.0, same.1 ∙ h.same.1);
}

-- what holds at each end of the run
at_end : (old new : MachineView) (budget : ℕ) (e : End) → end_of e ≡ run_end_of (after old.code old.input budget old.state).mode
    → new.state ≡ after old.code old.input budget old.state
    → prints old.code old.input (made old new) old.state ≡ prints old.code old.input budget old.state
    → new.state.steps ≤ old.state.steps + budget
    → new.printed ≡ last_print old.code old.input (made old new) old.state old.printed
    → new.running ≡ false → ((m : ℕ) × Reached old new m) → RunsWithin old new budget (end_of e)
at_end old new budget end.Succeeded answer state all few shown ends h = record {
  answer = answer;
  state = state;
  all_prints = all;
  few = few;
  state_is = h.1.state;
  steps_out = tt;
  shows = shown;
  running = ends;
  same = h.1.same;
}
at_end old new budget end.Failed answer state all few shown ends h = record {
  answer = answer;
  state = state;
  all_prints = all;
  few = few;
  state_is = h.1.state;
  steps_out = tt;
  shows = shown;
  running = ends;
  same = h.1.same;
}
at_end old new budget (end.Fault fault) answer state all few shown ends h = record {
  answer = answer;
  state = state;
  all_prints = all;
  few = few;
  state_is = h.1.state;
  steps_out = tt;
  shows = shown;
  running = ends;
  same = h.1.same;
}

-- the run ended with the step behind the first m
pub ends_at : (old new : MachineView) (m budget : ℕ) (e : End) → Progress old new (m + 1) → Finished old new m budget e → m < budget
    → new.running ≡ false → RunsWithin old new budget (end_of e)
ends_at old new m budget e h f lt ends =
    let r = reached_by_progress old new (m + 1) h in
    at_end old new budget e (sym (ap run_end_of f.mode)) f.state (ap (λ k. prints old.code old.input k old.state) r.count ∙ f.last)
    (omega (arith, h.steps, lt)) (shows old new (m + 1) h) ends (m + 1, r)

-- the steps ran out
pub runs_out : (old new : MachineView) (budget : ℕ) → Progress old new budget → new.running ≡ true
    → run_end_of new.state.mode ≡ run.StepsOut → RunsWithin old new budget run.StepsOut
runs_out old new budget h goes live =
    let r = reached_by_progress old new budget h in
    record {
      answer = sym (ap (λ (s : State). run_end_of s.mode) (sym h.state) ∙ live);
      state = h.state;
      all_prints = ap (λ k. prints old.code old.input k old.state) r.count;
      few = omega (arith, h.steps);
      state_is = r.state;
      steps_out = r.count;
      shows = shows old new budget h;
      running = goes;
      same = r.same;
    }

-- ---- what the sink and the buffer hold

-- what waited goes out
pub flush_buffers : {T E : Type 0} (r : Result T E) (a b c : SinkSide) (bytes held left : List ℕ) → GainsAllBut a b bytes held
    → Writes b c held r → left ≡ [] → Buffers a c bytes left r
flush_buffers (Ok v) a b c bytes held left h w none =
    subst (λ (kept : List ℕ). GainsAllBut a c bytes kept) (sym none) (none_held a c bytes (gains_last a b c bytes held h w))
flush_buffers (Err fault) a b c bytes held left h w none = fails_last a b c bytes held h w

-- one more print goes through the buffer
pub buffered_more : {T E : Type 0} (r : Result T E) (a b c : SinkSide) (front xs ys zs held left : List ℕ)
    → GainsAllBut a b (front ++ xs) held → Buffers b c (held ++ ys) left r → zs ≡ xs ++ ys → Buffers a c (front ++ zs) left r
buffered_more r a b c front xs ys zs held left h k e =
    subst (λ (bytes : List ℕ). Buffers a c bytes left r) (append_assoc front xs ys ∙ ap (λ z. front ++ z) (sym e))
    (buffers_then r a b c (front ++ xs) held ys left h k)

-- at an end of the run
pub gained_end : (e : End) (a b : SinkSide) (bytes held : List ℕ) → GainsAllBut a b bytes held
    → Buffers a b bytes held (all_written (end_of e))
gained_end end.Succeeded a b bytes held h = h
gained_end end.Failed a b bytes held h = h
gained_end (end.Fault fault) a b bytes held h = h

-- where the sink did not fail
gained_at : (result : RunEnd) (a b : SinkSide) (bytes held : List ℕ) → (result ≡ run.WriteFault → ⊥)
    → Buffers a b bytes held (all_written result) → GainsAllBut a b bytes held
gained_at run.Succeeded a b bytes held whole h = h
gained_at run.Failed a b bytes held whole h = h
gained_at (run.Fault fault) a b bytes held whole h = h
gained_at run.StepsOut a b bytes held whole h = h
gained_at run.Memory a b bytes held whole h = h
gained_at run.WriteFault a b bytes held whole h = absurd (whole refl)

-- the sink failed in the flush behind a run through a buffer that was empty at first
pub failed_behind : {T E : Type 0} (r : Result T E) (result : RunEnd) (a b c : SinkSide) (first printed held : List ℕ)
    → (result ≡ run.WriteFault → ⊥) → first ≡ [] → Buffers a b (first ++ printed) held (all_written result)
    → is_err r ≡ true → Writes b c held r → FailsWithin a c printed
failed_behind r result a b c first printed held quiet none h failed w =
    fails_last a b c printed held
    (subst (λ (bytes : List ℕ). GainsAllBut a b (bytes ++ printed) held) none (gained_at result a b (first ++ printed) held quiet h))
    (fails_of r b c held failed w)
