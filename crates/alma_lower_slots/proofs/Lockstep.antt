-- The machine on a code and on that code with its slots renamed, step by step.
use Rattle.std.proofs.Common.{◌≡◌, ℕ, zero, suc, ◌+◌, ◌-◌, List, ◌++◌, length, get_or, refl, sym, ap, ◌∙◌, subst, arith, Some}
use Rattle.std.specs.Prelude.{slice_get, nat_lt, nat_le}
use Rattle.std.proofs.lemmas.Bool.{and_parts, ltb-true, leb-true}
use Rattle.std.proofs.lemmas.Option.{slice_get-get_or}
use Rattle.alma_code.specs.declared.instr.Instr.TheVariants as I
use Rattle.alma_code.specs.Picture.{last_frame}
use Rattle.alma_code.specs.Plain.{PlainCode, start_at, end_at}
use Rattle.alma_code.specs.Fits.{Fits, FitsMode}
use Rattle.alma_code.specs.Machine.{Mode, Going, Failing, Ended, Stuck, State, step_in, fetch_and_act, with_step_counted, step, after}
use Rattle.alma_code.specs.Machine.{prints, start, pop}
use Rattle.alma_code.proofs.Tables.{end_inside}
use Rattle.alma_code_laws.proofs.Ready.{Ready}
use Rattle.alma_code_laws.proofs.Acts.{obeys}
use Rattle.alma_code_laws.proofs.Runs.{first_number, start_fits, stays_fit, after_fits}
use Rattle.alma_lower_slots.specs.Slots.{rename_slots}
use Rattle.alma_lower_slots.specs.Sharing.{Sharing}
use Rattle.alma_lower_slots.specs.Same.{DoesTheSame}
use Rattle.alma_lower_slots.proofs.Alike.{OwnState, FramesMatter, Alike, AlikeStep, Doing}
use Rattle.alma_lower_slots.proofs.Based.{BasedState}
use Rattle.alma_lower_slots.proofs.Settles.{Shared}
use Rattle.alma_lower_slots.proofs.Forms.{OthersAlike, act_alike}
use Rattle.alma_lower_slots.proofs.Variables.{variables_alike}

-- what else is known of the two machines: of pops, of the forms of choices and calls, of the start, and of places and bases of the first
pub record Known (code new : PlainCode) (s : Sharing) : Type 0 where
  pub others : (input : List ℕ) → OthersAlike code new s input
  pub pops : (t t' : State) → Alike code new s t t' → AlikeStep code new s (pop t) (pop t')
  pub start_alike : Alike code new s (start code) (start new)
  pub own_start : OwnState s (start code)
  pub own_step : (input : List ℕ) (t : State) → Fits code t → OwnState s t → OwnState s (step code input t).state
  pub based_start : BasedState code (start code)
  pub based_step : (input : List ℕ) (t : State) → Fits code t → BasedState code t → BasedState code (step code input t).state

module _ (code new : PlainCode) (s : Sharing) (w : Shared code new s) (known : Known code new s) (input : List ℕ) where
  -- a step in which an instruction is taken
  fetch_alike : (t t' : State) → Fits code t → OwnState s t → BasedState code t → Alike code new s t t' → t.mode ≡ Going
      → AlikeStep code new s (fetch_and_act code input (slice_get code.instrs t.at) t)
      (fetch_and_act new input (slice_get new.instrs t'.at) t')
  fetch_alike t t' fit own based h going =
      let sound = w.sound in
      let rest = h.rest in
      let r = (last_frame t.now).routine in
      let at = t.at in
      let top_fits = fit.frames.each (length t.now - 1) (omega (arith, fit.frames.some)) in
      let lr = top_fits.routine in
      let parts = and_parts (nat_le (start_at code r) at) (nat_lt at (end_at code r))
      (subst (λ m. FitsMode code m t) going fit.mode) in
      let low = leb-true (start_at code r) at parts.0 in
      let high = ltb-true at (end_at code r) parts.1 in
      let inside = end_inside code sound.table r lr in
      let i = get_or code.instrs at I.Fail in
      let is : slice_get code.instrs at ≡ Some i = slice_get-get_or code.instrs at I.Fail (omega arith) in
      let is' : slice_get new.instrs t'.at ≡ Some (rename_slots (s.slot r) i) =
      ap (slice_get new.instrs) rest.at ∙ slice_get-get_or new.instrs at I.Fail (omega (arith, w.renames.size))
      ∙ ap Some (w.renames.instrs r at lr low high) in
      let t2 : State = record (with_step_counted code input t) { at = t.at + 1; last = t.at } in
      let t2' : State = record (with_step_counted new input t') { at = t'.at + 1; last = t'.at } in
      let ready : Ready code r t2 = record { frames = fit.frames; held = fit.held; routine = refl; going = going } in
      let next : at + 1 ≡ suc at = omega arith in
      let doing : Doing code new s r at i t2 t2' = record {
        taken = record {
          rest = record {
            at = ap (λ n. n + 1) rest.at;
            last = rest.at;
            mode = rest.mode;
            steps = ap (λ n. n + 1) rest.steps;
            choices = rest.choices;
            fails = rest.fails;
            held = rest.held;
          };
          going = going;
          behind = next;
          now = h.now (subst FramesMatter (sym going) tt);
        };
        here = record { ready = ready; at_is = next; low = low; first = first_number code sound };
        routine = lr;
        high = high;
        own = record { now = own.now; held = own.held };
        based = record { now = based.now; held = based.held; done = based.done };
        is = refl;
        shares = w.shares.instrs r at lr low high;
        obeys = obeys code r at i (sound.instrs r at lr low high);
      } in
      subst (λ o. AlikeStep code new s (fetch_and_act code input o t) (fetch_and_act new input (slice_get new.instrs t'.at) t')) (sym is)
      (subst (λ o. AlikeStep code new s (fetch_and_act code input (Some i) t) (fetch_and_act new input o t')) (sym is')
      (act_alike code new s input w (known.others input) i r at t2 t2' doing))

  -- a step, in each mode
  step_in_alike : (m : Mode) (t t' : State) → Fits code t → OwnState s t → BasedState code t → Alike code new s t t' → t.mode ≡ m
      → AlikeStep code new s (step_in code input m t) (step_in new input m t')
  step_in_alike Going t t' fit own based h e = fetch_alike t t' fit own based h e
  step_in_alike Failing t t' fit own based h e =
      let rest = h.rest in
      known.pops (with_step_counted code input t) (with_step_counted new input t') (record {
        rest = record {
          at = rest.at;
          last = rest.last;
          mode = rest.mode;
          steps = ap (λ n. n + 1) rest.steps;
          choices = rest.choices;
          fails = rest.fails;
          held = rest.held;
        };
        now = h.now;
      })
  step_in_alike (Ended x) t t' fit own based h e = record { answer = refl; printed = refl; state = h }
  step_in_alike Stuck t t' fit own based h e = absurd (subst (λ m. FitsMode code m t) e fit.mode)

  -- a step
  pub step_alike : (t t' : State) → Fits code t → OwnState s t → BasedState code t → Alike code new s t t'
      → AlikeStep code new s (step code input t) (step new input t')
  step_alike t t' fit own based h =
      subst (λ m. AlikeStep code new s (step code input t) (step_in new input m t')) (sym h.rest.mode)
      (step_in_alike t.mode t t' fit own based h refl)

  -- n steps
  pub after_alike : (n : ℕ) (t t' : State) → Fits code t → OwnState s t → BasedState code t → Alike code new s t t'
      → Alike code new s (after code input n t) (after new input n t')
  after_alike zero t t' fit own based h = h
  after_alike (suc n) t t' fit own based h =
      after_alike n (step code input t).state (step new input t').state (stays_fit code input w.sound t fit)
      (known.own_step input t fit own) (known.based_step input t fit based) (step_alike t t' fit own based h).state

  -- what n steps print
  pub prints_alike : (n : ℕ) (t t' : State) → Fits code t → OwnState s t → BasedState code t → Alike code new s t t'
      → prints new input n t' ≡ prints code input n t
  prints_alike zero t t' fit own based h = refl
  prints_alike (suc n) t t' fit own based h =
      let one = step_alike t t' fit own based h in
      let more = prints_alike n (step code input t).state (step new input t').state (stays_fit code input w.sound t fit)
      (known.own_step input t fit own) (known.based_step input t fit based) one.state in
      ap (λ bytes. bytes ++ prints new input n (step new input t').state) one.printed
      ∙ ap (λ bytes. (step code input t).printed ++ bytes) more

module _ (code new : PlainCode) (s : Sharing) (w : Shared code new s) (known : Known code new s) where
  -- the machine does the same on both codes
  pub lockstep : DoesTheSame code new
  lockstep =
      let fits = start_fits code w.sound in
      record {
        mode = λ input n. (after_alike code new s w known input n (start code) (start new) fits known.own_start known.based_start
            known.start_alike).rest.mode;
        last = λ input n. (after_alike code new s w known input n (start code) (start new) fits known.own_start known.based_start
            known.start_alike).rest.last;
        printed = λ input n. prints_alike code new s w known input n (start code) (start new) fits known.own_start known.based_start
            known.start_alike;
        variables = λ input n succeeded.
            let h = after_alike code new s w known input n (start code) (start new) fits known.own_start known.based_start
            known.start_alike in
            variables_alike code new s w (after code input n (start code)).at (after code input n (start code)).now
            (after new input n (start new)).now (after_fits code w.sound input n (start code) fits).frames
            (h.now (subst FramesMatter (sym succeeded) tt));
      }
