-- Runs of the copying code machine, step after step.
use Rattle.std.proofs.Common.{◌≡◌, ℕ, zero, suc, ◌+◌, ◌-◌, ◌<◌, ◌≤◌, List, [], ◌++◌, refl, sym, ap, ◌∙◌, subst, arith, append_assoc}
use Rattle.std.proofs.Common.{zero-add}
use Rattle.std.specs.Prelude.{Option, Result, Ok, Err, OnErr, is_err, true}
use Rattle.std.specs.Io.KnownBytes.{Appends}
use Rattle.std.proofs.lemmas.List.{append-nil}
use Rattle.alma_code.specs.declared.step.End.{End}
use Rattle.alma_code.specs.declared.step.Step.{Step}
use Rattle.alma_code.specs.declared.step.Step.TheVariants as answer
use Rattle.alma_code.specs.Machine.{Mode, Going, Failing, Ended, Stuck, State, step, step_in, after, prints}
use Rattle.alma_code.specs.Plain.{PlainCode}
use Rattle.alma_io.specs.Fronts.{AppendsFront}
use Rattle.alma_io.proofs.Known.{appends_trans}
use Rattle.alma_io.proofs.PartLemmas.{front_after}
use Rattle.alma_machine.specs.declared.machine.RunEnd.{RunEnd}
use Rattle.alma_machine.specs.declared.machine.RunEnd.TheVariants as run
use Rattle.alma_machine.specs.Runs.{OnWhole, run_end_of, made, last_print}
use Rattle.alma_machine_acts.specs.Steps.{IsLive, ModeAfter, PrintsOnly, step_result}
use Rattle.alma_machine.specs.View.{MachineView, goes_on}

module _ (code : PlainCode) (input : List ℕ) where
  -- one more step
  pub after_more : (n : ℕ) (s : State) → after code input (n + 1) s ≡ (step code input (after code input n s)).state
  after_more zero s = refl
  after_more (suc n) s =
      let e : suc n + 1 ≡ suc (n + 1) = omega arith in
      ap (λ k. after code input k s) e ∙ after_more n (step code input s).state

  -- its print comes last
  pub prints_more : (n : ℕ) (s : State) → prints code input (n + 1) s ≡ prints code input n s
      ++ (step code input (after code input n s)).printed
  prints_more zero s = append-nil (step code input s).printed
  prints_more (suc n) s =
      let e : suc n + 1 ≡ suc (n + 1) = omega arith in
      let next = (step code input s).state in
      ap (λ k. prints code input k s) e ∙ ap (λ bytes. (step code input s).printed ++ bytes) (prints_more n next)
      ∙ sym (append_assoc (step code input s).printed (prints code input n next) (step code input (after code input n next)).printed)

  -- steps after others
  pub after_sum : (m n : ℕ) (s : State) → after code input (m + n) s ≡ after code input n (after code input m s)
  after_sum zero n s = ap (λ k. after code input k s) (zero-add n)
  after_sum (suc m) n s =
      let e : suc m + n ≡ suc (m + n) = omega arith in
      ap (λ k. after code input k s) e ∙ after_sum m n (step code input s).state

  -- their prints come after
  pub prints_sum : (m n : ℕ) (s : State) → prints code input (m + n) s ≡ prints code input m s ++ prints code input n (after code input m s)
  prints_sum zero n s = ap (λ k. prints code input k s) (zero-add n)
  prints_sum (suc m) n s =
      let e : suc m + n ≡ suc (m + n) = omega arith in
      let next = (step code input s).state in
      ap (λ k. prints code input k s) e ∙ ap (λ bytes. (step code input s).printed ++ bytes) (prints_sum m n next)
      ∙ sym (append_assoc (step code input s).printed (prints code input m next) (prints code input n (after code input m next)))

  -- the last print of steps after others
  pub last_sum : (m n : ℕ) (s : State) (shown : List ℕ)
      → last_print code input (m + n) s shown ≡ last_print code input n (after code input m s) (last_print code input m s shown)
  last_sum m zero s shown =
      let e : m + zero ≡ m = omega arith in
      ap (λ k. last_print code input k s shown) e
  last_sum m (suc n) s shown =
      let e : m + suc n ≡ suc (m + n) = omega arith in
      ap (λ k. last_print code input k s shown) e ∙ ap (λ t. (step code input t).printed) (after_sum m n s)

  -- an ended machine stays
  stays : (n : ℕ) (s : State) (e : End) → s.mode ≡ Ended e → after code input n s ≡ s
  stays zero s e h = refl
  stays (suc n) s e h =
      let same : (step code input s).state ≡ s = ap (λ m. (step_in code input m s).state) h in
      ap (after code input n) same ∙ stays n s e h

  -- and prints nothing
  silent : (n : ℕ) (s : State) (e : End) → s.mode ≡ Ended e → prints code input n s ≡ []
  silent zero s e h = refl
  silent (suc n) s e h =
      let same : (step code input s).state ≡ s = ap (λ m. (step_in code input m s).state) h in
      ap (λ m. (step_in code input m s).printed ++ prints code input n (step code input s).state) h ∙ ap (prints code input n) same
      ∙ silent n s e h

  -- a machine that has ended within a budget is so at its end
  pub ended_after : (m budget : ℕ) (s : State) (e : End) → m ≤ budget → (after code input m s).mode ≡ Ended e
      → after code input budget s ≡ after code input m s
  ended_after m budget s e le h =
      let sum : budget ≡ m + (budget - m) = omega arith in
      ap (λ k. after code input k s) sum ∙ after_sum m (budget - m) s ∙ stays (budget - m) (after code input m s) e h

  -- and has printed all
  pub ended_prints : (m budget : ℕ) (s : State) (e : End) → m ≤ budget → (after code input m s).mode ≡ Ended e
      → prints code input budget s ≡ prints code input m s
  ended_prints m budget s e le h =
      let sum : budget ≡ m + (budget - m) = omega arith in
      ap (λ k. prints code input k s) sum ∙ prints_sum m (budget - m) s
      ∙ ap (λ bytes. prints code input m s ++ bytes) (silent (budget - m) (after code input m s) e h)
      ∙ append-nil (prints code input m s)

-- m steps were made from one moment to another
pub record Progress (old new : MachineView) (m : ℕ) : Type 0 where
  pub state : new.state ≡ after old.code old.input m old.state
  pub steps : new.state.steps ≡ old.state.steps + m
  pub code : new.code ≡ old.code
  pub input : new.input ≡ old.input
  pub shown : new.printed ≡ last_print old.code old.input m old.state old.printed

-- what a step of this machine is for the machine at first
step_is : (old now : MachineView) (m : ℕ) → Progress old now m
    → step now.code now.input now.state ≡ step old.code old.input (after old.code old.input m old.state)
step_is old now m h =
    ap (λ code. step code now.input now.state) h.code ∙ ap (λ input. step old.code input now.state) h.input
    ∙ ap (step old.code old.input) h.state

-- one more step was made
pub progress_more : (old now new : MachineView) (m : ℕ) (a : Step) → Progress old now m
    → step_result a new.printed new.state ≡ step now.code now.input now.state
    → new.state.steps ≡ now.state.steps + 1 → (new.code ≡ now.code) × (new.input ≡ now.input) → Progress old new (m + 1)
progress_more old now new m a h done counted same = record {
  state = ap (λ x. x.state) (done ∙ step_is old now m h) ∙ sym (after_more old.code old.input m old.state);
  steps = omega (arith, h.steps);
  code = same.0 ∙ h.code;
  input = same.1 ∙ h.input;
  shown =
      let one : m + 1 ≡ suc m = omega arith in
      ap (λ x. x.printed) (done ∙ step_is old now m h) ∙ sym (ap (λ k. last_print old.code old.input k old.state old.printed) one);
}

-- what was printed with one more step
pub prints_then : (old now new : MachineView) (m : ℕ) (a : Step) → Progress old now m
    → step_result a new.printed new.state ≡ step now.code now.input now.state
    → prints old.code old.input (m + 1) old.state ≡ prints old.code old.input m old.state ++ new.printed
prints_then old now new m a h done =
    prints_more old.code old.input m old.state
    ∙ ap (λ bytes. prints old.code old.input m old.state ++ bytes) (sym (ap (λ x. x.printed) (done ∙ step_is old now m h)))

-- the steps that were made are counted
pub made_is : (old new : MachineView) (m : ℕ) → Progress old new m → made old new ≡ m
made_is old new m h = omega (arith, h.steps)

-- what holds holds where the run was not cut short
pub on_whole : (result : RunEnd) (P : Type 0) → P → OnWhole result P
on_whole run.Succeeded P p = p
on_whole run.Failed P p = p
on_whole (run.Fault fault) P p = p
on_whole run.StepsOut P p = p
on_whole run.WriteFault P p = tt
on_whole run.Memory P p = tt

-- a live machine has not ended
pub live_is_out : (m : Mode) → IsLive m → run_end_of m ≡ run.StepsOut
live_is_out Going h = refl
live_is_out Failing h = refl
live_is_out (Ended e) h = absurd h
live_is_out Stuck h = absurd h

-- a print that went out whole comes after those before it
pub out_more : (a b c : Option (List ℕ)) (xs ys zs : List ℕ) → Appends a b xs → Appends b c ys → zs ≡ xs ++ ys → Appends a c zs
out_more a b c xs ys zs h k e = subst (λ z. Appends a c z) (sym e) (appends_trans a b c xs ys h k)

-- a front of a print comes after those before it
pub out_front : (a b c : Option (List ℕ)) (xs ys zs : List ℕ) → Appends a b xs → AppendsFront b c ys → zs ≡ xs ++ ys → AppendsFront a c zs
out_front a b c xs ys zs h k e = front_after xs ys [] zs a b c (e ∙ ap (λ z. xs ++ z) (sym (append-nil ys))) h k

-- what is true of an error is true where there is one
pub on_err : {T E : Type 0} (result : Result T E) (P : Type 0) → is_err result ≡ true → OnErr result P → P
on_err (Ok done) P e h = absurd (cc)
on_err (Err fault) P e h = h

-- what a machine shows after the steps that were made, by their count
pub shows : (old new : MachineView) (m : ℕ) → Progress old new m
    → new.printed ≡ last_print old.code old.input (made old new) old.state old.printed
shows old new m h = h.shown ∙ ap (λ k. last_print old.code old.input k old.state old.printed) (sym (made_is old new m h))

-- a step that is not the last goes on
pub goes_unless : (a : Step) → ((e : End) → a ≡ answer.Done e → ⊥) → goes_on a ≡ true
goes_unless (answer.Done e) h = absurd (h e refl)
goes_unless answer.Went h = refl
goes_unless (answer.Chose height) h = refl
goes_unless (answer.Popped height) h = refl
goes_unless (answer.Cut height) h = refl
goes_unless (answer.Called routine frames) h = refl
goes_unless (answer.Returned frames) h = refl
goes_unless answer.Printed h = refl

-- the machine ended with one more step than m, within the budget
pub record Finished (old new : MachineView) (m budget : ℕ) (e : End) : Type 0 where
  pub state : new.state ≡ after old.code old.input budget old.state
  pub mode : (after old.code old.input budget old.state).mode ≡ Ended e
  pub printed : prints old.code old.input m old.state ≡ prints old.code old.input budget old.state
  pub last : prints old.code old.input (m + 1) old.state ≡ prints old.code old.input budget old.state

-- so it has where its last step said so
pub finished : (old now new : MachineView) (m budget : ℕ) (a : Step) (e : End) → Progress old now m → Progress old new (m + 1)
    → step_result a new.printed new.state ≡ step now.code now.input now.state
    → a ≡ answer.Done e → ModeAfter a new.state.mode → PrintsOnly a new.printed → m < budget → Finished old new m budget e
finished old now new m budget a e h p done is mode quiet lt =
    let le : m + 1 ≤ budget = omega arith in
    let end : new.state.mode ≡ Ended e = subst (λ b. ModeAfter b new.state.mode) is mode in
    let ended : (after old.code old.input (m + 1) old.state).mode ≡ Ended e = ap (λ s. s.mode) (sym p.state) ∙ end in
    let last = ended_after old.code old.input (m + 1) budget old.state e le ended in
    let none : new.printed ≡ [] = subst (λ b. PrintsOnly b new.printed) is quiet in
    let all = sym (ended_prints old.code old.input (m + 1) budget old.state e le ended) in
    record {
      state = p.state ∙ sym last;
      mode = ap (λ s. s.mode) last ∙ ended;
      printed = sym
          (sym all ∙ prints_then old now new m a h done
          ∙ ap (λ bytes. prints old.code old.input m old.state ++ bytes) none ∙ append-nil (prints old.code old.input m old.state));
      last = all;
    }
