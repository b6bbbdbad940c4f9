-- A step that is made at once, and one that is left.
use Rattle.std.proofs.Common.{◌≡◌, ℕ, zero, suc, ◌+◌, ◌≤◌, List, [], ◌∷◌, ◌++◌, refl, sym, ap, ◌∙◌, subst, arith}
use Rattle.std.specs.Prelude.{Bool, true, false}
use Rattle.std.proofs.lemmas.List.{append-nil}
use Rattle.alma_code.specs.Fits.{Fits}
use Rattle.alma_code.specs.Machine.{State, StepResult, step, after, prints}
use Rattle.alma_code.specs.Plain.{PlainCode}
use Rattle.alma_code_laws.proofs.Runs.{stays_fit}
use Rattle.alma_machine.specs.Quick.{Quickly, Quietly, StepsOnce, StepsQuickly}
use Rattle.alma_machine.specs.Stands.{Stands}
use Rattle.alma_machine.specs.Runs.{last_print}
use Rattle.alma_machine.specs.View.{MachineView}
use Rattle.alma_machine.proofs.Budget.{after_more, after_sum, prints_more, prints_sum, last_sum, Progress}

-- a step that was made
pub is_made : (b : Bool) (old new : State) (word : StepResult) → b ≡ true → StepsQuickly b old new word → StepsOnce old new word
is_made true old new word e h = h
is_made false old new word e h = absurd (cc)

-- what has nothing to tell printed nothing
pub quick_of_quiet : (b : Bool) (old new : State) (word : StepResult) → Quietly b old new word → Quickly b old new word
quick_of_quiet true old new word h = record { state = ap (λ x. x.state) h.step; silent = sym (ap (λ x. x.printed) h.step); kept = h.kept }
quick_of_quiet false old new word h = h

-- one that was not
pub is_left : (b : Bool) (old new : State) (word : StepResult) → b ≡ false → StepsQuickly b old new word → new ≡ old
is_left false old new word e h = h
is_left true old new word e h = absurd (cc)

-- so many steps were made, with nothing to print, and the machine goes on
pub record Dashed (code : PlainCode) (input : List ℕ) (m : ℕ) (old new : State) : Type 0 where
  pub state : new ≡ after code input m old
  pub silent : prints code input m old ≡ []
  pub steps : new.steps ≡ old.steps + m
  pub stands : Stands code new

-- none was made
pub dashed_none : (code : PlainCode) (input : List ℕ) (s : State) → Stands code s → Dashed code input 0 s s
dashed_none code input s stands = record { state = refl; silent = refl; steps = omega arith; stands = stands }

-- one more of them
pub dashed_more : (code : PlainCode) (input : List ℕ) (m : ℕ) (old now new : State) → Dashed code input m old now
    → StepsOnce now new (step code input now) → Dashed code input (m + 1) old new
dashed_more code input m old now new h done = record {
  state = done.state ∙ ap (λ s. (step code input s).state) h.state ∙ sym (after_more code input m old);
  silent =
      prints_more code input m old ∙ ap (λ bytes. bytes ++ (step code input (after code input m old)).printed) h.silent
      ∙ sym (ap (λ s. (step code input s).printed) h.state) ∙ done.silent;
  steps = omega (arith, done.counted, h.steps);
  stands = record {
    sound = h.stands.sound;
    fits = subst (λ s. Fits code s) (sym done.state) (stays_fit code input h.stands.sound now h.stands.fits);
    live = done.live;
    choices = omega (arith, done.counted, done.choices, h.stands.choices);
    fails = omega (arith, done.counted, done.fails, h.stands.fails);
  };
}

-- as many where a step was not made
pub dashed_left : (code : PlainCode) (input : List ℕ) (m : ℕ) (old now new : State) → Dashed code input m old now → new ≡ now
    → Dashed code input m old new
dashed_left code input m old now new h same = subst (λ s. Dashed code input m old s) (sym same) h

-- the last part of nothing is nothing
last_is_none : (xs ys : List ℕ) → xs ++ ys ≡ [] → ys ≡ []
last_is_none [] ys h = h
last_is_none (x ∷ xs) ys h = absurd (cc)

-- what a machine shows after steps that printed nothing
pub shown_after : (code : PlainCode) (input : List ℕ) (m : ℕ) (s : State) (old new : List ℕ) → prints code input m s ≡ []
    → (m ≡ 0 → new ≡ old) → (1 ≤ m → new ≡ [])
    → new ≡ last_print code input m s old
shown_after code input zero s old new silent none some = none refl
shown_after code input (suc n) s old new silent none some =
    let one : suc n ≡ n + 1 = omega arith in
    let last : List ℕ = (step code input (after code input n s)).printed in
    some (omega arith) ∙ sym (last_is_none (prints code input n s) last
    (sym (prints_more code input n s) ∙ ap (λ k. prints code input k s) (sym one) ∙ silent))

-- those steps come after others
pub progress_dash : (old now new : MachineView) (m k : ℕ) → Progress old now m → new.state ≡ after now.code now.input k now.state
    → new.printed ≡ last_print now.code now.input k now.state now.printed → new.state.steps ≡ now.state.steps + k
    → (new.code ≡ now.code) × (new.input ≡ now.input) → Progress old new (m + k)
progress_dash old now new m k h state shown steps same = record {
  state = state ∙ ap (λ c. after c now.input k now.state) h.code ∙ ap (λ i. after old.code i k now.state) h.input
      ∙ ap (after old.code old.input k) h.state ∙ sym (after_sum old.code old.input m k old.state);
  steps = omega (arith, steps, h.steps);
  code = same.0 ∙ h.code;
  input = same.1 ∙ h.input;
  shown =
      shown ∙ ap (λ c. last_print c now.input k now.state now.printed) h.code
      ∙ ap (λ i. last_print old.code i k now.state now.printed) h.input
      ∙ ap (λ s. last_print old.code old.input k s now.printed) h.state
      ∙ ap (last_print old.code old.input k (after old.code old.input m old.state)) h.shown
      ∙ sym (last_sum old.code old.input m k old.state old.printed);
}

-- and print nothing more
pub prints_dash : (old now : MachineView) (m k : ℕ) → Progress old now m → prints now.code now.input k now.state ≡ []
    → prints old.code old.input (m + k) old.state ≡ prints old.code old.input m old.state
prints_dash old now m k h silent =
    let none : prints old.code old.input k (after old.code old.input m old.state) ≡ [] =
    ap (prints old.code old.input k) (sym h.state) ∙ ap (λ i. prints old.code i k now.state) (sym h.input)
    ∙ ap (λ c. prints c now.input k now.state) (sym h.code) ∙ silent in
    prints_sum old.code old.input m k old.state ∙ ap (λ bytes. prints old.code old.input m old.state ++ bytes) none
    ∙ append-nil (prints old.code old.input m old.state)
