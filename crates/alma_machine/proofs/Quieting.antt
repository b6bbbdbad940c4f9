-- What stores and equations give that are made at once, or not at all.
use Rattle.std.proofs.Common.{◌≡◌, ℕ, refl, sym, ap, subst, ◌∙◌}
use Rattle.std.specs.Prelude.{ℤ, Bool, Option, Result, Ok, Err, is_ok}
use Rattle.alma_base.specs.declared.number.Range.{Range}
use Rattle.alma_code.specs.declared.step.Step.{Step}
use Rattle.alma_code.specs.Machine.{State, StepResult, content, store, equation, equation_of_contents, quiet_step}
use Rattle.alma_memory.specs.Machine.{MachinePicture}
use Rattle.alma_machine.specs.Quick.{Quietly}
use Rattle.alma_machine_acts.specs.declared.registers.Registers.{Registers}
use Rattle.alma_machine_acts.specs.Acts.{Acts}
use Rattle.alma_machine_acts.specs.Rows.{state_of, HasNumberIn, KeepsOn, GivesContent}
use Rattle.alma_machine_acts.proofs.Words.{store_is}

-- a store that was made is a step with nothing to tell, and one that wanted memory is none
pub quietly_stored : {M E : Type 0} (picture : M → MachinePicture) (old new : Registers M) (r : Result Step E) (b : Bool) (f n : ℕ) (v : ℤ)
    (word : StepResult) → b ≡ is_ok r → HasNumberIn (picture old.memory).now f n
    → Acts picture old new r (store (state_of picture old) f n v quiet_step) → store (state_of picture old) f n v quiet_step ≡ word
    → Quietly b (state_of picture old) (state_of picture new) word
quietly_stored picture old new (Ok a) b f n v word made h done is =
    let s = state_of picture old in
    let t = state_of picture new in
    let put = store_is s f n v quiet_step h in
    subst (λ b. Quietly b s t word) (sym made) (record {
      step = ap (λ (w : StepResult). quiet_step w.state) (done.step ∙ put) ∙ sym put ∙ is;
      kept = subst (λ a. KeepsOn a s t) (ap (λ (w : StepResult). w.answer) (done.step ∙ put)) done.kept;
    })
quietly_stored picture old new (Err e) b f n v word made h none is =
    subst (λ b. Quietly b (state_of picture old) (state_of picture new) word) (sym made) none.0

-- two cells are equated by what they know
pub known_equation : (s : State) (f i g j : ℕ) (r t : Option Range) {u v x y : Option ℤ} (k : State → StepResult) → GivesContent s.now f i u
    → GivesContent s.now g j v → u ≡ x → v ≡ y → equation s f i r g j t k ≡ equation_of_contents s f i r x g j t y k
known_equation s f i g j r t {u} {v} {x} k a b left right =
    a s (λ u. content s g j (λ v. equation_of_contents s f i r u g j t v k)) refl
    ∙ b s (λ v. equation_of_contents s f i r u g j t v k) refl
    ∙ ap (λ u. equation_of_contents s f i r u g j t v k) left
    ∙ ap (λ v. equation_of_contents s f i r x g j t v k) right
