-- What equations give.
use Rattle.std.proofs.Common.{◌≡◌, ℕ, suc, ◌+◌, ◌-◌, ◌<◌, ◌^◌, List, [], sym, ap, subst, arith, ◌∙◌}
use Rattle.std.specs.Prelude.{None, Result, Ok, Err}
use Rattle.alma_code.specs.Machine.{State, StepResult, equation, equations}
use Rattle.alma_machine_acts.specs.declared.equations.Met.{Met}
use Rattle.alma_machine_acts.specs.declared.equations.Met.TheVariants.{Holds, Ends}
use Rattle.alma_memory.specs.Machine.{MachinePicture}
use Rattle.alma_machine_acts.specs.declared.registers.Registers.{Registers}
use Rattle.alma_machine_acts.specs.Meets.{Meets, MeetsOn, Equates}
use Rattle.alma_machine_acts.specs.Rows.{HasNumberIn, IsCells, KeepsNumbers, AreNumbers, state_of}
use Rattle.alma_machine_acts.specs.Steps.{step_result}
use Rattle.alma_code.specs.Picture.{PlainFrame}
use Rattle.alma_code.specs.declared.cell.CellPlace.{CellPlace}
use Rattle.alma_code.specs.declared.step.Step.{Step}

-- what a word gives another gives that is equal to it
meets_as : (met : Met) (w w' : (State → StepResult) → StepResult) (new : State) → ((k : State → StepResult) → w' k ≡ w k) → Meets met w new
    → Meets met w' new
meets_as Holds w w' new e h = λ k. e k ∙ h k
meets_as (Ends step) w w' new e h = λ k. e k ∙ h k

-- and so does what settled an equation, or did nothing
pub equates_as : {M E : Type 0} (picture : M → MachinePicture) (old new : Registers M) (r : Result Met E)
    (w w' : (State → StepResult) → StepResult) → Equates picture old new r w → ((k : State → StepResult) → w' k ≡ w k)
    → Equates picture old new r w'
equates_as picture old new (Ok met) w w' h e =
    record { meets = meets_as met w w' (state_of picture new) e h.meets; kept = h.kept; past = h.past }
equates_as picture old new (Err f) w w' h e = h

-- one of the cells, after writes that keep number slots
pub cell_of : (old now : List PlainFrame) (f i n k : ℕ) → AreNumbers old f i n → KeepsNumbers old now → k < n → HasNumberIn now f (i + k)
cell_of old now f i n k h keeps lt = keeps f (i + k) (h.each k lt)

-- the cells of a place
pub numbers_of : (now : List PlainFrame) (l n : ℕ) (p : CellPlace) → IsCells now l p → n ≡ l → AreNumbers now p.frame p.slot n
numbers_of now l n p h e = record {
  few = λ some. subst (λ m. p.slot + m < 2 ^ 32) (sym e) (h.few (omega arith));
  each =
      λ k lt. h.each k (omega arith);
}

-- where one equation holds the rest follows
pub equations_more : (n k : ℕ) (s t : State) (f i g j : ℕ) → k < n → Meets Holds (λ q. equation s f (i + k) None g (j + k) None q) t
    → equations (n - k) s f (i + k) g (j + k) ≡ equations (n - (k + 1)) t f (i + (k + 1)) g (j + (k + 1))
equations_more n k s t f i g j lt holds =
    let m = n - (k + 1) in
    let more : n - k ≡ suc m = omega arith in
    let a : suc (i + k) ≡ i + (k + 1) = omega arith in
    let b : suc (j + k) ≡ j + (k + 1) = omega arith in
    ap (λ x. equations x s f (i + k) g (j + k)) more
    ∙ holds (λ u. equations m u f (suc (i + k)) g (suc (j + k)))
    ∙ ap (λ x. equations m t f x g (suc (j + k))) a
    ∙ ap (λ x. equations m t f (i + (k + 1)) g x) b

-- where one ends the run all do
pub equations_end : (n k : ℕ) (s t : State) (step : Step) (f i g j : ℕ) → k < n
    → Meets (Ends step) (λ q. equation s f (i + k) None g (j + k) None q) t
    → equations (n - k) s f (i + k) g (j + k) ≡ step_result step [] t
equations_end n k s t step f i g j lt ends =
    let m = n - (k + 1) in
    let more : n - k ≡ suc m = omega arith in
    ap (λ x. equations x s f (i + k) g (j + k)) more ∙ ends (λ u. equations m u f (suc (i + k)) g (suc (j + k)))

-- as far as the first k equations have come
pub record Equated (n : ℕ) (s t : State) (f i g j k : ℕ) : Type 0 where
  pub rest : equations n s f i g j ≡ equations (n - k) t f (i + k) g (j + k)
  pub numbers : KeepsNumbers s.now t.now
  pub kept : MeetsOn Holds s t

-- and the next one holds
pub equated_more : (n k : ℕ) (s t u : State) (f i g j : ℕ) → k < n → Equated n s t f i g j k
    → Meets Holds (λ q. equation t f (i + k) None g (j + k) None q) u → KeepsNumbers t.now u.now → MeetsOn Holds t u
    → Equated n s u f i g j (k + 1)
equated_more n k s t u f i g j lt e holds numbers kept = record {
  rest = e.rest ∙ equations_more n k t u f i g j lt holds;
  numbers = λ f n h. numbers f n (e.numbers f n h);
  kept = (kept.0 ∙ e.kept.0, λ h. kept.1 (e.kept.1 h), kept.2 ∙ e.kept.2, kept.3 ∙ e.kept.3);
}
