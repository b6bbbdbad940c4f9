-- Walks.
use Rattle.std.proofs.Common.{◌≡◌, ◌<◌, ◌+◌, ◌-◌, ◌∙◌, ℕ, zero, suc, List, [], ◌∷◌, refl, sym, ap, subst, arith, zero-add}
use Rattle.std.specs.Prelude.{Bool, true, false, cond, replicate}
use Rattle.alma_code.specs.Plain.{PlainCode}
use Rattle.alma_back.specs.Laws.{BackUndoesStep, WalksAreRuns}
use Rattle.alma_back.specs.Standing.{Standing, Move, Step, Back, standing_at_start, runs, next_standing, move_by, move_all}

-- a run of this code and input, so many steps on
abbrev standing : PlainCode → List ℕ → ℕ → Standing
standing code input steps = record { code = code; input = input; steps = steps }

-- after a step of a run that has not ended
pub step_of : (s : Standing) → runs s ≡ true → next_standing s ≡ record s { steps = s.steps + 1 }
step_of s on = ap (λ b. cond b (record s { steps = s.steps + 1 }) s) on

-- and of one that has
pub no_step : (s : Standing) → runs s ≡ false → next_standing s ≡ s
no_step s ended = ap (λ b. cond b (record s { steps = s.steps + 1 }) s) ended

pub back_undoes_step : BackUndoesStep
back_undoes_step s on =
    let same : s.steps + 1 - 1 ≡ s.steps = omega arith in
    ap (λ (t : Standing). move_by t Back) (step_of s on) ∙ ap (λ n. record s { steps = n }) same

module _ (code : PlainCode) (input : List ℕ) where
  -- the run goes on before each of the first steps
  abbrev GoesTo : ℕ → Type 0
  GoesTo steps = (k : ℕ) → k < steps → runs (standing code input k) ≡ true

  goes_back : (steps : ℕ) → GoesTo steps → GoesTo (steps - 1)
  goes_back steps on = λ k within. on k (omega (arith, within))

  goes_on : (steps : ℕ) → runs (standing code input steps) ≡ true → GoesTo steps → GoesTo (steps + 1)
  goes_on steps here on = λ k within. by k (steps - k) within refl
    where
      by : (k d : ℕ) → k < steps + 1 → steps - k ≡ d → runs (standing code input k) ≡ true
      by k zero within e =
          let same : steps ≡ k = omega (arith, within, e) in
          subst (λ (n : ℕ). runs (standing code input n) ≡ true) same here
      by k (suc d) within e = on k (omega (arith, e))

  -- so many steps alone
  alone : (done more : ℕ) → GoesTo (done + more)
      → move_all (standing code input done) (replicate more Step) ≡ standing code input (done + more)
  alone done zero on = let e : done ≡ done + zero = omega arith in ap (standing code input) e
  alone done (suc more) on =
      let e : done + 1 + more ≡ done + suc more = omega arith in
      ap (λ (s : Standing). move_all s (replicate more Step)) (step_of (standing code input done) (on done (omega arith)))
      ∙ alone (done + 1) more (λ k within. on k (omega (arith, within))) ∙ ap (standing code input) e

  -- where moves lead, so many steps on
  record Led (steps : ℕ) (moves : List Move) : Type 0 where
    to : ℕ
    is : move_all (standing code input steps) moves ≡ standing code input to
    goes : GoesTo to

  led : (steps : ℕ) → GoesTo steps → (moves : List Move) → Led steps moves
  led steps on [] = record { to = steps; is = refl; goes = on }
  led steps on (Step ∷ moves) =
      by (runs (standing code input steps)) refl (λ e. led (steps + 1) (goes_on steps e on) moves) (led steps on moves)
    where
      by : (b : Bool) → runs (standing code input steps) ≡ b → (runs (standing code input steps) ≡ true → Led (steps + 1) moves)
          → Led steps moves → Led steps (Step ∷ moves)
      by true e next stay =
          let l = next e in
          record { to = l.to; is = ap (λ (s : Standing). move_all s moves) (step_of (standing code input steps) e) ∙ l.is; goes = l.goes }
      by false e next stay =
          record {
            to = stay.to;
            is = ap (λ (s : Standing). move_all s moves) (no_step (standing code input steps) e) ∙ stay.is;
            goes = stay.goes;
          }
  led steps on (Back ∷ moves) =
      let l = led (steps - 1) (goes_back steps on) moves in
      record { to = l.to; is = l.is; goes = l.goes }

pub walks_are_runs : WalksAreRuns
walks_are_runs code input moves =
    let l = led code input 0 (λ k within. absurd (omega (arith, within))) moves in
    let sum : 0 + l.to ≡ l.to = zero-add l.to in
    ap (λ (s : Standing). move_all (standing_at_start code input) (replicate s.steps Step)) l.is
    ∙ alone code input 0 l.to (λ k within. l.goes k (omega (arith, within))) ∙ ap (standing code input) sum ∙ sym l.is
