-- A run of code that implements a program shows what the program means.
use Rattle.std.proofs.Common.{◌≡◌, ◌≤◌, ◌<◌, ◌+◌, ◌-◌, ◌*◌, ◌∙◌, ℕ, suc, List, inl, inr, ap, sym, subst, refl, arith}
use Rattle.std.specs.Prelude.{◌⊎◌, length}
use Rattle.std.proofs.lemmas.Bool.{cases_lt}
use Rattle.alma_base.specs.Limits.{input_limit}
use Rattle.alma_ir.specs.Tree.{Program}
use Rattle.alma_mean.specs.Events as events
use Rattle.alma_mean.specs.Events.{first, end_of, visit_count, CutOff}
use Rattle.alma_mean.specs.Meaning.{ev_program, result}
use Rattle.alma_mean.proofs.Results.{result_stays}
use Rattle.alma_code.specs.declared.step.End as code
use Rattle.alma_code.specs.declared.step.End.TheVariants as ended
use Rattle.alma_code.specs.Machine.{Mode, Going, Failing, Ended, Stuck, State, start}
use Rattle.alma_code.specs.Plain.{PlainCode}
use Rattle.alma_lower_implements.specs.Implements.{Implements, ComesTo, HasEnded, IsEnough, meant_end, state_after, printed_by, line_in}
use Rattle.alma_lower_implements.proofs.Enough.{is_enough}
use Rattle.alma_machine.proofs.Budget.{ended_after}
use Rattle.alma_run_laws.specs.Shown.{MayRunOut, Shows, whole, front, shown_end}

-- a machine that has ended is in an end
pub in_end : (m : Mode) → HasEnded m → (e : code.End) × (m ≡ Ended e)
in_end (Ended e) h = (e, refl)
in_end Going h = absurd h
in_end Failing h = absurd h
in_end Stuck h = absurd h

-- an end of the machine is no cut of the meaning
pub never_cut : (e : code.End) (line : ℕ) → meant_end e line ≡ CutOff → ⊥
never_cut ended.Succeeded line q = cc q
never_cut ended.Failed line q = cc q
never_cut (ended.Fault fault) line q = cc q

-- a machine that has not ended in so many steps was given too few for each visit of the meaning
pub may_run_out : (code : PlainCode) (p : Program) (input : List ℕ) (steps : ℕ) → length input ≤ input_limit → IsEnough code p
    → (HasEnded (state_after code input steps).mode → ⊥) → MayRunOut p input steps
may_run_out code p input steps short enough out level uncut =
    by (cases_lt steps (32 * (visit_count (first (ev_program level p input)) + 1)))
  where
    by : (steps < 32 * (visit_count (first (ev_program level p input)) + 1))
        ⊎ (32 * (visit_count (first (ev_program level p input)) + 1) ≤ steps)
        → steps < 32 * (visit_count (first (ev_program level p input)) + 1)
    by (inl few) = few
    by (inr many) =
        let plenty = 32 * (visit_count (first (ev_program level p input)) + 1) in
        let there = enough input short level uncut in
        let e = in_end (state_after code input plenty).mode there in
        absurd (out (subst (λ (s : State). HasEnded s.mode) (sym (ended_after code input plenty steps (start code) e.0 many e.1)) there))

-- what steps of code that implements a program show is what the program means
pub code_shows : (code : PlainCode) (p : Program) (input : List ℕ) (steps : ℕ) → Implements code p → length input ≤ input_limit
    → Shows p input steps (printed_by code input steps)
    (shown_end (state_after code input steps).mode (line_in code (state_after code input steps)))
code_shows code p input steps implements short = by (state_after code input steps).mode refl (implements input short steps)
  where
    cut : (m : Mode) → (state_after code input steps).mode ≡ m → (HasEnded m → ⊥) → MayRunOut p input steps
    cut m same out = may_run_out code p input steps short (is_enough code p implements) (λ h. out (subst HasEnded same h))

    by : (m : Mode) → (state_after code input steps).mode ≡ m
        → ComesTo m (line_in code (state_after code input steps)) (printed_by code input steps) p input steps
        → Shows p input steps (printed_by code input steps) (shown_end m (line_in code (state_after code input steps)))
    by (Ended e) same h = whole (never_cut e (line_in code (state_after code input steps))) h
    by Going same h = front refl h (cut Going same (λ x. x))
    by Failing same h = front refl h (cut Failing same (λ x. x))
    by Stuck same h = front refl h (cut Stuck same (λ x. x))

-- levels that are not cut off have one result
pub same_result : (p : Program) (input : List ℕ) (m n : ℕ) → (end_of (first (ev_program m p input)) ≡ CutOff → ⊥)
    → (end_of (first (ev_program n p input)) ≡ CutOff → ⊥)
    → result m p input ≡ result n p input
same_result p input m n whole_m whole_n = by (cases_lt m n)
  where
    by : (m < n) ⊎ (n ≤ m) → result m p input ≡ result n p input
    by (inl below) =
        let sum : (n - m) + m ≡ n = omega (arith, below) in
        sym (result_stays p input m (n - m) whole_m) ∙ ap (λ (k : ℕ). result k p input) sum
    by (inr above) =
        let sum : (m - n) + n ≡ m = omega (arith, above) in
        sym (ap (λ (k : ℕ). result k p input) sum) ∙ result_stays p input n (m - n) whole_n

-- where the steps are enough the result is shown
pub enough_show : (p : Program) (input : List ℕ) (steps : ℕ) (printed : List ℕ) (end : events.End) (level : ℕ)
    → Shows p input steps printed end
    → (end_of (first (ev_program level p input)) ≡ CutOff → ⊥)
    → 32 * (visit_count (first (ev_program level p input)) + 1) ≤ steps → result level p input ≡ (printed, end)
enough_show p input steps printed end level (whole ends is) uncut many =
    same_result p input level (suc steps) uncut (λ cut. ends (sym (ap (λ (m : List ℕ × events.End). m.1) is) ∙ cut)) ∙ is
enough_show p input steps printed end level (front cut covers few) uncut many = absurd (omega (arith, few level uncut, many))
