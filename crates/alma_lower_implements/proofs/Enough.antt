-- 32 steps for each visit are enough.
use Rattle.std.proofs.Common.{◌≡◌, ◌≤◌, ◌<◌, ◌⊎◌, inl, inr, ℕ, suc, ◌+◌, ◌-◌, ◌*◌, ◌/◌, List, refl, ap, subst, arith}
use Rattle.std.proofs.lemmas.Bool.{cases_lt}
use Rattle.std.proofs.Math.Nat.{mul-div_cancel_left}
use Rattle.alma_code.specs.Plain.{PlainCode}
use Rattle.alma_code.specs.Machine.{Mode, Going, Failing, Ended, Stuck}
use Rattle.alma_ir.specs.Tree.{Program}
use Rattle.alma_mean.specs.Events.{Events, NoYield, first, end_of, visit_count, CutOff}
use Rattle.alma_mean.specs.Meaning.{ev_program}
use Rattle.alma_mean.specs.Laws.{Extends, on_visit, on_print, on_alt, at_fail, at_fault, at_cut}
use Rattle.alma_mean.proofs.Results.{further}
use Rattle.alma_lower_implements.specs.Implements.{HasPrefix, nothing, a_visit, a_print, ComesTo, Implements, HasEnded, IsEnough, line_in}
use Rattle.alma_lower_implements.specs.Implements.{state_after, printed_by}

-- a front has at most as many visits as the whole
front_within : {A : Type 0} {e : Events A} {printed : List ℕ} {visits : ℕ} → HasPrefix e printed visits → visits ≤ visit_count e
front_within nothing = omega arith
front_within (a_visit h) = omega (arith, front_within h)
front_within (a_print h) = front_within h

-- a list that is extended has at most the visits of the longer one
visits_grow : {e f : Events NoYield} → Extends NoYield e f → visit_count (first e) ≤ visit_count (first f)
visits_grow (on_visit h) = omega (arith, visits_grow h)
visits_grow (on_print h) = visits_grow h
visits_grow (on_alt h) = omega arith
visits_grow at_fail = omega arith
visits_grow at_fault = omega arith
visits_grow at_cut = omega arith

-- and as many, where it is not cut off
visits_stay : {e f : Events NoYield} → Extends NoYield e f → (end_of (first e) ≡ CutOff → ⊥) → visit_count (first f) ≡ visit_count (first e)
visits_stay (on_visit h) uncut = ap suc (visits_stay h uncut)
visits_stay (on_print h) uncut = visits_stay h uncut
visits_stay (on_alt h) uncut = refl
visits_stay at_fail uncut = refl
visits_stay at_fault uncut = refl
visits_stay at_cut uncut = absurd (uncut refl)

-- no level has more visits than one that is not cut off
no_more_visits : (p : Program) (input : List ℕ) (n m : ℕ) → (end_of (first (ev_program n p input)) ≡ CutOff → ⊥)
    → visit_count (first (ev_program m p input)) ≤ visit_count (first (ev_program n p input))
no_more_visits p input n m uncut = by (cases_lt m n)
  where
    by : (m < n) ⊎ (n ≤ m) → visit_count (first (ev_program m p input)) ≤ visit_count (first (ev_program n p input))
    by (inl below) =
        let sum : (n - m) + m ≡ n = omega arith in
        subst (λ k. visit_count (first (ev_program m p input)) ≤ visit_count (first (ev_program k p input))) sum
        (visits_grow (further p input m (n - m)))
    by (inr above) =
        let sum : (m - n) + n ≡ m = omega arith in
        let same : visit_count (first (ev_program ((m - n) + n) p input)) ≡ visit_count (first (ev_program n p input)) =
        visits_stay (further p input n (m - n)) uncut in
        subst (λ k. visit_count (first (ev_program k p input)) ≤ visit_count (first (ev_program n p input))) sum (omega (arith, same))

-- a machine that did not end would have covered too many visits
must_end : (p : Program) (input : List ℕ) (most steps : ℕ) → most < steps / 32 → visit_count (first (ev_program (suc steps) p input)) ≤ most
    → (mode : Mode) (line : ℕ) (printed : List ℕ) → ComesTo mode line printed p input steps → HasEnded mode
must_end p input most steps many few (Ended e) line printed h = tt
must_end p input most steps many few Going line printed h = absurd (omega (arith, many, few, h.enough, front_within h.front))
must_end p input most steps many few Failing line printed h = absurd (omega (arith, many, few, h.enough, front_within h.front))
must_end p input most steps many few Stuck line printed h = absurd (omega (arith, many, few, h.enough, front_within h.front))

pub is_enough : (code : PlainCode) (p : Program) → Implements code p → IsEnough code p
is_enough code p implements input lawful n uncut =
    let most = visit_count (first (ev_program n p input)) in
    let steps = 32 * (most + 1) in
    let quotient : steps / 32 ≡ most + 1 = mul-div_cancel_left (most + 1) (omega arith) in
    must_end p input most steps (omega (arith, quotient)) (no_more_visits p input n (suc steps) uncut)
    (state_after code input steps).mode (line_in code (state_after code input steps)) (printed_by code input steps)
    (implements input lawful steps)
