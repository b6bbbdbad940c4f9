-- Ends of a program's own, where what is due is the last value itself.
use Rattle.std.proofs.Common.{◌≡◌, ◌⊎◌, ◌<◌, ◌∙◌, ℕ, List, refl, sym, ap, inl, inr, arith}
use Rattle.std.specs.Prelude.{Option, None, Some}
use Rattle.alma_code.specs.Rules.{code_fault}
use Rattle.alma_code.specs.declared.step.VerifyFault.{VerifyFault}
use Rattle.alma_object_format.specs.Walk.{object_fault}
use Rattle.alma_object_format.specs.declared.fault.ObjectFault.{ObjectFault}
use Rattle.alma_verify.specs.Bytes.{object_code}
use Rattle.alma_plan.specs.Plan.{Due, Ending, IsDue, plain}
use Rattle.alma_plan.proofs.OwnEnds.{IsOwn}
use Rattle.alma_plan.specs.Objects.{rule_refusal, refusal_by, object_refusal}

-- a last value is due
pub is_due : (last : List ℕ → Due) (bytes : List ℕ) → (due : Due) × IsDue (last bytes) due
is_due last bytes = (last bytes, refl)

-- one with such a status has an end of the program's own
pub own_status : (last : Due) (status : ℕ) → last.end.status ≡ status → (status < 6) ⊎ (8 < status) → IsOwn plain last
own_status last status is (inl low) = λ due e.
    let same : due.end.status ≡ status = ap (λ (d : Due). d.end.status) e ∙ is in
    (λ q. absurd (omega (arith, low, same, q)), λ q. absurd (omega (arith, low, same, q)), λ q. absurd (omega (arith, low, same, q)))
own_status last status is (inr high) = λ due e.
    let same : due.end.status ≡ status = ap (λ (d : Due). d.end.status) e ∙ is in
    (λ q. absurd (omega (arith, high, same, q)), λ q. absurd (omega (arith, high, same, q)), λ q. absurd (omega (arith, high, same, q)))

-- the status of an end, if there is one
status_in : Option Ending → ℕ
status_in None = 0
status_in (Some end) = end.status

rule_status : (program : List ℕ) (rule : Option VerifyFault) (end : Ending) → rule_refusal program rule ≡ Some end → end.status ≡ 9
unfolding status_in
rule_status program None end e = cc e
rule_status program (Some fault) end e = sym (ap status_in e)

refused_status : (program : List ℕ) (fault : Option ObjectFault) (rule : Option VerifyFault) (end : Ending)
    → refusal_by program fault rule ≡ Some end → end.status ≡ 9
unfolding status_in
refused_status program None rule end e = rule_status program rule end e
refused_status program (Some fault) rule end e = sym (ap status_in e)

-- an object is refused with one status
pub refusal_status : (program bytes : List ℕ) (end : Ending) → object_refusal program bytes ≡ Some end → end.status ≡ 9
refusal_status program bytes end e = refused_status program (object_fault bytes) (code_fault (object_code bytes)) end e
