use Rattle.std.proofs.Common.{◌≡◌, List, ℕ, ap, subst, sym}
use Rattle.std.specs.Prelude.{Option, None, Some, IfOk, IfErr}
use Rattle.alma_code.specs.Plain.{PlainCode}
use Rattle.alma_code.specs.Rules.{code_fault}
use Rattle.alma_object_format.specs.declared.fault.ObjectFault.{ObjectFault}
use Rattle.alma_verify.specs.Bytes.{object_code}
use Rattle.alma_verify.specs.Verified.{code_of_verified}
use Rattle.alma_plan.specs.Objects.{rule_refusal, refusal_by}
use Rattle.alma_plan.specs.Refusals.{refusal_end}
use Rattle.alma_plan.proofs.open.open_code.Goals as goal

pub returns-in-Ok-clause-sound : goal.returns-in-Ok-clause-sound
returns-in-Ok-clause-sound c =
    let opened = subst (λ (k : PlainCode). IfOk c.verify_view.result
    (λ code. (program : List ℕ) → rule_refusal program (code_fault k) ≡ None))
    c.in-Ok.ensures.code c.verify_view.ensures.sound in
    subst (λ (f : Option ObjectFault). IfOk c.verify_view.result (λ code. (program : List ℕ)
    → refusal_by program f (code_fault (object_code c.args.bytes.now)) ≡ None)) (sym c.in-Ok.ensures.fault) opened

pub returns-in-Ok-clause-code : goal.returns-in-Ok-clause-code
returns-in-Ok-clause-code c =
    subst (λ (k : PlainCode). IfOk c.verify_view.result (λ code. code_of_verified code ≡ k)) c.in-Ok.ensures.code c.verify_view.ensures.code

pub returns-in-Ok-clause-refused : goal.returns-in-Ok-clause-refused
returns-in-Ok-clause-refused c =
    let opened = subst (λ (k : PlainCode). IfErr c.verify_view.result (λ refusal. (program : List ℕ)
    → rule_refusal program (code_fault k) ≡ Some (refusal_end program refusal))) c.in-Ok.ensures.code c.verify_view.ensures.refused in
    subst (λ (f : Option ObjectFault). IfErr c.verify_view.result (λ refusal. (program : List ℕ)
    → refusal_by program f (code_fault (object_code c.args.bytes.now)) ≡ Some (refusal_end program refusal))) (sym c.in-Ok.ensures.fault)
    opened

pub returns-in-Err-clause-refused : goal.returns-in-Err-clause-refused
returns-in-Err-clause-refused c = λ program. ap (λ f. refusal_by program f (code_fault (object_code c.args.bytes.now)))
    c.in-Err.ensures.fault
