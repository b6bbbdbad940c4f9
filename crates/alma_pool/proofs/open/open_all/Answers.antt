use Rattle.std.proofs.Common.{◌∙◌, ◌+◌, drop, refl, sym, ap, inl, inr}
use Rattle.std.proofs.lemmas.Result.{err_from_is_err_and}
use Rattle.alma_verify.specs.Verified.{code_of_verified}
use Rattle.alma_plan.specs.Objects.{object_refusal}
use Rattle.alma_pool.specs.Due.{program, open_objects}
use Rattle.alma_pool.specs.Inner.{all_bytes, codes_of}
use Rattle.alma_pool.proofs.Opening.{opening_stops, opening_more, opening_ends, codes_more}
use Rattle.alma_pool.proofs.open.open_all.Goals as goal

pub returns-in_err-push-clause-refused : goal.returns-in_err-push-clause-refused
returns-in_err-push-clause-refused c =
    let p = err_from_is_err_and c.from_residual-in_err-push.result c.from_residual-in_err-push.ensures.1 in
    rw (p.1, p.2) (inl refl)

pub returns-in_err-code-clause-refused : goal.returns-in_err-code-clause-refused
returns-in_err-code-clause-refused c =
    let p = err_from_is_err_and c.from_residual.result c.from_residual.ensures.1 in
    rw (p.1, p.2) (inr (opening_stops c.args.objects.now c.loop-bytes.bytes-index c.bytes-item.result _
    (codes_of c.loop-bytes.verified.items) c.loop-bytes-test.true c.bytes-item.is
    c.loop-bytes.invariant _ (ap (object_refusal program) (sym c.deref.ensures.value) ∙ c.in_err-code.ensures.refused program)))

pub loop-bytes-preserved : goal.loop-bytes-preserved
loop-bytes-preserved c =
    let more = c.in_ok-push.ensures.items in
    opening_more c.args.objects.now c.loop-bytes.bytes-index c.bytes-item.result _ (codes_of c.loop-bytes.verified.items)
    c.loop-bytes-test.true c.bytes-item.is
    c.loop-bytes.invariant (code_of_verified c.in_ok-code.code)
    (ap (object_refusal program) (sym c.deref.ensures.value) ∙ c.in_ok-code.ensures.sound program)
    (rw c.deref.ensures.value at c.in_ok-code.ensures.code)
    ∙ ap (λ got. open_objects got (all_bytes (drop (c.loop-bytes.bytes-index + 1) c.args.objects.now)))
    (sym (ap codes_of more ∙ codes_more c.loop-bytes.verified.items c.in_ok-code.code))

pub returns-clause-codes : goal.returns-clause-codes
returns-clause-codes c =
    opening_ends c.args.objects.now c.loop-bytes.bytes-index (codes_of c.loop-bytes.verified.items) c.loop-bytes-test.false
    c.loop-bytes.invariant
