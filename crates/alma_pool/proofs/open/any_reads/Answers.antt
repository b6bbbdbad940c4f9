use Rattle.std.proofs.Common.{◌≡◌, ◌∙◌, ◌+◌, drop, sym, ap}
use Rattle.std.specs.Prelude.{◌||◌, true, false}
use Rattle.std.specs.List.{list_any}
use Rattle.alma_code.specs.Reads.{code_reads}
use Rattle.alma_object.specs.View.{code_of_view}
use Rattle.alma_verify.specs.Verified.{code_of_verified}
use Rattle.alma_pool.specs.Inner.{codes_of}
use Rattle.alma_pool.proofs.Opening.{reads_here, reads_none}
use Rattle.alma_pool.proofs.open.any_reads.Goals as goal

pub returns-then-has_read : goal.returns-then-has_read
returns-then-has_read c =
    let reads : code_reads (code_of_verified c.code-item.result) ≡ true = ap (λ v. code_reads (code_of_view v)) (sym c.view.ensures.view)
    ∙ sym c.has_read.ensures ∙ c.if-has_read.true in
    let rest = list_any code_reads (codes_of (drop (c.loop-code.code-index + 1) c.args.verified.now)) in
    sym (c.loop-code.invariant ∙ reads_here c.args.verified.now c.loop-code.code-index c.code-item.result _ c.loop-code-test.true
    c.code-item.is ∙ ap (λ b. b || rest) reads)

pub loop-code-preserved : goal.loop-code-preserved
loop-code-preserved c =
    let quiet : code_reads (code_of_verified c.code-item.result) ≡ false = ap (λ v. code_reads (code_of_view v)) (sym c.view.ensures.view)
    ∙ sym c.has_read.ensures ∙ c.if-has_read.false in
    let rest = list_any code_reads (codes_of (drop (c.loop-code.code-index + 1) c.args.verified.now)) in
    c.loop-code.invariant ∙ reads_here c.args.verified.now c.loop-code.code-index c.code-item.result _ c.loop-code-test.true c.code-item.is
    ∙ ap (λ b. b || rest) quiet

pub returns : goal.returns
returns c = sym (c.loop-code.invariant ∙ reads_none c.args.verified.now c.loop-code.code-index c.loop-code-test.false)
