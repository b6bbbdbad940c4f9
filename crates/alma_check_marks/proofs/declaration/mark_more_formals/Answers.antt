use Rattle.std.proofs.Common.{refl}
use Rattle.alma_rules.specs.Places as places
use Rattle.alma_rules.specs.View as view
use Rattle.alma_check_marks.proofs.Steps.{◌▸◌, next, finish}
use Rattle.alma_check_marks.proofs.declaration.mark_more_formals.Goals as goal

pub loop-formal-preserved : goal.loop-formal-preserved
loop-formal-preserved c = next (λ xs. places.mark_more_formals (view.more_formals_of xs)) c.loop-formal.formal-index c.args.more.now
    c.formal-item.result c.loop-formal-test.true c.formal-item.is c.loop-formal.invariant ▸ c.in_ok-token.ensures ▸
    c.in_ok-mark_formal.ensures

pub returns : goal.returns
returns c = finish (λ xs. places.mark_more_formals (view.more_formals_of xs)) c.loop-formal.formal-index c.args.more.now
    c.loop-formal-test.false refl c.loop-formal.invariant
