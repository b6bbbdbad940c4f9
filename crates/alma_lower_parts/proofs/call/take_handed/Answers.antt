use Rattle.alma_lower_parts.proofs.Calling.{handed_one}
use Rattle.alma_lower_parts.proofs.call.take_handed.Goals as goal

pub loop-arg-preserved : goal.loop-arg-preserved
loop-arg-preserved c =
    handed_one _ _ _ c.args.args.now c.loop-arg.arg-index c.arg-item.result c.kind_of.result c.loop-arg-test.true c.arg-item.is
    c.kind_of.ensures c.loop-arg.invariant c.in_ok-slot.ensures.takes
