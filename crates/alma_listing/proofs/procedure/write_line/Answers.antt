use Rattle.alma_listing.proofs.Built.{line_begun, line_next, line_ended}
use Rattle.alma_listing.proofs.procedure.write_line.Goals as goal

pub loop-place-init : goal.loop-place-init
loop-place-init c = line_begun c.args.globals.now _ _ c.in_ok-body.ensures c.in_ok-text.ensures

pub loop-place-preserved : goal.loop-place-preserved
loop-place-preserved c =
    line_next c.args.globals.now c.loop-place.place c.index-globals-place.result _ _ _ c.loop-place-test.true c.index-globals-place.is
    c.space_before.ensures
    c.loop-place.invariant c.in_ok-write_global.ensures

pub returns : goal.returns
returns c =
    line_ended c.args.globals.now c.loop-place.place _ _ _ c.loop-place-test.false c.loop-place.invariant c.in_ok-text-2.ensures
    c.in_ok-push.ensures.items
