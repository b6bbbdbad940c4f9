use Rattle.std.proofs.Common.{◌<◌, ◌∙◌, length}
use Rattle.alma_join.proofs.Marks.{bare_more, bare_here}
use Rattle.alma_join.proofs.bare.mark_bare.Goals as goal

pub loop-r-preserved : goal.loop-r-preserved
loop-r-preserved c =
    let all = c.deref-routine-items.ensures.value in
    let within : c.loop-r.r < length c.args.program.now.routines.items = rw all at c.loop-r-test.true in
    bare_more _ _ _ _ _ c.loop-r.invariant c.in_ok-push.ensures.items
    (c.is_bare.ensures
    ∙ bare_here c.args.program.now c.loop-r.r c.routine-item.result c.in_ok-outer.outer.items c.index.result.now within
    (rw all at c.routine-item.is) c.in_ok-outer.ensures c.index.ensures)
