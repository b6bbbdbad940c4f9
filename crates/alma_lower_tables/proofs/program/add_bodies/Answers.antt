use Rattle.std.proofs.Common.{arith}
use Rattle.alma_lower_tables.proofs.Walks.{stand, stmts_at}
use Rattle.alma_lower_tables.proofs.Held.{bodies_more, bodies_whole}
use Rattle.alma_lower_tables.proofs.program.add_bodies.Goals as goal

pub loop-routine-init : goal.loop-routine-init
loop-routine-init c = stand _

pub loop-routine-preserved : goal.loop-routine-preserved
loop-routine-preserved c = bodies_more _ _ _ _ c.loop-routine.routine-index _ c.loop-routine-test.true c.routine-item.is
    c.loop-routine.invariant (stmts_at _ _ _ _ c.deref.ensures.value c.in_ok-walk_stmts.ensures)

pub returns : goal.returns
returns c = bodies_whole _ _ _ _ c.loop-routine.routine-index c.deref-routine-items.ensures.value
    (omega (arith, c.loop-routine-test.false, c.loop-routine.auto.routine-index-end)) c.loop-routine.invariant
