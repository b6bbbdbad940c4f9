use Rattle.std.proofs.Common.{arith}
use Rattle.alma_lower_tables.proofs.Walks.{names_none}
use Rattle.alma_lower_tables.proofs.Held.{results_more, results_whole}
use Rattle.alma_lower_tables.proofs.program.add_results.Goals as goal

pub loop-routine-init : goal.loop-routine-init
loop-routine-init c = names_none _

pub loop-routine-preserved : goal.loop-routine-preserved
loop-routine-preserved c = results_more _ _ _ _ c.loop-routine.routine-index _ c.loop-routine-test.true c.routine-item.is
    c.loop-routine.invariant c.in_ok-add_result.ensures

pub returns : goal.returns
returns c = results_whole _ _ _ _ c.loop-routine.routine-index c.deref-routine-items.ensures.value
    (omega (arith, c.loop-routine-test.false, c.loop-routine.auto.routine-index-end)) c.loop-routine.invariant
