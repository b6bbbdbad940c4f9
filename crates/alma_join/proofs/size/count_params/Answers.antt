use Rattle.alma_ir.proofs.Saturated.{next, ended}
use Rattle.alma_join.proofs.Counting.{of_params, params_sum}
use Rattle.alma_join.proofs.size.count_params.Goals as goal

pub loop-routine-preserved : goal.loop-routine-preserved
loop-routine-preserved c = next of_params c.args.routines.now c.loop-routine.routine-index c.routine-item.result _ _ _
    c.loop-routine-test.true c.routine-item.is c.loop-routine.invariant c.params_of.ensures c.saturating_add-total.ensures

pub returns : goal.returns
returns c = ended of_params c.args.routines.now c.loop-routine.routine-index _ _ c.loop-routine-test.false
    (params_sum c.args.routines.now) c.loop-routine.invariant
