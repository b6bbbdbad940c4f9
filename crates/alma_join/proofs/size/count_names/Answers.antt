use Rattle.std.proofs.Common.{sym}
use Rattle.alma_ir.proofs.Saturated.{next, ended}
use Rattle.alma_join.proofs.Counting.{counted_len, of_name, names_sum}
use Rattle.alma_join.proofs.size.count_names.Goals as goal

pub loop-routine-preserved : goal.loop-routine-preserved
loop-routine-preserved c = next of_name c.args.routines.now c.loop-routine.routine-index c.routine-item.result _ _ _
    c.loop-routine-test.true c.routine-item.is c.loop-routine.invariant
    (counted_len _ _ _ c.len.ensures (sym c.routine-item.result.name.ok.0) c.len.type_inv) c.saturating_add-total.ensures

pub returns : goal.returns
returns c = ended of_name c.args.routines.now c.loop-routine.routine-index _ _ c.loop-routine-test.false
    (names_sum c.args.routines.now) c.loop-routine.invariant
