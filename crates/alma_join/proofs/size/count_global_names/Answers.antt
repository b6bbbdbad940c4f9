use Rattle.std.proofs.Common.{sym}
use Rattle.alma_ir.proofs.Saturated.{next, ended}
use Rattle.alma_join.proofs.Counting.{counted_len, of_global, globals_sum}
use Rattle.alma_join.proofs.size.count_global_names.Goals as goal

pub loop-global-preserved : goal.loop-global-preserved
loop-global-preserved c = next of_global c.args.globals.now c.loop-global.global-index c.global-item.result _ _ _ c.loop-global-test.true
    c.global-item.is c.loop-global.invariant (counted_len _ _ _ c.len.ensures (sym c.global-item.result.name.ok.0) c.len.type_inv)
    c.saturating_add-total.ensures

pub returns : goal.returns
returns c = ended of_global c.args.globals.now c.loop-global.global-index _ _ c.loop-global-test.false
    (globals_sum c.args.globals.now) c.loop-global.invariant
