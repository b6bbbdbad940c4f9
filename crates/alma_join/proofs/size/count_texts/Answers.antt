use Rattle.std.proofs.Common.{◌∙◌}
use Rattle.alma_ir.proofs.Saturated.{next, ended}
use Rattle.alma_join.proofs.Counting.{by_texts, of_texts, texts_sum}
use Rattle.alma_join.proofs.size.count_texts.Goals as goal

pub loop-routine-preserved : goal.loop-routine-preserved
loop-routine-preserved c = next of_texts c.args.routines.now c.loop-routine.routine-index c.routine-item.result _ _ _
    c.loop-routine-test.true c.routine-item.is c.loop-routine.invariant
    (c.text_bytes_inside.ensures ∙ by_texts _ _ c.deref.ensures.value) c.saturating_add-total.ensures

pub returns : goal.returns
returns c = ended of_texts c.args.routines.now c.loop-routine.routine-index _ _ c.loop-routine-test.false
    (texts_sum c.args.routines.now) c.loop-routine.invariant
