-- Each turn adds what its routine counts, and the sum is taken 16 times.
use Rattle.std.proofs.Common.{map, ap, ◌∙◌, arith}
use Rattle.alma_ir.specs.View.{routine_of, program_of}
use Rattle.alma_ir.specs.Count.{nodes, routines_nodes}
use Rattle.alma_ir.proofs.Counts.{of_routine, by_stmts, routines_sum}
use Rattle.alma_ir.proofs.Saturated.{both, same, small, with_part, turn, ended, sixteen}
use Rattle.alma_ir.proofs.count.size.Goals as goal

pub loop-routine-preserved : goal.loop-routine-preserved
loop-routine-preserved c =
    let body = c.count_stmts.ensures ∙ ap by_stmts c.deref.ensures.value in
    turn of_routine c.deref-routine-items.result.now c.loop-routine.routine-index _ _ _ c.loop-routine-test.true c.routine-item.is
    (with_part _ _)
    (both _ _ _ _ _ (both _ _ _ _ _ c.loop-routine.invariant (small 1 (omega arith)) c.saturating_add.ensures) body
    c.saturating_add-total.ensures)

pub returns : goal.returns
returns c =
    let routines = c.deref-routine-items.result.now in
    let all = ended of_routine routines c.loop-routine.routine-index _ _ c.loop-routine-test.false (routines_sum routines)
    c.loop-routine.invariant in
    sixteen (nodes (program_of c.args.program.now)) _ _
    (same _ _ _ (ap (λ xs. routines_nodes (map routine_of xs)) c.deref-routine-items.ensures.value) all) c.saturating_mul.ensures
