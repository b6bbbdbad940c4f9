use Rattle.std.proofs.Common.{◌∙◌}
use Rattle.alma_ir.specs.View.{routine_of}
use Rattle.alma_listing.proofs.Built.{next_behind, routines_are, routine_stays}
use Rattle.alma_listing.proofs.program.copy_routines.Goals as goal

pub loop-routine-preserved : goal.loop-routine-preserved
loop-routine-preserved c =
    let numbers = c.same_numbers in
    next_behind routine_of routine_of _ c.args.rest.now c.loop-routine.routine-index c.routine-item.result _ _ _ c.loop-routine-test.true
    c.routine-item.is c.loop-routine.invariant
    (c.in_ok-copy_routine.ensures.copy
    ∙ routine_stays numbers.result numbers.ensures.own numbers.ensures.global numbers.ensures.routines (routine_of c.routine-item.result))
    c.in_ok-push-2.ensures.items

pub returns : goal.returns
returns c =
    routines_are routine_of routine_of _ _ c.args.rest.now c.loop-routine.routine-index _ _ _ c.loop-routine-test.false
    c.loop-routine.invariant
    c.in_ok-list_procedure.ensures c.in_ok-push-3.ensures.items
