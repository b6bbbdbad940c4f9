use Rattle.std.proofs.Common.{refl}
use Rattle.alma_code.specs.Plain.{code_of}
use Rattle.alma_code_list.proofs.Texts.{routines_step}
use Rattle.alma_code_list.proofs.listing.push_routines.Goals as goal

pub loop-number-preserved : goal.loop-number-preserved
loop-number-preserved c =
    routines_step (code_of c.args.code.now) c.args.code.now.routines.items c.deref-routine-items.result.now c.routine-item.result
    c.deref.result.now
    c.instrs_between.result.now _ c.loop-number.text.items c.push_routine.new.text.items c.push_instrs.new.text.items c.loop-number.number
    c.loop-number.at
    refl c.deref-routine-items.ensures.value c.loop-number-test.true c.routine-item.is c.loop-number.invariant c.in_ok-push_routine.ensures
    c.deref.ensures.value c.instrs_between.ensures c.in_ok-push_instrs.ensures
