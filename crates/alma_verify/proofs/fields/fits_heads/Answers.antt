use Rattle.alma_verify.specs.Heads.{FitsHead}
use Rattle.alma_verify.proofs.Fitting.{all_more_taken, all_done}
use Rattle.alma_verify.proofs.fields.fits_heads.Goals as goal

pub loop-routine-preserved : goal.loop-routine-preserved
loop-routine-preserved c = all_more_taken FitsHead c.args.routines.now c.loop-routine.routine-index c.routine-item.result
    c.loop-routine-test.true c.routine-item.is c.loop-routine.invariant c.fits_head.ensures

pub returns : goal.returns
returns c = all_done FitsHead c.args.routines.now c.loop-routine.routine-index c.loop-routine-test.false c.loop-routine.invariant
