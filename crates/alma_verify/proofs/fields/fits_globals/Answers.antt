use Rattle.alma_code.specs.declared.code.CodeGlobal.{CodeGlobal}
use Rattle.alma_code.specs.Plain.{global_of}
use Rattle.alma_object.specs.Fields.{FitsGlobal}
use Rattle.alma_verify.proofs.Fitting.{all_more_taken, all_done}
use Rattle.alma_verify.proofs.fields.fits_globals.Goals as goal

pub loop-global-preserved : goal.loop-global-preserved
loop-global-preserved c = all_more_taken (λ (g : CodeGlobal). FitsGlobal (global_of g)) c.args.globals.now c.loop-global.global-index
    c.global-item.result c.loop-global-test.true c.global-item.is c.loop-global.invariant c.fits_global.ensures

pub returns : goal.returns
returns c = all_done (λ (g : CodeGlobal). FitsGlobal (global_of g)) c.args.globals.now c.loop-global.global-index c.loop-global-test.false
    c.loop-global.invariant
