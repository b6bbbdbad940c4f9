use Rattle.std.proofs.Common.{◌<◌, ◌^◌}
use Rattle.alma_code.specs.declared.head.CodeParam.{CodeParam}
use Rattle.alma_verify.proofs.Fitting.{all_more, all_done}
use Rattle.alma_verify.proofs.fields.fits_params.Goals as goal

pub loop-param-preserved : goal.loop-param-preserved
loop-param-preserved c = all_more (λ (p : CodeParam). p.cells < 2 ^ 32) c.args.params.now c.loop-param.param-index _ c.loop-param-test.true
    c.loop-param.invariant c.fits_param.ensures

pub returns : goal.returns
returns c = all_done (λ (p : CodeParam). p.cells < 2 ^ 32) c.args.params.now c.loop-param.param-index c.loop-param-test.false
    c.loop-param.invariant
