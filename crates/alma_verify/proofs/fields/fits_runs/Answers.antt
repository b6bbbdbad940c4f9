use Rattle.alma_object.specs.Fields.{FitsRun}
use Rattle.alma_verify.proofs.Fitting.{all_more, all_done}
use Rattle.alma_verify.proofs.fields.fits_runs.Goals as goal

pub loop-run-preserved : goal.loop-run-preserved
loop-run-preserved c = all_more FitsRun c.args.runs.now c.loop-run.run-index _ c.loop-run-test.true c.loop-run.invariant c.fits_run.ensures

pub returns : goal.returns
returns c = all_done FitsRun c.args.runs.now c.loop-run.run-index c.loop-run-test.false c.loop-run.invariant
