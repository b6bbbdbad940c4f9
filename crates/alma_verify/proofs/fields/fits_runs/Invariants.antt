use Rattle.std.proofs.Common.{take}
use Rattle.std.specs.Prelude.{All}
use Rattle.alma_object.specs.Fields.{FitsRun}
use Rattle.alma_verify.proofs.fields.fits_runs.Given as goal

abbrev pub invariant-loop-run : goal.invariant-loop-run
invariant-loop-run l = All FitsRun (take l.run-index l.runs)
