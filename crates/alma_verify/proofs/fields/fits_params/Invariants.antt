use Rattle.std.proofs.Common.{take, ◌<◌, ◌^◌}
use Rattle.std.specs.Prelude.{All}
use Rattle.alma_code.specs.declared.head.CodeParam.{CodeParam}
use Rattle.alma_verify.proofs.fields.fits_params.Given as goal

abbrev pub invariant-loop-param : goal.invariant-loop-param
invariant-loop-param l = All (λ (p : CodeParam). p.cells < 2 ^ 32) (take l.param-index l.params)
