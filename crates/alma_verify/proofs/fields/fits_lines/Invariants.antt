use Rattle.std.proofs.Common.{take, ◌<◌, ◌^◌}
use Rattle.std.specs.Prelude.{All}
use Rattle.alma_code.specs.declared.code.Line.{Line}
use Rattle.alma_verify.proofs.fields.fits_lines.Given as goal

abbrev pub invariant-loop-line : goal.invariant-loop-line
invariant-loop-line l = All (λ (x : Line). x.line < 2 ^ 32) (take l.line-index l.lines)
