use Rattle.std.proofs.Common.{take}
use Rattle.std.specs.Prelude.{All}
use Rattle.alma_verify.specs.Heads.{FitsHead}
use Rattle.alma_verify.proofs.fields.fits_heads.Given as goal

abbrev pub invariant-loop-routine : goal.invariant-loop-routine
invariant-loop-routine l = All FitsHead (take l.routine-index l.routines)
