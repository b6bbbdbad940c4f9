use Rattle.std.proofs.Common.{take}
use Rattle.std.specs.Prelude.{All}
use Rattle.alma_object.specs.Fields.{FitsRange}
use Rattle.alma_verify.proofs.fields.fits_ranges.Given as goal

abbrev pub invariant-loop-range : goal.invariant-loop-range
invariant-loop-range l = All FitsRange (take l.range-index l.ranges)
