use Rattle.std.proofs.Common.{map}
use Rattle.alma_ir.specs.View.{program_of}
use Rattle.alma_join.proofs.Counting.{SizesGo}
use Rattle.alma_join.proofs.size.first_too_large.Given as goal

abbrev pub invariant-loop-i : goal.invariant-loop-i
invariant-loop-i l = SizesGo (map program_of l.units) l.i l.totals
