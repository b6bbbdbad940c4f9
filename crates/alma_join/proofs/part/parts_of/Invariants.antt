use Rattle.std.proofs.Common.{map}
use Rattle.alma_ir.specs.View.{program_of}
use Rattle.alma_join.proofs.PartsGo.{PartsGo}
use Rattle.alma_join.proofs.part.parts_of.Given as goal

abbrev pub invariant-loop-i : goal.invariant-loop-i
invariant-loop-i l = PartsGo (map program_of l.units) l.i l.parts
