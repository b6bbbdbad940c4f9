use Rattle.std.proofs.Common.{take, map}
use Rattle.alma_ir.specs.View.{program_of}
use Rattle.alma_join.specs.Joined.{kept_in}
use Rattle.alma_join.specs.Directory.{Holds}
use Rattle.alma_join.proofs.directory.directory_of.Given as goal

abbrev pub invariant-loop-i : goal.invariant-loop-i
invariant-loop-i l = Holds l.directory (kept_in 1 (map program_of (take l.i l.units)))
