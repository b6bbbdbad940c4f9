use Rattle.std.proofs.Common.{take}
use Rattle.alma_lower_tables.proofs.RunLemmas.{Opens}
use Rattle.alma_lower_tables.proofs.kinds.runs_of.Given as goal

abbrev pub invariant-loop-i : goal.invariant-loop-i
invariant-loop-i l = Opens l.runs.items l.latest (take l.i l.kinds)
