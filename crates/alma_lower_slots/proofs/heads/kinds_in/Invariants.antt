-- The kinds so far, and those of the runs that are left.
use Rattle.std.proofs.Common.{◌≡◌, ◌++◌, drop}
use Rattle.alma_code.specs.Layout.{kinds_of}
use Rattle.alma_lower_slots.proofs.heads.kinds_in.Given as goal

abbrev pub invariant-loop-run : goal.invariant-loop-run
invariant-loop-run l = l.kinds.items ++ kinds_of l.low (drop l.run-index l.runs) ≡ kinds_of 0 l.runs
