-- The labels that are left end where all end.
use Rattle.std.proofs.Common.{◌≡◌, drop}
use Rattle.alma_lower_work.specs.Puts.{behind_all}
use Rattle.alma_lower_parts.proofs.label.behind_labels.Given as goal

abbrev pub invariant-loop-i : goal.invariant-loop-i
invariant-loop-i l = behind_all l.next (drop l.i l.ranges) ≡ behind_all l.at l.ranges
