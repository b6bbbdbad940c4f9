use Rattle.std.proofs.Common.{length}
use Rattle.alma_scan.specs.Comments.{Gap}
use Rattle.alma_scan.proofs.gap.skip_gap.Given as goal

abbrev pub invariant-loop-after : goal.invariant-loop-after
invariant-loop-after l = Gap l.bytes l.rest

abbrev pub decreases-loop-after : goal.decreases-loop-after
decreases-loop-after l = length l.rest
