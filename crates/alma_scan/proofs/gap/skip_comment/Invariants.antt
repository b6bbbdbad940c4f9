use Rattle.std.proofs.Common.{◌+◌, ◌≤◌, length}
use Rattle.alma_scan.proofs.Comments.{SameEnd}
use Rattle.alma_scan.proofs.gap.skip_comment.Given as goal

abbrev pub invariant-loop-after : goal.invariant-loop-after
invariant-loop-after l = record {
  same : SameEnd l.depth l.rest l.bytes;
  small : l.depth + length l.rest ≤ length l.bytes;
}

abbrev pub decreases-loop-after : goal.decreases-loop-after
decreases-loop-after l = length l.rest
