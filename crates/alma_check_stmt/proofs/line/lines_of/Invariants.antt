use Rattle.std.proofs.Common.{◌≡◌, ◌≤◌, ◌<◌, ◌+◌, ℕ, length, get_or}
use Rattle.alma_scan.specs.Places.{line_at}
use Rattle.alma_check_stmt.proofs.line.lines_of.Given as goal

abbrev pub invariant-loop-byte : goal.invariant-loop-byte
invariant-loop-byte l = record {
  long : length l.lines.items ≡ l.byte-index;
  each : (i : ℕ) → i < l.byte-index → get_or l.lines.items i 0 ≡ line_at l.source i;
  line : l.line ≡ line_at l.source l.byte-index;
  low : l.line ≤ l.byte-index + 1;
}
