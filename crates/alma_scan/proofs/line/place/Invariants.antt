use Rattle.std.proofs.Common.{◌≡◌, ◌≤◌, ◌+◌, length, take}
use Rattle.std.specs.Prelude.{count_by}
use Rattle.std.specs.List.{after_last}
use Rattle.alma_scan.specs.Places.{is_line_feed}
use Rattle.alma_scan.proofs.line.place.Given as goal

abbrev pub invariant-loop-byte : goal.invariant-loop-byte
invariant-loop-byte l = record {
  line : l.place.line ≡ count_by is_line_feed (take l.byte-index l.byte-items) + 1;
  column : l.place.column ≡ length (after_last is_line_feed (take l.byte-index l.byte-items)) + 1;
  low_line : l.place.line ≤ l.byte-index + 1;
  low_column : l.place.column ≤ l.byte-index + 1;
}
