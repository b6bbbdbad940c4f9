-- Lines and columns.
use Rattle.std.specs.Prelude.{ℕ, ◌+◌, Bool, nat_eq, List, length, take, count_by}
use Rattle.std.specs.List.{after_last}

-- LF
abbrev pub is_line_feed : ℕ → Bool
is_line_feed b = nat_eq b 10

-- one more than the LF bytes before the offset
abbrev pub line_at : List ℕ → ℕ → ℕ
line_at source offset = count_by is_line_feed (take offset source) + 1

-- one more than the bytes behind the last LF before the offset, or behind the start of the source where there is none
abbrev pub column_at : List ℕ → ℕ → ℕ
column_at source offset = length (after_last is_line_feed (take offset source)) + 1
