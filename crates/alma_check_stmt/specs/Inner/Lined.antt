-- The lines of the bytes of a source.
use Rattle.std.specs.Prelude.{◌≡◌, ℕ, ◌+◌, ◌≤◌, List, length, get_or}
use Rattle.alma_scan.specs.Places.{line_at}

-- the line of each byte, and of the end
pub record AreLines (source lines : List ℕ) : Type 0 where
  pub long : length lines ≡ length source + 1
  pub each : (i : ℕ) → i ≤ length source → get_or lines i 0 ≡ line_at source i
