-- What a scanner has still to read.
use Rattle.std.specs.Prelude.{ℕ, List}

-- the size of the source, and the last bytes of it, which were not read yet
pub record Unread : Type 0 where
  pub size : ℕ
  pub bytes : List ℕ
