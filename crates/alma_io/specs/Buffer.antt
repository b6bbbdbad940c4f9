-- Output that waits for more of it.
use Rattle.std.specs.Prelude.{◌≡◌, ◌++◌, List, ℕ, Result, Ok, Err}
use Rattle.alma_io.specs.Outside.{Gains, FailsWithin}
use Rattle.alma_io.specs.Sides.{SinkSide}

-- the sink gained the front of these bytes, and what is behind it is held
pub record GainsAllBut (old new : SinkSide) (bytes held : List ℕ) : Type 0 where
  pub front : List ℕ
  pub parts : bytes ≡ front ++ held
  pub gains : Gains old new front

-- what a write of these bytes through a buffer comes to: the sink gained all but what is held now, or failed within them
abbrev pub Buffers : {T E : Type 0} → SinkSide → SinkSide → (bytes held : List ℕ) → Result T E → Type 0
Buffers old new bytes held (Ok _) = GainsAllBut old new bytes held
Buffers old new bytes held (Err _) = FailsWithin old new bytes
