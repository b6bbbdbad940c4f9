-- What a machine sees of its memory.
use Rattle.std.specs.Prelude.{ℕ, List}
use Rattle.alma_code.specs.Picture.{PlainFrame, PlainEntry}

-- the live frames, and the stack of choice entries from the bottom
pub record Scene : Type 0 where
  pub now : List PlainFrame
  pub held : List PlainEntry

-- the live frames, the stack of choice entries, the free places for entries and for notes, and the scenes
-- that the memory can go back to, the last one first; none where it does not go back
pub record MachinePicture : Type 0 where
  pub now : List PlainFrame
  pub held : List PlainEntry
  pub choice_room : ℕ
  pub trail_room : ℕ
  pub past : List Scene
