-- What a Memory stands for.
use Rattle.std.specs.Prelude.{◌≡◌, ℕ, Bool, true, false, List, [], get_or, ◌≤◌}
use Rattle.alma_code.specs.Picture.{PlainFrame, PlainEntry}

-- the live frames, the stack of choice entries from the bottom, for each slot of each live frame whether
-- it is noted already, and the free places for entries and for trail notes
pub record Picture : Type 0 where
  pub now : List PlainFrame
  pub held : List PlainEntry
  pub noted : List (List Bool)
  pub choice_room : ℕ
  pub trail_room : ℕ

-- a write to this slot needs no room
abbrev pub IsNoted : List (List Bool) → (frame slot : ℕ) → Type 0
IsNoted noted frame slot = get_or (get_or noted frame []) slot false ≡ true

-- neither room is smaller afterwards
pub record KeepsRooms (old new : Picture) : Type 0 where
  pub choice_room : old.choice_room ≤ new.choice_room
  pub trail_room : old.trail_room ≤ new.trail_room
