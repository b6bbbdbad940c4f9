-- For rows of many calls: how many slots the global frame has, now and in each copy.
use Rattle.std.specs.Prelude.{ℕ, ◌≤◌, List, length, get_or}
use Rattle.std.specs.List.{All}
use Rattle.alma_code.specs.Picture.{PlainFrame, no_frame}
use Rattle.alma_memory.specs.Picture.{Picture}

-- the global frame is live and has at least so many slots
pub record HasSlots (slots : ℕ) (frames : List PlainFrame) : Type 0 where
  pub live : 1 ≤ length frames
  pub many : slots ≤ length (get_or frames 0 no_frame).cells

-- the global frame has at least so many slots now and in each copy
pub record KeepsSlots (slots : ℕ) (p : Picture) : Type 0 where
  pub now : HasSlots slots p.now
  pub held : All (λ entry. HasSlots slots entry.frames) p.held
