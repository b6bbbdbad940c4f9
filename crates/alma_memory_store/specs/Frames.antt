-- What is true of the frames of a memory at each moment.
use Rattle.std.specs.Prelude.{◌≡◌, ◌≤◌, List, [], ◌∷◌, length}
use Rattle.alma_base.specs.Limits.{cell_limit, frame_limit}
use Rattle.alma_code.specs.Picture.{PlainFrame, live_cells}

-- each slot has a kind and a cell
pub record IsWhole (frame : PlainFrame) : Type 0 where
  pub kinds : length frame.kinds ≡ length frame.cells

-- each frame is whole
abbrev pub AreWhole : List PlainFrame → Type 0
AreWhole [] = Unit {0}
AreWhole (frame ∷ frames) = IsWhole frame × AreWhole frames

-- frames that may be live together
pub record AreLive (frames : List PlainFrame) : Type 0 where
  pub some : 1 ≤ length frames
  pub few : length frames ≤ frame_limit
  pub declared : live_cells frames ≤ cell_limit
  pub whole : AreWhole frames
