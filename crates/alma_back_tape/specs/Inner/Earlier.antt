-- The frames from before some notes, as what of the frames of now is other in them.
use Rattle.std.specs.Prelude.{◌+◌, ℕ, zero, suc, List, [], ◌∷◌, ◌++◌, take, length, get_or, Option, Some, None}
use Rattle.alma_base.specs.Carry.{Change, Carry}
use Rattle.alma_code.specs.declared.cell.Cell.{Cell}
use Rattle.alma_code.specs.Picture.{PlainFrame, no_frame, frames_with_cell}
use Rattle.alma_code.specs.Carries.{diff_at, slot_diffs}
use Rattle.alma_back_tape.specs.declared.earlier.Earlier.TheInside.{Inside}

-- frames of now, and frames from before
pub record PlainEarlier : Type 0 where
  pub now : List PlainFrame
  pub before : List PlainFrame

-- the frames with the cells of a carry, of which the first is written last
abbrev pub frames_with_old_cells : List PlainFrame → Carry Cell → List PlainFrame
frames_with_old_cells frames [] = frames
frames_with_old_cells frames (x ∷ rest) = frames_with_cell (frames_with_old_cells frames rest) x.frame x.slot x.cell

-- the frames from before: the shared ones with their old cells, and those that stood above them
abbrev pub before_of : Inside → List PlainFrame
before_of past = take past.shared (frames_with_old_cells past.frames.now past.cells) ++ past.above.items

-- the cell of a number slot, or else the one that is laid over it
abbrev pub over : Option Cell → Option Cell → Option Cell
over None other = None
over (Some cell) None = Some cell
over (Some cell) (Some other) = Some other

-- the changes at the places of a carry
abbrev pub diffs_at : (before now : List PlainFrame) → Carry Cell → List (Change Cell)
diffs_at before now [] = []
diffs_at before now (x ∷ rest) = diff_at before now x.frame x.slot ++ diffs_at before now rest

-- the changes in n frames from the frame low on
abbrev pub diffs_between : (before now : List PlainFrame) → (low n : ℕ) → List (Change Cell)
diffs_between before now low zero = []
diffs_between before now low (suc n) =
    diffs_between before now low n ++ slot_diffs before now (low + n) (length (get_or now (low + n) no_frame).cells)
