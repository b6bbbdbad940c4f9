-- The number slots of frames.
use Rattle.std.specs.Prelude.{ℕ, List, get_or, slice_get, Option, Some, None, if◌then◌else◌}
use Rattle.alma_code.specs.declared.cell.Cell.{Cell}
use Rattle.alma_code.specs.declared.cell.Cell.TheVariants.{Unknown}
use Rattle.alma_code.specs.Picture.{PlainFrame, no_frame}
use Rattle.alma_code.specs.Kinds.{is_number}

-- the cell of a slot that is a number slot
abbrev pub number_in : PlainFrame → (slot : ℕ) → Option Cell
number_in frame slot = if is_number (slice_get frame.kinds slot) then Some (get_or frame.cells slot Unknown) else None

-- the cell of a place that is a live number slot
abbrev pub number_of : List PlainFrame → (frame slot : ℕ) → Option Cell
number_of frames frame slot = number_in (get_or frames frame no_frame) slot
