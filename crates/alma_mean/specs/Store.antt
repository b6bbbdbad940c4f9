-- Cells, frames and the store.
use Rattle.std.specs.Prelude.{ℕ, zero, suc, ◌+◌, ◌-◌, Bool, true, false, ◌&&◌, nat_eq, ℤ, pos, List, [], ◌∷◌, ◌++◌, length, get_or, take}
use Rattle.std.specs.Prelude.{set, replicate}
use Rattle.alma_base.specs.Numbers.{int_eq}
use Rattle.alma_base.specs.Carry.{Change, Carry}

-- some cells in a row of one frame, named by the number of the frame, the first slot and how many
pub record Place : Type 0 where
  pub frame : ℕ
  pub slot : ℕ
  pub size : ℕ

-- a cell; one that is to hold a place and holds none is Unknown too
pub data Cell : Type 0 where
  Unknown : Cell
  Number : ℤ → Cell
  At : Place → Cell

-- a call that lives: its routine, its link, which is the number of a frame of the routine round it,
-- or 0 for the global frame, and its cells, one a slot
pub record Frame : Type 0 where
  pub routine : ℕ
  pub link : ℕ
  pub cells : List Cell

-- the frames that live, the global frame first; cell 0 of the global frame is the input position
abbrev pub Store : Type 0
Store = List Frame

-- what stands where there is no frame: its link leads to the global frame
abbrev pub no_frame : Frame
no_frame = record { routine = 0; link = 0; cells = [] }

-- the cell at a slot of a frame, Unknown where there is none
abbrev pub cell_at : Store → ℕ → ℕ → Cell
cell_at s frame slot = get_or (get_or s frame no_frame).cells slot Unknown

-- the frame with one cell changed, or as it is where it has no such slot
abbrev pub with_cell : Frame → ℕ → Cell → Frame
with_cell f slot c = record f { cells = set f.cells slot c }

-- the store with one cell changed, or as it is where that cell is not live
abbrev pub put : Store → ℕ → ℕ → Cell → Store
put [] frame slot c = []
put (f ∷ s) zero slot c = with_cell f slot c ∷ s
put (f ∷ s) (suc frame) slot c = f ∷ put s frame slot c

-- the store with some cells put from a slot on
abbrev pub put_all : Store → ℕ → ℕ → List Cell → Store
put_all s frame slot [] = s
put_all s frame slot (c ∷ cs) = put_all (put s frame slot c) frame (suc slot) cs

-- n cells from a slot on
abbrev pub cells_from : Store → ℕ → ℕ → ℕ → List Cell
cells_from s frame slot zero = []
cells_from s frame slot (suc n) = cell_at s frame slot ∷ cells_from s frame (suc slot) n

-- the cells of a place
abbrev pub cells_of : Store → Place → List Cell
cells_of s p = cells_from s p.frame p.slot p.size

-- the first cell of a place
abbrev pub cell_of : Store → Place → Cell
cell_of s p = cell_at s p.frame p.slot

-- the store with the first cell of a place changed
abbrev pub put_at : Store → Place → Cell → Store
put_at s p c = put s p.frame p.slot c

-- n cells of a place from an offset on
abbrev pub part : Place → ℕ → ℕ → Place
part p offset n = record { frame = p.frame; slot = p.slot + offset; size = n }

-- the number of the frame on top
abbrev pub top : Store → ℕ
top s = length s - 1

-- the frame on top
abbrev pub top_frame : Store → Frame
top_frame s = get_or s (top s) no_frame

-- the number of the frame to which so many links lead from a frame
abbrev pub up_from : Store → (frame links : ℕ) → ℕ
up_from s frame zero = frame
up_from s frame (suc links) = up_from s (get_or s frame no_frame).link links

-- the number of the frame to which so many links lead from the frame on top
abbrev pub up : Store → (links : ℕ) → ℕ
up s links = up_from s (top s) links

-- the store without the frame on top
abbrev pub without_top : Store → Store
without_top s = take (top s) s

-- a slot of the frame on top
abbrev pub top_cell : Store → ℕ → Cell
top_cell s slot = cell_at s (top s) slot

-- the store with one cell of the frame on top changed
abbrev pub put_top : Store → ℕ → Cell → Store
put_top s slot c = put s (top s) slot c

-- ---- what FORALL carries

-- the two cells have one content
abbrev pub same_cell : Cell → Cell → Bool
same_cell Unknown Unknown = true
same_cell Unknown (Number b) = false
same_cell Unknown (At q) = false
same_cell (Number a) Unknown = false
same_cell (Number a) (Number b) = int_eq a b
same_cell (Number a) (At q) = false
same_cell (At p) Unknown = false
same_cell (At p) (Number b) = false
same_cell (At p) (At q) = nat_eq p.frame q.frame && nat_eq p.slot q.slot && nat_eq p.size q.size

-- the store with the cells of the carry at their places, where these are live
abbrev pub over : Store → Carry Cell → Store
over s [] = s
over s (x ∷ rest) = over (put s x.frame x.slot x.cell) rest

-- the changes with one more in front, unless the two cells have one content
abbrev pub change_unless : Bool → ℕ → ℕ → Cell → List (Change Cell) → List (Change Cell)
change_unless true frame slot c rest = rest
change_unless false frame slot c rest = record { frame = frame; slot = slot; cell = c } ∷ rest

-- the cells of the second list that differ from those of the first, from a slot on
abbrev pub cell_changes : ℕ → ℕ → List Cell → List Cell → List (Change Cell)
cell_changes frame slot [] now = []
cell_changes frame slot (old ∷ olds) [] = []
cell_changes frame slot (old ∷ olds) (c ∷ now) =
    change_unless (same_cell old c) frame slot c (cell_changes frame (suc slot) olds now)

-- the changes of each frame that both stores have, from the frame with this number on
abbrev pub changes_from : ℕ → Store → Store → List (Change Cell)
changes_from frame [] now = []
changes_from frame (f ∷ fs) [] = []
changes_from frame (f ∷ fs) (g ∷ gs) = cell_changes frame 0 f.cells g.cells ++ changes_from (suc frame) fs gs

-- each place at which the second store differs from the first, with its cell in the second:
-- any cell counts, also a hidden counter or limit and the input position
abbrev pub changes : Store → Store → List (Change Cell)
changes u t = changes_from 0 u t

-- the cells of the global frame at the start: 0 is the input position
abbrev pub start_cells : ℕ → List Cell
start_cells slots = set (replicate slots Unknown) 0 (Number (pos 0))
