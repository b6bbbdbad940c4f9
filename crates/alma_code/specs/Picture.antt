-- The picture of a memory: the frames that are live, and a stack of choice entries, each with a
-- whole copy of the frames.
use Rattle.std.specs.Prelude.{ℕ, zero, suc, List, [], ◌∷◌, ◌++◌, ◌-◌, get_or, set, length, take, map, sum, Option, None, slice_get}
use Rattle.alma_base.specs.Carry.{Carry}
use Rattle.alma_code.specs.declared.cell.Cell.{Cell}
use Rattle.alma_code.specs.declared.cell.SlotKind.{SlotKind}
use Rattle.alma_code.specs.declared.cell.ChoiceKind.{ChoiceKind}
use Rattle.alma_code.specs.declared.cell.ChoiceKind.TheVariants.{Branch, Forall, Body, Done}

-- a live frame: its routine, the address it returns to, how many cells are declared, and its slots
-- with their kinds
pub record PlainFrame : Type 0 where
  pub routine : ℕ
  pub back : ℕ
  pub declared : ℕ
  pub kinds : List SlotKind
  pub cells : List Cell

-- a choice entry: where a pop goes on, a whole copy of the frames, and for Forall and Done a carry,
-- which Branch and Body have empty
pub record PlainEntry : Type 0 where
  pub kind : ChoiceKind
  pub resume : ℕ
  pub frames : List PlainFrame
  pub carry : Carry Cell

-- what stands for a frame that is not there
abbrev pub no_frame : PlainFrame
no_frame = record { routine = 0; back = 0; declared = 0; kinds = []; cells = [] }

-- the frame after a write to one of its slots
abbrev pub frame_with : PlainFrame → (slot : ℕ) → Cell → PlainFrame
frame_with frame slot cell = record frame { cells = set frame.cells slot cell }

-- the frames after a write to a slot of one of them
abbrev pub frames_with_cell : List PlainFrame → (frame slot : ℕ) → Cell → List PlainFrame
frames_with_cell frames frame slot cell = set frames frame (frame_with (get_or frames frame no_frame) slot cell)

-- the cell in a slot of a frame, or else the last argument
abbrev pub cell_at : List PlainFrame → (frame slot : ℕ) → Cell → Cell
cell_at frames frame slot other = get_or (get_or frames frame no_frame).cells slot other

-- the top frame
abbrev pub last_frame : List PlainFrame → PlainFrame
last_frame frames = get_or frames (length frames - 1) no_frame

-- the frames below the top one
abbrev pub without_last : List PlainFrame → List PlainFrame
without_last frames = take (length frames - 1) frames

-- the declared cells of all frames together
abbrev pub live_cells : List PlainFrame → ℕ
live_cells frames = sum (map (λ frame. frame.declared) frames)

-- what stands for an entry that is not there
abbrev pub no_entry : PlainEntry
no_entry = record { kind = Branch; resume = 0; frames = []; carry = [] }

-- the top entry
abbrev pub top_of : List PlainEntry → PlainEntry
top_of held = get_or held (length held - 1) no_entry

-- the entry at a height, counted from 1 at the bottom; height 0 has none, and this is not asked
-- there
abbrev pub entry_at : List PlainEntry → (height : ℕ) → PlainEntry
entry_at held height = get_or held (height - 1) no_entry

-- the kind of the entry at a height, where there is one
abbrev pub kind_at : List PlainEntry → (height : ℕ) → Option ChoiceKind
kind_at held zero = None
kind_at held (suc below) = slice_get (map (λ entry. entry.kind) held) below

-- what a pop leaves of an entry of a kind: a Forall stays as a Done
abbrev pub entry_of_kind_after_pop : ChoiceKind → PlainEntry → List PlainEntry
entry_of_kind_after_pop Forall entry = record entry { kind = Done } ∷ []
entry_of_kind_after_pop Branch entry = []
entry_of_kind_after_pop Body entry = []
entry_of_kind_after_pop Done entry = []

-- what a pop leaves of an entry
abbrev pub entry_after_pop : PlainEntry → List PlainEntry
entry_after_pop entry = entry_of_kind_after_pop entry.kind entry

-- the stack after a pop
abbrev pub stack_after_pop : List PlainEntry → List PlainEntry
stack_after_pop held = take (length held - 1) held ++ entry_after_pop (top_of held)
