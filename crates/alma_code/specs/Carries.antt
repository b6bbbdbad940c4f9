-- How the carry of a FORALL is laid over the frames, and what it gains from a body.
use Rattle.std.specs.Prelude.{◌≡◌, ℕ, zero, suc, ◌+◌, ◌-◌, ◌≤◌, ◌<◌, Bool, true, false, not, ◌&&◌, nat_eq, if◌then◌else◌, List, [], ◌∷◌}
use Rattle.std.specs.Prelude.{◌++◌, take, get_or, set, length, slice_get}
use Rattle.alma_base.specs.Carry.{Change, Carry, with_changes}
use Rattle.alma_base.specs.Numbers.{int_eq}
use Rattle.alma_code.specs.declared.cell.Cell.{Cell}
use Rattle.alma_code.specs.declared.cell.Cell.TheVariants as cell
use Rattle.alma_code.specs.declared.cell.CellPlace.{CellPlace}
use Rattle.alma_code.specs.declared.cell.ChoiceKind.{ChoiceKind}
use Rattle.alma_code.specs.declared.cell.ChoiceKind.TheVariants.{Forall}
use Rattle.alma_code.specs.Kinds.{is_number}
use Rattle.alma_code.specs.Picture.{PlainFrame, PlainEntry, no_frame, frames_with_cell, cell_at, top_of, entry_at}

-- the frame is live, and the slot is a number slot of it
abbrev pub number_at : List PlainFrame → (frame slot : ℕ) → Bool
number_at frames frame slot = is_number (slice_get (get_or frames frame no_frame).kinds slot)

-- a place of which each cell is a live number slot; a place of no cells may name any slot
pub record IsLive (frames : List PlainFrame) (place : CellPlace) : Type 0 where
  pub frame : place.frame < length frames
  pub cells : (k : ℕ) → k < place.len → number_at frames place.frame (place.slot + k) ≡ true

-- ---- over the frames

-- the frames after one change is laid over them, where its place is a live number slot of them,
-- whatever routine the frame has
abbrev pub frames_with_change : List PlainFrame → Change Cell → List PlainFrame
frames_with_change frames x = if number_at frames x.frame x.slot then frames_with_cell frames x.frame x.slot x.cell else frames

-- the frames after a carry is laid over them
abbrev pub frames_with_carry : List PlainFrame → Carry Cell → List PlainFrame
frames_with_carry frames [] = frames
frames_with_carry frames (x ∷ rest) = frames_with_carry (frames_with_change frames x) rest

-- ---- what a body changed

-- the two cells are equal: both unknown, both unset, one number, one place or one height
abbrev pub same_cell : Cell → Cell → Bool
same_cell cell.Unknown cell.Unknown = true
same_cell (cell.Int a) (cell.Int b) = int_eq a b
same_cell cell.Unset cell.Unset = true
same_cell (cell.Place p) (cell.Place q) = nat_eq p.frame q.frame && (nat_eq p.slot q.slot && nat_eq p.len q.len)
same_cell (cell.Mark a) (cell.Mark b) = nat_eq a b
same_cell _ _ = false

-- a number slot that is live before and now, and differs
abbrev pub differs : (before now : List PlainFrame) → (frame slot : ℕ) → Bool
differs before now frame slot =
    number_at before frame slot
    && (number_at now frame slot && not (same_cell (cell_at before frame slot cell.Unknown) (cell_at now frame slot cell.Unknown)))

-- the change at one place, where there is one
abbrev pub diff_at : (before now : List PlainFrame) → (frame slot : ℕ) → List (Change Cell)
diff_at before now frame slot =
    if differs before now frame slot then (record { frame = frame; slot = slot; cell = cell_at now frame slot cell.Unknown }) ∷ [] else []

-- the changes in the first n slots of a frame
abbrev pub slot_diffs : (before now : List PlainFrame) → (frame n : ℕ) → List (Change Cell)
slot_diffs before now frame zero = []
slot_diffs before now frame (suc n) = slot_diffs before now frame n ++ diff_at before now frame n

-- the changes in the first n frames
abbrev pub frame_diffs : (before now : List PlainFrame) → (n : ℕ) → List (Change Cell)
frame_diffs before now zero = []
frame_diffs before now (suc n) = frame_diffs before now n ++ slot_diffs before now n (length (get_or now n no_frame).cells)

-- each number slot that is live before and now and differs, with its cell of now
abbrev pub diffs : (before now : List PlainFrame) → List (Change Cell)
diffs before now = frame_diffs before now (length now)

-- ---- the stack

-- the entry with another carry
abbrev pub with_carry : PlainEntry → Carry Cell → PlainEntry
with_carry entry carry = record entry { carry = carry }

-- the stack after the Body on top is kept: what differs from its copy enters the carry of the
-- Forall at the height
abbrev pub held_after_keep : List PlainEntry → (height : ℕ) → (now : List PlainFrame) → List PlainEntry
held_after_keep held height now =
    take (length held - 1) (set held (height - 1)
    (with_carry (entry_at held height) (with_changes (diffs (top_of held).frames now) (entry_at held height).carry)))

-- a Forall stands at the height
pub record IsForallAt (held : List PlainEntry) (height : ℕ) : Type 0 where
  pub some : 1 ≤ height
  pub below : height ≤ length held
  pub forall : (entry_at held height).kind ≡ Forall

-- an entry of this kind stands on top
pub record IsTop (held : List PlainEntry) (kind : ChoiceKind) : Type 0 where
  pub some : 1 ≤ length held
  pub top : (top_of held).kind ≡ kind
