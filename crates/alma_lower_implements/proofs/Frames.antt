-- When the frames of the machine stand for a store, and where a phrase leaves them. A frame of a routine of level 2 or more
-- has its link in its first slot, and the slots of its routine behind it.
use Rattle.std.proofs.Common.{◌≡◌, ℕ, suc, ◌+◌, ◌<◌, ◌≤◌, List, length, get_or}
use Rattle.std.specs.Prelude.{slice_get, true}
use Rattle.alma_base.specs.Numbers.{is_integer}
use Rattle.alma_code.specs.declared.cell.Cell.{Cell}
use Rattle.alma_code.specs.declared.cell.Cell.TheVariants as cell
use Rattle.alma_code.specs.declared.cell.CellPlace.{CellPlace}
use Rattle.alma_code.specs.declared.cell.SlotKind.{SlotKind}
use Rattle.alma_code.specs.declared.cell.SlotKind.TheVariants as slot
use Rattle.alma_code.specs.Picture.{PlainFrame, PlainEntry, last_frame}
use Rattle.alma_code.specs.Picture as picture
use Rattle.alma_code.specs.Plain.{PlainCode, kinds_at}
use Rattle.alma_code.specs.Machine.{State, Going, link_to}
use Rattle.alma_ir.specs.Tree.{Program, routine_at}
use Rattle.alma_ir.specs.Checked.{link_slots}
use Rattle.alma_mean.specs.Store.{Store, Place, Frame, Unknown, Number, At}
use Rattle.alma_mean.specs.Store as store

-- a machine that goes on at this address with these frames and entries
pub record IsAt (at : ℕ) (now : List PlainFrame) (held : List PlainEntry) (s : State) : Type 0 where
  pub mode : s.mode ≡ Going
  pub here : s.at ≡ at
  pub frames : s.now ≡ now
  pub entries : s.held ≡ held

module _ (p : Program) where
  -- how many slots of the code stand before those of the routine
  abbrev pub shift : (routine : ℕ) → ℕ
  shift r = link_slots (routine_at p r).level

  -- and in a frame of the store
  abbrev pub shift_in : Store → (frame : ℕ) → ℕ
  shift_in v frame = shift (get_or v frame store.no_frame).routine

  -- the slots behind those of the routine, where those of its phrases begin
  abbrev pub own_end : (routine : ℕ) → ℕ
  own_end r = shift r + (routine_at p r).slots

  -- a place of the machine is one of the store
  pub record SamePlace (v : Store) (q : Place) (c : CellPlace) : Type 0 where
    pub frame : q.frame ≡ c.frame
    pub slot : shift_in v q.frame + q.slot ≡ c.slot
    pub size : q.size ≡ c.len

  -- a cell of the machine, in a slot of this kind, holds what a cell of the store is; each number is one of INTEGER
  abbrev pub SameContent : Store → SlotKind → store.Cell → Cell → Type 0
  SameContent v slot.Number Unknown cell.Unknown = Unit {0}
  SameContent v slot.Number (Number a) (cell.Int b) = (a ≡ b) × (is_integer a ≡ true)
  SameContent v (slot.Place l) Unknown cell.Unset = Unit {0}
  SameContent v (slot.Place l) (At q) (cell.Place c) = SamePlace v q c
  SameContent v _ _ _ = ⊥

  -- the link of a frame names a frame below it, of the routine round its own
  pub record HasLink (v : Store) (k : ℕ) (f : Frame) : Type 0 where
    pub below : f.link < k
    pub outer : (get_or v f.link store.no_frame).routine ≡ (routine_at p f.routine).outer

  module _ (code : PlainCode) where
    -- a frame of the machine stands for a frame of the store: behind its link its first slots are the cells of the store,
    -- and behind them stand the slots of the phrases
    pub record SameFrame (v : Store) (f : Frame) (g : PlainFrame) : Type 0 where
      pub routine : f.routine ≡ g.routine
      pub kinds : g.kinds ≡ kinds_at code g.routine
      pub full : length g.cells ≡ length g.kinds
      pub slots : length f.cells ≡ (routine_at p f.routine).slots
      pub within : shift f.routine + length f.cells ≤ length g.cells
      pub cells : (i : ℕ) → i < length f.cells →
          SameContent v (get_or g.kinds (shift f.routine + i) slot.Mark) (get_or f.cells i Unknown)
          (get_or g.cells (shift f.routine + i) cell.Unset)
      pub link : 1 ≤ shift f.routine → get_or g.cells 0 cell.Unset ≡ cell.Place (link_to f.link)

    -- a place of the store whose cells are live numbers, of the frames that stand for it too, and not the input position
    pub record AreNumbers (v : Store) (now : List PlainFrame) (q : Place) : Type 0 where
      pub frame : q.frame < length v
      pub cells : (k : ℕ) → k < q.size → q.slot + k < length (get_or v q.frame store.no_frame).cells
      pub kinds : (k : ℕ) → k < q.size → get_or (get_or now q.frame picture.no_frame).kinds (shift_in v q.frame + (q.slot + k)) slot.Mark
          ≡ slot.Number
      pub free : q.frame ≡ 0 → 0 < q.slot

    -- a place that a slot of a frame holds: live numbers of a frame that is not above it, as many as the slot says
    pub record HeldPlace (v : Store) (now : List PlainFrame) (k i : ℕ) (q : Place) : Type 0 where
      pub below : q.frame ≤ k
      pub numbers : AreNumbers v now q
      pub size : get_or (get_or now k picture.no_frame).kinds (shift_in v k + i) slot.Mark ≡ slot.Place q.size

    -- the frames of the machine stand for a store
    pub record StandFor (v : Store) (now : List PlainFrame) : Type 0 where
      pub count : length now ≡ length v
      pub some : 1 ≤ length v
      pub frames : (k : ℕ) → k < length v → SameFrame v (get_or v k store.no_frame) (get_or now k picture.no_frame)
      pub links : (k : ℕ) → k < length v → 1 ≤ k → HasLink v k (get_or v k store.no_frame)
      pub declared : (k : ℕ) → k < length v → (get_or now k picture.no_frame).declared
          ≡ (routine_at p (get_or v k store.no_frame).routine).declared
      pub places : (k i : ℕ) (q : Place) → k < length v → get_or (get_or v k store.no_frame).cells i Unknown ≡ At q → HeldPlace v now k i q
      pub routines : (k : ℕ) → k < length v → (get_or v k store.no_frame).routine < length p.routines
      pub main : (get_or v 0 store.no_frame).routine ≡ 0

    -- two frames of one routine whose link and whose slots behind those of the routine are the same, but for those of the
    -- phrases from lo on
    pub record KeptBelow (lo : ℕ) (g g' : PlainFrame) : Type 0 where
      pub back : g'.back ≡ g.back
      pub routine : g'.routine ≡ g.routine
      pub declared : g'.declared ≡ g.declared
      pub long : length g'.cells ≡ length g.cells
      pub link : (i : ℕ) → i < shift g.routine → get_or g'.cells i cell.Unset ≡ get_or g.cells i cell.Unset
      pub cells : (i : ℕ) → own_end g.routine ≤ i → i < lo → get_or g'.cells i cell.Unset ≡ get_or g.cells i cell.Unset
      pub kinds : g'.kinds ≡ g.kinds
      -- what a parameter's place is never changes
      pub places : (i l : ℕ) → get_or g.kinds i slot.Mark ≡ slot.Place l → i < own_end g.routine
          → get_or g'.cells i cell.Unset ≡ get_or g.cells i cell.Unset

    -- a phrase that began with the frames `before` and has its own slots from lo on leaves the frames `now`, which stand
    -- for the store v
    pub record Fits (lo : ℕ) (before : List PlainFrame) (v : Store) (now : List PlainFrame) : Type 0 where
      pub stand : StandFor v now
      pub same_count : length now ≡ length before
      pub top : KeptBelow lo (last_frame before) (last_frame now)
      pub others : (k : ℕ) → suc k < length now
          → KeptBelow (length (get_or before k picture.no_frame).cells) (get_or before k picture.no_frame) (get_or now k picture.no_frame)

    -- the slots of a routine from lo on are of these kinds
    pub record HasSlots (r lo : ℕ) (kinds : List SlotKind) : Type 0 where
      pub each : (i : ℕ) → i < length kinds → slice_get (kinds_at code r) (lo + i) ≡ slice_get kinds i
      pub behind : own_end r ≤ lo
