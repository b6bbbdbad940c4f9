-- What is true of the machine at each moment of a run of a sound code. A frame is spoken of by its
-- number and by the routines of all frames: so what is true of it stays where the cells of others
-- change.
use Rattle.std.specs.Prelude.{◌≡◌, ℕ, suc, ◌+◌, ◌-◌, ◌<◌, ◌≤◌, true, pos, negsuc, List, [], ◌∷◌, map, length, get_or, Some, slice_get}
use Rattle.alma_base.specs.Carry.{Change, Carry}
use Rattle.alma_code.specs.declared.cell.Cell.{Cell}
use Rattle.alma_code.specs.declared.cell.Cell.TheVariants as cell
use Rattle.alma_code.specs.declared.cell.CellPlace.{CellPlace}
use Rattle.alma_code.specs.declared.cell.SlotKind.{SlotKind}
use Rattle.alma_code.specs.declared.cell.SlotKind.TheVariants as slot
use Rattle.alma_code.specs.declared.instr.Instr.TheVariants as I
use Rattle.alma_code.specs.Picture.{PlainFrame, PlainEntry, no_frame, no_entry, last_frame, cell_at}
use Rattle.alma_code.specs.Plain.{PlainCode, kinds_at, start_at, end_at}
use Rattle.alma_code.specs.Rules.{is_address}
use Rattle.alma_code.specs.Machine.{Mode, Going, Failing, Ended, Stuck, State}

-- the routines of the frames
abbrev pub routines_of : List PlainFrame → List ℕ
routines_of frames = map (λ frame. frame.routine) frames

-- what a number slot may hold
abbrev pub IsContent : Cell → Type 0
IsContent cell.Unknown = Unit {0}
IsContent (cell.Int v) = Unit {0}
IsContent cell.Unset = ⊥
IsContent (cell.Place p) = ⊥
IsContent (cell.Mark h) = ⊥

-- an input position: a number from 0 on
abbrev pub IsPosition : Cell → Type 0
IsPosition (cell.Int (pos n)) = Unit {0}
IsPosition (cell.Int (negsuc n)) = ⊥
IsPosition cell.Unknown = ⊥
IsPosition cell.Unset = ⊥
IsPosition (cell.Place p) = ⊥
IsPosition (cell.Mark h) = ⊥

module _ (code : PlainCode) where
  -- slot i of frame f is a number slot and not the input position, where rs are the routines of the
  -- frames
  pub record IsCell (rs : List ℕ) (f i : ℕ) : Type 0 where
    pub number : slice_get (kinds_at code (get_or rs f 0)) i ≡ Some slot.Number
    pub free : 0 < f + i

  -- a place that frame f may hold: of cells of a frame that is not above it
  pub record IsPlace (rs : List ℕ) (f : ℕ) (p : CellPlace) : Type 0 where
    pub frame : p.frame ≤ f
    pub cells : (k : ℕ) → k < p.len → IsCell rs p.frame (p.slot + k)

  -- a link that frame f may hold: to a frame of routine r that is not above it
  pub record IsLink (rs : List ℕ) (f r : ℕ) (p : CellPlace) : Type 0 where
    pub frame : p.frame ≤ f
    pub routine : get_or rs p.frame 0 ≡ r
    pub slot : p.slot ≡ 0
    pub len : p.len ≡ 0

  -- a cell fits a slot of its kind in frame f
  abbrev pub FitsSlot : (rs : List ℕ) (f : ℕ) → SlotKind → Cell → Type 0
  FitsSlot rs f slot.Number c = IsContent c
  FitsSlot rs f (slot.Place n) (cell.Place p) = (p.len ≡ n) × IsPlace rs f p
  FitsSlot rs f (slot.Place n) cell.Unset = Unit {0}
  FitsSlot rs f (slot.Place n) cell.Unknown = ⊥
  FitsSlot rs f (slot.Place n) (cell.Int v) = ⊥
  FitsSlot rs f (slot.Place n) (cell.Mark h) = ⊥
  FitsSlot rs f slot.Mark (cell.Mark h) = Unit {0}
  FitsSlot rs f slot.Mark cell.Unset = Unit {0}
  FitsSlot rs f slot.Mark cell.Unknown = ⊥
  FitsSlot rs f slot.Mark (cell.Int v) = ⊥
  FitsSlot rs f slot.Mark (cell.Place p) = ⊥
  FitsSlot rs f (slot.Link r) (cell.Place p) = IsLink rs f r p
  FitsSlot rs f (slot.Link r) cell.Unset = Unit {0}
  FitsSlot rs f (slot.Link r) cell.Unknown = ⊥
  FitsSlot rs f (slot.Link r) (cell.Int v) = ⊥
  FitsSlot rs f (slot.Link r) (cell.Mark h) = ⊥

  -- an address just behind a Call of the callee, in the code of the caller and not its last
  pub record IsReturn (caller back callee : ℕ) : Type 0 where
    pub first : ℕ
    pub to : ℕ
    pub at : ℕ
    pub behind : back ≡ suc at
    pub call : slice_get code.instrs at ≡ Some (I.Call callee first to)
    pub low : start_at code caller ≤ at
    pub high : back < end_at code caller

  -- frame f: of a routine of the code, with its slots and a cell that fits in each; the first is of
  -- routine 0, the others were called by the one below
  pub record FitsFrame (rs : List ℕ) (f : ℕ) (frame : PlainFrame) : Type 0 where
    pub routine : frame.routine < length code.routines
    pub kinds : frame.kinds ≡ kinds_at code frame.routine
    pub full : length frame.cells ≡ length frame.kinds
    pub cells : (i : ℕ) → i < length frame.kinds → FitsSlot rs f (get_or frame.kinds i slot.Mark) (get_or frame.cells i cell.Unset)
    pub main : f ≡ 0 → frame.routine ≡ 0
    pub called : 1 ≤ f → (1 ≤ frame.routine) × IsReturn (get_or rs (f - 1) 0) frame.back frame.routine

  -- there is a frame, each fits, and the first cell of the first is an input position
  pub record FitsFrames (frames : List PlainFrame) : Type 0 where
    pub some : 1 ≤ length frames
    pub each : (f : ℕ) → f < length frames → FitsFrame (routines_of frames) f (get_or frames f no_frame)
    pub position : IsPosition (cell_at frames 0 0 cell.Unset)

  -- an address of the routine of the top frame
  abbrev pub IsAt : List PlainFrame → (at : ℕ) → Type 0
  IsAt frames at = is_address code (last_frame frames).routine at ≡ true

  -- a change of a carry has what a number slot may hold, and at the input position what that may be
  pub record FitsCarried (x : Change Cell) : Type 0 where
    pub content : IsContent x.cell
    pub position : x.frame + x.slot ≡ 0 → IsPosition x.cell

  -- each change fits
  abbrev pub AllFit : Carry Cell → Type 0
  AllFit [] = Unit {0}
  AllFit (x ∷ rest) = FitsCarried x × AllFit rest

  -- an entry: its frames fit, it goes on in the routine of its top frame, and its carry fits
  pub record FitsEntry (entry : PlainEntry) : Type 0 where
    pub frames : FitsFrames entry.frames
    pub resume : IsAt entry.frames entry.resume
    pub carry : AllFit entry.carry

  -- each entry fits
  abbrev pub FitsHeld : List PlainEntry → Type 0
  FitsHeld held = (h : ℕ) → h < length held → FitsEntry (get_or held h no_entry)

  -- a machine that goes on has an address of the routine of its top frame, and it is not stuck
  abbrev pub FitsMode : Mode → State → Type 0
  FitsMode Going s = IsAt s.now s.at
  FitsMode Failing s = Unit {0}
  FitsMode (Ended e) s = Unit {0}
  FitsMode Stuck s = ⊥

  -- the whole state
  pub record Fits (s : State) : Type 0 where
    pub frames : FitsFrames s.now
    pub held : FitsHeld s.held
    pub mode : FitsMode s.mode s
