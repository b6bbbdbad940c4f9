-- How the slots of a new frame are laid out, and which arguments fit its parameters.
use Rattle.std.specs.Prelude.{◌≡◌, ℕ, zero, suc, ◌+◌, ◌-◌, ◌<◌, Bool, true, ◌&&◌, pos, List, [], ◌∷◌, ◌++◌, map, take, drop, get_or, set}
use Rattle.std.specs.Prelude.{length, replicate, slice_get}
use Rattle.alma_code.specs.declared.cell.Cell.{Cell}
use Rattle.alma_code.specs.declared.cell.Cell.TheVariants as cell
use Rattle.alma_code.specs.declared.cell.CellPlace.{CellPlace}
use Rattle.alma_code.specs.declared.cell.SlotKind.{SlotKind}
use Rattle.alma_code.specs.declared.cell.SlotKind.TheVariants as slot
use Rattle.alma_code.specs.declared.head.ParamKind.{ParamKind}
use Rattle.alma_code.specs.declared.head.ParamKind.TheVariants as param
use Rattle.alma_code.specs.declared.head.CodeParam.{CodeParam}
use Rattle.alma_code.specs.declared.head.Run.{Run}
use Rattle.alma_code.specs.Head.{PlainHead}
use Rattle.alma_code.specs.Kinds.{is_number, is_place_of, is_link_of, numbers_from}
use Rattle.alma_code.specs.Picture.{PlainFrame, no_frame}

-- ---- runs

-- the run ends rise from low, and the last of them, or low where there is no run, is top
abbrev pub RunsRise : (low : ℕ) → List Run → (top : ℕ) → Type 0
RunsRise low [] top = low ≡ top
RunsRise low (run ∷ runs) top = (low < run.end) × RunsRise run.end runs top

-- the kinds of the slots from low on
abbrev pub kinds_of : (low : ℕ) → List Run → List SlotKind
kinds_of low [] = []
kinds_of low (run ∷ runs) = replicate (run.end - low) run.kind ++ kinds_of run.end runs

-- ---- the slots of parameters

-- the slots of a parameter, from the slot i on
abbrev pub holds_param : List SlotKind → ParamKind → ℕ → (i : ℕ) → Bool
holds_param kinds param.Value n i = is_number (slice_get kinds i)
holds_param kinds param.Place n i = is_place_of n (slice_get kinds i)
holds_param kinds param.Mix n i = is_place_of 1 (slice_get kinds i) && is_number (slice_get kinds (suc i))
holds_param kinds param.Cells n i = numbers_from n kinds i
holds_param kinds param.Link n i = is_link_of n (slice_get kinds i)

-- how many slots a parameter has
abbrev pub param_slots : ParamKind → ℕ → ℕ
param_slots param.Value n = 1
param_slots param.Place n = 1
param_slots param.Mix n = 2
param_slots param.Cells n = n
param_slots param.Link n = 1

-- the slots from i on are those of the parameters, in order
abbrev pub hold_params : List SlotKind → List CodeParam → (i : ℕ) → Bool
hold_params kinds [] i = true
hold_params kinds (p ∷ ps) i = holds_param kinds p.kind p.cells i && hold_params kinds ps (i + param_slots p.kind p.cells)

-- a head of which a frame can be made: the run ends rise to its slots, and its first slots are
-- those of its parameters
pub record IsHead (h : PlainHead) : Type 0 where
  pub rise : RunsRise 0 h.runs h.slots
  pub first : hold_params (kinds_of 0 h.runs) h.params 0 ≡ true

-- ---- a frame before anything is written

-- what a slot holds at first
abbrev pub blank_of : SlotKind → Cell
blank_of slot.Number = cell.Unknown
blank_of (slot.Place n) = cell.Unset
blank_of slot.Mark = cell.Unset
blank_of (slot.Link q) = cell.Unset

-- what the slots of a frame hold at first
abbrev pub blank_cells : PlainHead → List Cell
blank_cells h = map blank_of (kinds_of 0 h.runs)

-- frame 0 of a start: of routine 0, with the input position 0 in slot 0, whose kind is not looked
-- at here: in a sound code it is a number slot
abbrev pub start_frame : PlainHead → PlainFrame
start_frame h = record {
  routine = 0;
  back = 0;
  declared = h.declared;
  kinds = kinds_of 0 h.runs;
  cells = set (blank_cells h) 0 (cell.Int (pos 0));
}

-- ---- arguments

-- what stands for a parameter that is not there
abbrev pub no_param : CodeParam
no_param = record { kind = param.Value; cells = 0 }

-- the cells at a place
abbrev pub cells_at : List PlainFrame → CellPlace → List Cell
cells_at frames place = take place.len (drop place.slot (get_or frames place.frame no_frame).cells)

-- the two slots of a Mix, of which the first is the slot at of the frame me: a place leaves the
-- number slot unknown, a number goes there and is named by the place slot
abbrev pub mix_cells : (me at : ℕ) → Cell → List Cell
mix_cells me at (cell.Place p) = cell.Place p ∷ cell.Unknown ∷ []
mix_cells me at (cell.Int v) = cell.Place (record { frame = me; slot = at + 1; len = 1 }) ∷ cell.Int v ∷ []
mix_cells me at cell.Unknown = []
mix_cells me at cell.Unset = []
mix_cells me at (cell.Mark h) = []

-- the cells at the place that an argument is
abbrev pub cells_behind_argument : List PlainFrame → Cell → List Cell
cells_behind_argument frames (cell.Place p) = cells_at frames p
cells_behind_argument frames (cell.Int v) = []
cells_behind_argument frames cell.Unknown = []
cells_behind_argument frames cell.Unset = []
cells_behind_argument frames (cell.Mark h) = []

-- what an argument puts into the slots of its parameter, of which the first is the slot at of the
-- frame me
abbrev pub arg_cells : List PlainFrame → (me at : ℕ) → ParamKind → Cell → List Cell
arg_cells frames me at param.Value c = c ∷ []
arg_cells frames me at param.Place c = c ∷ []
arg_cells frames me at param.Mix c = mix_cells me at c
arg_cells frames me at param.Cells c = cells_behind_argument frames c
arg_cells frames me at param.Link c = c ∷ []

-- what the first n arguments put into the slots of their parameters
abbrev pub args_cells : List PlainFrame → List CodeParam → List Cell → (n : ℕ) → List Cell
args_cells frames ps args zero = []
args_cells frames ps args (suc n) =
    args_cells frames ps args n
    ++ arg_cells frames (length frames) (length (args_cells frames ps args n)) (get_or ps n no_param).kind (get_or args n cell.Unknown)

-- what the slots of a frame hold that was entered with these arguments
abbrev pub cells_of_call : List PlainFrame → PlainHead → List Cell → List Cell
cells_of_call frames h args =
    args_cells frames h.params args (length h.params) ++ drop (length (args_cells frames h.params args (length h.params))) (blank_cells h)

-- the frame that a call enters
abbrev pub frame_of_call : List PlainFrame → PlainHead → (routine back : ℕ) → List Cell → PlainFrame
frame_of_call frames h routine back args =
    record { routine = routine; back = back; declared = h.declared; kinds = kinds_of 0 h.runs; cells = cells_of_call frames h args }

-- ---- arguments that fit

-- a number
abbrev pub FitsNumber : Cell → Type 0
FitsNumber (cell.Int v) = Unit {0}
FitsNumber (cell.Place p) = ⊥
FitsNumber cell.Unknown = ⊥
FitsNumber cell.Unset = ⊥
FitsNumber (cell.Mark h) = ⊥

-- a place of n cells of which P holds
abbrev pub FitsPlace : (CellPlace → Type 0) → ℕ → Cell → Type 0
FitsPlace P n (cell.Place p) = (p.len ≡ n) × P p
FitsPlace P n (cell.Int v) = ⊥
FitsPlace P n cell.Unknown = ⊥
FitsPlace P n cell.Unset = ⊥
FitsPlace P n (cell.Mark h) = ⊥

-- a number, or a place of one cell of which P holds
abbrev pub FitsMix : (CellPlace → Type 0) → Cell → Type 0
FitsMix P (cell.Place p) = (p.len ≡ 1) × P p
FitsMix P (cell.Int v) = Unit {0}
FitsMix P cell.Unknown = ⊥
FitsMix P cell.Unset = ⊥
FitsMix P (cell.Mark h) = ⊥

-- a link to a frame of routine r, as L says
abbrev pub FitsLink : (ℕ → CellPlace → Type 0) → (r : ℕ) → Cell → Type 0
FitsLink L r (cell.Place p) = (p.slot ≡ 0) × (p.len ≡ 0) × L r p
FitsLink L r (cell.Int v) = ⊥
FitsLink L r cell.Unknown = ⊥
FitsLink L r cell.Unset = ⊥
FitsLink L r (cell.Mark h) = ⊥

-- an argument fits its parameter, where P says of which places, and L of which frames
abbrev pub FitsParam : (CellPlace → Type 0) → (ℕ → CellPlace → Type 0) → ParamKind → ℕ → Cell → Type 0
FitsParam P L param.Value n c = FitsNumber c
FitsParam P L param.Place n c = FitsPlace P n c
FitsParam P L param.Mix n c = FitsMix P c
FitsParam P L param.Cells n c = FitsPlace P n c
FitsParam P L param.Link n c = FitsLink L n c

-- one argument for each parameter, and each fits
pub record FitsParams (P : CellPlace → Type 0) (L : ℕ → CellPlace → Type 0) (ps : List CodeParam) (args : List Cell) : Type 0 where
  pub count : length args ≡ length ps
  pub each : (k : ℕ) → k < length ps → FitsParam P L (get_or ps k no_param).kind (get_or ps k no_param).cells (get_or args k cell.Unknown)
