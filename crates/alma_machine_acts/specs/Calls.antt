-- What calls need and give.
use Rattle.std.specs.Prelude.{◌≡◌, ℕ, suc, ◌+◌, ◌^◌, ◌<◌, ◌≤◌, true, List, Option, None, length, get_or, Some, slice_get, ℤ, Result, Ok}
use Rattle.std.specs.Prelude.{Err, MatchResult}
use Rattle.alma_base.specs.declared.fault.RunFault.{RunFault}
use Rattle.alma_code.specs.declared.cell.Cell.{Cell}
use Rattle.alma_code.specs.declared.cell.Cell.TheVariants as cell
use Rattle.alma_code.specs.declared.cell.CellPlace.{CellPlace}
use Rattle.alma_code.specs.declared.head.CodeParam.{CodeParam}
use Rattle.alma_code.specs.declared.head.ParamKind.{ParamKind}
use Rattle.alma_code.specs.declared.head.ParamKind.TheVariants as param
use Rattle.alma_code.specs.declared.instr.Instr.{Instr}
use Rattle.alma_code.specs.declared.instr.Instr.TheVariants as I
use Rattle.alma_code.specs.Carries.{IsLive}
use Rattle.alma_code.specs.Layout.{FitsParam, FitsParams, no_param}
use Rattle.alma_code.specs.Machine.{State, StepResult, slot_of, as_argument, arguments, numbers_at, ends_in_fault, state_after_leave}
use Rattle.alma_code.specs.Machine.{result_to}
use Rattle.alma_code.specs.Picture.{PlainFrame, last_frame, without_last}
use Rattle.alma_code.specs.Plain.{PlainCode}
use Rattle.alma_machine_acts.specs.Rows.{HasNumber}

-- a place that can be the argument of a parameter for places of n cells
pub record IsArgumentPlace (now : List PlainFrame) (n : ℕ) (p : CellPlace) : Type 0 where
  pub len : p.len ≡ n
  pub live : IsLive now p
  pub numbers : numbers_at n now p.frame p.slot ≡ true

-- a cell that is read as the argument of a parameter: it fits, or is not known yet
abbrev pub HoldsArgument : List PlainFrame → ParamKind → ℕ → Cell → Type 0
HoldsArgument now param.Value n cell.Unknown = Unit {0}
HoldsArgument now param.Value n (cell.Int v) = Unit {0}
HoldsArgument now param.Mix n cell.Unknown = Unit {0}
HoldsArgument now param.Mix n cell.Unset = Unit {0}
HoldsArgument now param.Mix n (cell.Int v) = Unit {0}
HoldsArgument now param.Mix n (cell.Place p) = IsArgumentPlace now 1 p
HoldsArgument now param.Place n cell.Unset = Unit {0}
HoldsArgument now param.Place n (cell.Place p) = IsArgumentPlace now n p
HoldsArgument now param.Cells n cell.Unset = Unit {0}
HoldsArgument now param.Cells n (cell.Place p) = IsArgumentPlace now n p
HoldsArgument now param.Link n cell.Unset = Unit {0}
HoldsArgument now param.Link n (cell.Place p) = (p.slot ≡ 0) × (p.len ≡ 0) × IsLive now p
HoldsArgument now _ n _ = ⊥

-- a slot of the top frame holds such a cell
pub record HasArgument (now : List PlainFrame) (p : CodeParam) (n : ℕ) : Type 0 where
  pub below : n < length (last_frame now).cells
  pub small : n < 2 ^ 32
  pub content : HoldsArgument now p.kind p.cells (get_or (last_frame now).cells n cell.Unset)

-- the slots from the first on hold such cells for the parameters
abbrev pub HasArguments : List PlainFrame → List CodeParam → (first : ℕ) → Type 0
HasArguments now params first = (k : ℕ) → k < length params → HasArgument now (get_or params k no_param) (first + k)

-- a cell is the argument of a parameter in a slot
pub record IsArgument (now : List PlainFrame) (p : CodeParam) (n : ℕ) (c : Cell) : Type 0 where
  pub fits : FitsParam (IsLive now) (λ _. IsLive now) p.kind p.cells c
  pub read : (s : State) (k : Cell → StepResult) → s.now ≡ now → as_argument p.kind p.cells (slot_of s n) s k ≡ k c

-- reading an argument goes on with a cell that fits its parameter, or ends in the fault
abbrev pub GivesArgument : List PlainFrame → CodeParam → ℕ → Result Cell RunFault → Type 0
GivesArgument now p n result = MatchResult result
    (λ c. IsArgument now p n c)
    (λ f. (s : State) (k : Cell → StepResult) → s.now ≡ now → as_argument p.kind p.cells (slot_of s n) s k ≡ ends_in_fault f s)

-- reading all arguments goes on with cells that fit their parameters, or ends in the fault
abbrev pub GivesArguments : List PlainFrame → List CodeParam → (first : ℕ) → Option RunFault → List Cell → Type 0
GivesArguments now params first None args =
    FitsParams (IsLive now) (λ _. IsLive now) params args
    × ((s : State) (k : List Cell → StepResult) → s.now ≡ now → arguments params s first k ≡ k args)
GivesArguments now params first (Some f) args = (s : State) (k : List Cell → StepResult) → s.now ≡ now
    → arguments params s first k ≡ ends_in_fault f s

-- the top frame can return a number: it was called, and the caller has a slot for it
pub record CallsBack (code : PlainCode) (now : List PlainFrame) : Type 0 where
  pub some : 2 ≤ length now
  pub routine : ℕ
  pub first : ℕ
  pub to : ℕ
  pub at : ℕ
  pub behind : (last_frame now).back ≡ suc at
  pub call : slice_get code.instrs at ≡ Some (I.Call routine first to)
  pub slot : HasNumber (without_last now) to

-- the number goes to the slot that the instruction names, or the run ends in the fault
abbrev pub back_or_fault : Option Instr → State → Result ℤ RunFault → StepResult
back_or_fault o s (Ok v) = result_to o (state_after_leave s) v
back_or_fault o s (Err f) = ends_in_fault f s
