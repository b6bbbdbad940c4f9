-- Where the runs of a routine begin, and what it is that a run covers a slot.
use Rattle.std.specs.Prelude.{◌≡◌, ℕ, zero, suc, ◌+◌, ◌<◌, ◌≤◌, Bool, true, ◌&&◌, ◌||◌, nat_lt, List, [], ◌∷◌, length, get_or, Option, Some}
use Rattle.std.specs.Prelude.{slice_get}
use Rattle.alma_code.specs.declared.cell.SlotKind.{SlotKind}
use Rattle.alma_code.specs.declared.cell.SlotKind.TheVariants as slot
use Rattle.alma_code.specs.declared.head.CodeParam.{CodeParam}
use Rattle.alma_code.specs.declared.head.ParamKind.{ParamKind}
use Rattle.alma_code.specs.declared.head.ParamKind.TheVariants as param
use Rattle.alma_code.specs.declared.head.Run.{Run}
use Rattle.alma_code.specs.Head.{PlainHead}
use Rattle.alma_code.specs.Kinds.{is_number, is_place_of, is_link_of}
use Rattle.alma_code.specs.Layout.{RunsRise}
use Rattle.alma_code.specs.Plain.{PlainGlobal}
use Rattle.alma_code.specs.Rules.{last_end}

-- what stands for a run that is not there
abbrev pub no_run : Run
no_run = record { kind = slot.Number; end = 0 }

-- what stands for a global that is not there
abbrev pub no_global : PlainGlobal
no_global = record { name = []; slot = 0; cells = 0 }

-- its runs rise to the end of the last of them
abbrev pub HasRisingRuns : PlainHead → Type 0
HasRisingRuns h = RunsRise 0 h.runs (last_end 0 h.runs)

-- the first slot of run i, where the first run begins at low
abbrev pub begin_from : (low : ℕ) → List Run → (i : ℕ) → ℕ
begin_from low runs zero = low
begin_from low [] (suc i) = low
begin_from low (run ∷ runs) (suc i) = begin_from run.end runs i

-- the slot i is below the end of the run, and each slot from i up to that end has the run's kind
pub record Covers (kinds : List SlotKind) (i : ℕ) (run : Run) : Type 0 where
  pub within : i < run.end
  pub kind : (k : ℕ) → i ≤ k → k < run.end → slice_get kinds k ≡ Some run.kind

-- n runs end at or before the slot, and run n, where there is one, ends behind it
pub record Passes (runs : List Run) (slot n : ℕ) : Type 0 where
  pub most : n ≤ length runs
  pub before : begin_from 0 runs n ≤ slot
  pub behind : n < length runs → slot < (get_or runs n no_run).end

-- a slot of the kind can be the argument of a parameter of this kind and number
abbrev pub takes : ParamKind → ℕ → Option SlotKind → Bool
takes param.Value n kind = is_number kind
takes param.Place n kind = is_place_of n kind
takes param.Mix n kind = is_number kind || is_place_of 1 kind
takes param.Cells n kind = is_place_of n kind
takes param.Link n kind = is_link_of n kind

-- the slots from i on, of these kinds, of the routine r can be the arguments of the parameters, and none is the input position
abbrev pub fit_slots : (r : ℕ) → List SlotKind → List CodeParam → (i : ℕ) → Bool
fit_slots r kinds [] i = true
fit_slots r kinds (p ∷ ps) i = (nat_lt 0 (r + i) && takes p.kind p.cells (slice_get kinds i)) && fit_slots r kinds ps (suc i)
