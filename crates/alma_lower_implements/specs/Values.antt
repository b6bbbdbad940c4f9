-- What the variables of the module hold where a run has come to success.
use Rattle.std.specs.Prelude.{◌≡◌, ◌≤◌, ◌<◌, ℕ, suc, ◌+◌, List, length, Option, None, Some}
use Rattle.std.specs.List.{AllByRecursion}
use Rattle.alma_base.specs.Limits.{input_limit}
use Rattle.alma_code.specs.declared.cell.Cell.{Cell}
use Rattle.alma_code.specs.declared.cell.Cell.TheVariants as cell
use Rattle.alma_code.specs.declared.step.End.TheVariants as end
use Rattle.alma_code.specs.Machine.{Ended}
use Rattle.alma_code.specs.Picture.{PlainFrame, cell_at}
use Rattle.alma_code.specs.Plain.{PlainCode}
use Rattle.alma_ir.specs.Tree.{Program}
use Rattle.alma_mean.specs.Events.{Events, Visit, Print, Alt, Fail, Fault, Cut}
use Rattle.alma_mean.specs.Meaning.{ev_program}
use Rattle.alma_mean.specs.Store.{Store, Unknown, Number, At}
use Rattle.alma_mean.specs.Store as store
use Rattle.alma_lower_implements.specs.Implements.{state_after}

-- the store of the first alternative, where there is one
abbrev pub first_store : {A : Type 0} → Events A → Option Store
first_store (Visit e) = first_store e
first_store (Print bytes e) = first_store e
first_store (Alt s flow e) = Some s
first_store Fail = None
first_store (Fault fault line) = None
first_store Cut = None

-- what a cell of the store is taken for in the machine: Unknown for Unknown, Int for a number, and Unset for any place
abbrev pub cell_of_value : store.Cell → Cell
cell_of_value Unknown = cell.Unknown
cell_of_value (Number v) = cell.Int v
cell_of_value (At place) = cell.Unset

-- each variable of the module holds in the first frame, cell for cell, what it holds in the store
abbrev pub HoldsValues : Program → Store → List PlainFrame → Type 0
HoldsValues p s frames = AllByRecursion (λ g. (k : ℕ) → k < g.cells
    → cell_at frames 0 (g.slot + k) cell.Unknown ≡ cell_of_value (store.cell_at s 0 (g.slot + k))) p.globals

-- Where n steps of the code have come to success, the variables of the module hold what they hold in the store of the first alternative of
-- the meaning.
abbrev pub KeepsValues : PlainCode → Program → Type 0
KeepsValues code p =
    (input : List ℕ) → length input ≤ input_limit → (n : ℕ) → (state_after code input n).mode ≡ Ended end.Succeeded
    → (s : Store) × (first_store (ev_program (suc n) p input) ≡ Some s) × HoldsValues p s (state_after code input n).now
