-- What is made where slots are shared: the kinds of the new slots, heads, routines and the whole code.
use Rattle.std.specs.Prelude.{◌≡◌, ◌<◌, ◌≤◌, ℕ, ◌-◌, List, [], ◌∷◌, ◌++◌, length, map, take, drop, get_or, slice_get, set}
use Rattle.std.specs.Prelude.{Option, Some, None, Vec}
use Rattle.std.specs.declared.alloc.Global.{Global}
use Rattle.alma_code.specs.declared.cell.SlotKind.{SlotKind}
use Rattle.alma_code.specs.declared.code.RoutineHead.{RoutineHead}
use Rattle.alma_code.specs.declared.instr.Instr.{Instr}
use Rattle.alma_code.specs.declared.instr.Instr.TheVariants as I
use Rattle.alma_code.specs.Layout.{kinds_of}
use Rattle.alma_code.specs.Plain.{PlainCode, PlainRoutine, no_routine, routine_at, start_at, end_at, kinds_at}
use Rattle.alma_lower_slots.specs.declared.stretch.Stretch.{Stretch}
use Rattle.alma_lower_slots.specs.Runs.{HasHeads}
use Rattle.alma_lower_slots.specs.Sharing.{Sharing, Shares, Renames}
use Rattle.alma_lower_slots.specs.Slots.{rename_slots}
use Rattle.alma_lower_slots.specs.Stretches.{stretch_at, FitsRoutine}
use Rattle.alma_lower_templates.specs.Runs.{NamesKinds}

-- the new number of a slot
abbrev pub slot_in : List Stretch → (n : ℕ) → ℕ
slot_in stretches n = (stretch_at stretches n).slot

-- the kinds of the new slots: no more than before, each that of a slot, and that of each slot under its new number
pub record KindsFor (kinds : List SlotKind) (stretches : List Stretch) (new : List SlotKind) : Type 0 where
  pub fewer : length new ≤ length kinds
  pub named : (n : ℕ) → n < length kinds → slice_get new (slot_in stretches n) ≡ slice_get kinds n
  pub from : (j : ℕ) → j < length new → (n : ℕ) × (n < length kinds) × (slice_get new j ≡ slice_get kinds n)

-- of the first n slots, the kinds that stand at their new numbers, all of them below count; None is where no slot went yet
pub record NamesSoFar (kinds : List SlotKind) (stretches : List Stretch) (n : ℕ) (named : List (Option SlotKind)) (count : ℕ) : Type 0 where
  pub size : length named ≡ length kinds
  pub low : count ≤ length kinds
  pub below : (m : ℕ) → m < n → slot_in stretches m < count
  pub placed : (m : ℕ) → m < n → get_or named (slot_in stretches m) None ≡ slice_get kinds m
  pub from : (j : ℕ) → (get_or named j None ≡ None → ⊥) → (m : ℕ) × (m < length kinds) × (get_or named j None ≡ slice_get kinds m)

-- the new number of a slot is there, it is free or named this kind already, and it is named this kind then
pub record NamesOne (named : List (Option SlotKind)) (slot : ℕ) (kind : SlotKind) (named' : List (Option SlotKind)) : Type 0 where
  pub exists : slot < length named
  pub free : (get_or named slot None ≡ None → ⊥) → get_or named slot None ≡ Some kind
  pub sets : named' ≡ set named slot (Some kind)

-- a routine as before, but with slots of these kinds
pub record HeadOver (old : PlainRoutine) (kinds : List SlotKind) (new : PlainRoutine) : Type 0 where
  pub name : new.name ≡ old.name
  pub code_end : new.code_end ≡ old.code_end
  pub params : new.head.params ≡ old.head.params
  pub declared : new.head.declared ≡ old.head.declared
  pub has_result : new.head.has_result ≡ old.head.has_result
  pub slots : new.head.slots ≡ length kinds
  pub enough : old.head.declared ≤ length kinds
  pub runs : NamesKinds new.head.runs kinds

-- a routine as before, but with its slots, which were of these kinds, behind a renaming
pub record HeadBehind (old : PlainRoutine) (kinds : List SlotKind) (stretches : List Stretch) (new : PlainRoutine) : Type 0 where
  pub kinds_then : List SlotKind
  pub over : KindsFor kinds stretches kinds_then
  pub head : HeadOver old kinds_then new

-- the kinds of the slots of a routine in memory
abbrev pub head_kinds : RoutineHead → List SlotKind
head_kinds head = kinds_of 0 head.kinds.items

-- the kinds of the slots of several
abbrev pub kinds_of_all : List (Vec SlotKind Global) → List (List SlotKind)
kinds_of_all all = map (λ v. v.items) all

-- the instructions of a routine
abbrev pub instrs_in : PlainCode → (r : ℕ) → List Instr
instrs_in code r = take (end_at code r - start_at code r) (drop (start_at code r) code.instrs)

-- a routine whose slots are shared as these stretches say
pub record RoutineOver (code : PlainCode) (own : List ℕ) (stretches : List Stretch) (r : ℕ) (new : PlainRoutine) : Type 0 where
  pub fits : FitsRoutine code own stretches r
  pub behind : HeadBehind (routine_at code r) (kinds_at code r) stretches new

-- one more routine behind others, and its instructions behind theirs
pub record Adds (code : PlainCode) (own : List ℕ) (r : ℕ) (heads : List PlainRoutine) (instrs : List Instr) (heads' : List PlainRoutine)
    (instrs' : List Instr) : Type 0 where
  pub stretches : List Stretch
  pub new : PlainRoutine
  pub routine : RoutineOver code own stretches r new
  pub more_heads : heads' ≡ heads ++ new ∷ []
  pub more_instrs : instrs' ≡ instrs ++ map (rename_slots (slot_in stretches)) (instrs_in code r)

-- the first n routines: what their slots become, their new heads, and their instructions renamed
pub record SharesSoFar (code : PlainCode) (own : List ℕ) (n : ℕ) (heads : List PlainRoutine) (instrs : List Instr) : Type 0 where
  pub all : List (List Stretch)
  pub many : length all ≡ n
  pub count : length heads ≡ n
  pub size : length instrs ≡ start_at code n
  pub routines : (r : ℕ) → r < n → RoutineOver code own (get_or all r []) r (get_or heads r no_routine)
  pub renames : (r at : ℕ) → r < n → start_at code r ≤ at → at < end_at code r
      → get_or instrs at I.Fail ≡ rename_slots (slot_in (get_or all r [])) (get_or code.instrs at I.Fail)

-- a code with these heads and these instructions
abbrev pub code_with : PlainCode → List PlainRoutine → List Instr → PlainCode
code_with code heads instrs = record {
  version = code.version;
  routines = heads;
  globals = code.globals;
  ranges = code.ranges;
  texts = code.texts;
  instrs = instrs;
  lines = code.lines;
}

-- a code whose slots are shared in some way
pub record IsSharedOf (code new : PlainCode) : Type 0 where
  pub sharing : Sharing
  pub shares : Shares code sharing
  pub renames : Renames code sharing new
  pub heads : HasHeads code new
