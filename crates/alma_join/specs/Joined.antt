-- One program of several modules that were checked apart: bare procedures are imports, each of which
-- has its match in another module.
use Rattle.std.specs.Prelude.{◌≡◌, ℕ, zero, suc, ◌+◌, ◌-◌, ◌<◌, ◌≤◌, Bool, true, false, ◌&&◌, ◌||◌, not, nat_eq, nat_lt, List, [], ◌∷◌}
use Rattle.std.specs.Prelude.{◌++◌, length, map, drop, sum_by, Option, Some, None}
use Rattle.std.specs.List.{list_any, AllByRecursion}
use Rattle.alma_base.specs.Choice.{if_true}
use Rattle.alma_base.specs.Limits.{cell_limit, routine_slot_limit, record_limit, pool_limit}
use Rattle.alma_base.specs.Numbers.{int_eq}
use Rattle.alma_base.specs.declared.number.Range.{Range}
use Rattle.alma_ir.specs.declared.program.ArgKind.{ArgKind}
use Rattle.alma_ir.specs.declared.program.ArgKind.TheVariants as kind
use Rattle.alma_ir.specs.declared.program.Param.{Param}
use Rattle.alma_ir.specs.Tree.{Stmts, Routine, Global, Program, routine_at, no_stmts, more_stmts}
use Rattle.alma_ir.specs.Phrases.{stmts_phrases}
use Rattle.alma_ir.specs.Checked.{IsChecked, param_slots, link_slots, text_bytes}
use Rattle.alma_rules.specs.Parts.{append_stmts}
use Rattle.alma_copy.specs.Moved.{Moves, moved_stmts, moved_routine}
use Rattle.alma_copy.specs.Numbers.{slot_behind}

-- ---- imports

-- there are no statements
abbrev pub is_empty : Stmts → Bool
is_empty no_stmts = true
is_empty (more_stmts line x rest) = false

-- a procedure of the module with no statements, no slots but those of its parameters, and no
-- procedure inside
abbrev pub is_bare : Program → (r : ℕ) → Routine → Bool
is_bare p r routine =
    nat_eq routine.level 1
    && (is_empty routine.body
    && (nat_eq routine.slots (sum_by param_slots routine.params) && not (list_any (λ x. nat_eq x.outer r) p.routines)))

-- a routine that stays: the module in which it stands, from 1, its number there, and itself
pub record Kept : Type 0 where
  pub unit : ℕ
  pub number : ℕ
  pub routine : Routine

-- those of the routines from this number on that are not bare
abbrev pub kept_from : (unit : ℕ) → Program → (r : ℕ) → List Routine → List Kept
kept_from unit p r [] = []
kept_from unit p r (x ∷ rest) =
    if_true (is_bare p r x) (λ _. kept_from unit p (suc r) rest)
    (λ _. record { unit = unit; number = r; routine = x } ∷ kept_from unit p (suc r) rest)

-- the procedures of a module that stay
abbrev pub kept_of : (unit : ℕ) → Program → List Kept
kept_of unit p = kept_from unit p 1 (drop 1 p.routines)

-- those of all modules, in their order
abbrev pub kept_in : (unit : ℕ) → List Program → List Kept
kept_in unit [] = []
kept_in unit (p ∷ ps) = kept_of unit p ++ kept_in (suc unit) ps

-- ---- matches

-- two names are alike
abbrev pub same_name : List ℕ → List ℕ → Bool
same_name [] [] = true
same_name (a ∷ x) (b ∷ y) = nat_eq a b && same_name x y
same_name [] (b ∷ y) = false
same_name (a ∷ x) [] = false

-- what stays as a procedure of another module under this name, each with its new number
abbrev pub matches : List Kept → (at unit : ℕ) → (name : List ℕ) → List (ℕ × Routine)
matches [] at unit name = []
matches (k ∷ rest) at unit name =
    if_true (nat_eq k.routine.level 1 && (not (nat_eq k.unit unit) && same_name k.routine.name name))
    (λ _. (at, k.routine) ∷ matches rest (suc at) unit name) (λ _. matches rest (suc at) unit name)

-- ---- new numbers

-- the new number of a routine that stays; a number that none of them has stays as it is
abbrev pub number_of_kept : List Kept → (at unit r : ℕ) → ℕ
number_of_kept [] at unit r = r
number_of_kept (k ∷ rest) at unit r = if_true (nat_eq k.unit unit && nat_eq k.number r) (λ _. at) (λ _. number_of_kept rest (suc at) unit r)

-- the number of the first match
abbrev pub first_match : List (ℕ × Routine) → ℕ
first_match [] = 0
first_match (m ∷ rest) = m.0

-- the new number of a routine of a module: the body's is 0, and an import has that of its match
abbrev pub new_number : List Kept → (unit : ℕ) → Program → ℕ → ℕ
new_number all unit p zero = 0
new_number all unit p (suc r) =
    if_true (is_bare p (suc r) (routine_at p (suc r))) (λ _. first_match (matches all 1 unit (routine_at p (suc r)).name))
    (λ _. number_of_kept all 1 unit (suc r))

-- the slots of a module's body without the input position
abbrev pub own_slots : Program → ℕ
own_slots p = (routine_at p 0).slots - 1

-- ---- faults

-- what is wrong with an import, or the module with which a bound is first passed
pub data JoinFault : Type 0 where
  Missing : (unit routine : ℕ) → JoinFault
  Twice : (unit routine : ℕ) → JoinFault
  HeadDiffers : (unit routine : ℕ) → JoinFault
  TooLarge : (unit : ℕ) → JoinFault

-- two parameters are handed over in the same way
abbrev pub same_kind : ArgKind → ArgKind → Bool
same_kind kind.Value kind.Value = true
same_kind kind.Value _ = false
same_kind kind.Place kind.Place = true
same_kind kind.Place _ = false
same_kind kind.Mix kind.Mix = true
same_kind kind.Mix _ = false
same_kind kind.Cells kind.Cells = true
same_kind kind.Cells _ = false

-- two ranges have the same ends
abbrev pub same_range : Range → Range → Bool
same_range a b = int_eq a.low b.low && int_eq a.high b.high

-- kind, cells and range; the slots follow from them
abbrev pub same_params : List Param → List Param → Bool
same_params [] [] = true
same_params (a ∷ x) (b ∷ y) = (same_kind a.kind b.kind && (nat_eq a.cells b.cells && same_range a.range b.range)) && same_params x y
same_params [] (b ∷ y) = false
same_params (a ∷ x) [] = false

-- both give a result of the same range, or neither gives one
abbrev pub same_result : Option Range → Option Range → Bool
same_result None None = true
same_result (Some a) (Some b) = same_range a b
same_result None (Some b) = false
same_result (Some a) None = false

-- two routines take the same parameters and give the same result
abbrev pub same_head : Routine → Routine → Bool
same_head a b = same_params a.params b.params && same_result a.result b.result

-- the fault of an import, given its matches
abbrev pub match_fault : (unit r : ℕ) → Routine → List (ℕ × Routine) → Option JoinFault
match_fault unit r routine [] = Some (Missing unit r)
match_fault unit r routine (m ∷ []) = if_true (same_head m.1 routine) (λ _. None) (λ _. Some (HeadDiffers unit r))
match_fault unit r routine (m ∷ (m2 ∷ rest)) = Some (Twice unit r)

-- the first fault, or else what comes next
abbrev pub or_next : Option JoinFault → (Unit {0} → Option JoinFault) → Option JoinFault
or_next (Some f) next = Some f
or_next None next = next tt

-- the first fault of the imports among the routines from this number on
abbrev pub fault_from : List Kept → (unit : ℕ) → Program → (r : ℕ) → List Routine → Option JoinFault
fault_from all unit p r [] = None
fault_from all unit p r (x ∷ rest) =
    or_next (if_true (is_bare p r x) (λ _. match_fault unit r x (matches all 1 unit x.name)) (λ _. None))
    (λ _. fault_from all unit p (suc r) rest)

-- and of all modules
abbrev pub import_fault : List Kept → (unit : ℕ) → List Program → Option JoinFault
import_fault all unit [] = None
import_fault all unit (p ∷ ps) = or_next (fault_from all unit p 1 (drop 1 p.routines)) (λ _. import_fault all (suc unit) ps)

-- six quantities that a program bounds
pub record Totals : Type 0 where
  pub declared : ℕ
  pub slots : ℕ
  pub globals : ℕ
  pub params : ℕ
  pub names : ℕ
  pub texts : ℕ

-- those of no module
abbrev pub no_totals : Totals
no_totals = record { declared = 0; slots = 0; globals = 0; params = 0; names = 0; texts = 0 }

-- those of a module as it stands are added
abbrev pub with_unit : Totals → Program → Totals
with_unit t p = record {
  declared = t.declared + (routine_at p 0).declared;
  slots = t.slots + (routine_at p 0).slots;
  globals = t.globals + length p.globals;
  params = t.params + sum_by (λ r. length r.params + link_slots r.level) p.routines;
  names = t.names + (sum_by (λ r. length r.name) p.routines + sum_by (λ g. length g.name) p.globals);
  texts = t.texts + sum_by (λ r. sum_by text_bytes (stmts_phrases r.body)) p.routines;
}

-- one of them passes its bound
abbrev pub passes : Totals → Bool
passes t =
    nat_lt cell_limit t.declared
    || (nat_lt routine_slot_limit t.slots
    || (nat_lt record_limit t.globals
    || (nat_lt record_limit t.params || (nat_lt pool_limit t.names || nat_lt pool_limit t.texts))))

-- the first module with which they do
abbrev pub size_fault : Totals → (unit : ℕ) → List Program → Option JoinFault
size_fault t unit [] = None
size_fault t unit (p ∷ ps) = if_true (passes (with_unit t p)) (λ _. Some (TooLarge unit)) (λ _. size_fault (with_unit t p) (suc unit) ps)

-- the fault of some modules: of imports first
abbrev pub join_fault : List Program → Option JoinFault
join_fault units = or_next (import_fault (kept_in 1 units) 1 units) (λ _. size_fault no_totals 1 units)

-- ---- the program

-- how the body of a module is numbered anew: its slots stand behind those of the modules before
abbrev pub body_moves : List Kept → (unit : ℕ) → Program → (before : ℕ) → Moves
body_moves all unit p before = record { own = slot_behind before; global = slot_behind before; routine = new_number all unit p }

-- how a procedure of it is numbered anew: its own slots stay
abbrev pub procedure_moves : List Kept → (unit : ℕ) → Program → (before : ℕ) → Moves
procedure_moves all unit p before = record { own = λ slot. slot; global = slot_behind before; routine = new_number all unit p }

-- a variable moved behind so many slots
abbrev pub global_behind : (before : ℕ) → Global → Global
global_behind before g = record g { slot = slot_behind before g.slot }

-- the globals of all modules in their order, moved behind the slots of the modules before, of which there are `before`
abbrev pub joined_globals : (before : ℕ) → List Program → List Global
joined_globals before [] = []
joined_globals before (p ∷ ps) = map (global_behind before) p.globals ++ joined_globals (before + own_slots p) ps

-- the statements of all bodies
abbrev pub joined_stmts : List Kept → (unit before : ℕ) → List Program → Stmts
joined_stmts all unit before [] = no_stmts
joined_stmts all unit before (p ∷ ps) =
    append_stmts (moved_stmts (body_moves all unit p before) (routine_at p 0).body) (joined_stmts all (suc unit) (before + own_slots p) ps)

-- the lines of those statements
abbrev pub joined_lines : List Program → List ℕ
joined_lines [] = []
joined_lines (p ∷ ps) = (routine_at p 0).lines ++ joined_lines ps

-- the procedures that stay
abbrev pub joined_procedures : List Kept → (unit before : ℕ) → List Program → List Routine
joined_procedures all unit before [] = []
joined_procedures all unit before (p ∷ ps) =
    map (λ k. moved_routine (procedure_moves all unit p before) k.routine) (kept_of unit p)
    ++ joined_procedures all (suc unit) (before + own_slots p) ps

-- the program that holds nothing, where there is none
abbrev pub no_program : Program
no_program = record { name = []; globals = []; routines = [] }

-- the first module
abbrev pub first_of : List Program → Program
first_of [] = no_program
first_of (p ∷ ps) = p

-- the body of the joined module
abbrev pub joined_body : List Program → Routine
joined_body units = record (routine_at (first_of units) 0) {
  declared = sum_by (λ p. (routine_at p 0).declared) units;
  slots = 1 + sum_by own_slots units;
  body = joined_stmts (kept_in 1 units) 1 0 units;
  lines = joined_lines units;
}

-- the joined program: the first module's name, the globals of all, their bodies as one, and the procedures that stay
abbrev pub joined_program : List Program → Program
joined_program units = record {
  name = (first_of units).name;
  globals = joined_globals 0 units;
  routines = joined_body units ∷ joined_procedures (kept_in 1 units) 1 0 units;
}

-- ---- what is promised

-- the greatest number of modules that are joined
abbrev pub greatest_units : ℕ
greatest_units = 16

-- checked programs: one or more, and at most so many
pub record AreUnits (units : List Program) : Type 0 where
  pub some : 0 < length units
  pub few : length units ≤ greatest_units
  pub checked : AllByRecursion IsChecked units

-- with no fault the joined program is a checked one
abbrev pub JoinedIsChecked : Type 0
JoinedIsChecked = (units : List Program) → AreUnits units → join_fault units ≡ None → IsChecked (joined_program units)

-- no procedure of the program is bare
abbrev pub HasNoImport : Program → Type 0
HasNoImport p = (r : ℕ) → 0 < r → r < length p.routines → is_bare p r (routine_at p r) ≡ false

-- and a program with no import, alone, is itself
abbrev pub AloneIsItself : Type 0
AloneIsItself = (p : Program) → IsChecked p → HasNoImport p → joined_program (p ∷ []) ≡ p
