-- The parts of a joined program, unit after unit.
use Rattle.std.specs.Prelude.{◌≡◌, ℕ, ◌+◌, ◌-◌, List, ◌∷◌, ◌++◌, map, sum_by}
use Rattle.alma_copy.specs.Moved.{Moves, moved_stmts, moved_routine, moved_global}
use Rattle.alma_copy.specs.Numbers.{slot_behind, number_in}
use Rattle.alma_ir.specs.Tree.{Routine, Program, routine_at}
use Rattle.alma_ir.specs.View.{routine_of, global_of, stmts_list}
use Rattle.alma_join.specs.Joined.{kept_in, kept_of, own_slots, joined_globals, joined_stmts, joined_lines}
use Rattle.alma_join.specs.Joined.{joined_procedures}
use Rattle.alma_join.specs.declared.part.Parts.{Parts}
use Rattle.alma_rules.specs.Parts.{append_stmts}

-- the new numbers in the body of a module, and in its procedures
abbrev pub body_numbers : List ℕ → (before : ℕ) → Moves
body_numbers numbers before = record { own = slot_behind before; global = slot_behind before; routine = number_in numbers }

-- in a procedure its own slots stay
abbrev pub procedure_numbers : List ℕ → (before : ℕ) → Moves
procedure_numbers numbers before = record { own = slot_behind 0; global = slot_behind before; routine = number_in numbers }

-- the body of a module is added, and nothing else
pub record AddsBody (a b : Parts) (routine : Routine) (m : Moves) : Type 0 where
  pub globals : b.globals ≡ a.globals
  pub procedures : b.procedures ≡ a.procedures
  pub body : stmts_list b.body.items ≡ append_stmts (stmts_list a.body.items) (moved_stmts m routine.body)
  pub lines : b.lines.items ≡ a.lines.items ++ routine.lines
  pub declared : b.declared ≡ a.declared + routine.declared
  pub slots : b.slots ≡ a.slots + (routine.slots - 1)

-- a module is added
pub record AddsUnit (a b : Parts) (p : Program) (numbers : List ℕ) : Type 0 where
  pub globals : map global_of b.globals.items ≡ map global_of a.globals.items ++ map (moved_global (body_numbers numbers a.slots)) p.globals
  pub body : stmts_list b.body.items ≡ append_stmts (stmts_list a.body.items)
      (moved_stmts (body_numbers numbers a.slots) (routine_at p 0).body)
  pub lines : b.lines.items ≡ a.lines.items ++ (routine_at p 0).lines
  pub procedures : (unit : ℕ) → map routine_of b.procedures.items
      ≡ map routine_of a.procedures.items ++ map (λ k. moved_routine (procedure_numbers numbers a.slots) k.routine) (kept_of unit p)
  pub declared : b.declared ≡ a.declared + (routine_at p 0).declared
  pub slots : b.slots ≡ a.slots + own_slots p

-- the parts of all modules
pub record ArePartsOf (parts : Parts) (units : List Program) : Type 0 where
  pub globals : map global_of parts.globals.items ≡ joined_globals 0 units
  pub body : stmts_list parts.body.items ≡ joined_stmts (kept_in 1 units) 1 0 units
  pub lines : parts.lines.items ≡ joined_lines units
  pub procedures : map routine_of parts.procedures.items ≡ joined_procedures (kept_in 1 units) 1 0 units
  pub declared : parts.declared ≡ sum_by (λ p. (routine_at p 0).declared) units
  pub slots : parts.slots ≡ sum_by own_slots units

-- a program of these parts, with the name of a module and the head of its body
abbrev pub with_body : Program → Parts → Program
with_body first parts = record {
  name = first.name;
  globals = map global_of parts.globals.items;
  routines = record (routine_at first 0) {
    declared = parts.declared;
    slots = 1 + parts.slots;
    body = stmts_list parts.body.items;
    lines = parts.lines.items;
  } ∷ map routine_of parts.procedures.items;
}
