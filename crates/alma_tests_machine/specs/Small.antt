-- A code of one routine with few slots, for tests.
use Rattle.std.specs.Prelude.{ℕ, List, [], ◌∷◌, length, false, pos, codes}
use Rattle.alma_code.specs.declared.cell.SlotKind.TheVariants as slot
use Rattle.alma_code.specs.declared.instr.Instr.{Instr}
use Rattle.alma_code.specs.Plain.{PlainCode, PlainRoutine}

-- five number slots, the first for the input position, and a place slot for one cell; four number slots, a place slot for
-- four cells and two for two cells
abbrev pub small_routine : ℕ → PlainRoutine
small_routine code_end = record {
  name = codes "A";
  head = record {
    slots = 13;
    declared = 2;
    params = [];
    runs = record { kind = slot.Number; end = 5 } ∷ record { kind = slot.Place 1; end = 6 } ∷ record { kind = slot.Number; end = 10 }
        ∷ record { kind = slot.Place 4; end = 11 } ∷ record { kind = slot.Place 2; end = 13 } ∷ [];
    has_result = false;
  };
  code_end = code_end;
}

-- a code of such a routine, with a range and a text
abbrev pub small_code : List Instr → PlainCode
small_code instrs = record {
  version = 1;
  routines = small_routine (length instrs) ∷ [];
  globals = [];
  ranges = record { low = pos 1; high = pos 2 } ∷ [];
  texts = codes "ok" ∷ [];
  instrs = instrs;
  lines = [];
}
