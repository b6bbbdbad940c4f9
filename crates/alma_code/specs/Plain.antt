-- A code as plain data: what the tables of a code in memory and the bytes of an object both stand
-- for.
use Rattle.std.specs.Prelude.{ℕ, zero, suc, List, [], map, get_or, false}
use Rattle.alma_base.specs.declared.number.Range.{Range}
use Rattle.alma_code.specs.declared.cell.SlotKind.{SlotKind}
use Rattle.alma_code.specs.declared.instr.Instr.{Instr}
use Rattle.alma_code.specs.declared.code.RoutineHead.{RoutineHead}
use Rattle.alma_code.specs.declared.code.CodeGlobal.{CodeGlobal}
use Rattle.alma_code.specs.declared.code.Code.{Code}
use Rattle.alma_code.specs.declared.code.Line.{Line}
use Rattle.alma_code.specs.Head.{PlainHead}
use Rattle.alma_code.specs.Layout.{kinds_of}

-- a routine: its name, its head, and the address behind its last instruction
pub record PlainRoutine : Type 0 where
  pub name : List ℕ
  pub head : PlainHead
  pub code_end : ℕ

-- a variable of the module: its name and its slots in frame 0
pub record PlainGlobal : Type 0 where
  pub name : List ℕ
  pub slot : ℕ
  pub cells : ℕ

-- a code: the version of its format, its tables, its instructions, and the lines of addresses
pub record PlainCode : Type 0 where
  pub version : ℕ
  pub routines : List PlainRoutine
  pub globals : List PlainGlobal
  pub ranges : List Range
  pub texts : List (List ℕ)
  pub instrs : List Instr
  pub lines : List Line

-- ---- what a code in memory stands for

-- the head of a routine
abbrev pub head_of : RoutineHead → PlainHead
head_of r = record { slots = r.slots; declared = r.declared; params = r.params.items; runs = r.kinds.items; has_result = r.result }

-- a routine
abbrev pub routine_of : RoutineHead → PlainRoutine
routine_of r = record { name = r.name.items; head = head_of r; code_end = r.code_end }

-- a variable of the module
abbrev pub global_of : CodeGlobal → PlainGlobal
global_of g = record { name = g.name.items; slot = g.slot; cells = g.cells }

-- the whole code
abbrev pub code_of : Code → PlainCode
code_of c = record {
  version = c.version;
  routines = map routine_of c.routines.items;
  globals = map global_of c.globals.items;
  ranges = c.ranges.items;
  texts = map (λ t. t.items) c.texts.items;
  instrs = c.code.items;
  lines = c.lines.items;
}

-- ---- the parts of a code

-- what stands for a routine that is not there
abbrev pub no_routine : PlainRoutine
no_routine = record { name = []; head = record { slots = 0; declared = 0; params = []; runs = []; has_result = false }; code_end = 0 }

-- a routine of the code
abbrev pub routine_at : PlainCode → ℕ → PlainRoutine
routine_at code r = get_or code.routines r no_routine

-- the head of a routine
abbrev pub head_at : PlainCode → ℕ → PlainHead
head_at code r = (routine_at code r).head

-- the address of the first instruction of a routine
abbrev pub start_at : PlainCode → ℕ → ℕ
start_at code zero = 0
start_at code (suc before) = (routine_at code before).code_end

-- the address behind the last instruction of a routine
abbrev pub end_at : PlainCode → ℕ → ℕ
end_at code r = (routine_at code r).code_end

-- the kinds of the slots of a routine
abbrev pub kinds_at : PlainCode → ℕ → List SlotKind
kinds_at code r = kinds_of 0 (head_at code r).runs
