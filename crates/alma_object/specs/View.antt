-- What the views stand for.
use Rattle.std.specs.Prelude.{ℕ, ℤ, ◌+◌, ◌-◌, ◌<◌, ◌≤◌, List, length, get_or, slice_index}
use Rattle.alma_code.specs.declared.code.Line.{Line}
use Rattle.alma_code.specs.Head.{PlainHead}
use Rattle.alma_code.specs.declared.instr.Instr.{Instr}
use Rattle.alma_code.specs.Plain.{PlainCode, PlainRoutine, PlainGlobal}
use Rattle.alma_object.specs.declared.record.InstrRecord.{InstrRecord}
use Rattle.alma_object.specs.declared.routine.RoutineView.{RoutineView}
use Rattle.alma_object.specs.declared.view.ObjectView.{ObjectView}
use Rattle.alma_object.specs.declared.view.readers.GlobalView.{GlobalView}
use Rattle.alma_object_format.specs.Bytes.{u32_at, i64_at}
use Rattle.alma_object_format.specs.Instrs.{instr_at}
use Rattle.alma_object_format.specs.Reading.{params_in, runs_in, code_in}

-- the head of a routine view
abbrev pub head_of_view : RoutineView → PlainHead
head_of_view v = record {
  slots = v.slots;
  declared = v.declared;
  params = params_in v.bytes.now v.params_at v.param_count;
  runs = runs_in v.bytes.now v.runs_at v.run_count;
  has_result = v.result;
}

-- the code of an object view
abbrev pub code_of_view : ObjectView → PlainCode
code_of_view v = code_in v.bytes.now v.header

-- the routine of a routine view
abbrev pub routine_of_view : RoutineView → PlainRoutine
routine_of_view v = record { name = v.name.now; head = head_of_view v; code_end = v.code_end }

-- the global of a global view
abbrev pub global_of_view : GlobalView → PlainGlobal
global_of_view v = record { name = v.name.now; slot = v.slot; cells = v.cells }

-- the instruction of a record
abbrev pub instr_of_record : InstrRecord → Instr
instr_of_record r = instr_at r.bytes.now r.at

-- the opcode of a record
abbrev pub opcode_of_record : InstrRecord → ℕ
opcode_of_record r = slice_index r.bytes.now r.at

-- the word of a record behind so many bytes of it: 1, 5, 9 or 13
abbrev pub word_of_record : InstrRecord → ℕ → ℕ
word_of_record r k = u32_at r.bytes.now (r.at + k)

-- the value in a record of a Const, in the second and third word
abbrev pub value_of_record : InstrRecord → ℤ
value_of_record r = i64_at r.bytes.now (r.at + 5)

-- what stands for a line that is not there
abbrev pub no_line : Line
no_line = record { at = 0; line = 0 }

-- the k-th line, counted from 1, begins at or before an address where k is above 0, and the line
-- behind it, where there is one, begins behind the address
pub record IsSplit (at : ℕ) (lines : List Line) (k : ℕ) : Type 0 where
  pub top : k ≤ length lines
  pub before : 0 < k → (get_or lines (k - 1) no_line).at ≤ at
  pub behind : k < length lines → at < (get_or lines k no_line).at
