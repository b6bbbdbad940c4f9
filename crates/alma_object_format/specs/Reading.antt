-- The code that stands in the bytes of an object, record by record.
use Rattle.std.specs.Prelude.{ℕ, ◌+◌, ◌-◌, ◌*◌, nat_eq, List, [], ◌∷◌, map, get_or, slice_range}
use Rattle.std.specs.List.{range_with_len}
use Rattle.alma_base.specs.declared.number.Range.{Range}
use Rattle.alma_code.specs.declared.cell.SlotKind.{SlotKind}
use Rattle.alma_code.specs.declared.cell.SlotKind.TheVariants as slot
use Rattle.alma_code.specs.declared.code.Line.{Line}
use Rattle.alma_code.specs.declared.head.CodeParam.{CodeParam}
use Rattle.alma_code.specs.declared.head.ParamKind.{ParamKind}
use Rattle.alma_code.specs.declared.head.ParamKind.TheVariants as param
use Rattle.alma_code.specs.declared.head.Run.{Run}
use Rattle.alma_code.specs.Plain.{PlainCode, PlainRoutine, PlainGlobal}
use Rattle.alma_object_format.specs.declared.header.Header.{Header}
use Rattle.alma_object_format.specs.Bytes.{u32_at, i64_at}
use Rattle.alma_object_format.specs.Instrs.{instr_at}
use Rattle.alma_object_format.specs.Header.{globals_at, params_at, runs_at, ranges_at, name_pool_at, text_pool_at, instrs_at, lines_at}
use Rattle.alma_object_format.specs.Lengths.{global_len, param_len, run_len, range_len, instr_len, line_len}
use Rattle.alma_object_format.specs.Walk.{start_of, routine_field, params_end, runs_end, code_end, text_end, name_end}

-- the items with the numbers below n
abbrev pub items : {A : Type 0} → (ℕ → A) → (n : ℕ) → List A
items of n = map of (range_with_len 0 n)

-- ---- records, each at its offset

-- the kind of a param with a number; Link for each other number
abbrev pub param_kind : ℕ → ParamKind
param_kind n = get_or (param.Value ∷ param.Place ∷ param.Mix ∷ param.Cells ∷ []) n param.Link

-- the kind of a run with a number, and with its length or routine; Link for each other number
abbrev pub slot_kind : (kind size : ℕ) → SlotKind
slot_kind n size = get_or (slot.Number ∷ slot.Place size ∷ slot.Mark ∷ []) n (slot.Link size)

module _ (bytes : List ℕ) where
  -- the param whose record stands at an offset
  unfoldable pub param_in : (at : ℕ) → CodeParam
  param_in at = record { kind = param_kind (u32_at bytes at); cells = u32_at bytes (at + 4) }

  -- the run whose record stands at an offset
  unfoldable pub run_in : (at : ℕ) → Run
  run_in at = record { kind = slot_kind (u32_at bytes at) (u32_at bytes (at + 4)); end = u32_at bytes (at + 8) }

  -- the range whose record stands at an offset
  unfoldable pub range_in : (at : ℕ) → Range
  range_in at = record { low = i64_at bytes at; high = i64_at bytes (at + 8) }

  -- the line whose record stands at an offset
  unfoldable pub line_in : (at : ℕ) → Line
  line_in at = record { at = u32_at bytes at; line = u32_at bytes (at + 4) }

  -- the params of n records from an offset on
  abbrev pub params_in : (at n : ℕ) → List CodeParam
  params_in at n = items (λ k. param_in (at + param_len * k)) n

  -- the runs of n records from an offset on
  abbrev pub runs_in : (at n : ℕ) → List Run
  runs_in at n = items (λ k. run_in (at + run_len * k)) n

-- ---- the whole code

module _ (bytes : List ℕ) (h : Header) where
  -- the name with a number, counted through the routines and then the globals
  unfoldable pub name_in : ℕ → List ℕ
  name_in n = slice_range bytes (name_pool_at h + start_of (name_end bytes h) n) (name_pool_at h + name_end bytes h n)

  -- the text with a number
  unfoldable pub text_in : ℕ → List ℕ
  text_in t = slice_range bytes (text_pool_at h + start_of (text_end bytes h) t) (text_pool_at h + text_end bytes h t)

  -- the routine with a number
  unfoldable pub routine_in : ℕ → PlainRoutine
  routine_in r = record {
    name = name_in r;
    head = record {
      slots = routine_field bytes h 16 r;
      declared = routine_field bytes h 20 r;
      params = params_in bytes (params_at h + param_len * start_of (params_end bytes h) r)
          (params_end bytes h r - start_of (params_end bytes h) r);
      runs = runs_in bytes (runs_at h + run_len * start_of (runs_end bytes h) r) (runs_end bytes h r - start_of (runs_end bytes h) r);
      has_result = nat_eq (routine_field bytes h 24 r) 1;
    };
    code_end = code_end bytes h r;
  }

  -- the global with a number
  unfoldable pub global_in : ℕ → PlainGlobal
  global_in g = record {
    name = name_in (h.routines + g);
    slot = u32_at bytes (globals_at h + global_len * g + 4);
    cells = u32_at bytes (globals_at h + global_len * g + 8);
  }

  -- the code of the sections
  abbrev pub code_in : PlainCode
  code_in = record {
    version = h.version;
    routines = items routine_in h.routines;
    globals = items global_in h.globals;
    ranges = items (λ k. range_in bytes (ranges_at h + range_len * k)) h.ranges;
    texts = items text_in h.texts;
    instrs = items (λ k. instr_at bytes (instrs_at h + instr_len * k)) h.instrs;
    lines = items (λ k. line_in bytes (lines_at h + line_len * k)) h.lines;
  }
