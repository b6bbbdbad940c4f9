-- The walk over the bytes of an object behind its header, section by section, and the first fault
-- that it meets.
use Rattle.std.specs.Prelude.{ℕ, zero, suc, ◌+◌, ◌-◌, ◌*◌, Bool, not, ◌&&◌, ◌||◌, nat_eq, nat_lt, nat_le, int_le, if◌then◌else◌, Option}
use Rattle.std.specs.Prelude.{None, List, length, slice_index}
use Rattle.alma_base.specs.Reading.{is_digit}
use Rattle.alma_code.specs.Records.{is_name_start, latest_version}
use Rattle.alma_object_format.specs.declared.fault.ObjectFault.{ObjectFault}
use Rattle.alma_object_format.specs.declared.fault.ObjectFault.TheVariants as fault
use Rattle.alma_object_format.specs.declared.header.Header.{Header}
use Rattle.alma_object_format.specs.Bytes.{u32_at, i64_at}
use Rattle.alma_object_format.specs.Instrs.{is_instr}
use Rattle.alma_base.specs.FirstFault.{unless, or_else}
use Rattle.alma_object_format.specs.Fault.{whole, first_fault}
use Rattle.alma_object_format.specs.Header.{header_of, header_fault, routines_at, globals_at, params_at, runs_at, ranges_at, texts_at}
use Rattle.alma_object_format.specs.Header.{name_pool_at, text_pool_at, instrs_at, lines_at, end_at}
use Rattle.alma_object_format.specs.Lengths.{routine_len, global_len, param_len, run_len, range_len, text_end_len, instr_len, line_len}

-- ---- ends

-- where the part of an item begins: where that of the item before ends
abbrev pub start_of : (end : ℕ → ℕ) → ℕ → ℕ
start_of end zero = 0
start_of end (suc before) = end before

-- an end is not below the start nor above the count, and the last is the count
abbrev pub is_end : (start end count : ℕ) (last : Bool) → Bool
is_end start end count last = nat_le start end && (nat_le end count && (not last || nat_eq end count))

-- the end of a name, which has at least one byte
abbrev pub is_name_end : (start end count : ℕ) (last : Bool) → Bool
is_name_end start end count last = nat_lt start end && (nat_le end count && (not last || nat_eq end count))

-- a letter or `_` can stand in a name, and a digit where it is not the first byte
abbrev pub can_stand : (first : Bool) → ℕ → Bool
can_stand first byte = is_name_start byte || (not first && is_digit byte)

-- ---- kinds

-- a param of the kind with a number has one cell: a Value and a Mix
abbrev pub has_one_cell : (kind : ℕ) → Bool
has_one_cell kind = nat_eq kind 0 || nat_eq kind 2

-- the last kind of a param, of a version: 0 Value, 1 Place, 2 Mix, 3 Cells, and of the latest 4
-- Link
abbrev pub last_param_kind : (version : ℕ) → ℕ
last_param_kind version = if nat_eq version latest_version then 4 else 3

-- the last kind of a run, of a version: 0 Number, 1 Place, 2 Mark, and of the latest 3 Link
abbrev pub last_run_kind : (version : ℕ) → ℕ
last_run_kind version = if nat_eq version latest_version then 3 else 2

-- a run of the kind with a number has a length: that of a Place, and the routine of a Link
abbrev pub has_length : (kind : ℕ) → Bool
has_length kind = nat_eq kind 1 || nat_eq kind 3

module _ (bytes : List ℕ) (h : Header) where
  -- the field at an offset in the record of a routine: the ends of its name, params, runs and code
  -- stand at 0, 4, 8 and 12, its slots at 16, its declared cells at 20, its result at 24
  abbrev pub routine_field : (field routine : ℕ) → ℕ
  routine_field field routine = u32_at bytes (routines_at h + routine_len * routine + field)

  -- where the params of a routine end
  unfoldable pub params_end : ℕ → ℕ
  params_end routine = routine_field 4 routine

  -- where its runs end
  unfoldable pub runs_end : ℕ → ℕ
  runs_end routine = routine_field 8 routine

  -- where its code ends
  unfoldable pub code_end : ℕ → ℕ
  code_end routine = routine_field 12 routine

  -- where a text ends
  unfoldable pub text_end : ℕ → ℕ
  text_end text = u32_at bytes (texts_at h + text_end_len * text)

  -- how many names there are: those of the routines, and behind them those of the globals
  abbrev pub name_count : ℕ
  name_count = h.routines + h.globals

  -- where a name ends
  unfoldable pub name_end : ℕ → ℕ
  name_end name = if nat_lt name h.routines then u32_at bytes (routines_at h + routine_len * name) else u32_at bytes
      (globals_at h + global_len * (name - h.routines))

  -- ---- routines

  -- of the record of a routine, field by field; the field of its result is 0 or 1
  unfoldable pub routine_fault : ℕ → Option ObjectFault
  routine_fault r =
      let at = routines_at h + routine_len * r in
      let last = nat_eq (r + 1) h.routines in
      whole bytes (at + routine_len)
      (unless (is_name_end (start_of name_end r) (name_end r) h.name_bytes (nat_eq (r + 1) name_count)) (fault.BadName at)
      (unless (is_end (start_of params_end r) (params_end r) h.params last) (fault.BadCount (at + 4))
      (unless (is_end (start_of runs_end r) (runs_end r) h.runs last) (fault.BadCount (at + 8))
      (unless (is_end (start_of code_end r) (code_end r) h.instrs last) (fault.BadCount (at + 12))
      (unless (nat_le (routine_field 24 r) 1) (fault.BadCount (at + 24)) None)))))

  -- of all routines
  abbrev pub routines_fault : Option ObjectFault
  routines_fault = first_fault routine_fault 0 h.routines

  -- ---- globals

  -- of the record of a global
  unfoldable pub global_fault : ℕ → Option ObjectFault
  global_fault g =
      let at = globals_at h + global_len * g in
      let name = h.routines + g in
      whole bytes (at + global_len)
      (unless (is_name_end (start_of name_end name) (name_end name) h.name_bytes (nat_eq (name + 1) name_count)) (fault.BadName at) None)

  -- of all globals
  abbrev pub globals_fault : Option ObjectFault
  globals_fault = first_fault global_fault 0 h.globals

  -- ---- params

  -- of the record of a param: its kind is one of the version; a Value and a Mix have one cell
  unfoldable pub param_fault : ℕ → Option ObjectFault
  param_fault p =
      let at = params_at h + param_len * p in
      let kind = u32_at bytes at in
      whole bytes (at + param_len)
      (unless (nat_le kind (last_param_kind h.version)) (fault.BadCount at)
      (unless (not (has_one_cell kind) || nat_eq (u32_at bytes (at + 4)) 1) (fault.BadCount (at + 4)) None))

  -- of all params
  abbrev pub params_fault : Option ObjectFault
  params_fault = first_fault param_fault 0 h.params

  -- ---- runs

  -- of the record of a run: its kind is one of the version; the length of a Number or Mark is 0; it
  -- differs from the run before in the same routine in kind or length; and its end is above the end
  -- of that run, or above 0
  unfoldable pub run_fault : (first : Bool) → ℕ → Option ObjectFault
  run_fault first r =
      let at = runs_at h + run_len * r in
      let kind = u32_at bytes at in
      let same = nat_eq (u32_at bytes (at - run_len)) kind && nat_eq (u32_at bytes (at - 8)) (u32_at bytes (at + 4)) in
      whole bytes (at + run_len)
      (unless (nat_le kind (last_run_kind h.version)) (fault.BadCount at)
      (unless (has_length kind || nat_eq (u32_at bytes (at + 4)) 0) (fault.BadCount (at + 4))
      (unless (first || not same) (fault.BadCount (at + 4))
      (unless (nat_lt (if first then 0 else u32_at bytes (at - 4)) (u32_at bytes (at + 8))) (fault.BadCount (at + 8)) None))))

  -- of the runs of a routine
  unfoldable pub routine_runs_fault : ℕ → Option ObjectFault
  routine_runs_fault r =
      first_fault (λ run. run_fault (nat_eq run (start_of runs_end r)) run) (start_of runs_end r) (runs_end r - start_of runs_end r)

  -- of the runs of all routines
  abbrev pub runs_fault : Option ObjectFault
  runs_fault = first_fault routine_runs_fault 0 h.routines

  -- ---- ranges

  -- of the record of a range: low is at most high
  unfoldable pub range_fault : ℕ → Option ObjectFault
  range_fault r =
      let at = ranges_at h + range_len * r in
      whole bytes (at + range_len) (unless (int_le (i64_at bytes at) (i64_at bytes (at + 8))) (fault.BadCount (at + 8)) None)

  -- of all ranges
  abbrev pub ranges_fault : Option ObjectFault
  ranges_fault = first_fault range_fault 0 h.ranges

  -- ---- texts

  -- of the record of a text, which is its end
  unfoldable pub text_fault : ℕ → Option ObjectFault
  text_fault t =
      let at = texts_at h + text_end_len * t in
      whole bytes (at + text_end_len) (unless (is_end (start_of text_end t) (text_end t) h.text_bytes (nat_eq (t + 1) h.texts))
      (fault.BadCount at)
      None)

  -- of all texts
  abbrev pub texts_fault : Option ObjectFault
  texts_fault = first_fault text_fault 0 h.texts

  -- ---- the pools

  -- of the bytes of a name
  unfoldable pub name_fault : ℕ → Option ObjectFault
  name_fault n =
      let start = start_of name_end n in
      first_fault (λ i. unless (can_stand (nat_eq i start) (slice_index bytes (name_pool_at h + i))) (fault.BadName (name_pool_at h + i))
      None)
      start (name_end n - start)

  -- of the name bytes, and behind them the text bytes, of which none is looked at
  abbrev pub pools_fault : Option ObjectFault
  pools_fault = whole bytes (text_pool_at h) (or_else (first_fault name_fault 0 name_count) (whole bytes (instrs_at h) None))

  -- ---- the code

  -- of the record of an instruction
  unfoldable pub instr_fault : ℕ → Option ObjectFault
  instr_fault i =
      let at = instrs_at h + instr_len * i in
      whole bytes (at + instr_len) (unless (is_instr h.version bytes at) (fault.BadOpcode at) None)

  -- of all instructions
  abbrev pub instrs_fault : Option ObjectFault
  instrs_fault = first_fault instr_fault 0 h.instrs

  -- ---- lines

  -- of the record of a line: its address is above that of the line before, and below the count of
  -- instructions
  unfoldable pub line_fault : ℕ → Option ObjectFault
  line_fault l =
      let at = lines_at h + line_len * l in
      whole bytes (at + line_len)
      (unless ((nat_eq l 0 || nat_lt (u32_at bytes (at - line_len)) (u32_at bytes at)) && nat_lt (u32_at bytes at) h.instrs)
      (fault.BadCount at)
      None)

  -- of all lines
  abbrev pub lines_fault : Option ObjectFault
  lines_fault = first_fault line_fault 0 h.lines

  -- ---- the sections in order, and the end

  -- nothing stands behind the last section
  abbrev pub end_fault : Option ObjectFault
  end_fault = unless (nat_le (length bytes) (end_at h)) (fault.Trailing (end_at h)) None

  -- of the sections behind the header, and of the end
  unfoldable pub sections_fault : Option ObjectFault
  sections_fault =
      or_else routines_fault (or_else globals_fault (or_else params_fault (or_else runs_fault (or_else ranges_fault
      (or_else texts_fault (or_else pools_fault (or_else instrs_fault (or_else lines_fault end_fault))))))))

-- the first fault of the walk over the bytes, or nothing where they are an object
unfoldable pub object_fault : List ℕ → Option ObjectFault
object_fault bytes = or_else (header_fault bytes) (sections_fault bytes (header_of bytes))
