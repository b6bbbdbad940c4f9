-- An object has no fault: its sections.
use Rattle.std.proofs.Common.{◌≡◌, ℕ, zero, suc, ◌+◌, ◌-◌, ◌*◌, ◌^◌, ◌<◌, ◌≤◌, pos, Bool, true, false, ◌&&◌, not, None, List, [], ◌∷◌}
use Rattle.std.proofs.Common.{length, get_or, take, map, refl, sym, ap, subst, ◌∙◌, arith, inl, inr}
use Rattle.std.specs.Prelude.{nat_eq, nat_lt, nat_le, int_le, ◌||◌, if◌then◌else◌, sum_by, slice_index}
use Rattle.std.specs.List.{flat_map, list_all}
use Rattle.std.proofs.lemmas.Bool.{cases_lt}
use Rattle.std.proofs.lemmas.List.{get_or-map, get_or_append_left, get_or-append-add, length-map, length-append}
use Rattle.std.proofs.lemmas.List.Concat.{length-flat_map}
use Rattle.std.proofs.lemmas.List.Sums.{sum_by-append}
use Rattle.alma_base.specs.declared.number.Range.{Range}
use Rattle.alma_code.specs.declared.cell.SlotKind.{SlotKind}
use Rattle.alma_code.specs.declared.cell.SlotKind.TheVariants as slot
use Rattle.alma_code.specs.declared.head.CodeParam.{CodeParam}
use Rattle.alma_code.specs.declared.head.ParamKind.{ParamKind}
use Rattle.alma_code.specs.declared.head.ParamKind.TheVariants as param
use Rattle.alma_code.specs.declared.head.Run.{Run}
use Rattle.alma_code.specs.declared.instr.Instr.TheVariants as I
use Rattle.alma_code.specs.Layout.{RunsRise}
use Rattle.alma_code.specs.Plain.{PlainCode, PlainRoutine, PlainGlobal, routine_at, head_at, start_at, end_at, no_routine}
use Rattle.alma_code.specs.Records.{param_count, run_count, name_byte_count, text_byte_count, is_name, has_cells, same_kind, runs_differ}
use Rattle.alma_code.specs.Records.{is_routine_record, is_first_kind, is_first_param, is_first_form, is_first_routine, IsFirst}
use Rattle.alma_code.proofs.Tables.{end_inside}
use Rattle.alma_object_format.specs.declared.fault.ObjectFault.TheVariants as fault
use Rattle.alma_object_format.specs.Bytes.{i64_bytes, u32_at, i64_at}
use Rattle.alma_base.proofs.FirstFault.{unless_clean, or_clean}
use Rattle.alma_base.specs.FirstFault.{unless}
use Rattle.alma_object.specs.Fields.{FitsFields}
use Rattle.alma_object_format.specs.Header.{routines_at, globals_at, params_at, runs_at, ranges_at, texts_at, name_pool_at, text_pool_at}
use Rattle.alma_object_format.specs.Header.{instrs_at, lines_at, end_at as end_offset}
use Rattle.alma_object_format.specs.Instrs.{instr_bytes, is_instr}
use Rattle.alma_object_format.specs.Object.{IsObject, end_of, no_global, param_number, slot_number, slot_size, routine_bytes, global_bytes}
use Rattle.alma_object_format.specs.Object.{text_end_bytes, param_bytes, run_bytes, range_bytes, line_bytes}
use Rattle.alma_object.specs.View.{no_line}
use Rattle.alma_object_format.specs.Walk.{start_of, is_end, is_name_end, routine_field, params_end, runs_end, code_end, text_end, name_end}
use Rattle.alma_object_format.specs.Walk.{name_count as names_count, has_one_cell, has_length, routine_fault, global_fault, param_fault}
use Rattle.alma_object_format.specs.Walk.{run_fault}
use Rattle.alma_object_format.specs.Walk.{routine_runs_fault, range_fault, text_fault, name_fault, pools_fault, instr_fault, line_fault}
use Rattle.alma_object_format.specs.Walk.{end_fault, sections_fault, object_fault, can_stand}
use Rattle.alma_object.proofs.Accepted.{header_for, header_is, header_clean}
use Rattle.alma_object.proofs.Ends.{both, end_more, end_within, start_is, is_end_good, end_good, name_end_good, sum_map, end_first}
use Rattle.alma_object.proofs.Ends.{end_second, section_nth, stands_part, flat_at, byte_stands, all_flat, all_at, name_stands, name_some}
use Rattle.alma_object.proofs.Fields.{IsRead, field, instr_read}
use Rattle.alma_object_format.proofs.Kept.{and_parts}
use Rattle.alma_object.proofs.LineOrder.{below_from, next_line}
use Rattle.alma_object.proofs.Places.{object_length, SectionsStand, sections_stand, names_of, instr_length, routine_length, global_length}
use Rattle.alma_object.proofs.Places.{text_length, param_length, run_length, range_length, line_length}
use Rattle.alma_object.proofs.Sections.{name_end_routine, name_end_global}
use Rattle.alma_object.proofs.Stands.{Stands, AreWords, no_words, more_words, stands_first, stands_second, stands_as, stands_within}
use Rattle.alma_object.proofs.Stands.{stands_nth, i64_stands, i64_length, first_clean, whole_true, le_test, lt_test, eq_test}
use Rattle.alma_object.proofs.Stands.{ne_test}

abbrev pub no_param : CodeParam
no_param = record { kind = param.Value; cells = 0 }

abbrev pub no_run : Run
no_run = record { kind = slot.Number; end = 0 }

abbrev pub no_range : Range
no_range = record { low = pos 0; high = pos 0 }

-- ---- what stands at the offsets of an object

module _ (code : PlainCode) (bytes : List ℕ) (object : IsObject code bytes) (fits : FitsFields code) where
  stand : SectionsStand code bytes
  stand = sections_stand code bytes object

  -- the fields of a routine
  pub record RoutineStands (r : ℕ) : Type 0 where
    pub is_whole : routines_at (header_for code) + 28 * r + 28 ≤ length bytes
    pub name : routine_field bytes (header_for code) 0 r ≡ end_of (λ x. length x.name) code.routines r
    pub params : routine_field bytes (header_for code) 4 r ≡ end_of (λ x. length x.head.params) code.routines r
    pub runs : routine_field bytes (header_for code) 8 r ≡ end_of (λ x. length x.head.runs) code.routines r
    pub code_end : routine_field bytes (header_for code) 12 r ≡ end_at code r
    pub slots : routine_field bytes (header_for code) 16 r ≡ (head_at code r).slots
    pub declared : routine_field bytes (header_for code) 20 r ≡ (head_at code r).declared
    pub result : routine_field bytes (header_for code) 24 r ≡ (if (head_at code r).has_result then 1 else 0)

  small_result : (b : Bool) → (if b then 1 else 0) < 2 ^ 32
  small_result true = omega arith
  small_result false = omega arith

  pub routine_stands : (r : ℕ) → r < length code.routines → RoutineStands r
  unfolding routine_bytes
  routine_stands r lt =
      let h = header_for code in
      let s = section_nth bytes (routines_at h) 28 (routine_bytes code) (length code.routines) (routine_length code) stand.routines r lt in
      let x = routine_at code r in
      let one = fits.routines r no_routine lt in
      let c = object.counts in
      let names = end_within (λ (x : PlainRoutine). length x.name) code.routines r in
      let params = end_within (λ (x : PlainRoutine). length x.head.params) code.routines r in
      let runs = end_within (λ (x : PlainRoutine). length x.head.runs) code.routines r in
      let last = end_inside code object.table r lt in
      let ns = end_of (λ (x : PlainRoutine). length x.name) code.routines r
      ∷ end_of (λ (x : PlainRoutine). length x.head.params) code.routines r
      ∷ end_of (λ (x : PlainRoutine). length x.head.runs) code.routines r
      ∷ x.code_end ∷ x.head.slots ∷ x.head.declared ∷ (if x.head.has_result then 1 else 0) ∷ [] in
      let fit : AreWords ns = more_words _ _ (omega (arith, c.names))
      (more_words _ _ (omega (arith, c.params)) (more_words _ _ (omega (arith, c.runs)) (more_words _ _ (omega (arith, c.instrs))
      (more_words _ _ one.slots (more_words _ _ one.declared (more_words _ _ (small_result x.head.has_result) no_words)))))) in
      record {
        is_whole = omega (arith, stands_within bytes (routines_at h + 28 * r) (routine_bytes code r) s, routine_length code r);
        name = field bytes (routines_at h + 28 * r) 0 ns fit s (omega arith);
        params = field bytes (routines_at h + 28 * r) 1 ns fit s (omega arith);
        runs = field bytes (routines_at h + 28 * r) 2 ns fit s (omega arith);
        code_end = field bytes (routines_at h + 28 * r) 3 ns fit s (omega arith);
        slots = field bytes (routines_at h + 28 * r) 4 ns fit s (omega arith);
        declared = field bytes (routines_at h + 28 * r) 5 ns fit s (omega arith);
        result = field bytes (routines_at h + 28 * r) 6 ns fit s (omega arith);
      }

  -- the fields of a global
  pub record GlobalStands (g : ℕ) : Type 0 where
    pub is_whole : globals_at (header_for code) + 12 * g + 12 ≤ length bytes
    pub name : u32_at bytes (globals_at (header_for code) + 12 * g) ≡ sum_by (λ x. length x.name) code.routines
        + end_of (λ x. length x.name) code.globals g
    pub slot : u32_at bytes (globals_at (header_for code) + 12 * g + 4) ≡ (get_or code.globals g no_global).slot
    pub cells : u32_at bytes (globals_at (header_for code) + 12 * g + 8) ≡ (get_or code.globals g no_global).cells

  pub global_stands : (g : ℕ) → g < length code.globals → GlobalStands g
  unfolding global_bytes
  global_stands g lt =
      let h = header_for code in
      let at = globals_at h + 12 * g in
      let s = section_nth bytes (globals_at h) 12 (global_bytes code) (length code.globals) (global_length code) stand.globals g lt in
      let x = get_or code.globals g no_global in
      let one = fits.globals g no_global lt in
      let names = end_within (λ (x : PlainGlobal). length x.name) code.globals g in
      let ns = (sum_by (λ (x : PlainRoutine). length x.name) code.routines + end_of (λ (x : PlainGlobal). length x.name) code.globals g)
      ∷ x.slot ∷ x.cells ∷ [] in
      let fit : AreWords ns = more_words _ _ (omega (arith, object.counts.names))
      (more_words _ _ one.slot (more_words _ _ one.cells no_words)) in
      record {
        is_whole = omega (arith, stands_within bytes at (global_bytes code g) s, global_length code g);
        name = (let z : at + 0 ≡ at = omega arith in ap (u32_at bytes) (sym z) ∙ field bytes at 0 ns fit s (omega arith));
        slot = field bytes at 1 ns fit s (omega arith);
        cells = field bytes at 2 ns fit s (omega arith);
      }

  -- the fields of a parameter
  abbrev params_all : List CodeParam
  params_all = flat_map (λ r. r.head.params) code.routines

  small_kind : (k : ParamKind) → param_number k < 2 ^ 32
  small_kind param.Value = omega arith
  small_kind param.Place = omega arith
  small_kind param.Mix = omega arith
  small_kind param.Cells = omega arith
  small_kind param.Link = omega arith

  pub record ParamStands (p : ℕ) : Type 0 where
    pub is_whole : params_at (header_for code) + 8 * p + 8 ≤ length bytes
    pub kind : u32_at bytes (params_at (header_for code) + 8 * p) ≡ param_number (get_or params_all p no_param).kind
    pub cells : u32_at bytes (params_at (header_for code) + 8 * p + 4) ≡ (get_or params_all p no_param).cells

  pub param_stands : (p : ℕ) → p < length params_all → ParamStands p
  unfolding param_bytes
  param_stands p lt =
      let at = params_at (header_for code) + 8 * p in
      let x = get_or params_all p no_param in
      let s = stands_nth bytes (params_at (header_for code)) 8 param_bytes params_all param_length stand.params p no_param lt in
      let ns = param_number x.kind ∷ x.cells ∷ [] in
      let fit : AreWords ns = more_words _ _ (small_kind x.kind) (more_words _ _ (fits.params p no_param lt) no_words) in
      record {
        is_whole = omega (arith, stands_within bytes at (param_bytes x) s, param_length x);
        kind = (let z : at + 0 ≡ at = omega arith in ap (u32_at bytes) (sym z) ∙ field bytes at 0 ns fit s (omega arith));
        cells = field bytes at 1 ns fit s (omega arith);
      }

  -- the fields of a run
  abbrev runs_all : List Run
  runs_all = flat_map (λ r. r.head.runs) code.routines

  small_slot : (k : SlotKind) → slot_number k < 2 ^ 32
  small_slot slot.Number = omega arith
  small_slot (slot.Place n) = omega arith
  small_slot slot.Mark = omega arith
  small_slot (slot.Link n) = omega arith

  pub record RunStands (p : ℕ) : Type 0 where
    pub is_whole : runs_at (header_for code) + 12 * p + 12 ≤ length bytes
    pub kind : u32_at bytes (runs_at (header_for code) + 12 * p) ≡ slot_number (get_or runs_all p no_run).kind
    pub size : u32_at bytes (runs_at (header_for code) + 12 * p + 4) ≡ slot_size (get_or runs_all p no_run).kind
    pub end : u32_at bytes (runs_at (header_for code) + 12 * p + 8) ≡ (get_or runs_all p no_run).end

  pub run_stands : (p : ℕ) → p < length runs_all → RunStands p
  unfolding run_bytes
  run_stands p lt =
      let at = runs_at (header_for code) + 12 * p in
      let x = get_or runs_all p no_run in
      let one = fits.runs p no_run lt in
      let s = stands_nth bytes (runs_at (header_for code)) 12 run_bytes runs_all run_length stand.runs p no_run lt in
      let ns = slot_number x.kind ∷ slot_size x.kind ∷ x.end ∷ [] in
      let fit : AreWords ns = more_words _ _ (small_slot x.kind) (more_words _ _ one.size (more_words _ _ one.end no_words)) in
      record {
        is_whole = omega (arith, stands_within bytes at (run_bytes x) s, run_length x);
        kind = (let z : at + 0 ≡ at = omega arith in ap (u32_at bytes) (sym z) ∙ field bytes at 0 ns fit s (omega arith));
        size = field bytes at 1 ns fit s (omega arith);
        end = field bytes at 2 ns fit s (omega arith);
      }

  -- the bounds of a range
  pub record RangeStands (k : ℕ) : Type 0 where
    pub is_whole : ranges_at (header_for code) + 16 * k + 16 ≤ length bytes
    pub low : i64_at bytes (ranges_at (header_for code) + 16 * k) ≡ (get_or code.ranges k no_range).low
    pub high : i64_at bytes (ranges_at (header_for code) + 16 * k + 8) ≡ (get_or code.ranges k no_range).high

  pub range_stands : (k : ℕ) → k < length code.ranges → RangeStands k
  unfolding range_bytes
  range_stands k lt =
      let at = ranges_at (header_for code) + 16 * k in
      let x = get_or code.ranges k no_range in
      let one = fits.ranges k no_range lt in
      let s = stands_nth bytes (ranges_at (header_for code)) 16 range_bytes code.ranges range_length stand.ranges k no_range lt in
      record {
        is_whole = omega (arith, stands_within bytes at (range_bytes x) s, range_length x);
        low = i64_stands bytes at x.low one.low (stands_first bytes at (i64_bytes x.low) (i64_bytes x.high) s);
        high = i64_stands bytes (at + 8) x.high one.high
            (stands_second bytes at (at + 8) (i64_bytes x.low) (i64_bytes x.high) (omega (arith, i64_length x.low)) s);
      }

  -- the end of a text
  pub text_end_is : (t : ℕ) → t < length code.texts → (texts_at (header_for code) + 4 * t + 4 ≤ length bytes)
      × (text_end bytes (header_for code) t ≡ end_of length code.texts t)
  unfolding text_end_bytes text_end
  text_end_is t lt =
      let at = texts_at (header_for code) + 4 * t in
      let s = section_nth bytes (texts_at (header_for code)) 4 (text_end_bytes code) (length code.texts) (text_length code) stand.texts t
      lt in
      let ns = end_of length code.texts t ∷ [] in
      let within = end_within length code.texts t in
      let fit : AreWords ns = more_words _ _ (omega (arith, object.counts.text_bytes)) no_words in
      let z : at + 0 ≡ at = omega arith in (
        omega (arith, stands_within bytes at (text_end_bytes code t) s, text_length code t),
        ap (u32_at bytes) (sym z)
            ∙ field bytes at 0 ns fit s (omega arith),
      )

  -- the address and the line of a line
  pub line_below : (k : ℕ) → k < length code.lines → (get_or code.lines k no_line).at < length code.instrs
  line_below k lt = (below_from 0 (length code.instrs) code.lines object.records.lines k lt).1

  pub record LineStands (k : ℕ) : Type 0 where
    pub is_whole : lines_at (header_for code) + 8 * k + 8 ≤ length bytes
    pub at_is : u32_at bytes (lines_at (header_for code) + 8 * k) ≡ (get_or code.lines k no_line).at
    pub line : u32_at bytes (lines_at (header_for code) + 8 * k + 4) ≡ (get_or code.lines k no_line).line

  pub line_stands : (k : ℕ) → k < length code.lines → LineStands k
  unfolding line_bytes
  line_stands k lt =
      let at = lines_at (header_for code) + 8 * k in
      let x = get_or code.lines k no_line in
      let s = stands_nth bytes (lines_at (header_for code)) 8 line_bytes code.lines line_length stand.lines k no_line lt in
      let ns = x.at ∷ x.line ∷ [] in
      let fit : AreWords ns = more_words _ _ (omega (arith, line_below k lt, object.counts.instrs))
      (more_words _ _ (fits.lines k no_line lt) no_words) in
      record {
        is_whole = omega (arith, stands_within bytes at (line_bytes x) s, line_length x);
        at_is = (let z : at + 0 ≡ at = omega arith in ap (u32_at bytes) (sym z) ∙ field bytes at 0 ns fit s (omega arith));
        line = field bytes at 1 ns fit s (omega arith);
      }

  -- an instruction
  pub instr_stands : (k : ℕ) → k < length code.instrs → (instrs_at (header_for code) + 17 * k + 17 ≤ length bytes)
      × IsRead bytes (instrs_at (header_for code) + 17 * k) (get_or code.instrs k I.Fail)
  instr_stands k lt =
      let at = instrs_at (header_for code) + 17 * k in
      let x = get_or code.instrs k I.Fail in
      let s = stands_nth bytes (instrs_at (header_for code)) 17 instr_bytes code.instrs instr_length stand.instrs k I.Fail lt in
      (omega (arith, stands_within bytes at (instr_bytes x) s, instr_length x), instr_read bytes at x (fits.instrs k I.Fail lt) s)

  -- ---- names

  pub names_total : sum_by length (names_of code) ≡ name_byte_count code
  names_total =
      sum_by-append length (map (λ (r : PlainRoutine). r.name) code.routines) (map (λ (g : PlainGlobal). g.name) code.globals)
      ∙ ap (λ n. n + sum_by length (map (λ (g : PlainGlobal). g.name) code.globals))
      (sum_map length (λ (r : PlainRoutine). r.name) code.routines)
      ∙ ap (λ n. sum_by (λ (r : PlainRoutine). length r.name) code.routines + n) (sum_map length (λ (g : PlainGlobal). g.name) code.globals)

  pub names_length : length (names_of code) ≡ length code.routines + length code.globals
  names_length =
      length-append (map (λ (r : PlainRoutine). r.name) code.routines) (map (λ (g : PlainGlobal). g.name) code.globals)
      ∙ omega (arith, length-map code.routines (λ (r : PlainRoutine). r.name), length-map code.globals (λ (g : PlainGlobal). g.name))

  -- a name is that of a routine or of a global
  by_name : (P : ℕ → Type 0) → ((r : ℕ) → r < length code.routines → P r)
      → ((g : ℕ) → g < length code.globals → P (length code.routines + g)) → (n : ℕ) → n < length code.routines + length code.globals → P n
  by_name P routine global n lt = elim (cases_lt n (length code.routines)) [
    | inl below ↦ routine n below
    | inr above ↦ (let e : length code.routines + (n - length code.routines) ≡ n = omega arith in
        subst P e (global (n - length code.routines) (omega arith)))
  ]

  pub name_of_routine : (r : ℕ) → r < length code.routines → get_or (names_of code) r [] ≡ (routine_at code r).name
  name_of_routine r lt =
      get_or_append_left (map (λ (r : PlainRoutine). r.name) code.routines) (map (λ (g : PlainGlobal). g.name) code.globals) [] r
      (omega (arith, length-map code.routines (λ (r : PlainRoutine). r.name)))
      ∙ get_or-map (λ (r : PlainRoutine). r.name) code.routines r no_routine [] lt

  pub name_of_global : (g : ℕ) → g < length code.globals
      → get_or (names_of code) (length code.routines + g) [] ≡ (get_or code.globals g no_global).name
  name_of_global g lt =
      ap (λ n. get_or (names_of code) (n + g) []) (sym (length-map code.routines (λ (r : PlainRoutine). r.name)))
      ∙ get_or-append-add (map (λ (r : PlainRoutine). r.name) code.routines) (map (λ (g : PlainGlobal). g.name) code.globals) g []
      ∙ get_or-map (λ (g : PlainGlobal). g.name) code.globals g no_global [] lt

  pub name_end_is : (n : ℕ) → n < length (names_of code) → name_end bytes (header_for code) n ≡ end_of length (names_of code) n
  name_end_is n lt =
      by_name (λ n. name_end bytes (header_for code) n ≡ end_of length (names_of code) n)
      (λ r below. (let z : routines_at (header_for code) + 28 * r + 0 ≡ routines_at (header_for code) + 28 * r = omega arith in
      name_end_routine bytes (header_for code) r below ∙ ap (u32_at bytes) (sym z) ∙ (routine_stands r below).name
      ∙ sym (end_first length (λ (r : PlainRoutine). r.name) code.routines (map (λ (g : PlainGlobal). g.name) code.globals) r below)))
      (λ g below. name_end_global bytes (header_for code) g ∙ (global_stands g below).name
      ∙ sym (end_second length (λ (r : PlainRoutine). r.name) (λ (g : PlainGlobal). g.name) code.routines code.globals g))
      n (omega (arith, names_length))

  routine_kept : (r : ℕ) → r < length code.routines → is_routine_record (routine_at code r) ≡ true
  routine_kept r lt = all_at is_routine_record code.routines object.records.routines r no_routine lt

  pub named : (n : ℕ) → n < length (names_of code) → is_name (get_or (names_of code) n []) ≡ true
  named n lt =
      by_name (λ n. is_name (get_or (names_of code) n []) ≡ true)
      (λ r below. ap is_name (name_of_routine r below) ∙ (and_parts (is_name (routine_at code r).name) _ (routine_kept r below)).0)
      (λ g below. ap is_name (name_of_global g below)
      ∙ all_at (λ (g : PlainGlobal). is_name g.name) code.globals object.records.globals g no_global below)
      n (omega (arith, names_length))

  name_is_good : (n : ℕ) → n < length (names_of code)
      → is_name_end (start_of (name_end bytes (header_for code)) n) (name_end bytes (header_for code) n) (name_byte_count code)
      (nat_eq (n + 1) (length code.routines + length code.globals)) ≡ true
  name_is_good n lt = name_end_good (names_of code) (name_end bytes (header_for code)) (name_byte_count code)
      (length code.routines + length code.globals) name_end_is names_total names_length n lt (name_some _ (named n lt))

  -- ---- no fault, section by section

  one_bit : (b : Bool) → (if b then 1 else 0) ≤ 1
  one_bit true = omega arith
  one_bit false = omega arith

  start_is_at : (r : ℕ) → r ≤ length code.routines → start_of (code_end bytes (header_for code)) r ≡ start_at code r
  unfolding code_end
  start_is_at zero le = refl
  start_is_at (suc r) le = (routine_stands r (omega arith)).code_end

  routine_clean : (r : ℕ) → r < length code.routines → routine_fault bytes (header_for code) r ≡ None
  unfolding routine_fault params_end runs_end code_end
  routine_clean r lt =
      let h = header_for code in
      let s = routine_stands r lt in
      let rise = object.table.rise r lt in
      let within = end_inside code object.table r lt in
      let start = start_is_at r (omega arith) in
      let last : r + 1 ≡ length code.routines → routine_field bytes h 12 r ≡ length code.instrs = λ e.
      (let f : suc r ≡ length code.routines = omega arith in s.code_end ∙ ap (start_at code) f ∙ object.table.last) in
      whole_true bytes (routines_at h + 28 * r + 28) _ s.is_whole
      (unless_clean (is_name_end (start_of (name_end bytes h) r) (name_end bytes h r) h.name_bytes (nat_eq (r + 1) (names_count bytes h)))
      (fault.BadName (routines_at h + 28 * r)) _ (name_is_good r (omega (arith, names_length)))
      (unless_clean (is_end (start_of (params_end bytes h) r) (params_end bytes h r) h.params (nat_eq (r + 1) h.routines))
      (fault.BadCount (routines_at h + 28 * r + 4)) _
      (end_good (λ (x : PlainRoutine). length x.head.params) code.routines (params_end bytes h) (param_count code) (length code.routines)
      (λ k low. (routine_stands k low).params) refl refl r no_routine lt)
      (unless_clean (is_end (start_of (runs_end bytes h) r) (runs_end bytes h r) h.runs (nat_eq (r + 1) h.routines))
      (fault.BadCount (routines_at h + 28 * r + 8)) _
      (end_good (λ (x : PlainRoutine). length x.head.runs) code.routines (runs_end bytes h) (run_count code) (length code.routines)
      (λ k low. (routine_stands k low).runs) refl refl r no_routine lt)
      (unless_clean (is_end (start_of (code_end bytes h) r) (code_end bytes h r) h.instrs (nat_eq (r + 1) h.routines))
      (fault.BadCount (routines_at h + 28 * r + 12)) _
      (is_end_good (start_of (code_end bytes h) r) (code_end bytes h r) (length code.instrs) (r + 1) (length code.routines)
      (omega (arith, s.code_end)) (omega (arith, s.code_end)) last)
      (unless_clean (nat_le (routine_field bytes h 24 r) 1) (fault.BadCount (routines_at h + 28 * r + 24)) None
      (ap (λ n. nat_le n 1) s.result ∙ le_test _ 1 (one_bit (head_at code r).has_result)) refl)))))

  global_clean : (g : ℕ) → g < length code.globals → global_fault bytes (header_for code) g ≡ None
  unfolding global_fault
  global_clean g lt =
      let h = header_for code in
      whole_true bytes (globals_at h + 12 * g + 12) _ (global_stands g lt).is_whole
      (unless_clean (is_name_end (start_of (name_end bytes h) (length code.routines + g)) (name_end bytes h (length code.routines + g))
      h.name_bytes (nat_eq (length code.routines + g + 1) (names_count bytes h))) (fault.BadName (globals_at h + 12 * g)) None
      (name_is_good (length code.routines + g) (omega (arith, names_length))) refl)

  -- a version that is not 2 has no link
  first_of : nat_eq code.version 2 ≡ false → IsFirst code
  first_of e = elim object.version.version [
    | inl one ↦ object.version.first one
    | inr two ↦ (let t : nat_eq code.version 2 ≡ true = ap (λ v. nat_eq v 2) two in absurd cc)
  ]

  param_first : (k : ParamKind) → is_first_param k ≡ true → param_number k ≤ 3
  param_first param.Value e = omega arith
  param_first param.Place e = omega arith
  param_first param.Mix e = omega arith
  param_first param.Cells e = omega arith
  param_first param.Link e = absurd cc

  param_any : (k : ParamKind) → param_number k ≤ 4
  param_any param.Value = omega arith
  param_any param.Place = omega arith
  param_any param.Mix = omega arith
  param_any param.Cells = omega arith
  param_any param.Link = omega arith

  slot_first : (k : SlotKind) → is_first_kind k ≡ true → slot_number k ≤ 2
  slot_first slot.Number e = omega arith
  slot_first (slot.Place n) e = omega arith
  slot_first slot.Mark e = omega arith
  slot_first (slot.Link n) e = absurd cc

  slot_any : (k : SlotKind) → slot_number k ≤ 3
  slot_any slot.Number = omega arith
  slot_any (slot.Place n) = omega arith
  slot_any slot.Mark = omega arith
  slot_any (slot.Link n) = omega arith

  by_version : (two : Bool) (n a b : ℕ) → n ≤ a → (two ≡ false → n ≤ b) → nat_le n (if two then a else b) ≡ true
  by_version true n a b high low = le_test n a high
  by_version false n a b high low = le_test n b (low refl)

  cells_good : (k : ParamKind) (n : ℕ) → has_cells k n ≡ true
      → (not (has_one_cell (param_number k)) || nat_eq n 1) ≡ true
  cells_good param.Value n e = e
  cells_good param.Place n e = refl
  cells_good param.Mix n e = e
  cells_good param.Cells n e = refl
  cells_good param.Link n e = refl

  params_have : list_all (λ (p : CodeParam). has_cells p.kind p.cells) params_all ≡ true
  params_have = all_flat (λ (p : CodeParam). has_cells p.kind p.cells) is_routine_record (λ (r : PlainRoutine). r.head.params)
      (λ r e. (and_parts (list_all (λ p. has_cells p.kind p.cells) r.head.params) _ (and_parts (is_name r.name) _ e).1).0) code.routines
      object.records.routines

  params_first : nat_eq code.version 2 ≡ false → list_all (λ (p : CodeParam). is_first_param p.kind) params_all ≡ true
  params_first two = all_flat (λ (p : CodeParam). is_first_param p.kind) is_first_routine (λ (r : PlainRoutine). r.head.params)
      (λ r e. (and_parts (list_all (λ run. is_first_kind run.kind) r.head.runs) _ e).1) code.routines (first_of two).routines

  runs_first : nat_eq code.version 2 ≡ false → list_all (λ (x : Run). is_first_kind x.kind) runs_all ≡ true
  runs_first two = all_flat (λ (x : Run). is_first_kind x.kind) is_first_routine (λ (r : PlainRoutine). r.head.runs)
      (λ r e. (and_parts (list_all (λ run. is_first_kind run.kind) r.head.runs) _ e).0) code.routines (first_of two).routines

  pub params_length : length params_all ≡ param_count code
  params_length = length-flat_map (λ (r : PlainRoutine). r.head.params) code.routines

  pub runs_length : length runs_all ≡ run_count code
  runs_length = length-flat_map (λ (r : PlainRoutine). r.head.runs) code.routines

  param_clean : (p : ℕ) → p < param_count code → param_fault bytes (header_for code) p ≡ None
  unfolding param_fault
  param_clean p low =
      let h = header_for code in
      let lt : p < length params_all = omega (arith, params_length) in
      let s = param_stands p lt in
      let x = get_or params_all p no_param in
      let at = params_at h + 8 * p in
      whole_true bytes (at + 8) _ s.is_whole
      (unless_clean (nat_le (u32_at bytes at) (if nat_eq h.version 2 then 4 else 3)) (fault.BadCount at) _
      (ap (λ n. nat_le n (if nat_eq h.version 2 then 4 else 3)) s.kind
      ∙ by_version (nat_eq code.version 2) (param_number x.kind) 4 3 (param_any x.kind)
      (λ two. param_first x.kind (all_at (λ (p : CodeParam). is_first_param p.kind) params_all (params_first two) p no_param lt)))
      (unless_clean (not (has_one_cell (u32_at bytes at)) || nat_eq (u32_at bytes (at + 4)) 1)
      (fault.BadCount (at + 4)) None
      (ap (λ n. not (has_one_cell n) || nat_eq (u32_at bytes (at + 4)) 1) s.kind
      ∙ ap (λ n. not (has_one_cell (param_number x.kind)) || nat_eq n 1) s.cells
      ∙ cells_good x.kind x.cells (all_at (λ (p : CodeParam). has_cells p.kind p.cells) params_all params_have p no_param lt)) refl))

  -- ---- runs

  pub runs_start : (r : ℕ) → r ≤ length code.routines
      → start_of (runs_end bytes (header_for code)) r ≡ sum_by (λ x. length x.head.runs) (take r code.routines)
  unfolding runs_end
  runs_start r le = start_is (λ (x : PlainRoutine). length x.head.runs) code.routines (runs_end bytes (header_for code))
      (λ k low. (routine_stands k low).runs) r le

  run_of : (r j : ℕ) → r < length code.routines → j < length (head_at code r).runs
      → get_or runs_all (sum_by (λ x. length x.head.runs) (take r code.routines) + j) no_run ≡ get_or (head_at code r).runs j no_run
  run_of r j lt low = flat_at (λ (x : PlainRoutine). x.head.runs) code.routines r j no_routine no_run lt low

  run_inside : (r j : ℕ) → r < length code.routines → j < length (head_at code r).runs
      → sum_by (λ x. length x.head.runs) (take r code.routines) + j < length runs_all
  run_inside r j lt low = omega (
    arith,
    end_within (λ (x : PlainRoutine). length x.head.runs) code.routines r,
    end_more (λ (x : PlainRoutine). length x.head.runs) code.routines r no_routine lt,
    runs_length,
  )

  size_good : (k : SlotKind) → (has_length (slot_number k) || nat_eq (slot_size k) 0) ≡ true
  size_good slot.Number = refl
  size_good (slot.Place n) = refl
  size_good slot.Mark = refl
  size_good (slot.Link n) = refl

  -- kinds that differ do so in their numbers
  numbers_differ : (a b : SlotKind) → not (same_kind a b) ≡ true
      → not (nat_eq (slot_number a) (slot_number b) && nat_eq (slot_size a) (slot_size b)) ≡ true
  numbers_differ slot.Number slot.Number e = absurd cc
  numbers_differ slot.Number (slot.Place n) e = refl
  numbers_differ slot.Number slot.Mark e = refl
  numbers_differ slot.Number (slot.Link n) e = refl
  numbers_differ (slot.Place m) slot.Number e = refl
  numbers_differ (slot.Place m) (slot.Place n) e = e
  numbers_differ (slot.Place m) slot.Mark e = refl
  numbers_differ (slot.Place m) (slot.Link n) e = refl
  numbers_differ slot.Mark slot.Number e = refl
  numbers_differ slot.Mark (slot.Place n) e = refl
  numbers_differ slot.Mark slot.Mark e = absurd cc
  numbers_differ slot.Mark (slot.Link n) e = refl
  numbers_differ (slot.Link m) slot.Number e = refl
  numbers_differ (slot.Link m) (slot.Place n) e = refl
  numbers_differ (slot.Link m) slot.Mark e = refl
  numbers_differ (slot.Link m) (slot.Link n) e = e

  differ_at : (runs : List Run) → runs_differ runs ≡ true → (i : ℕ) → suc i < length runs
      → not (same_kind (get_or runs i no_run).kind (get_or runs (suc i) no_run).kind) ≡ true
  differ_at [] e i lt = absurd (omega arith)
  differ_at (a ∷ []) e i lt = absurd (omega arith)
  differ_at (a ∷ (b ∷ rest)) e zero lt = (and_parts (not (same_kind a.kind b.kind)) _ e).0
  differ_at (a ∷ (b ∷ rest)) e (suc i) lt =
      differ_at (b ∷ rest) (and_parts (not (same_kind a.kind b.kind)) (runs_differ (b ∷ rest)) e).1 i (omega arith)

  rise_first : (low : ℕ) (runs : List Run) (top : ℕ) → RunsRise low runs top → 0 < length runs → low < (get_or runs 0 no_run).end
  rise_first low [] top rise lt = absurd (omega arith)
  rise_first low (x ∷ rest) top rise lt = rise.0

  rise_at : (low : ℕ) (runs : List Run) (top : ℕ) → RunsRise low runs top → (i : ℕ) → suc i < length runs
      → (get_or runs i no_run).end < (get_or runs (suc i) no_run).end
  rise_at low [] top rise i lt = absurd (omega arith)
  rise_at low (x ∷ rest) top rise zero lt = rise_first x.end rest top rise.1 (omega arith)
  rise_at low (x ∷ rest) top rise (suc i) lt = rise_at x.end rest top rise.1 i (omega arith)

  or_left : (a b : Bool) → a ≡ true → (a || b) ≡ true
  or_left a b e = ap (λ x. x || b) e

  or_right : (a b : Bool) → b ≡ true → (a || b) ≡ true
  or_right true b e = refl
  or_right false b e = e

  -- a run without fault, from what stands in it and before it
  run_good : (first : Bool) (k : ℕ) (x : Run) → RunStands k → get_or runs_all k no_run ≡ x → k < length runs_all →
      (first || not (nat_eq (u32_at bytes (runs_at (header_for code) + 12 * k - 12)) (u32_at bytes (runs_at (header_for code) + 12 * k))
      && nat_eq (u32_at bytes (runs_at (header_for code) + 12 * k - 8)) (u32_at bytes (runs_at (header_for code) + 12 * k + 4)))) ≡ true
      →
      (if first then 0 else u32_at bytes (runs_at (header_for code) + 12 * k - 4)) < x.end
      → run_fault bytes (header_for code) first k ≡ None
  unfolding run_fault
  run_good first k x s is lt differs above =
      let h = header_for code in
      let at = runs_at h + 12 * k in
      let kind = get_or runs_all k no_run in
      whole_true bytes (at + 12) _ s.is_whole
      (unless_clean (nat_le (u32_at bytes at) (if nat_eq h.version 2 then 3 else 2)) (fault.BadCount at) _
      (ap (λ n. nat_le n (if nat_eq h.version 2 then 3 else 2)) s.kind
      ∙ by_version (nat_eq code.version 2) (slot_number kind.kind) 3 2 (slot_any kind.kind)
      (λ two. slot_first kind.kind (all_at (λ (x : Run). is_first_kind x.kind) runs_all (runs_first two) k no_run lt)))
      (unless_clean (has_length (u32_at bytes at) || nat_eq (u32_at bytes (at + 4)) 0)
      (fault.BadCount (at + 4)) _
      (ap (λ n. has_length n || nat_eq (u32_at bytes (at + 4)) 0) s.kind
      ∙ ap (λ n. has_length (slot_number kind.kind) || nat_eq n 0) s.size ∙ size_good kind.kind)
      (unless_clean (first || not (nat_eq (u32_at bytes (at - 12)) (u32_at bytes at)
      && nat_eq (u32_at bytes (at - 8)) (u32_at bytes (at + 4)))) (fault.BadCount (at + 4)) _ differs
      (unless_clean (nat_lt (if first then 0 else u32_at bytes (at - 4)) (u32_at bytes (at + 8))) (fault.BadCount (at + 8)) None
      (lt_test _ _ (omega (arith, above, s.end, ap (λ (y : Run). y.end) is))) refl))))

  run_clean : (r j : ℕ) → r < length code.routines → j < length (head_at code r).runs →
      run_fault bytes (header_for code) (nat_eq (sum_by (λ x. length x.head.runs) (take r code.routines) + j)
      (sum_by (λ x. length x.head.runs) (take r code.routines))) (sum_by (λ x. length x.head.runs) (take r code.routines) + j) ≡ None
  run_clean r zero lt low =
      let start = sum_by (λ (x : PlainRoutine). length x.head.runs) (take r code.routines) in
      let t : nat_eq (start + 0) start ≡ true = eq_test _ _ (omega arith) in
      let inside = run_inside r 0 lt low in
      ap (λ b. run_fault bytes (header_for code) b (start + 0)) t
      ∙ run_good true (start + 0) (get_or (head_at code r).runs 0 no_run) (run_stands (start + 0) inside) (run_of r 0 lt low) inside refl
      (rise_first 0 (head_at code r).runs _ (object.table.runs r lt) low)
  run_clean r (suc i) lt low =
      let start = sum_by (λ (x : PlainRoutine). length x.head.runs) (take r code.routines) in
      let t : nat_eq (start + suc i) start ≡ false = ne_test _ _ (λ same. (let clash : suc i ≡ 0 = omega arith in omega arith)) in
      let inside = run_inside r (suc i) lt low in
      let before = run_stands (start + i) (run_inside r i lt (omega arith)) in
      let here = run_stands (start + suc i) inside in
      let a = run_of r i lt (omega arith) in
      let b = run_of r (suc i) lt low in
      let h = header_for code in
      let o : runs_at h + 12 * (start + suc i) - 12 ≡ runs_at h + 12 * (start + i) = omega arith in
      let p : runs_at h + 12 * (start + suc i) - 8 ≡ runs_at h + 12 * (start + i) + 4 = omega arith in
      let q : runs_at h + 12 * (start + suc i) - 4 ≡ runs_at h + 12 * (start + i) + 8 = omega arith in
      let k0 : u32_at bytes (runs_at h + 12 * (start + suc i) - 12) ≡ slot_number (get_or (head_at code r).runs i no_run).kind =
      ap (u32_at bytes) o ∙ before.kind ∙ ap (λ (x : Run). slot_number x.kind) a in
      let s0 : u32_at bytes (runs_at h + 12 * (start + suc i) - 8) ≡ slot_size (get_or (head_at code r).runs i no_run).kind =
      ap (u32_at bytes) p ∙ before.size ∙ ap (λ (x : Run). slot_size x.kind) a in
      let k1 = here.kind ∙ ap (λ (x : Run). slot_number x.kind) b in
      let s1 = here.size ∙ ap (λ (x : Run). slot_size x.kind) b in
      let e0 = ap (u32_at bytes) q ∙ before.end ∙ ap (λ (x : Run). x.end) a in
      let differ = numbers_differ (get_or (head_at code r).runs i no_run).kind (get_or (head_at code r).runs (suc i) no_run).kind
      (differ_at (head_at code r).runs (and_parts (list_all (λ p. has_cells p.kind p.cells) (head_at code r).params) _
      (and_parts (is_name (routine_at code r).name) _ (routine_kept r lt)).1).1 i low) in
      let same : (nat_eq (u32_at bytes (runs_at h + 12 * (start + suc i) - 12)) (u32_at bytes (runs_at h + 12 * (start + suc i)))
      && nat_eq (u32_at bytes (runs_at h + 12 * (start + suc i) - 8)) (u32_at bytes (runs_at h + 12 * (start + suc i) + 4)))
      ≡ (nat_eq (slot_number (get_or (head_at code r).runs i no_run).kind) (slot_number (get_or (head_at code r).runs (suc i) no_run).kind)
      && nat_eq (slot_size (get_or (head_at code r).runs i no_run).kind) (slot_size (get_or (head_at code r).runs (suc i) no_run).kind))
      = cc in
      ap (λ b. run_fault bytes h b (start + suc i)) t
      ∙ run_good false (start + suc i) (get_or (head_at code r).runs (suc i) no_run) here b inside (ap not same ∙ differ)
      (omega (arith, e0, rise_at 0 (head_at code r).runs _ (object.table.runs r lt) i low))

  runs_clean : (r : ℕ) → r < length code.routines → routine_runs_fault bytes (header_for code) r ≡ None
  unfolding routine_runs_fault runs_end
  runs_clean r lt =
      let h = header_for code in
      let start = sum_by (λ (x : PlainRoutine). length x.head.runs) (take r code.routines) in
      let s = runs_start r (omega arith) in
      let e = (routine_stands r lt).runs in
      let more = end_more (λ (x : PlainRoutine). length x.head.runs) code.routines r no_routine lt in
      first_clean (λ run. run_fault bytes h (nat_eq run (start_of (runs_end bytes h) r)) run) (start_of (runs_end bytes h) r)
      (runs_end bytes h r - start_of (runs_end bytes h) r)
      (λ k low high. (let j : start + (k - start) ≡ k = omega arith in
      ap (λ n. run_fault bytes h (nat_eq k n) k) s
      ∙ subst (λ n. run_fault bytes h (nat_eq n start) n ≡ None) j (run_clean r (k - start) lt (omega arith))))

  -- ---- ranges, texts, pools, code, lines

  range_clean : (k : ℕ) → k < length code.ranges → range_fault bytes (header_for code) k ≡ None
  unfolding range_fault
  range_clean k lt =
      let s = range_stands k lt in
      let at = ranges_at (header_for code) + 16 * k in
      whole_true bytes (at + 16) _ s.is_whole
      (unless_clean (int_le (i64_at bytes at) (i64_at bytes (at + 8))) (fault.BadCount (at + 8)) None
      (ap (λ n. int_le n (i64_at bytes (at + 8))) s.low ∙ ap (int_le (get_or code.ranges k no_range).low) s.high
      ∙ all_at (λ (t : Range). int_le t.low t.high) code.ranges object.records.ranges k no_range lt) refl)

  text_clean : (t : ℕ) → t < length code.texts → text_fault bytes (header_for code) t ≡ None
  unfolding text_fault
  text_clean t lt =
      let h = header_for code in
      whole_true bytes (texts_at h + 4 * t + 4) _ (text_end_is t lt).0
      (unless_clean (is_end (start_of (text_end bytes h) t) (text_end bytes h t) h.text_bytes (nat_eq (t + 1) h.texts))
      (fault.BadCount (texts_at h + 4 * t)) None
      (end_good length code.texts (text_end bytes h) (text_byte_count code) (length code.texts) (λ k low. (text_end_is k low).1) refl refl t
      []
      lt) refl)

  -- a name stands in the pool
  pub name_in_pool : (n : ℕ) → n < length (names_of code)
      → Stands bytes (name_pool_at (header_for code) + start_of (name_end bytes (header_for code)) n) (get_or (names_of code) n [])
  name_in_pool n lt =
      let s = start_is length (names_of code) (name_end bytes (header_for code)) name_end_is n (omega arith) in
      stands_as bytes _ _ (get_or (names_of code) n []) (ap (λ k. name_pool_at (header_for code) + k) (sym s))
      (stands_part bytes (name_pool_at (header_for code)) (λ (x : List ℕ). x) (names_of code) stand.names n [] lt)

  pub name_end_at : (n : ℕ) → n < length (names_of code)
      → start_of (name_end bytes (header_for code)) n + length (get_or (names_of code) n []) ≡ name_end bytes (header_for code) n
  name_end_at n lt =
      let s = start_is length (names_of code) (name_end bytes (header_for code)) name_end_is n (omega arith) in
      omega (arith, s, name_end_is n lt, end_more length (names_of code) n [] lt)

  name_clean : (n : ℕ) → n < length code.routines + length code.globals → name_fault bytes (header_for code) n ≡ None
  unfolding name_fault
  name_clean n low =
      let h = header_for code in
      let lt : n < length (names_of code) = omega (arith, names_length) in
      let start = start_of (name_end bytes h) n in
      let s = name_in_pool n lt in
      let e = name_end_at n lt in
      first_clean (λ i. unless (can_stand (nat_eq i start) (slice_index bytes (name_pool_at h + i))) (fault.BadName (name_pool_at h + i))
      None) start (name_end bytes h n - start)
      (λ i a b. (let j : name_pool_at h + start + (i - start) ≡ name_pool_at h + i = omega arith in
      unless_clean (can_stand (nat_eq i start) (slice_index bytes (name_pool_at h + i))) (fault.BadName (name_pool_at h + i)) None
      (ap (λ k. can_stand (nat_eq i start) (slice_index bytes k)) (sym j)
      ∙ ap (can_stand (nat_eq i start)) (byte_stands bytes (name_pool_at h + start) (get_or (names_of code) n []) s (i - start)
      (omega arith))
      ∙ name_stands (get_or (names_of code) n []) start i (i - start) (omega arith) (named n lt) (omega arith)) refl))

  pools_clean : pools_fault bytes (header_for code) ≡ None
  pools_clean =
      let h = header_for code in
      let names = stands_within bytes (name_pool_at h) (flat_map (λ (x : List ℕ). x) (names_of code)) stand.names in
      let texts = stands_within bytes (text_pool_at h) (flat_map (λ (t : List ℕ). t) code.texts) stand.text_pool in
      let m = length-flat_map (λ (x : List ℕ). x) (names_of code) in
      let n = length-flat_map (λ (t : List ℕ). t) code.texts in
      whole_true bytes (text_pool_at h) _ (omega (arith, names_total))
      (or_clean (first_clean (name_fault bytes h) 0 (length code.routines + length code.globals) (λ k low high. name_clean k (omega arith)))
      (whole_true bytes (instrs_at h) None (omega arith) refl))

  instr_clean : (k : ℕ) → k < length code.instrs → instr_fault bytes (header_for code) k ≡ None
  unfolding instr_fault
  instr_clean k lt =
      let h = header_for code in
      let s = instr_stands k lt in
      whole_true bytes (instrs_at h + 17 * k + 17) _ s.0
      (unless_clean (is_instr h.version bytes (instrs_at h + 17 * k)) (fault.BadOpcode (instrs_at h + 17 * k)) None
      (s.1.good code.version (λ two. all_at is_first_form code.instrs (first_of two).forms k I.Fail lt)) refl)

  line_rises : (k : ℕ) → k < length code.lines
      → (nat_eq k 0 || nat_lt (u32_at bytes (lines_at (header_for code) + 8 * k - 8)) (u32_at bytes (lines_at (header_for code) + 8 * k)))
      ≡ true
  line_rises zero lt = refl
  line_rises (suc k) lt =
      let h = header_for code in
      let o : lines_at h + 8 * suc k - 8 ≡ lines_at h + 8 * k = omega arith in
      or_right (nat_eq (suc k) 0) _ (lt_test _ _
      (omega (
        arith,
        ap (u32_at bytes) o,
        (line_stands k (omega arith)).at_is,
        (line_stands (suc k) lt).at_is,
        next_line 0 (length code.instrs) code.lines object.records.lines k lt,
      )))

  line_clean : (k : ℕ) → k < length code.lines → line_fault bytes (header_for code) k ≡ None
  unfolding line_fault
  line_clean k lt =
      let h = header_for code in
      let at = lines_at h + 8 * k in
      let s = line_stands k lt in
      whole_true bytes (at + 8) _ s.is_whole
      (unless_clean ((nat_eq k 0 || nat_lt (u32_at bytes (at - 8)) (u32_at bytes at)) && nat_lt (u32_at bytes at) h.instrs)
      (fault.BadCount at) None
      (both (nat_eq k 0 || nat_lt (u32_at bytes (at - 8)) (u32_at bytes at)) _ (line_rises k lt)
      (lt_test _ _ (omega (arith, s.at_is, line_below k lt)))) refl)

  end_clean : end_fault bytes (header_for code) ≡ None
  end_clean =
      let n = object_length code bytes object in
      unless_clean (nat_le (length bytes) (end_offset (header_for code))) (fault.Trailing (end_offset (header_for code))) None
      (le_test _ _ (omega arith)) refl

  -- no section of an object has a fault
  sections_clean : sections_fault bytes (header_for code) ≡ None
  unfolding sections_fault
  sections_clean =
      let h = header_for code in
      or_clean (first_clean (routine_fault bytes h) 0 (length code.routines) (λ k low high. routine_clean k (omega arith)))
      (or_clean (first_clean (global_fault bytes h) 0 (length code.globals) (λ k low high. global_clean k (omega arith)))
      (or_clean (first_clean (param_fault bytes h) 0 (param_count code) (λ k low high. param_clean k (omega arith)))
      (or_clean (first_clean (routine_runs_fault bytes h) 0 (length code.routines) (λ k low high. runs_clean k (omega arith)))
      (or_clean (first_clean (range_fault bytes h) 0 (length code.ranges) (λ k low high. range_clean k (omega arith)))
      (or_clean (first_clean (text_fault bytes h) 0 (length code.texts) (λ k low high. text_clean k (omega arith)))
      (or_clean pools_clean
      (or_clean (first_clean (instr_fault bytes h) 0 (length code.instrs) (λ k low high. instr_clean k (omega arith)))
      (or_clean (first_clean (line_fault bytes h) 0 (length code.lines) (λ k low high. line_clean k (omega arith))) end_clean))))))))

-- an object of a code whose numbers fit has no fault
pub object_clean : (code : PlainCode) (bytes : List ℕ) → IsObject code bytes → FitsFields code → object_fault bytes ≡ None
unfolding object_fault
object_clean code bytes object fits =
    or_clean (header_clean code bytes object)
    (ap (sections_fault bytes) (header_is code bytes object) ∙ sections_clean code bytes object fits)
