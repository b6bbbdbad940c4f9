-- The code that is read from an object is the code that was written.
use Rattle.std.proofs.Common.{◌≡◌, None, ℕ, suc, ◌+◌, ◌-◌, ◌*◌, ◌<◌, ◌≤◌, ℤ, Bool, true, false, List, [], ◌∷◌, length, get_or, take, map}
use Rattle.std.proofs.Common.{refl, sym, ap, ◌∙◌, arith}
use Rattle.std.specs.Prelude.{nat_eq, if◌then◌else◌, sum_by}
use Rattle.std.specs.List.{flat_map, range_with_len}
use Rattle.alma_base.specs.declared.number.Range.{Range}
use Rattle.alma_code.specs.declared.cell.SlotKind.{SlotKind}
use Rattle.alma_code.specs.declared.cell.SlotKind.TheVariants as slot
use Rattle.alma_code.specs.declared.code.Line.{Line}
use Rattle.alma_code.specs.declared.head.CodeParam.{CodeParam}
use Rattle.alma_code.specs.declared.head.ParamKind.{ParamKind}
use Rattle.alma_code.specs.declared.head.ParamKind.TheVariants as param
use Rattle.alma_code.specs.declared.head.Run.{Run}
use Rattle.alma_code.specs.declared.instr.Instr.TheVariants as I
use Rattle.alma_code.specs.Head.{PlainHead}
use Rattle.alma_code.specs.Plain.{PlainCode, PlainRoutine, PlainGlobal, routine_at, head_at, no_routine}
use Rattle.alma_object_format.specs.Bytes.{u32_at}
use Rattle.alma_object.specs.Fields.{FitsFields, KeepsFormat}
use Rattle.alma_object_format.specs.Header.{header_of, params_at, runs_at, ranges_at, name_pool_at, text_pool_at, instrs_at, lines_at}
use Rattle.alma_object_format.specs.Instrs.{instr_at}
use Rattle.alma_object_format.specs.Object.{IsObject, object_bytes, no_global, param_number, slot_number, slot_size}
use Rattle.alma_object_format.specs.Reading.{items, param_kind, slot_kind, param_in, run_in, range_in, line_in, params_in, runs_in, name_in}
use Rattle.alma_object_format.specs.Reading.{text_in, routine_in, global_in, code_in}
use Rattle.alma_object.specs.View.{no_line}
use Rattle.alma_object_format.specs.Walk.{object_fault, start_of, params_end, runs_end, code_end, text_end, name_end}
use Rattle.alma_object.proofs.Accepted.{header_for, header_is}
use Rattle.alma_object.proofs.Clean.{object_clean, no_param, no_run, no_range, routine_stands, global_stands, param_stands, run_stands}
use Rattle.alma_object.proofs.Clean.{range_stands, text_end_is, line_stands, instr_stands, names_length, name_of_routine, name_of_global}
use Rattle.alma_object.proofs.Clean.{name_in_pool, name_end_at, params_length, runs_length, runs_start}
use Rattle.alma_object.proofs.Ends.{end_more, end_within, start_is, stands_part, flat_at}
use Rattle.alma_object.proofs.Places.{sections_stand, names_of}
use Rattle.alma_object.proofs.Whole.{code_same}
use Rattle.alma_object.proofs.Stands.{stands_as, stands_slice}

-- a list is the list of its items
pub items_again : {A : Type 0} (of : ℕ → A) (xs : List A) (d : A) → ((k : ℕ) → k < length xs → of k ≡ get_or xs k d)
    → items of (length xs) ≡ xs
items_again {A = A} of xs d same = from 0 xs (λ k lt. (let z : 0 + k ≡ k = omega arith in ap of z ∙ same k lt))
  where
    from : (a : ℕ) (ys : List A) → ((k : ℕ) → k < length ys → of (a + k) ≡ get_or ys k d) → map of (range_with_len a (length ys)) ≡ ys
    from a [] same = refl
    from a (y ∷ ys) same =
        let z : a + 0 ≡ a = omega arith in
        let first : of a ≡ y = ap of (sym z) ∙ same 0 (omega arith) in
        let rest = from (a + 1) ys (λ k lt. (let e : a + 1 + k ≡ a + suc k = omega arith in ap of e ∙ same (suc k) (omega arith))) in
        ap (λ x. x ∷ map of (range_with_len (a + 1) (length ys))) first ∙ ap (λ (t : List A). y ∷ t) rest

kind_again : (k : ParamKind) → param_kind (param_number k) ≡ k
kind_again param.Value = refl
kind_again param.Place = refl
kind_again param.Mix = refl
kind_again param.Cells = refl
kind_again param.Link = refl

slot_again : (k : SlotKind) → slot_kind (slot_number k) (slot_size k) ≡ k
slot_again slot.Number = refl
slot_again (slot.Place n) = refl
slot_again slot.Mark = refl
slot_again (slot.Link n) = refl

result_again : (b : Bool) → nat_eq (if b then 1 else 0) 1 ≡ b
result_again true = refl
result_again false = refl

-- records with the same fields

same_param : (x : CodeParam) (k : ParamKind) (c : ℕ) → k ≡ x.kind → c ≡ x.cells → record { kind = k; cells = c } ≡ x
same_param x k c ek ec = let same : record { kind = k; cells = c } ≡ record { kind = x.kind; cells = x.cells } = cc in same

same_run : (x : Run) (k : SlotKind) (n : ℕ) → k ≡ x.kind → n ≡ x.end → record { kind = k; end = n } ≡ x
same_run x k n ek en = let same : record { kind = k; end = n } ≡ record { kind = x.kind; end = x.end } = cc in same

same_range : (x : Range) (l h : ℤ) → l ≡ x.low → h ≡ x.high → record { low = l; high = h } ≡ x
same_range x l h el eh = let same : record { low = l; high = h } ≡ record { low = x.low; high = x.high } = cc in same

same_line : (x : Line) (a l : ℕ) → a ≡ x.at → l ≡ x.line → record { at = a; line = l } ≡ x
same_line x a l ea el = let same : record { at = a; line = l } ≡ record { at = x.at; line = x.line } = cc in same

same_global : (x : PlainGlobal) (n : List ℕ) (s c : ℕ) → n ≡ x.name → s ≡ x.slot → c ≡ x.cells
    → record { name = n; slot = s; cells = c } ≡ x
same_global x n s c en es ec = let same : record { name = n; slot = s; cells = c } ≡ record {
  name = x.name;
  slot = x.slot;
  cells =
      x.cells;
} = cc in same

same_head : (x : PlainHead) (s d : ℕ) (ps : List CodeParam) (rs : List Run) (b : Bool) → s ≡ x.slots → d ≡ x.declared → ps ≡ x.params
    → rs ≡ x.runs → b ≡ x.has_result →
    record { slots = s; declared = d; params = ps; runs = rs; has_result = b } ≡ x
same_head x s d ps rs b es ed ep er eb =
    let same : record { slots = s; declared = d; params = ps; runs = rs; has_result = b } ≡ record {
      slots = x.slots;
      declared = x.declared;
      params = x.params;
      runs = x.runs;
      has_result = x.has_result;
    } = cc in same

same_routine : (x : PlainRoutine) (n : List ℕ) (h : PlainHead) (e : ℕ) → n ≡ x.name → h ≡ x.head → e ≡ x.code_end
    → record { name = n; head = h; code_end = e } ≡ x
same_routine x n h e en eh ee = let same
    : record { name = n; head = h; code_end = e } ≡ record { name = x.name; head = x.head; code_end = x.code_end } = cc in same

module _ (code : PlainCode) (bytes : List ℕ) (object : IsObject code bytes) (fits : FitsFields code) where
  param_again : (p : ℕ) → p < length (flat_map (λ (r : PlainRoutine). r.head.params) code.routines)
      → param_in bytes (params_at (header_for code) + 8 * p) ≡ get_or (flat_map (λ r. r.head.params) code.routines) p no_param
  unfolding param_in
  param_again p lt =
      let s = param_stands code bytes object fits p lt in
      let x = get_or (flat_map (λ (r : PlainRoutine). r.head.params) code.routines) p no_param in
      same_param x _ _ (ap param_kind s.kind ∙ kind_again x.kind) s.cells

  run_again : (p : ℕ) → p < length (flat_map (λ (r : PlainRoutine). r.head.runs) code.routines)
      → run_in bytes (runs_at (header_for code) + 12 * p) ≡ get_or (flat_map (λ r. r.head.runs) code.routines) p no_run
  unfolding run_in
  run_again p lt =
      let s = run_stands code bytes object fits p lt in
      let x = get_or (flat_map (λ (r : PlainRoutine). r.head.runs) code.routines) p no_run in
      let k = ap (λ n. slot_kind n (u32_at bytes (runs_at (header_for code) + 12 * p + 4))) s.kind
      ∙ ap (slot_kind (slot_number x.kind)) s.size ∙ slot_again x.kind in
      same_run x _ _ k s.end

  params_start : (r : ℕ) → r ≤ length code.routines
      → start_of (params_end bytes (header_for code)) r ≡ sum_by (λ x. length x.head.params) (take r code.routines)
  unfolding params_end
  params_start r le = start_is (λ (x : PlainRoutine). length x.head.params) code.routines (params_end bytes (header_for code))
      (λ k low. (routine_stands code bytes object fits k low).params) r le

  params_again : (r : ℕ) → r < length code.routines
      → params_in bytes (params_at (header_for code) + 8 * start_of (params_end bytes (header_for code)) r)
      (params_end bytes (header_for code) r - start_of (params_end bytes (header_for code)) r) ≡ (head_at code r).params
  unfolding params_end
  params_again r lt =
      let h = header_for code in
      let start = sum_by (λ (x : PlainRoutine). length x.head.params) (take r code.routines) in
      let s = params_start r (omega arith) in
      let e = (routine_stands code bytes object fits r lt).params in
      let more = end_more (λ (x : PlainRoutine). length x.head.params) code.routines r no_routine lt in
      let within = end_within (λ (x : PlainRoutine). length x.head.params) code.routines r in
      let xs = (head_at code r).params in
      let n : params_end bytes h r - start_of (params_end bytes h) r ≡ length xs = omega arith in
      ap (λ k. params_in bytes (params_at h + 8 * k) (params_end bytes h r - start_of (params_end bytes h) r)) s
      ∙ ap (params_in bytes (params_at h + 8 * start)) n
      ∙ items_again (λ k. param_in bytes (params_at h + 8 * start + 8 * k)) xs no_param
      (λ k low. (let o : params_at h + 8 * start + 8 * k ≡ params_at h + 8 * (start + k) = omega arith in
      ap (param_in bytes) o ∙ param_again (start + k) (omega (arith, params_length code bytes object fits))
      ∙ flat_at (λ (x : PlainRoutine). x.head.params) code.routines r k no_routine no_param lt low))

  runs_again : (r : ℕ) → r < length code.routines
      → runs_in bytes (runs_at (header_for code) + 12 * start_of (runs_end bytes (header_for code)) r)
      (runs_end bytes (header_for code) r - start_of (runs_end bytes (header_for code)) r) ≡ (head_at code r).runs
  unfolding runs_end
  runs_again r lt =
      let h = header_for code in
      let start = sum_by (λ (x : PlainRoutine). length x.head.runs) (take r code.routines) in
      let s = runs_start code bytes object fits r (omega arith) in
      let e = (routine_stands code bytes object fits r lt).runs in
      let more = end_more (λ (x : PlainRoutine). length x.head.runs) code.routines r no_routine lt in
      let within = end_within (λ (x : PlainRoutine). length x.head.runs) code.routines r in
      let xs = (head_at code r).runs in
      let n : runs_end bytes h r - start_of (runs_end bytes h) r ≡ length xs = omega arith in
      ap (λ k. runs_in bytes (runs_at h + 12 * k) (runs_end bytes h r - start_of (runs_end bytes h) r)) s
      ∙ ap (runs_in bytes (runs_at h + 12 * start)) n
      ∙ items_again (λ k. run_in bytes (runs_at h + 12 * start + 12 * k)) xs no_run
      (λ k low. (let o : runs_at h + 12 * start + 12 * k ≡ runs_at h + 12 * (start + k) = omega arith in
      ap (run_in bytes) o ∙ run_again (start + k) (omega (arith, runs_length code bytes object fits))
      ∙ flat_at (λ (x : PlainRoutine). x.head.runs) code.routines r k no_routine no_run lt low))

  name_again : (n : ℕ) → n < length (names_of code) → name_in bytes (header_for code) n ≡ get_or (names_of code) n []
  unfolding name_in
  name_again n lt =
      let h = header_for code in
      stands_slice bytes (name_pool_at h + start_of (name_end bytes h) n) (name_pool_at h + name_end bytes h n)
      (get_or (names_of code) n [])
      (omega (arith, name_end_at code bytes object fits n lt)) (name_in_pool code bytes object fits n lt)

  text_again : (t : ℕ) → t < length code.texts → text_in bytes (header_for code) t ≡ get_or code.texts t []
  unfolding text_in
  text_again t lt =
      let h = header_for code in
      let s = start_is length code.texts (text_end bytes h) (λ k low. (text_end_is code bytes object fits k low).1) t (omega arith) in
      let e = (text_end_is code bytes object fits t lt).1 in
      let more = end_more length code.texts t [] lt in
      stands_slice bytes (text_pool_at h + start_of (text_end bytes h) t) (text_pool_at h + text_end bytes h t) (get_or code.texts t [])
      (omega arith)
      (stands_as bytes _ _ (get_or code.texts t []) (ap (λ k. text_pool_at h + k) (sym s))
      (stands_part bytes (text_pool_at h) (λ (x : List ℕ). x) code.texts (sections_stand code bytes object).text_pool t [] lt))

  routine_again : (r : ℕ) → r < length code.routines → routine_in bytes (header_for code) r ≡ routine_at code r
  unfolding routine_in code_end
  routine_again r lt =
      let h = header_for code in
      let s = routine_stands code bytes object fits r lt in
      let name = name_again r (omega (arith, names_length code bytes object fits)) ∙ name_of_routine code bytes object fits r lt in
      let params = params_again r lt in
      let runs = runs_again r lt in
      let result = ap (λ n. nat_eq n 1) s.result ∙ result_again (head_at code r).has_result in
      same_routine (routine_at code r) _ _ _ name (same_head (head_at code r) _ _ _ _ _ s.slots s.declared params runs result) s.code_end

  global_again : (g : ℕ) → g < length code.globals → global_in bytes (header_for code) g ≡ get_or code.globals g no_global
  unfolding global_in
  global_again g lt =
      let s = global_stands code bytes object fits g lt in
      let name = name_again (length code.routines + g) (omega (arith, names_length code bytes object fits))
      ∙ name_of_global code bytes object fits g lt in
      same_global (get_or code.globals g no_global) _ _ _ name s.slot s.cells

  range_again : (k : ℕ) → k < length code.ranges → range_in bytes (ranges_at (header_for code) + 16 * k) ≡ get_or code.ranges k no_range
  unfolding range_in
  range_again k lt = (let s = range_stands code bytes object fits k lt in same_range (get_or code.ranges k no_range) _ _ s.low s.high)

  line_again : (k : ℕ) → k < length code.lines → line_in bytes (lines_at (header_for code) + 8 * k) ≡ get_or code.lines k no_line
  unfolding line_in
  line_again k lt = (let s = line_stands code bytes object fits k lt in same_line (get_or code.lines k no_line) _ _ s.at_is s.line)

  all_again : code_in bytes (header_for code) ≡ code
  all_again =
      let h = header_for code in
      let routines = items_again (routine_in bytes h) code.routines no_routine routine_again in
      let globals = items_again (global_in bytes h) code.globals no_global global_again in
      let ranges = items_again (λ k. range_in bytes (ranges_at h + 16 * k)) code.ranges no_range range_again in
      let texts = items_again (text_in bytes h) code.texts [] text_again in
      let instrs = items_again (λ k. instr_at bytes (instrs_at h + 17 * k)) code.instrs I.Fail
      (λ k lt. (instr_stands code bytes object fits k lt).1.again) in
      let lines = items_again (λ k. line_in bytes (lines_at h + 8 * k)) code.lines no_line line_again in
      code_same code _ _ _ _ _ _ routines globals ranges texts instrs lines

pub code_again : (code : PlainCode) (bytes : List ℕ) → IsObject code bytes → FitsFields code → code_in bytes (header_of bytes) ≡ code
code_again code bytes object fits = ap (code_in bytes) (header_is code bytes object) ∙ all_again code bytes object fits

pub one_code : (first second : PlainCode) (bytes : List ℕ) → IsObject first bytes → IsObject second bytes → FitsFields first
    → FitsFields second → first ≡ second
one_code first second bytes a b f g = sym (code_again first bytes a f) ∙ code_again second bytes b g

encoded_object : (code : PlainCode) → KeepsFormat code → IsObject code (object_bytes code)
encoded_object code keeps = record {
  version = keeps.version;
  counts = keeps.counts;
  records = keeps.records;
  table = keeps.table;
  spelled =
      refl;
}

pub encoded_clean : (code : PlainCode) → KeepsFormat code → object_fault (object_bytes code) ≡ None
encoded_clean code keeps = object_clean code (object_bytes code) (encoded_object code keeps) keeps.fields

pub encoded_again : (code : PlainCode) → KeepsFormat code → code_in (object_bytes code) (header_of (object_bytes code)) ≡ code
encoded_again code keeps = code_again code (object_bytes code) (encoded_object code keeps) keeps.fields
