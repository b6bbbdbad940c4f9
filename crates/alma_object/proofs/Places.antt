-- Where the sections of an object stand.
use Rattle.std.proofs.Common.{◌≡◌, ℕ, suc, ◌+◌, ◌*◌, Bool, true, false, List, [], ◌∷◌, ◌++◌, length, get_or, map, refl, sym, ap, subst, ◌∙◌}
use Rattle.std.proofs.Common.{append_assoc, arith}
use Rattle.std.specs.Prelude.{nat_eq, if◌then◌else◌, sum_by}
use Rattle.std.specs.List.{flat_map, range_with_len}
use Rattle.std.proofs.lemmas.List.{length-append}
use Rattle.std.proofs.lemmas.List.Concat.{length-flat_map, flat_map-append}
use Rattle.std.proofs.lemmas.List.FromFn.{length-range_with_len}
use Rattle.alma_base.specs.declared.number.Range.{Range}
use Rattle.alma_code.specs.declared.code.Line.{Line}
use Rattle.alma_code.specs.declared.head.CodeParam.{CodeParam}
use Rattle.alma_code.specs.declared.head.Run.{Run}
use Rattle.alma_code.specs.declared.instr.Instr.{Instr}
use Rattle.alma_code.specs.declared.instr.Instr.TheVariants as I
use Rattle.alma_code.specs.Plain.{PlainCode, PlainRoutine, PlainGlobal, routine_at}
use Rattle.alma_object_format.specs.Bytes.{u16_bytes, words_bytes, i64_bytes}
use Rattle.alma_object_format.specs.Instrs.{instr_bytes, record_bytes}
use Rattle.alma_object_format.specs.Header.{magic, routines_at, globals_at, params_at, runs_at, ranges_at, texts_at, name_pool_at}
use Rattle.alma_object_format.specs.Header.{text_pool_at, instrs_at, lines_at, end_at}
use Rattle.alma_object_format.specs.Object.{IsObject, end_of, no_global, param_number, slot_number, slot_size, section, counts_of}
use Rattle.alma_object_format.specs.Object.{header_bytes, table_bytes, pool_bytes, object_bytes, routine_bytes, global_bytes, param_bytes}
use Rattle.alma_object_format.specs.Object.{run_bytes, range_bytes, text_end_bytes, line_bytes}
use Rattle.alma_object.proofs.Accepted.{header_for}
use Rattle.alma_object.proofs.Encoding.{flat_map-map}
use Rattle.alma_object.proofs.Stands.{Stands, stands_all, stands_first, stands_second, words_length, u16_length, i64_length, each_length}

record_length : (opcode a b c d : ℕ) → length (record_bytes opcode a b c d) ≡ 17
record_length opcode a b c d = ap suc (words_length (a ∷ b ∷ c ∷ d ∷ []))

pub instr_length : (i : Instr) → length (instr_bytes i) ≡ 17
unfolding instr_bytes
instr_length (I.Const a v) =
    ap suc (length-append (words_bytes (a ∷ [])) (i64_bytes v ++ words_bytes (0 ∷ []))
    ∙ omega (arith, words_length (a ∷ []), length-append (i64_bytes v) (words_bytes (0 ∷ [])), i64_length v, words_length (0 ∷ [])))
instr_length (I.Move a b) = record_length 2 a b 0 0
instr_length (I.Add a b c) = record_length 3 a b c 0
instr_length (I.Sub a b c) = record_length 4 a b c 0
instr_length (I.Mul a b c) = record_length 5 a b c 0
instr_length (I.Div a b c) = record_length 6 a b c 0
instr_length (I.Mod a b c) = record_length 7 a b c 0
instr_length (I.Neg a b) = record_length 8 a b 0 0
instr_length (I.Equal a b c) = record_length 9 a b c 0
instr_length (I.Less a b c) = record_length 10 a b c 0
instr_length (I.LessEq a b c) = record_length 11 a b c 0
instr_length (I.Flip a b) = record_length 12 a b 0 0
instr_length (I.InRange a b) = record_length 13 a b 0 0
instr_length (I.Local a b) = record_length 14 a b 0 0
instr_length (I.Global a b) = record_length 15 a b 0 0
instr_length (I.Same a b) = record_length 16 a b 0 0
instr_length (I.Field a b c) = record_length 17 a b c 0
instr_length (I.Index a b c d) = record_length 18 a b c d
instr_length (I.Load a b) = record_length 19 a b 0 0
instr_length (I.Store a b) = record_length 20 a b 0 0
instr_length (I.Known a b) = record_length 21 a b 0 0
instr_length (I.Bind a b c) = record_length 22 a b c 0
instr_length (I.Unify a b c d) = record_length 23 a b c d
instr_length (I.CopyCells a b) = record_length 24 a b 0 0
instr_length (I.SameCells a b) = record_length 25 a b 0 0
instr_length (I.Jump a) = record_length 26 a 0 0 0
instr_length (I.JumpZero a b) = record_length 27 a b 0 0
instr_length (I.Check a) = record_length 28 a 0 0 0
instr_length I.Fail = record_length 29 0 0 0 0
instr_length (I.Mark a) = record_length 30 a 0 0 0
instr_length (I.Cut a) = record_length 31 a 0 0 0
instr_length (I.Choose a) = record_length 32 a 0 0 0
instr_length (I.Forall a b) = record_length 33 a b 0 0
instr_length (I.Overlay a b) = record_length 34 a b 0 0
instr_length (I.Keep a) = record_length 35 a 0 0 0
instr_length I.Finish = record_length 36 0 0 0 0
instr_length (I.Call a b c) = record_length 37 a b c 0
instr_length I.Return = record_length 38 0 0 0 0
instr_length (I.ReturnValue a) = record_length 39 a 0 0 0
instr_length (I.ReadInt a b) = record_length 40 a b 0 0
instr_length (I.ReadChar a b) = record_length 41 a b 0 0
instr_length (I.WriteInt a) = record_length 42 a 0 0 0
instr_length (I.WriteChar a) = record_length 43 a 0 0 0
instr_length (I.WriteBool a) = record_length 44 a 0 0 0
instr_length (I.WriteText a) = record_length 45 a 0 0 0
instr_length I.WriteLine = record_length 46 0 0 0 0
instr_length (I.Fault a) = record_length 47 a 0 0 0
instr_length (I.Step a b c d) = record_length 48 a b c d
instr_length (I.Own a) = record_length 49 a 0 0 0
instr_length (I.Chain a b c) = record_length 50 a b c 0
instr_length (I.Outer a b c) = record_length 51 a b c 0
instr_length (I.OuterSame a b c) = record_length 52 a b c 0

pub routine_length : (code : PlainCode) (r : ℕ) → length (routine_bytes code r) ≡ 28
unfolding routine_bytes
routine_length code r = words_length (
    end_of (λ x. length x.name) code.routines r ∷ end_of (λ x. length x.head.params) code.routines r
    ∷ end_of (λ x. length x.head.runs) code.routines r
    ∷ (routine_at code r).code_end ∷ (routine_at code r).head.slots ∷ (routine_at code r).head.declared
    ∷ (if (routine_at code r).head.has_result then 1 else 0) ∷ [])

pub global_length : (code : PlainCode) (g : ℕ) → length (global_bytes code g) ≡ 12
unfolding global_bytes
global_length code g = words_length ((sum_by (λ x. length x.name) code.routines + end_of (λ x. length x.name) code.globals g)
    ∷ (get_or code.globals g no_global).slot ∷ (get_or code.globals g no_global).cells ∷ [])

pub text_length : (code : PlainCode) (t : ℕ) → length (text_end_bytes code t) ≡ 4
unfolding text_end_bytes
text_length code t = words_length (end_of length code.texts t ∷ [])

pub param_length : (p : CodeParam) → length (param_bytes p) ≡ 8
unfolding param_bytes
param_length p = words_length (param_number p.kind ∷ p.cells ∷ [])

pub run_length : (r : Run) → length (run_bytes r) ≡ 12
unfolding run_bytes
run_length r = words_length (slot_number r.kind ∷ slot_size r.kind ∷ r.end ∷ [])

pub range_length : (r : Range) → length (range_bytes r) ≡ 16
unfolding range_bytes
range_length r = length-append (i64_bytes r.low) (i64_bytes r.high) ∙ omega (arith, i64_length r.low, i64_length r.high)

pub line_length : (l : Line) → length (line_bytes l) ≡ 8
unfolding line_bytes
line_length l = words_length (l.at ∷ l.line ∷ [])

by_two : (code : PlainCode) (two : Bool) → nat_eq code.version 2 ≡ two → 10 + 4 * length (counts_of code) ≡ routines_at (header_for code)
by_two code true e =
    let last : (if nat_eq code.version 2 then length code.lines ∷ [] else []) ≡ length code.lines ∷ [] =
    ap (λ b. if b then length code.lines ∷ [] else []) e in
    let at : routines_at (header_for code) ≡ 50 = ap (λ b. if b then 50 else 46) e in
    omega (arith, ap length last, at)
by_two code false e =
    let last : (if nat_eq code.version 2 then length code.lines ∷ [] else []) ≡ [] = ap (λ b. if b then length code.lines ∷ [] else []) e in
    let at : routines_at (header_for code) ≡ 46 = ap (λ b. if b then 50 else 46) e in
    omega (arith, ap length last, at)

header_length : (code : PlainCode) (two : Bool) → nat_eq code.version 2 ≡ two → length (header_bytes code) ≡ routines_at (header_for code)
unfolding header_bytes
header_length code two e =
    let last = by_two code two e in
    length-append magic (u16_bytes code.version ++ words_bytes (counts_of code))
    ∙ omega (
      arith,
      length-append (u16_bytes code.version) (words_bytes (counts_of code)),
      u16_length code.version,
      words_length (counts_of code),
      last,
    )

-- the names of routines, and behind them those of globals
abbrev pub names_of : PlainCode → List (List ℕ)
names_of code = map (λ r. r.name) code.routines ++ map (λ g. g.name) code.globals

names_pool : (code : PlainCode) → flat_map (λ (n : List ℕ). n) (names_of code) ≡ flat_map (λ (r : PlainRoutine). r.name) code.routines
    ++ flat_map (λ (g : PlainGlobal). g.name) code.globals
names_pool code =
    flat_map-append (λ (n : List ℕ). n) (map (λ (r : PlainRoutine). r.name) code.routines) (map (λ (g : PlainGlobal). g.name) code.globals)
    ∙ ap (λ (t : List ℕ). t ++ flat_map (λ (n : List ℕ). n) (map (λ (g : PlainGlobal). g.name) code.globals))
    (flat_map-map (λ (n : List ℕ). n) (λ (r : PlainRoutine). r.name) code.routines)
    ∙ ap (λ (t : List ℕ). flat_map (λ (r : PlainRoutine). r.name) code.routines ++ t)
    (flat_map-map (λ (n : List ℕ). n) (λ (g : PlainGlobal). g.name) code.globals)

-- the sections of an object, each at its offset
pub record SectionsStand (code : PlainCode) (bytes : List ℕ) : Type 0 where
  pub routines : Stands bytes (routines_at (header_for code)) (section (routine_bytes code) (length code.routines))
  pub globals : Stands bytes (globals_at (header_for code)) (section (global_bytes code) (length code.globals))
  pub params : Stands bytes (params_at (header_for code)) (flat_map param_bytes (flat_map (λ r. r.head.params) code.routines))
  pub runs : Stands bytes (runs_at (header_for code)) (flat_map run_bytes (flat_map (λ r. r.head.runs) code.routines))
  pub ranges : Stands bytes (ranges_at (header_for code)) (flat_map range_bytes code.ranges)
  pub texts : Stands bytes (texts_at (header_for code)) (section (text_end_bytes code) (length code.texts))
  pub names : Stands bytes (name_pool_at (header_for code)) (flat_map (λ n. n) (names_of code))
  pub text_pool : Stands bytes (text_pool_at (header_for code)) (flat_map (λ t. t) code.texts)
  pub instrs : Stands bytes (instrs_at (header_for code)) (flat_map instr_bytes code.instrs)
  pub lines : Stands bytes (lines_at (header_for code)) (flat_map line_bytes code.lines)

sections_length : (each : ℕ → List ℕ) (w n : ℕ) → ((k : ℕ) → length (each k) ≡ w) → length (section each n) ≡ w * n
sections_length each w n same = each_length each w (range_with_len 0 n) same ∙ ap (λ k. w * k) (length-range_with_len 0 n)

table_length : (code : PlainCode) → routines_at (header_for code) + length (table_bytes code) ≡ name_pool_at (header_for code)
unfolding table_bytes
table_length code =
    omega (
      arith,
      length-append {A = ℕ},
      sections_length (routine_bytes code) 28 (length code.routines) (routine_length code),
      sections_length (global_bytes code) 12 (length code.globals) (global_length code),
      each_length param_bytes 8 (flat_map (λ r. r.head.params) code.routines) param_length,
      each_length run_bytes 12 (flat_map (λ r. r.head.runs) code.routines) run_length,
      length-flat_map (λ (r : PlainRoutine). r.head.params) code.routines,
      length-flat_map (λ (r : PlainRoutine). r.head.runs) code.routines,
      each_length range_bytes 16 code.ranges range_length,
      sections_length (text_end_bytes code) 4 (length code.texts) (text_length code),
    )

pool_length : (code : PlainCode) → name_pool_at (header_for code) + length (pool_bytes code) ≡ instrs_at (header_for code)
unfolding pool_bytes
pool_length code =
    omega (
      arith,
      length-append {A = ℕ},
      length-flat_map (λ (r : PlainRoutine). r.name) code.routines,
      length-flat_map (λ (g : PlainGlobal). g.name) code.globals,
      length-flat_map (λ (t : List ℕ). t) code.texts,
    )

pub sections_stand : (code : PlainCode) (bytes : List ℕ) → IsObject code bytes → SectionsStand code bytes
unfolding object_bytes table_bytes pool_bytes
sections_stand code bytes object =
    let P : List ℕ → Type 0 = λ t. Stands t 0 (object_bytes code) in
    let whole = subst P object.spelled (stands_all (object_bytes code)) in
    let a = stands_second bytes 0 (routines_at (header_for code)) (header_bytes code) _
    (omega (arith, header_length code (nat_eq code.version 2) refl)) whole in
    let tables = stands_first bytes (routines_at (header_for code)) (table_bytes code) _ a in
    let params_size = each_length param_bytes 8 (flat_map (λ r. r.head.params) code.routines) param_length in
    let runs_size = each_length run_bytes 12 (flat_map (λ r. r.head.runs) code.routines) run_length in
    let params_count = length-flat_map (λ (r : PlainRoutine). r.head.params) code.routines in
    let runs_count = length-flat_map (λ (r : PlainRoutine). r.head.runs) code.routines in
    let globals = stands_second bytes (routines_at (header_for code)) (globals_at (header_for code))
    (section (routine_bytes code) (length code.routines)) _
    (omega (arith, sections_length (routine_bytes code) 28 (length code.routines) (routine_length code))) tables in
    let params = stands_second bytes (globals_at (header_for code)) (params_at (header_for code))
    (section (global_bytes code) (length code.globals)) _
    (omega (arith, sections_length (global_bytes code) 12 (length code.globals) (global_length code))) globals in
    let runs = stands_second bytes (params_at (header_for code)) (runs_at (header_for code))
    (flat_map param_bytes (flat_map (λ r. r.head.params) code.routines)) _ (omega (arith, params_size, params_count)) params in
    let ranges = stands_second bytes (runs_at (header_for code)) (ranges_at (header_for code))
    (flat_map run_bytes (flat_map (λ r. r.head.runs) code.routines)) _ (omega (arith, runs_size, runs_count)) runs in
    let h = header_for code in
    let texts = stands_second bytes (ranges_at h) (texts_at h) (flat_map range_bytes code.ranges) _
    (omega (arith, each_length range_bytes 16 code.ranges range_length)) ranges in
    let pools = stands_second bytes (routines_at h) (name_pool_at h) (table_bytes code) _ (omega (arith, table_length code)) a in
    let pool = stands_first bytes (name_pool_at h) (pool_bytes code) _ pools in
    let names_size = length-flat_map (λ (r : PlainRoutine). r.name) code.routines in
    let globals_size = length-flat_map (λ (g : PlainGlobal). g.name) code.globals in
    let after_names = stands_second bytes (name_pool_at h) (name_pool_at h + length (flat_map (λ (r : PlainRoutine). r.name) code.routines))
    (flat_map (λ r. r.name) code.routines) _ refl pool in
    let text_pool = stands_second bytes (name_pool_at h + length (flat_map (λ (r : PlainRoutine). r.name) code.routines)) (text_pool_at h)
    (flat_map (λ g. g.name) code.globals) _ (omega (arith, names_size, globals_size)) after_names in
    let instrs = stands_second bytes (name_pool_at h) (instrs_at h) (pool_bytes code) _ (omega (arith, pool_length code)) pools in
    let lines = stands_second bytes (instrs_at h) (lines_at h) (flat_map instr_bytes code.instrs) _
    (omega (arith, each_length instr_bytes 17 code.instrs instr_length)) instrs in
    record {
      routines = stands_first _ _ _ _ tables;
      globals = stands_first _ _ _ _ globals;
      params = stands_first _ _ _ _ params;
      runs = stands_first _ _ _ _ runs;
      ranges = stands_first _ _ _ _ ranges;
      texts = texts;
      names = subst (Stands bytes (name_pool_at h)) (sym (names_pool code))
          (stands_first bytes (name_pool_at h) (flat_map (λ r. r.name) code.routines ++ flat_map (λ g. g.name) code.globals)
          (flat_map (λ t. t) code.texts)
          (subst (Stands bytes (name_pool_at h)) (sym
          (append_assoc (flat_map (λ (r : PlainRoutine). r.name) code.routines) (flat_map (λ (g : PlainGlobal). g.name) code.globals)
          (flat_map (λ (t : List ℕ). t) code.texts))) pool));
      text_pool = text_pool;
      instrs = stands_first _ _ _ _ instrs;
      lines = lines;
    }

-- nothing stands behind the last section
pub object_length : (code : PlainCode) (bytes : List ℕ) → IsObject code bytes → length bytes ≡ end_at (header_for code)
unfolding object_bytes
object_length code bytes object =
    sym (ap length object.spelled)
    ∙ omega (
      arith,
      length-append {A = ℕ},
      header_length code (nat_eq code.version 2) refl,
      table_length code,
      pool_length code,
      each_length instr_bytes 17 code.instrs instr_length,
      each_length line_bytes 8 code.lines line_length,
    )
