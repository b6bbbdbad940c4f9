-- The records of the code of a checked program are as they must be.
use Rattle.std.proofs.Common.{◌≡◌, ℕ, zero, suc, ◌+◌, ◌<◌, ◌≤◌, Bool, true, false, List, [], ◌∷◌, ◌++◌, length, get_or, refl, ap, ◌∙◌}
use Rattle.std.proofs.Common.{arith}
use Rattle.std.specs.Prelude.{◌&&◌, ◌||◌, IsTrue, nat_eq, nat_le, nat_lt, map}
use Rattle.std.specs.List.{AllByRecursion, list_all}
use Rattle.std.proofs.lemmas.Bool.{and_from, le-leb, lt-ltb, eq-eqb}
use Rattle.std.proofs.lemmas.List.{length-map}
use Rattle.alma_base.specs.Bytes.{is_letter, is_word_byte}
use Rattle.alma_base.specs.Reading.{is_digit}
use Rattle.alma_code.specs.Lines.{lines_rise}
use Rattle.alma_code.specs.Plain.{PlainCode, PlainRoutine, head_at}
use Rattle.alma_code.specs.Plain as plain
use Rattle.alma_code.specs.Records.{KeepsRecords, is_name, is_name_start, is_routine_record, has_cells}
use Rattle.alma_ir.specs.declared.program.ArgKind.{ArgKind}
use Rattle.alma_ir.specs.declared.program.ArgKind.TheVariants as kind
use Rattle.alma_ir.specs.declared.program.Param.{Param}
use Rattle.alma_ir.specs.Tree.{Program, Routine, Global, routine_at, no_routine}
use Rattle.alma_ir.specs.Checked.{IsChecked, IsName, HasOneCellAs}
use Rattle.alma_lower_templates.specs.LineInstr.{LineInstr, line_from, lines_from}
use Rattle.alma_lower_templates.specs.Compiled.{link_params, param_kind, param_named, global_named, routines_code}
use Rattle.alma_lower_templates.specs.CodeOf.{IsCodeOf}
use Rattle.alma_lower_sound.specs.Entries.{HoldsEachOnce}
use Rattle.alma_lower_sound.specs.Runs.{HasLongRuns}
use Rattle.alma_lower_sound.proofs.Entries.{ranges_ordered}
use Rattle.alma_lower_sound.proofs.Runs.{differ_is}
use Rattle.alma_lower_sound.proofs.Whole.{count, head_is, name_is}

-- ---- names

or_three : (a b c : Bool) → (a || (b || c)) ≡ ((a || b) || c)
or_three true b c = refl
or_three false b c = refl

starts_name : (c : ℕ) → is_name_start c ≡ is_letter c
starts_name c = or_three (nat_le 65 c && nat_le c 90) (nat_le 97 c && nat_le c 122) (nat_eq c 95)

all_pass : (xs : List ℕ) → AllByRecursion (λ b. IsTrue (is_word_byte b)) xs → list_all (λ d. is_name_start d || is_digit d) xs ≡ true
all_pass [] h = refl
all_pass (x ∷ xs) h = and_from (is_name_start x || is_digit x) (list_all (λ d. is_name_start d || is_digit d) xs)
    (ap (λ b. b || is_digit x) (starts_name x) ∙ h.0) (all_pass xs h.1)

is_name_of : (name : List ℕ) → IsName name → is_name name ≡ true
is_name_of [] h = absurd h
is_name_of (c ∷ rest) h = and_from (is_name_start c) (list_all (λ d. is_name_start d || is_digit d) rest) (starts_name c ∙ h.0)
    (all_pass rest h.1)

all_named : (gs : List Global) → AllByRecursion (λ g. IsName g.name) gs → list_all (λ g. is_name g.name) (map global_named gs) ≡ true
all_named [] h = refl
all_named (g ∷ gs) h = and_from (is_name g.name) (list_all (λ x. is_name x.name) (map global_named gs)) (is_name_of g.name h.0)
    (all_named gs h.1)

routine_name : (rs : List Routine) (r : ℕ) → AllByRecursion (λ x. IsName x.name) rs → r < length rs → IsName (get_or rs r no_routine).name
routine_name [] r h lt = absurd (omega (arith, lt))
routine_name (x ∷ rs) zero h lt = h.0
routine_name (x ∷ rs) (suc r) h lt = routine_name rs r h.1 (omega (arith, lt))

-- ---- parameters

param_cells : (k : ArgKind) (n : ℕ) → HasOneCellAs k n → has_cells (param_kind k) n ≡ true
param_cells kind.Value n h = eq-eqb n 1 h
param_cells kind.Mix n h = eq-eqb n 1 h
param_cells kind.Place n h = refl
param_cells kind.Cells n h = refl

params_cells : (qs : List Param) → AllByRecursion (λ q. HasOneCellAs q.kind q.cells) qs
    → list_all (λ p. has_cells p.kind p.cells) (map param_named qs) ≡ true
params_cells [] h = refl
params_cells (q ∷ qs) h = and_from (has_cells (param_kind q.kind) q.cells) (list_all (λ p. has_cells p.kind p.cells) (map param_named qs))
    (param_cells q.kind q.cells h.0) (params_cells qs h.1)

all_cells : (level outer : ℕ) (qs : List Param) → AllByRecursion (λ q. HasOneCellAs q.kind q.cells) qs
    → list_all (λ p. has_cells p.kind p.cells) (link_params level outer ++ map param_named qs) ≡ true
all_cells zero outer qs h = params_cells qs h
all_cells (suc zero) outer qs h = params_cells qs h
all_cells (suc (suc above)) outer qs h = params_cells qs h

-- ---- lines

rise : (low all at before : ℕ) (xs : List LineInstr) → low ≤ at → at + length xs ≤ all → lines_rise low all (lines_from at before xs) ≡ true
rise low all at before [] le few = refl
rise low all at before (x ∷ xs) le few =
    by (nat_eq x.line before) (rise low all (suc at) x.line xs (omega (arith, le)) (omega (arith, few)))
    (rise (suc at) all (suc at) x.line xs (omega arith) (omega (arith, few)))
  where
    by : (t : Bool) → lines_rise low all (lines_from (suc at) x.line xs) ≡ true
        → lines_rise (suc at) all (lines_from (suc at) x.line xs) ≡ true
        → lines_rise low all (line_from t at x.line (lines_from (suc at) x.line xs)) ≡ true
    by true same other = same
    by false same other =
        and_from (nat_le low at && nat_lt at all) (lines_rise (suc at) all (lines_from (suc at) x.line xs))
        (and_from (nat_le low at) (nat_lt at all) (le-leb low at le) (lt-ltb at all (omega (arith, few)))) other

-- ---- the whole code

each_passes : (f : PlainRoutine → Bool) (xs : List PlainRoutine) → ((r : ℕ) → r < length xs → f (get_or xs r plain.no_routine) ≡ true)
    → list_all f xs ≡ true
each_passes f [] h = refl
each_passes f (x ∷ xs) h = and_from (f x) (list_all f xs) (h 0 (omega arith)) (each_passes f xs (λ i lt. h (suc i) (omega (arith, lt))))

module _ (p : Program) (code : PlainCode) (checked : IsChecked p) (is_code : IsCodeOf p code) (runs : HasLongRuns p code) where
  routine_record : (r : ℕ) → r < length code.routines → is_routine_record (get_or code.routines r plain.no_routine) ≡ true
  routine_record r lt =
      let there : r < length p.routines = omega (arith, lt, count p code is_code) in
      let mine : Routine = routine_at p r in
      and_from _ _ (ap is_name (name_is p code is_code r there)
      ∙ is_name_of mine.name (routine_name p.routines r checked.names.routines there))
      (and_from _ _
      (ap (λ h. list_all (λ q. has_cells q.kind q.cells) h.params) (head_is p code is_code r there)
      ∙ all_cells mine.level mine.outer mine.params (checked.params r there).cells)
      (differ_is (head_at code r).runs (runs r there).longest))

  pub records : HoldsEachOnce p code → KeepsRecords code
  records held =
      let all : List LineInstr = routines_code p is_code.tables 0 (length p.routines) 0 in
      let long : length code.instrs ≡ length all = ap (λ c. length c.instrs) is_code.is ∙ length-map all (λ x. x.instr) in
      record {
        routines = each_passes is_routine_record code.routines routine_record;
        globals = ap (λ c. list_all (λ g. is_name g.name) c.globals) is_code.is ∙ all_named p.globals checked.names.globals;
        ranges = ranges_ordered p checked code held;
        lines = ap (λ c. lines_rise 0 (length code.instrs) c.lines) is_code.is
            ∙ rise 0 (length code.instrs) 0 0 all (omega arith) (omega (arith, long));
      }

pub code_keeps_records : (p : Program) (code : PlainCode) → IsChecked p → IsCodeOf p code → HasLongRuns p code → HoldsEachOnce p code
    → KeepsRecords code
code_keeps_records p code checked is_code runs held = records p code checked is_code runs held
