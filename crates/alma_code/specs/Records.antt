-- What the format of objects asks of the tables of a code, beside their order: no count is too
-- large, and each record is as it must be.
use Rattle.std.specs.Prelude.{◌≡◌, ◌⊎◌, ◌+◌, ◌≤◌, ℕ, Bool, true, false, not, ◌&&◌, ◌||◌, nat_eq, nat_le, int_le, List, [], ◌∷◌, sum_by}
use Rattle.std.specs.Prelude.{length}
use Rattle.std.specs.List.{list_all}
use Rattle.alma_base.specs.Limits.{routine_limit, instr_limit, slot_limit, record_limit, pool_limit}
use Rattle.alma_base.specs.Reading.{is_digit}
use Rattle.alma_code.specs.declared.cell.SlotKind.{SlotKind}
use Rattle.alma_code.specs.declared.cell.SlotKind.TheVariants as slot
use Rattle.alma_code.specs.declared.head.Run.{Run}
use Rattle.alma_code.specs.declared.head.ParamKind.{ParamKind}
use Rattle.alma_code.specs.declared.head.ParamKind.TheVariants as param
use Rattle.alma_code.specs.declared.instr.Instr.{Instr}
use Rattle.alma_code.specs.declared.instr.Instr.TheVariants as I
use Rattle.alma_code.specs.Lines.{lines_rise}
use Rattle.alma_code.specs.Plain.{PlainCode, PlainRoutine}

-- ---- counts

-- how many parameters all routines have together
abbrev pub param_count : PlainCode → ℕ
param_count code = sum_by (λ r. length r.head.params) code.routines

-- how many runs all routines have together
abbrev pub run_count : PlainCode → ℕ
run_count code = sum_by (λ r. length r.head.runs) code.routines

-- how many bytes the names of routines and globals have together
abbrev pub name_byte_count : PlainCode → ℕ
name_byte_count code = sum_by (λ r. length r.name) code.routines + sum_by (λ g. length g.name) code.globals

-- how many bytes the texts have together
abbrev pub text_byte_count : PlainCode → ℕ
text_byte_count code = sum_by length code.texts

-- no count is past its greatest value
pub record KeepsCounts (code : PlainCode) : Type 0 where
  pub routines : length code.routines ≤ routine_limit
  pub globals : length code.globals ≤ record_limit
  pub params : param_count code ≤ record_limit
  pub runs : run_count code ≤ slot_limit
  pub ranges : length code.ranges ≤ record_limit
  pub texts : length code.texts ≤ record_limit
  pub names : name_byte_count code ≤ pool_limit
  pub text_bytes : text_byte_count code ≤ pool_limit
  pub instrs : length code.instrs ≤ instr_limit
  pub lines : length code.lines ≤ record_limit

-- ---- records

-- a letter or `_`
abbrev pub is_name_start : ℕ → Bool
is_name_start c = (nat_le 65 c && nat_le c 90) || ((nat_le 97 c && nat_le c 122) || nat_eq c 95)

-- the spelling of a name or of a reserved word: a letter or `_`, then letters, digits and `_`
abbrev pub is_name : List ℕ → Bool
is_name [] = false
is_name (c ∷ rest) = is_name_start c && list_all (λ d. is_name_start d || is_digit d) rest

-- a Value and a Mix have one cell
abbrev pub has_cells : ParamKind → ℕ → Bool
has_cells param.Value n = nat_eq n 1
has_cells param.Mix n = nat_eq n 1
has_cells param.Place n = true
has_cells param.Cells n = true
has_cells param.Link n = true

-- the two kinds are one, length included
abbrev pub same_kind : SlotKind → SlotKind → Bool
same_kind slot.Number slot.Number = true
same_kind (slot.Place m) (slot.Place n) = nat_eq m n
same_kind slot.Mark slot.Mark = true
same_kind (slot.Link m) (slot.Link n) = nat_eq m n
same_kind _ _ = false

-- two runs that follow each other differ in kind or length
abbrev pub runs_differ : List Run → Bool
runs_differ [] = true
runs_differ (a ∷ []) = true
runs_differ (a ∷ (b ∷ rest)) = not (same_kind a.kind b.kind) && runs_differ (b ∷ rest)

-- ---- versions

-- the version of a code without links and lines
abbrev pub first_version : ℕ
first_version = 1

-- the version of a code that may have links and lines
abbrev pub latest_version : ℕ
latest_version = 2

-- a kind of the first version: no link
abbrev pub is_first_kind : SlotKind → Bool
is_first_kind (slot.Link r) = false
is_first_kind slot.Number = true
is_first_kind (slot.Place n) = true
is_first_kind slot.Mark = true

-- a parameter of the first version
abbrev pub is_first_param : ParamKind → Bool
is_first_param param.Link = false
is_first_param param.Value = true
is_first_param param.Place = true
is_first_param param.Mix = true
is_first_param param.Cells = true

-- a form of the first version
abbrev pub is_first_form : Instr → Bool
is_first_form (I.Own a) = false
is_first_form (I.Chain a b c) = false
is_first_form (I.Outer a b c) = false
is_first_form (I.OuterSame a b c) = false
is_first_form _ = true

-- a routine of the first version: no link among the kinds of its slots, nor among its parameters
abbrev pub is_first_routine : PlainRoutine → Bool
is_first_routine r = list_all (λ run. is_first_kind run.kind) r.head.runs && list_all (λ p. is_first_param p.kind) r.head.params

-- no link and no line
pub record IsFirst (code : PlainCode) : Type 0 where
  pub routines : list_all is_first_routine code.routines ≡ true
  pub forms : list_all is_first_form code.instrs ≡ true
  pub lines : code.lines ≡ []

-- the version is the first or the latest, and a code of the first has no link and no line
pub record KeepsVersion (code : PlainCode) : Type 0 where
  pub version : (code.version ≡ first_version) ⊎ (code.version ≡ latest_version)
  pub first : code.version ≡ first_version → IsFirst code

-- ---- all records

-- the record of a routine
abbrev pub is_routine_record : PlainRoutine → Bool
is_routine_record r = is_name r.name && (list_all (λ p. has_cells p.kind p.cells) r.head.params && runs_differ r.head.runs)

-- each record is as it must be; that a routine's ends rise is said of the tables
pub record KeepsRecords (code : PlainCode) : Type 0 where
  pub routines : list_all is_routine_record code.routines ≡ true
  pub globals : list_all (λ g. is_name g.name) code.globals ≡ true
  pub ranges : list_all (λ t. int_le t.low t.high) code.ranges ≡ true
  pub lines : lines_rise 0 (length code.instrs) code.lines ≡ true
