-- When a code is that of a program, and which programs have one.
use Rattle.std.specs.Prelude.{◌≡◌, ◌<◌, ℕ, true, false, List, [], length, get_or, Some, slice_get}
use Rattle.alma_base.specs.Numbers.{is_integer, char_range}
use Rattle.alma_base.specs.declared.number.Range.{Range}
use Rattle.alma_code.specs.declared.head.Run.{Run}
use Rattle.alma_code.specs.Layout.{kinds_of}
use Rattle.alma_code.specs.Plain.{PlainCode}
use Rattle.alma_ir.specs.Tree.{Program, routine_at, Assign, ForTo, SomeOf, Read, WriteText, a_loop, Bind, Unify, Const, Chr, ByValue}
use Rattle.alma_ir.specs.Tree.{MixValue, Index}
use Rattle.alma_ir.specs.Phrases.{Phrase, StmtPhrase, TestPhrase, ExprPhrase, ArgPhrase, SelPhrase}
use Rattle.alma_ir.specs.Checked.{EachPhrase}
use Rattle.alma_lower_templates.specs.Tables.{Tables, range_number, text_number, is_whole}
use Rattle.alma_lower_templates.specs.Slots.{routine_kinds}
use Rattle.alma_lower_templates.specs.Compiled.{program_code}

-- ---- the tables

-- the range stands in the table at its number
abbrev pub HoldsRange : Tables → Range → Type 0
HoldsRange tables range = slice_get tables.ranges (range_number tables range) ≡ Some range

-- a range that is only checked is not named where it holds all numbers
abbrev pub HoldsChecked : Tables → Range → Type 0
HoldsChecked tables range = is_whole range ≡ false → HoldsRange tables range

-- the ranges and the text that the code of a phrase names stand in the tables
abbrev pub InTables : Tables → Phrase → Type 0
InTables tables (StmtPhrase (Assign d e range)) = HoldsChecked tables range
InTables tables (StmtPhrase (ForTo (a_loop d range counter limit from to by body))) = HoldsChecked tables range
InTables tables (StmtPhrase (SomeOf (a_loop d range counter limit from to by body))) = HoldsChecked tables range
InTables tables (StmtPhrase (Read d how range)) = HoldsRange tables range
InTables tables (StmtPhrase (WriteText text)) = slice_get tables.texts (text_number tables text) ≡ Some text
InTables tables (TestPhrase (Bind d e range left)) = HoldsRange tables range
InTables tables (TestPhrase (Unify d range e range')) = HoldsRange tables range × HoldsRange tables range'
InTables tables (ExprPhrase (Chr e)) = HoldsRange tables char_range
InTables tables (ArgPhrase (ByValue e range)) = HoldsChecked tables range
InTables tables (ArgPhrase (MixValue e range)) = HoldsChecked tables range
InTables tables (SelPhrase (Index e range cells)) = HoldsRange tables range
InTables tables _ = Unit {0}

-- the tables hold what the phrases of all routines name, and the ranges of the results
pub record HoldsAllOf (p : Program) (tables : Tables) : Type 0 where
  pub phrases : EachPhrase p (λ r routine x. InTables tables x)
  pub results : (r : ℕ) (range : Range) → r < length p.routines → (routine_at p r).result ≡ Some range → HoldsChecked tables range

-- ---- the code

-- the code is that of the program, with runs that name the kinds of the slots of each routine
pub record IsCodeOf (p : Program) (code : PlainCode) : Type 0 where
  pub tables : Tables
  pub held : HoldsAllOf p tables
  pub runs : List (List Run)
  pub count : length runs ≡ length p.routines
  pub names : (r : ℕ) → r < length p.routines → kinds_of 0 (get_or runs r []) ≡ routine_kinds p r
  pub is : code ≡ program_code p tables runs

-- ---- numbers

-- a constant, and the ends of the range of what is read, are numbers of INTEGER
abbrev pub HasIntegers : Phrase → Type 0
HasIntegers (ExprPhrase (Const n)) = is_integer n ≡ true
HasIntegers (StmtPhrase (Read d how range)) = (is_integer range.low ≡ true) × (is_integer range.high ≡ true)
HasIntegers _ = Unit {0}

-- the numbers of a program are of INTEGER, as those of a program in memory are
abbrev pub IsOfIntegers : Program → Type 0
IsOfIntegers p = EachPhrase p (λ r routine x. HasIntegers x)
