-- What a walk over phrases gathers.
use Rattle.std.specs.Prelude.{◌≡◌, ℕ, Bool, true, false, List, [], ◌∷◌, Option, Some, None}
use Rattle.std.specs.List.{AllByRecursion}
use Rattle.alma_base.specs.Numbers.{is_integer, char_range}
use Rattle.alma_base.specs.declared.number.Range.{Range}
use Rattle.alma_ir.specs.Tree.{Program, Assign, ForTo, SomeOf, Read, a_loop, Bind, Unify, Chr, ByValue, MixValue, Index}
use Rattle.alma_ir.specs.Phrases.{Phrase, StmtPhrase, TestPhrase, ExprPhrase, ArgPhrase, SelPhrase}
use Rattle.alma_lower_sound.specs.Entries.{of_each, texts_of}
use Rattle.alma_lower_tables.specs.Numbers.{with_entry}
use Rattle.alma_lower_templates.specs.CodeOf.{HasIntegers}
use Rattle.alma_lower_templates.specs.Tables.{Tables, same_range, same_text, is_whole}

-- nothing where the range is whole
abbrev pub unless_whole : Bool → Range → List Range
unless_whole true range = []
unless_whole false range = range ∷ []

-- a range that is only checked
abbrev pub check_range : Range → List Range
check_range range = unless_whole (is_whole range) range

-- the ranges that the code of a phrase itself names
abbrev pub named_ranges : Phrase → List Range
named_ranges (StmtPhrase (Assign d e range)) = check_range range
named_ranges (StmtPhrase (ForTo (a_loop d range counter limit from to by body))) = check_range range
named_ranges (StmtPhrase (SomeOf (a_loop d range counter limit from to by body))) = check_range range
named_ranges (StmtPhrase (Read d how range)) = range ∷ []
named_ranges (TestPhrase (Bind d e range left)) = range ∷ []
named_ranges (TestPhrase (Unify d range e range')) = range ∷ range' ∷ []
named_ranges (ExprPhrase (Chr e)) = char_range ∷ []
named_ranges (ArgPhrase (ByValue e range)) = check_range range
named_ranges (ArgPhrase (MixValue e range)) = check_range range
named_ranges (SelPhrase (Index e range cells)) = range ∷ []
named_ranges _ = []

-- entries with these behind them, each where none is the same
abbrev pub with_entries : {R : Type 0} → (R → R → Bool) → List R → List R → List R
with_entries same entries [] = entries
with_entries same entries (r ∷ rest) = with_entries same (with_entry same entries r) rest

-- the tables b are a with these ranges and texts
pub record Names (a b : Tables) (ranges : List Range) (texts : List (List ℕ)) : Type 0 where
  pub of_ranges : b.ranges ≡ with_entries same_range a.ranges ranges
  pub of_texts : b.texts ≡ with_entries same_text a.texts texts

-- the tables b are a with what these phrases name, and the numbers of the phrases are of INTEGER
pub record AddsPhrases (a b : Tables) (phrases : List Phrase) : Type 0 where
  pub names : Names a b (of_each named_ranges phrases) (of_each texts_of phrases)
  pub integers : AllByRecursion (λ x. HasIntegers x) phrases

-- both ends of a range are numbers of INTEGER
abbrev pub HasIntegerEnds : Range → Type 0
HasIntegerEnds range = (is_integer range.low ≡ true) × (is_integer range.high ≡ true)

-- the range of a result, where there is one, which is only checked
abbrev pub checked_result : Option Range → List Range
checked_result None = []
checked_result (Some range) = check_range range

-- the ranges of the results of a program
abbrev pub checked_results : Program → List Range
checked_results p = of_each (λ r. checked_result r.result) p.routines
