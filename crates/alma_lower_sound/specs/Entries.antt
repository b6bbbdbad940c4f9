-- What the tables of a code hold where they hold what its program names, each once.
use Rattle.std.specs.Prelude.{ℕ, Bool, List, [], ◌∷◌, ◌++◌, Option, Some, None}
use Rattle.std.specs.List.{AllByRecursion, Contains, IsDistinct}
use Rattle.alma_base.specs.declared.number.Range.{Range}
use Rattle.alma_code.specs.Plain.{PlainCode}
use Rattle.alma_ir.specs.Tree.{Program, WriteText}
use Rattle.alma_ir.specs.Phrases.{Phrase, StmtPhrase, stmts_phrases}
use Rattle.alma_ir.specs.Checked.{ranges_of}
use Rattle.alma_lower_templates.specs.Tables.{same_range, same_text}
use Rattle.alma_base.specs.Numbers.{char_range}

-- what is made of each element, one list behind another
abbrev pub of_each : {A B : Type 0} → (A → List B) → List A → List B
of_each f [] = []
of_each f (x ∷ xs) = f x ++ of_each f xs

-- the phrases of all routines
abbrev pub program_phrases : Program → List Phrase
program_phrases p = of_each (λ r. stmts_phrases r.body) p.routines

-- the range of a result, where there is one
abbrev pub result_range : Option Range → List Range
result_range None = []
result_range (Some range) = range ∷ []

-- the ranges of a program: that of CHAR, those of its phrases, and those of its results
abbrev pub program_ranges : Program → List Range
program_ranges p = char_range ∷ (of_each ranges_of (program_phrases p) ++ of_each (λ r. result_range r.result) p.routines)

-- the text that a phrase itself prints
abbrev pub texts_of : Phrase → List (List ℕ)
texts_of (StmtPhrase (WriteText text)) = text ∷ []
texts_of _ = []

-- the texts of a program
abbrev pub program_texts : Program → List (List ℕ)
program_texts p = of_each texts_of (program_phrases p)

-- the entries of a table: each is one of these, and no two are alike
pub record AreSome {A : Type 0} (same : A → A → Bool) (all entries : List A) : Type 0 where
  pub among : AllByRecursion (λ x. Contains all x) entries
  pub distinct : IsDistinct same entries

-- the tables of the code hold ranges and texts of the program, each at most once
pub record HoldsEachOnce (p : Program) (code : PlainCode) : Type 0 where
  pub ranges : AreSome same_range (program_ranges p) code.ranges
  pub texts : AreSome same_text (program_texts p) code.texts
