-- The tables that numbers in memory stand for.
use Rattle.std.specs.Prelude.{◌≡◌, ℤ, ℕ, Bool, List, [], ◌∷◌, ◌++◌, map, Vec, if◌then◌else◌}
use Rattle.std.specs.List.{list_any}
use Rattle.std.specs.Global.{Global}
use Rattle.alma_base.specs.declared.number.Range.{Range}
use Rattle.alma_lower_tables.specs.declared.numbers.Numbers.{Numbers}
use Rattle.alma_lower_templates.specs.Tables.{Tables}

-- a range that is kept as its two ends
abbrev pub range_of : ℤ × ℤ → Range
range_of ends = record { low = ends.0; high = ends.1 }

-- a text in memory
abbrev pub text_of : Vec ℕ Global → List ℕ
text_of text = text.items

-- the tables, each in the order in which its entries came
abbrev pub tables_of : Numbers → Tables
tables_of n = record { ranges = map range_of n.ranges.keys; texts = map text_of n.texts.keys }

-- the tables b are a with more behind
pub record Extends (a b : Tables) : Type 0 where
  pub more_ranges : List Range
  pub more_texts : List (List ℕ)
  pub ranges : b.ranges ≡ a.ranges ++ more_ranges
  pub texts : b.texts ≡ a.texts ++ more_texts

-- entries with one more behind them, where none of them is the same
abbrev pub with_entry : {R : Type 0} → (R → R → Bool) → List R → R → List R
with_entry same entries r = if list_any (λ x. same x r) entries then entries else entries ++ r ∷ []
