-- What is outside as it stands at one moment: a record for each side.
use Rattle.std.specs.Prelude.{List, ℕ, Option}
use Rattle.alma_io.specs.Files.{Told}

-- a sink: the bytes that it holds, where it tells them, and how often it has failed
pub record SinkSide : Type 0 where
  pub written : Option (List ℕ)
  pub faults : ℕ

-- a source: the bytes that are left, where it tells them, and how often it has failed
pub record SourceSide : Type 0 where
  pub left : Option (List ℕ)
  pub faults : ℕ

-- files: what they tell of each name, a count for each name that rises when its fetch fails, and how often a store has failed
pub record FilesSide : Type 0 where
  pub told : List ℕ → Told
  pub fetch_faults : (name : List ℕ) → ℕ
  pub store_faults : ℕ

-- one count for all names
abbrev pub for_all_names : ℕ → (name : List ℕ) → ℕ
for_all_names count name = count
