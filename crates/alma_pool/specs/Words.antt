-- The words of a call, as a reader knows them.
use Rattle.std.specs.Prelude.{◌≡◌, ◌≤◌, List, ℕ, ◌∷◌, length}
use Rattle.alma_driver_words.specs.Words.{AreFileNames}
use Rattle.alma_plan.specs.Words.{greatest_files}

-- the words name a file of turns, and from 1 to 16 files of objects
pub record AsksToPlay (words : List (List ℕ)) (file : List ℕ) (files : List (List ℕ)) : Type 0 where
  pub are : words ≡ file ∷ files
  pub names : AreFileNames words
  pub some : 1 ≤ length files
  pub few : length files ≤ greatest_files

-- the words ask that programs take turns
abbrev pub IsRequest : (words : List (List ℕ)) → Type 0
IsRequest words = (file : List ℕ) × (files : List (List ℕ)) × AsksToPlay words file files
