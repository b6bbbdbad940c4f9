-- The words of a call, as a reader knows them.
use Rattle.std.specs.Prelude.{◌≡◌, List, ℕ, [], ◌∷◌}
use Rattle.alma_driver_words.specs.Words.{AreFileNames}

-- the words name an object and a script
pub record AsksToWalk (words : List (List ℕ)) (object script : List ℕ) : Type 0 where
  pub are : words ≡ object ∷ script ∷ []
  pub names : AreFileNames words

-- the words ask for a walk
abbrev pub IsRequest : (words : List (List ℕ)) → Type 0
IsRequest words = (object : List ℕ) × (script : List ℕ) × AsksToWalk words object script
