-- What stands behind the command of a request, as it is read.
use Rattle.std.specs.Prelude.{◌≡◌, List, ℕ, [], ◌∷◌, codes, Result, Ok, Err}
use Rattle.std.specs.Borrow.{Bor}
use Rattle.alma_driver_words.specs.declared.words.WordsError.{WordsError}
use Rattle.alma_driver_words.specs.declared.words.WordsError.TheVariants.{Bad, Memory}
use Rattle.alma_driver_words.specs.Words.{IsFileName, IsBadWord}

-- no name of a file stands in front
abbrev pub LacksName : List (List ℕ) → Type 0
LacksName [] = Unit {0}
LacksName (word ∷ words) = IsFileName word → ⊥

-- What reading the one name behind `check` or `list` may answer.
abbrev pub ReadsOne : List (List ℕ) → Result (Bor (List ℕ)) WordsError → Type 0
ReadsOne words (Ok name) = (words ≡ name.now ∷ []) × IsFileName name.now
ReadsOne words (Err (Bad k)) = IsBadWord (codes "check" ∷ words) k × IsBadWord (codes "list" ∷ words) k
ReadsOne words (Err Memory) = Unit {0}
