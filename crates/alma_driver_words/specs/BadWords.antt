-- The first of some words that cannot stand where it is.
use Rattle.std.specs.Prelude.{◌<◌, ◌≤◌, ◌+◌, List, ℕ, ◌++◌, length, take}

-- a program is asked for something by words of this form
module _ (Asks : List (List ℕ) → Type 0) where
  -- words that ask for something begin with these
  abbrev pub Begins : List (List ℕ) → Type 0
  Begins words = (more : List (List ℕ)) × Asks (words ++ more)

  -- Word k, from 1, is the first that cannot stand where it is; or the words end too early, and k is one more than they are.
  pub record IsBadWord (words : List (List ℕ)) (k : ℕ) : Type 0 where
    pub before : (j : ℕ) → j < k → Begins (take j words)
    pub here : k ≤ length words → Begins (take k words) → ⊥
    pub end : k ≤ length words + 1
    pub none : Asks words → ⊥
