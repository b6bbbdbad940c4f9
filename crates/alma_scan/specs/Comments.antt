-- Comments, which nest, and what may stand between two tokens. 40 is `(`, 41 is `)`, 42 is `*`.
use Rattle.std.specs.Prelude.{◌≡◌, ℕ, Bool, true, false, ◌&&◌, nat_eq, List, [], ◌∷◌}
use Rattle.alma_base.specs.Reading.{is_blank}

-- the bytes begin with these two
abbrev pub starts_with_two : ℕ → ℕ → List ℕ → Bool
starts_with_two x y [] = false
starts_with_two x y (a ∷ []) = false
starts_with_two x y (a ∷ b ∷ bytes) = nat_eq a x && nat_eq b y

-- the bytes begin with `(*`
abbrev pub opens : List ℕ → Bool
opens bytes = starts_with_two 40 42 bytes

-- the bytes begin with `*)`
abbrev pub closes : List ℕ → Bool
closes bytes = starts_with_two 42 41 bytes

-- Inside a comment the bytes go on to its end, behind which the rest stands. They are `*)`, or a byte that begins
-- neither `(*` nor `*)` and more of the comment, or a whole comment and more of the comment.
pub data Closes : List ℕ → List ℕ → Type 0 where
  here : (rest : List ℕ) → Closes (42 ∷ 41 ∷ rest) rest
  byte : (b : ℕ) (bytes rest : List ℕ) → opens (b ∷ bytes) ≡ false → closes (b ∷ bytes) ≡ false → Closes bytes rest
      → Closes (b ∷ bytes) rest
  nested : (bytes inner_rest rest : List ℕ) → Closes bytes inner_rest → Closes inner_rest rest → Closes (40 ∷ 42 ∷ bytes) rest

-- the bytes are blanks and whole comments, behind which the rest stands
pub data Gap : List ℕ → List ℕ → Type 0 where
  none : (rest : List ℕ) → Gap rest rest
  blank : (b : ℕ) (bytes rest : List ℕ) → is_blank b ≡ true → Gap bytes rest → Gap (b ∷ bytes) rest
  comment : (bytes after rest : List ℕ) → Closes bytes after → Gap after rest → Gap (40 ∷ 42 ∷ bytes) rest
