-- The tables of a code: a range or a text is named by the first place in its table where it stands.
use Rattle.std.specs.Prelude.{ℕ, zero, suc, Bool, true, false, ◌&&◌, nat_eq, int_le, List, [], ◌∷◌}
use Rattle.alma_base.specs.Numbers.{whole_range, int_eq}
use Rattle.alma_base.specs.declared.number.Range.{Range}

-- the ranges, and the texts
pub record Tables : Type 0 where
  pub ranges : List Range
  pub texts : List (List ℕ)

-- whether two ranges have the same ends
abbrev pub same_range : Range → Range → Bool
same_range a b = int_eq a.low b.low && int_eq a.high b.high

-- whether two texts have the same bytes
abbrev pub same_text : List ℕ → List ℕ → Bool
same_text [] [] = true
same_text [] (b ∷ bs) = false
same_text (a ∷ as_) [] = false
same_text (a ∷ as_) (b ∷ bs) = nat_eq a b && same_text as_ bs

-- 0 where the first is the one, and else one more than among the others
abbrev pub count_past : Bool → ℕ → ℕ
count_past true others = zero
count_past false others = suc others

-- how many stand before the first that is the one; as many as there are, where none is
abbrev pub first_place : {A : Type 0} → (same : A → A → Bool) → List A → A → ℕ
first_place same [] a = zero
first_place same (b ∷ rest) a = count_past (same b a) (first_place same rest a)

-- the number by which a code names a range
abbrev pub range_number : Tables → Range → ℕ
range_number tables range = first_place same_range tables.ranges range

-- the number by which a code names a text
abbrev pub text_number : Tables → List ℕ → ℕ
text_number tables text = first_place same_text tables.texts text

-- a range that holds all numbers of INTEGER
abbrev pub is_whole : Range → Bool
is_whole range = int_le range.low whole_range.low && int_le whole_range.high range.high
