-- Spans that are covered.
use Rattle.std.proofs.Common.{◌≡◌, ℕ, ℤ, ◌+◌, ◌<◌, ◌≤◌, ◌<ℤ◌, true, false, List, [], ◌∷◌, ◌++◌, length, take, drop, get_or, None, Some, suc}
use Rattle.std.proofs.Common.{zero, refl, arith}
use Rattle.std.proofs.lemmas.List.{take_more}
use Rattle.std.specs.Prelude.{Bool, ◌&&◌, ◌||◌, nat_eq, int_le}
use Rattle.std.specs.BTreeMap.{BTreeMap}
use Rattle.alma_rules.specs.Parts as parts
use Rattle.alma_rules.specs.StmtRules.{share_value, shares_value}
use Rattle.alma_check_rules.specs.declared.part.Span.{Span}
use Rattle.alma_check_rules.specs.Views.{span_view, spans_view}
use Rattle.alma_check_rules.specs.Reach.{end_at, Rises, Covers, Keeps, IsReached}
use Rattle.alma_check_rules.specs.Labels.{CoversAll, SharesNone}

neither : (a b : Bool) → a ≡ false → b ≡ false → (a || b) ≡ false
neither a b p q = rw (p, q) refl

module _ (m : BTreeMap (ℕ × ℤ) ℤ) (x : parts.Span) where
  -- nothing that is covered shares a value with x
  abbrev pub SharesNothing : Type 0
  SharesNothing = (y : parts.Span) → Covers m y.base y.range.low y.range.high
      → (nat_eq x.base y.base && share_value x.range y.range) ≡ false

  apart : (y : parts.Span) → IsReached m x.base x.range.high x.range.low false → Covers m y.base y.range.low y.range.high
      → (t u v : Bool) → t ≡ nat_eq x.base y.base → u ≡ int_le x.range.low y.range.high → v ≡ int_le y.range.low x.range.high
      → (t && (u && v)) ≡ false
  apart y f c false u v a b d = refl
  apart y f c true false v a b d = refl
  apart y f c true true false a b d = refl
  apart y f c true true true a b d =
      let same : x.base ≡ y.base = grind (arith, a) in
      let noted : end_at m x.base c.start ≡ Some c.end = rw same c.noted in
      let short : c.end <ℤ x.range.low = f c.start c.end noted (grind (arith, c.begins, d)) in
      absurd (grind (arith, short, c.reaches, b))

  pub shares_nothing : IsReached m x.base x.range.high x.range.low false → SharesNothing
  shares_nothing f = λ y c. apart y f c _ _ _ refl refl refl

  pub may_share_as : (t : Bool) → IsReached m x.base x.range.high x.range.low t → SharesNone m x t
  may_share_as true h = λ q. absurd (cc)
  may_share_as false h = λ q. shares_nothing h

  pub none_of : (xs : List Span) → CoversAll m xs → SharesNothing → shares_value x (spans_view xs) ≡ false
  none_of [] a n = refl
  none_of (y ∷ ys) a n = neither _ _ (n (span_view y) a.0) (none_of ys a.1 n)

-- two parts of a list, in which nothing shares a value with x
first_of : (a b : Bool) → (a || b) ≡ false → a ≡ false
first_of false b h = refl
first_of true b h = h

second_of : (a b : Bool) → (a || b) ≡ false → b ≡ false
second_of false b h = h
second_of true b h = absurd (cc)

pub none_in_parts : (n : ℕ) (xs : List Span) (x : parts.Span) → shares_value x (spans_view (take n xs)) ≡ false
    → shares_value x (spans_view (drop n xs)) ≡ false → shares_value x (spans_view xs) ≡ false
none_in_parts n [] x h k = refl
none_in_parts zero (y ∷ ys) x h k = k
none_in_parts (suc n) (y ∷ ys) x h k =
    neither _ _ (first_of _ _ h) (none_in_parts n ys x (second_of _ _ h) k)

module _ (m : BTreeMap (ℕ × ℤ) ℤ) where
  pub covers_take : (n : ℕ) (xs : List Span) → CoversAll m xs → CoversAll m (take n xs)
  covers_take zero xs a = tt
  covers_take (suc n) [] a = tt
  covers_take (suc n) (x ∷ xs) a = (a.0, covers_take n xs a.1)

  pub covers_drop : (n : ℕ) (xs : List Span) → CoversAll m xs → CoversAll m (drop n xs)
  covers_drop zero xs a = a
  covers_drop (suc n) [] a = tt
  covers_drop (suc n) (x ∷ xs) a = covers_drop n xs a.1

  pub covers_append : (xs ys : List Span) → CoversAll m xs → CoversAll m ys → CoversAll m (xs ++ ys)
  covers_append [] ys a b = b
  covers_append (x ∷ xs) ys a b = (a.0, covers_append xs ys a.1 b)

  -- where the list is cut
  pub covers_take_take : (n k : ℕ) (xs : List Span) → CoversAll m (take n xs) → CoversAll m (take n (take k xs))
  covers_take_take zero k xs a = tt
  covers_take_take (suc n) zero xs a = tt
  covers_take_take (suc n) (suc k) [] a = tt
  covers_take_take (suc n) (suc k) (x ∷ xs) a = (a.0, covers_take_take n k xs a.1)

  pub covers_drop_take : (n k : ℕ) (xs : List Span) → CoversAll m (drop n xs) → CoversAll m (drop n (take k xs))
  covers_drop_take zero k xs a = covers_take k xs a
  covers_drop_take (suc n) zero xs a = tt
  covers_drop_take (suc n) (suc k) [] a = tt
  covers_drop_take (suc n) (suc k) (x ∷ xs) a = covers_drop_take n k xs a

  pub covers_fewer : (k n : ℕ) (xs : List Span) → k ≤ n → CoversAll m (take n xs) → CoversAll m (take k xs)
  covers_fewer zero n xs h a = tt
  covers_fewer (suc k) zero xs h a = absurd (omega (arith, h))
  covers_fewer (suc k) (suc n) [] h a = tt
  covers_fewer (suc k) (suc n) (x ∷ xs) h a = (a.0, covers_fewer k n xs (omega (arith, h)) a.1)

  -- where more comes behind
  pub covers_take_push : (n : ℕ) (xs ys : List Span) → n ≤ length xs → CoversAll m (take n xs) → CoversAll m (take n (xs ++ ys))
  covers_take_push zero xs ys h a = tt
  covers_take_push (suc n) [] ys h a = absurd (omega (arith, h))
  covers_take_push (suc n) (x ∷ xs) ys h a = (a.0, covers_take_push n xs ys (omega (arith, h)) a.1)

  pub covers_drop_push : (n : ℕ) (xs ys : List Span) → CoversAll m (drop n xs) → CoversAll m ys → CoversAll m (drop n (xs ++ ys))
  covers_drop_push zero xs ys a b = covers_append xs ys a b
  covers_drop_push (suc n) [] ys a b = covers_drop (suc n) ys b
  covers_drop_push (suc n) (x ∷ xs) ys a b = covers_drop_push n xs ys a b

  pub covers_nothing : (n : ℕ) (xs : List Span) → length xs ≤ n → CoversAll m (drop n xs)
  covers_nothing zero [] h = tt
  covers_nothing (suc n) [] h = tt
  covers_nothing zero (x ∷ xs) h = absurd (omega (arith, h))
  covers_nothing (suc n) (x ∷ xs) h = covers_nothing n xs (omega (arith, h))

pub covers_kept : (m n : BTreeMap (ℕ × ℤ) ℤ) (xs : List Span) → Keeps m n → CoversAll m xs → CoversAll n xs
covers_kept m n [] k a = tt
covers_kept m n (x ∷ xs) k a = (k.keeps x.base x.range.low x.range.high a.0, covers_kept m n xs k a.1)

-- an empty map
nothing_at : (m : BTreeMap (ℕ × ℤ) ℤ) (b : ℕ) (x v : ℤ) → m.entries ≡ [] → end_at m b x ≡ Some v → ⊥
nothing_at m b x v h e = let none : end_at m b x ≡ None = rw h refl in cc

pub empty_rises : (m : BTreeMap (ℕ × ℤ) ℤ) → m.entries ≡ [] → Rises m
empty_rises m h = record { rises = λ b x y v w e f l. absurd (nothing_at m b x v h e) }

-- one more of a list is covered
pub covers_more : (m n : BTreeMap (ℕ × ℤ) ℤ) (i : ℕ) (xs : List Span) (d : Span) → Keeps m n → i < length xs → CoversAll m (take i xs)
    → Covers n (get_or xs i d).base (get_or xs i d).range.low (get_or xs i d).range.high → CoversAll n (take (i + 1) xs)
covers_more m n i xs d k h a c = rw (take_more xs i d h)
    (covers_append n (take i xs) (get_or xs i d ∷ []) (covers_kept m n (take i xs) k a) (c, tt))
