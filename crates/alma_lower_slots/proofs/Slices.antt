-- What stands in slots of lists that are made of others.
use Rattle.std.proofs.Common.{◌≡◌, ℕ, zero, suc, ◌+◌, ◌<◌, ◌≤◌, List, [], ◌∷◌, ◌++◌, length, take, drop, refl, sym, ap, ◌∙◌, arith}
use Rattle.std.specs.Prelude.{slice_get}
use Rattle.std.proofs.lemmas.Option.{slice_get_past, same_Some, none-some}
use Rattle.std.proofs.lemmas.List.{length-append}

module _ {X : Type 0} where
  -- the first part of two
  pub slice_get-append_left : (xs ys : List X) (i : ℕ) → i < length xs → slice_get (xs ++ ys) i ≡ slice_get xs i
  slice_get-append_left [] ys i lt = absurd (omega arith)
  slice_get-append_left (x ∷ xs) ys zero lt = refl
  slice_get-append_left (x ∷ xs) ys (suc i) lt = slice_get-append_left xs ys i (omega arith)

  -- a list of which the first items are others
  pub slice_get_behind : (xs ys : List X) (i : ℕ) → length xs ≤ i → slice_get (xs ++ drop (length xs) ys) i ≡ slice_get ys i
  slice_get_behind [] ys i le = refl
  slice_get_behind (x ∷ xs) ys zero le = absurd (omega arith)
  slice_get_behind (x ∷ xs) [] (suc i) le = slice_get_past (xs ++ []) i (omega (arith, length-append xs []))
  slice_get_behind (x ∷ xs) (y ∷ ys) (suc i) le = slice_get_behind xs ys i (omega arith)

  -- what is left of a list
  pub slice_get-drop : (i : ℕ) (xs : List X) (k : ℕ) → slice_get (drop i xs) k ≡ slice_get xs (i + k)
  slice_get-drop zero xs k = let z : k ≡ 0 + k = omega arith in ap (slice_get xs) z
  slice_get-drop (suc i) [] k = refl
  slice_get-drop (suc i) (x ∷ xs) k =
      let z : suc (i + k) ≡ suc i + k = omega arith in
      slice_get-drop i xs k ∙ ap (slice_get (x ∷ xs)) z

  -- two lists of which the first items are the same
  pub take_same : (n : ℕ) (xs ys : List X) → ((k : ℕ) → k < n → slice_get ys k ≡ slice_get xs k) → take n ys ≡ take n xs
  take_same zero xs ys h = refl
  take_same (suc n) [] [] h = refl
  take_same (suc n) [] (y ∷ ys) h = absurd (none-some y (sym (h 0 (omega arith))))
  take_same (suc n) (x ∷ xs) [] h = absurd (none-some x (h 0 (omega arith)))
  take_same (suc n) (x ∷ xs) (y ∷ ys) h =
      ap (λ z. z ∷ take n ys) (same_Some y x (h 0 (omega arith)))
      ∙ ap (λ zs. x ∷ zs) (take_same n xs ys (λ k lt. h (suc k) (omega arith)))

  -- two parts of lists of which the items are the same
  pub part_same : (n i : ℕ) (xs ys : List X) → ((k : ℕ) → k < n → slice_get ys (i + k) ≡ slice_get xs (i + k))
      → take n (drop i ys) ≡ take n (drop i xs)
  part_same n i xs ys h = take_same n (drop i xs) (drop i ys)
      (λ k lt. slice_get-drop i ys k ∙ h k lt ∙ sym (slice_get-drop i xs k))
