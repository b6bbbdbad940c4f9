-- Lemmas on a list of any elements that is read at an index.
use Rattle.std.proofs.Common.{◌≡◌, ℕ, ◌+◌, List, [], ◌∷◌, drop, get_or, suc, zero, ap, ◌∙◌, arith}
use Rattle.std.specs.Prelude.{Some, slice_get}

-- what is read at an index stands at the head of the list from there on
read-drop-suc : {A : Type 0} (x : A) (xs : List A) (i : ℕ) → slice_get xs i ≡ Some x → drop i xs ≡ x ∷ drop (suc i) xs
read-drop-suc x [] i e = absurd (cc)
read-drop-suc x (y ∷ ys) zero e = let same : y ≡ x = cc in ap (λ z. z ∷ ys) same
read-drop-suc x (y ∷ ys) (suc i) e = read-drop-suc x ys i e

-- the same, with the index that loops use
pub read-drop : {A : Type 0} (x : A) (xs : List A) (i : ℕ) → slice_get xs i ≡ Some x → drop i xs ≡ x ∷ drop (i + 1) xs
read-drop x xs i e = let up : suc i ≡ i + 1 = omega arith in read-drop-suc x xs i e ∙ ap (λ k. x ∷ drop k xs) up

-- what is read at an index is the element there
pub read-at : {A : Type 0} (x d : A) (xs : List A) (i : ℕ) → slice_get xs i ≡ Some x → get_or xs i d ≡ x
read-at x d [] i e = absurd (cc)
read-at x d (y ∷ ys) zero e = let same : y ≡ x = cc in same
read-at x d (y ∷ ys) (suc i) e = read-at x d ys i e
