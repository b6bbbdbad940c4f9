-- A loop that looks for the first of a list.
use Rattle.std.proofs.Common.{◌≡◌, ℕ, zero, suc, ◌+◌, ◌<◌, ◌≤◌, Bool, true, false, List, [], ◌∷◌, length, get_or, drop, sym, ap, ◌∙◌, arith}
use Rattle.std.specs.Prelude.{◌||◌}

module _ {X : Type 0} (f : List X → Bool) (g : X → Bool) (none : f [] ≡ false) (step : (x : X) (xs : List X) → f (x ∷ xs) ≡ (g x || f xs))
  where
    item_and_rest : (xs : List X) (i : ℕ) (x : X) → i < length xs → x ≡ get_or xs i x → f (drop i xs) ≡ (g x || f (drop (suc i) xs))
    item_and_rest [] i x within is = absurd (omega (arith, within))
    item_and_rest (y ∷ ys) zero x within is = step y ys ∙ ap (λ z. g z || f ys) (sym is)
    item_and_rest (y ∷ ys) (suc i) x within is = item_and_rest ys i x (omega (arith, within)) is

    past : (xs : List X) (i : ℕ) → length xs ≤ i → f (drop i xs) ≡ false
    past [] zero end = none
    past [] (suc i) end = none
    past (y ∷ ys) zero end = absurd (omega (arith, end))
    past (y ∷ ys) (suc i) end = past ys i (omega (arith, end))

    -- an item that is none of them
    pub missed : (xs : List X) (i : ℕ) (x : X) → i < length xs → x ≡ get_or xs i x → f xs ≡ f (drop i xs) → false ≡ g x →
        f xs ≡ f (drop (i + 1) xs)
    missed xs i x within is h miss =
        let on : suc i ≡ i + 1 = omega arith in
        h ∙ item_and_rest xs i x within is ∙ ap (λ b. b || f (drop (suc i) xs)) (sym miss) ∙ ap (λ n. f (drop n xs)) on

    -- one that is
    pub found : (xs : List X) (i : ℕ) (x : X) → i < length xs → x ≡ get_or xs i x → f xs ≡ f (drop i xs) → true ≡ g x → true ≡ f xs
    found xs i x within is h hit = sym (h ∙ item_and_rest xs i x within is ∙ ap (λ b. b || f (drop (suc i) xs)) (sym hit))

    -- none was
    pub missed_all : (xs : List X) (i : ℕ) → length xs ≤ i → f xs ≡ f (drop i xs) → false ≡ f xs
    missed_all xs i end h = sym (h ∙ past xs i end)
