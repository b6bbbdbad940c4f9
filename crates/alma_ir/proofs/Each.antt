-- A fact of each element of a list, as the conditions on programs say it.
use Rattle.std.proofs.Common.{List, [], ◌∷◌, ◌++◌}
use Rattle.std.specs.List.{AllByRecursion}

-- of two lists in a row it holds in the first
pub each_of_front : {X : Type 0} (P : X → Type 0) (xs ys : List X) → AllByRecursion P (xs ++ ys) → AllByRecursion P xs
each_of_front P [] ys h = tt
each_of_front P (x ∷ xs) ys h = (h.0, each_of_front P xs ys h.1)

-- and in the second
pub each_of_back : {X : Type 0} (P : X → Type 0) (xs ys : List X) → AllByRecursion P (xs ++ ys) → AllByRecursion P ys
each_of_back P [] ys h = h
each_of_back P (x ∷ xs) ys h = each_of_back P xs ys h.1

-- where it holds in both it holds in the two in a row
pub each_of_append : {X : Type 0} (P : X → Type 0) (xs ys : List X) → AllByRecursion P xs → AllByRecursion P ys
    → AllByRecursion P (xs ++ ys)
each_of_append P [] ys h k = k
each_of_append P (x ∷ xs) ys h k = (h.0, each_of_append P xs ys h.1 k)

-- two facts are one fact
pub each_of_both : {X : Type 0} (P Q : X → Type 0) (xs : List X) → AllByRecursion P xs → AllByRecursion Q xs
    → AllByRecursion (λ x. P x × Q x) xs
each_of_both P Q [] h k = tt
each_of_both P Q (x ∷ xs) h k = ((h.0, k.0), each_of_both P Q xs h.1 k.1)

-- a fact that another follows from
pub each_follows : {X : Type 0} (P Q : X → Type 0) → ((x : X) → P x → Q x) → (xs : List X) → AllByRecursion P xs → AllByRecursion Q xs
each_follows P Q f [] h = tt
each_follows P Q f (x ∷ xs) h = (f x h.0, each_follows P Q f xs h.1)
