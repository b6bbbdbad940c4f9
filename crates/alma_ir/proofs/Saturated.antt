-- Sums that stop at 2^64-1: a sum of two such sums is the sum of both, stopped there.
use Rattle.std.proofs.Common.{◌≡◌, ℕ, ◌+◌, ◌*◌, ◌<◌, ◌≤◌, List, length, get_or, take, refl, sym, ap, ◌∙◌, arith}
use Rattle.std.specs.Prelude.{sum_by}
use Rattle.std.proofs.lemmas.List.{take_all}
use Rattle.std.proofs.lemmas.List.Sums.{sum_by_more}
use Rattle.alma_ir.specs.Count.{saturate}

-- the sum of two
pub both : (a b x y r : ℕ) → x ≡ saturate a → y ≡ saturate b → r ≡ saturate (x + y) → r ≡ saturate (a + b)
both a b x y r first second sum = omega arith

-- the same of a number that is equal
pub same : (a b r : ℕ) → a ≡ b → r ≡ saturate a → r ≡ saturate b
same a b r e h = h ∙ ap saturate e

-- what fits is as it is
pub small : (a : ℕ) → a < 18446744073709551616 → a ≡ saturate a
small a h = omega arith

-- a node with no part
pub leaf : (n : ℕ) → n ≡ 1 → 1 ≡ saturate n
leaf n e = same 1 n 1 (sym e) (small 1 (omega arith))

-- a part and one more
one_more : (a x r : ℕ) → x ≡ saturate a → r ≡ saturate (x + 1) → r ≡ saturate (1 + a)
one_more a x r part sum = omega arith

-- a node with one part
pub one_part : (a n x r : ℕ) → n ≡ 1 + a → x ≡ saturate a → r ≡ saturate (x + 1) → r ≡ saturate n
one_part a n x r e part sum = same (1 + a) n r (sym e) (one_more a x r part sum)

-- a node with two
pub two_parts : (a b n x y s r : ℕ) → n ≡ 1 + a + b → x ≡ saturate a → y ≡ saturate b → s ≡ saturate (x + y) → r ≡ saturate (s + 1)
    → r ≡ saturate n
two_parts a b n x y s r e first second sum total =
    same (1 + (a + b)) n r (omega (arith, e)) (one_more (a + b) s r (both a b x y s first second sum) total)

-- what is counted in front of an item that is one and has a part
pub with_part : (s b : ℕ) → s + 1 + b ≡ s + (1 + b)
with_part s b = omega arith

-- the same of an item that has two
pub with_two : (s a b : ℕ) → s + 1 + a + b ≡ s + (1 + a + b)
with_two s a b = omega arith

-- a turn of a loop adds what its item counts
pub turn : {X : Type 0} (f : X → ℕ) (xs : List X) (i : ℕ) (x : X) (k r : ℕ) → i < length xs → x ≡ get_or xs i x →
    k ≡ sum_by f (take i xs) + f x → r ≡ saturate k → r ≡ saturate (sum_by f (take (i + 1) xs))
turn f xs i x k r within is e h =
    same k _ r (e ∙ ap (λ y. sum_by f (take i xs) + f y) is ∙ sym (sum_by_more f xs i x within)) h

-- the same over one that is counted before
pub turn_above_one : {X : Type 0} (f : X → ℕ) (xs : List X) (i : ℕ) (x : X) (y s r : ℕ) → i < length xs → x ≡ get_or xs i x →
    s ≡ saturate (1 + sum_by f (take i xs)) → y ≡ saturate (f x) → r ≡ saturate (s + y) → r ≡ saturate (1 + sum_by f (take (i + 1) xs))
turn_above_one f xs i x y s r within is before one sum =
    let more : sum_by f (take (i + 1) xs) ≡ sum_by f (take i xs) + f x = sum_by_more f xs i x within
    ∙ ap (λ y. sum_by f (take i xs) + f y) (sym is) in
    same _ _ r (omega (arith, more)) (both (1 + sum_by f (take i xs)) (f x) s y r before one sum)

-- a turn whose item counts as one number
pub next : {X : Type 0} (f : X → ℕ) (xs : List X) (i : ℕ) (x : X) (y s r : ℕ) → i < length xs → x ≡ get_or xs i x →
    s ≡ saturate (sum_by f (take i xs)) → y ≡ saturate (f x) → r ≡ saturate (s + y) → r ≡ saturate (sum_by f (take (i + 1) xs))
next f xs i x y s r within is before one sum =
    turn f xs i x (sum_by f (take i xs) + f x) r within is refl (both (sum_by f (take i xs)) (f x) s y r before one sum)

-- behind the last turn all are counted
pub ended : {X : Type 0} (f : X → ℕ) (xs : List X) (i n r : ℕ) → length xs ≤ i → n ≡ sum_by f xs → r ≡ saturate (sum_by f (take i xs)) →
    r ≡ saturate n
ended f xs i n r end e h = same _ n r (ap (sum_by f) (take_all i xs end) ∙ sym e) h

-- the same over one that is counted before
pub ended_above_one : {X : Type 0} (f : X → ℕ) (xs : List X) (i n r : ℕ) → length xs ≤ i → n ≡ sum_by f xs →
    r ≡ saturate (1 + sum_by f (take i xs)) → r ≡ saturate (1 + n)
ended_above_one f xs i n r end e h =
    same _ (1 + n) r (ap (λ k. 1 + k) (ap (sum_by f) (take_all i xs end) ∙ sym e)) h

-- sixteen times what was stopped
pub sixteen : (a x r : ℕ) → x ≡ saturate a → r ≡ saturate (x * 16) → r ≡ saturate (16 * a)
sixteen a x r part product = omega arith
