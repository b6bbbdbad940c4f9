-- Plain facts on lists and tests.
use Rattle.std.proofs.Common.{◌≡◌, ℕ, Bool, true, false, List, [], ◌∷◌}

-- no test is both true and false
pub true_false : true ≡ false → ⊥
true_false e = cc e

-- no test has two answers
pub both : (b : Bool) → b ≡ true → b ≡ false → ⊥
both b h k = cc (h, k)

-- equal lists have equal first elements
pub heads : {x y : ℕ} {xs ys : List ℕ} → x ∷ xs ≡ y ∷ ys → x ≡ y
heads e = cc e

-- equal lists have equal rests
pub tails : {x y : ℕ} {xs ys : List ℕ} → x ∷ xs ≡ y ∷ ys → xs ≡ ys
tails e = cc e

-- no list with a first element is empty
pub some_none : {x : ℕ} {xs : List ℕ} → x ∷ xs ≡ [] → ⊥
some_none e = cc e
