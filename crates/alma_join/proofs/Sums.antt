-- Sums that stop, over what stands in memory.
use Rattle.std.proofs.Common.{◌≡◌, ℕ, ◌+◌, ◌<◌, ◌≤◌, ◌^◌, inl, inr, true, false, List, [], ◌∷◌, map, refl, sym, ap, ◌∙◌, arith}
use Rattle.std.specs.Prelude.{sum_by, nat_lt}
use Rattle.std.proofs.lemmas.Bool.{cases_lt}
use Rattle.std.proofs.lemmas.Bool.Decides.{nat_tests}
use Rattle.std.proofs.lemmas.List.Sums.{sum_by-cons}
use Rattle.alma_ir.specs.Count.{saturate}

pub sum_mapped : {A B : Type 0} (g : B → ℕ) (f : A → B) (xs : List A) → sum_by g (map f xs) ≡ sum_by (λ x. g (f x)) xs
sum_mapped g f [] = refl
sum_mapped g f (x ∷ xs) = sum_by-cons g (f x) (map f xs) ∙ ap (λ n. g (f x) + n) (sum_mapped g f xs) ∙ sym (sum_by-cons (λ y. g (f y)) x xs)

-- a bound that is below the stop is passed where it is passed without a stop
pub passes_stopped : (limit n r : ℕ) → limit < 2 ^ 63 → r ≡ saturate n → nat_lt limit r ≡ nat_lt limit n
passes_stopped limit n r small is = elim (cases_lt limit n) [
  | inl lt ↦ let lt' : limit < r = omega (arith, lt, is, small) in let a : nat_lt limit r
      ≡ true = grind (arith, nat_tests, lt') in let b : nat_lt limit n ≡ true = grind (arith, nat_tests, lt) in a ∙ sym b
  | inr ge ↦ let ge' : r ≤ limit = omega (arith, ge, is, small) in let a : nat_lt limit r
      ≡ false = grind (arith, nat_tests, ge') in let b : nat_lt limit n ≡ false = grind (arith, nat_tests, ge) in a ∙ sym b
]
