-- Numbers that operators and comparisons leave are of INTEGER.
use Rattle.std.proofs.Common.{◌≡◌, ◌≢◌, Bool, true, false, not, refl, sym, ap, ◌∙◌, arith, ℤ, pos, negsuc, ◌≤ℤ◌}
use Rattle.std.proofs.lemmas.Int.{ints}
use Rattle.std.proofs.lemmas.Bool.Decides.{nat_tests}
use Rattle.alma_base.specs.Numbers.{is_integer, is_zero, bit, IsRest}

-- a truth is a number of INTEGER, and is 0 where it is false
pub bit_integer : (t : Bool) → is_integer (bit t) ≡ true
bit_integer true = refl
bit_integer false = refl

pub zero_bit : (t : Bool) → is_zero (bit t) ≡ not t
zero_bit true = refl
zero_bit false = refl

-- what a division leaves is a number of INTEGER, where the divisor is one
pub rest_integer : (b r : ℤ) → is_integer b ≡ true → IsRest b r → is_integer r ≡ true
rest_integer (pos n) (pos m) fits h = grind (arith, ints, nat_tests)
rest_integer (pos n) (negsuc m) fits h = absurd (let low : pos 0 ≤ℤ negsuc m = h.0 in omega (arith, ints))
rest_integer (negsuc n) (pos m) fits h = grind (arith, ints, nat_tests)
rest_integer (negsuc n) (negsuc m) fits h = grind (arith, ints, nat_tests)

pub nonzero : (b : ℤ) → is_zero b ≡ false → b ≢ pos 0
nonzero b h e = absurd (let bad : true ≡ false = ap is_zero (sym e) ∙ h in cc)
