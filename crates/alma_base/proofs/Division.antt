-- Quotients and remainders of numbers of unlike signs, rounded down.
use Rattle.std.proofs.Common.{◌≡◌, ◌≢◌, ℕ, Bool, true, false, Option, None, Some, MatchOption, zero, suc, ◌+◌, ◌-◌, ◌*◌, ◌/◌, ◌%◌, ◌^◌, ◌<◌}
use Rattle.std.proofs.Common.{ℤ, pos, negsuc, ◌+ℤ◌, ◌-ℤ◌, ◌*ℤ◌, neg_ℤ, nat_abs, ◌<ℤ◌, w64, FitsSigned, refl, ap, sym, ◌∙◌, arith}
use Rattle.std.proofs.lemmas.Int.{ints}
use Rattle.std.proofs.Math.Nat.{add-div_right, zero-div, zero-mod, div-add-mod, div-le_self, mod-le, mod-lt, mul-suc, div-eq_of_lt}
use Rattle.std.proofs.lemmas.Bool.Decides.{nat_tests}
use Rattle.std.specs.Prelude.{int_div, int_rem, SomeIff}
use Rattle.std.specs.Int.{CanDivide, IsNonZero}
use Rattle.alma_base.specs.Numbers.{div_down_of, mod_down_of, is_integer}

-- the quotient of -n by a negative number
quotient_of_negative : (n b : ℕ) → int_div (neg_ℤ (pos n)) (negsuc b) ≡ pos (n / suc b)
quotient_of_negative zero b = rw (zero-div (suc b)) refl
quotient_of_negative (suc n) b = refl

-- the remainder of -n has its sign
remainder_of_negative : (n b : ℕ) → int_rem (neg_ℤ (pos n)) (negsuc b) ≡ neg_ℤ (pos (n % suc b))
remainder_of_negative zero b = rw (zero-mod (suc b)) refl
remainder_of_negative (suc n) b = refl

-- 1 - (n + 1)
less_one : (n : ℕ) → pos 1 -ℤ pos (suc n) ≡ neg_ℤ (pos n)
less_one n = omega (arith, ints)

-- the size of the quotient of a positive number by a negative one
pub above_size : (n b : ℕ) → (suc n + b) / suc b ≡ n / suc b + 1
above_size n b =
    let shifted : suc n + b ≡ n + suc b = omega arith in
    ap (λ m. m / suc b) shifted ∙ add-div_right n (omega arith)

-- what is written for the quotient of a positive number by a negative one
pub quotient_above : (a b : ℤ) → pos 0 <ℤ a → b <ℤ pos 0 → negsuc 0 -ℤ int_div (pos 1 -ℤ a) b ≡ div_down_of a b
quotient_above (pos zero) b positive negative = absurd (omega (arith, ints))
quotient_above (negsuc a) b positive negative = absurd (omega (arith, ints))
quotient_above (pos (suc n)) (pos b) positive negative = absurd (omega (arith, ints))
quotient_above (pos (suc n)) (negsuc b) positive negative =
    let size : negsuc 0 -ℤ pos (n / suc b) ≡ neg_ℤ (pos (n / suc b + 1)) = omega (arith, ints) in
    rw (less_one n, quotient_of_negative n b, above_size n b) size

-- and it is computed within 64 bits
pub quotient_above_fits : (a b : ℤ) → FitsSigned w64 a → pos 0 <ℤ a → b <ℤ pos 0 → FitsSigned w64 (int_div (pos 1 -ℤ a) b)
quotient_above_fits (pos zero) b fits positive negative = absurd (omega (arith, ints))
quotient_above_fits (negsuc a) b fits positive negative = absurd (omega (arith, ints))
quotient_above_fits (pos (suc n)) (pos b) fits positive negative = absurd (omega (arith, ints))
quotient_above_fits (pos (suc n)) (negsuc b) fits positive negative =
    rw (less_one n, quotient_of_negative n b) (record { sfits = omega (arith, fits.sfits, div-le_self n (suc b)) })

pub quotient_above_less_fits : (a b : ℤ) → FitsSigned w64 a → pos 0 <ℤ a → b <ℤ pos 0 → FitsSigned w64 (negsuc 0 -ℤ int_div (pos 1 -ℤ a) b)
quotient_above_less_fits (pos zero) b fits positive negative = absurd (omega (arith, ints))
quotient_above_less_fits (negsuc a) b fits positive negative = absurd (omega (arith, ints))
quotient_above_less_fits (pos (suc n)) (pos b) fits positive negative = absurd (omega (arith, ints))
quotient_above_less_fits (pos (suc n)) (negsuc b) fits positive negative =
    let size : negsuc 0 -ℤ pos (n / suc b) ≡ negsuc (n / suc b) = omega (arith, ints) in
    rw (less_one n, quotient_of_negative n b, size) (record { sfits = omega (arith, fits.sfits, div-le_self n (suc b)) })

-- what is written for the quotient of a negative number by a positive one
pub quotient_below : (a b : ℤ) → a <ℤ pos 0 → pos 0 <ℤ b → negsuc 0 -ℤ int_div (negsuc 0 -ℤ a) b ≡ div_down_of a b
quotient_below (pos a) b negative positive = absurd (omega (arith, ints))
quotient_below (negsuc m) (negsuc b) negative positive = absurd (omega (arith, ints))
quotient_below (negsuc m) (pos k) negative positive =
    let shifted : negsuc 0 -ℤ negsuc m ≡ pos m = omega (arith, ints) in
    let less : negsuc 0 -ℤ pos (m / k) ≡ negsuc (m / k) = omega (arith, ints) in
    rw shifted less

-- and it is computed within 64 bits
pub quotient_below_fits : (a b : ℤ) → FitsSigned w64 a → a <ℤ pos 0 → pos 0 <ℤ b → FitsSigned w64 (int_div (negsuc 0 -ℤ a) b)
quotient_below_fits (pos a) b fits negative positive = absurd (omega (arith, ints))
quotient_below_fits (negsuc m) (negsuc b) fits negative positive = absurd (omega (arith, ints))
quotient_below_fits (negsuc m) (pos k) fits negative positive =
    let shifted : negsuc 0 -ℤ negsuc m ≡ pos m = omega (arith, ints) in
    rw shifted (record { sfits = omega (arith, fits.sfits, div-le_self m k) })

pub quotient_below_less_fits : (a b : ℤ) → FitsSigned w64 a → a <ℤ pos 0 → pos 0 <ℤ b
    → FitsSigned w64 (negsuc 0 -ℤ int_div (negsuc 0 -ℤ a) b)
quotient_below_less_fits (pos a) b fits negative positive = absurd (omega (arith, ints))
quotient_below_less_fits (negsuc m) (negsuc b) fits negative positive = absurd (omega (arith, ints))
quotient_below_less_fits (negsuc m) (pos k) fits negative positive =
    let shifted : negsuc 0 -ℤ negsuc m ≡ pos m = omega (arith, ints) in
    let size : negsuc 0 -ℤ pos (m / k) ≡ negsuc (m / k) = omega (arith, ints) in
    rw (shifted, size) (record { sfits = omega (arith, fits.sfits, div-le_self m k) })

-- what is written for the remainder of a positive number by a negative one
pub remainder_above : (a b : ℤ) → pos 0 <ℤ a → b <ℤ pos 0 → (b +ℤ pos 1) -ℤ int_rem (pos 1 -ℤ a) b ≡ mod_down_of a b
remainder_above (pos zero) b positive negative = absurd (omega (arith, ints))
remainder_above (negsuc a) b positive negative = absurd (omega (arith, ints))
remainder_above (pos (suc n)) (pos b) positive negative = absurd (omega (arith, ints))
remainder_above (pos (suc n)) (negsuc b) positive negative =
    let q = n / suc b in
    let quotient : neg_ℤ (pos (q + 1)) ≡ negsuc q = omega (arith, ints) in
    let product : negsuc b *ℤ negsuc q ≡ pos (suc b * suc q) = refl in
    let whole : suc b * suc q ≡ suc b * q + suc b = mul-suc (suc b) q in
    let parts : suc b * q + n % suc b ≡ n = div-add-mod n (suc b) in
    rw (less_one n, remainder_of_negative n b, above_size n b, quotient, product, whole) (omega (arith, ints, parts))

-- what is written for the remainder of a negative number by a positive one
pub remainder_below : (a b : ℤ) → a <ℤ pos 0 → pos 0 <ℤ b → (b -ℤ pos 1) -ℤ int_rem (negsuc 0 -ℤ a) b ≡ mod_down_of a b
remainder_below (pos a) b negative positive = absurd (omega (arith, ints))
remainder_below (negsuc m) (negsuc b) negative positive = absurd (omega (arith, ints))
remainder_below (negsuc m) (pos zero) negative positive = absurd (omega (arith, ints))
remainder_below (negsuc m) (pos (suc k)) negative positive =
    let q = m / suc k in
    let shifted : negsuc 0 -ℤ negsuc m ≡ pos m = omega (arith, ints) in
    let product : pos (suc k) *ℤ negsuc q ≡ neg_ℤ (pos (suc k * suc q)) = refl in
    let whole : suc k * suc q ≡ suc k * q + suc k = mul-suc (suc k) q in
    let parts : suc k * q + m % suc k ≡ m = div-add-mod m (suc k) in
    rw (shifted, product, whole) (omega (arith, ints, parts))

-- each of these is computed within 64 bits
pub rest_above_fits : (a b : ℤ) → FitsSigned w64 a → pos 0 <ℤ a → b <ℤ pos 0 → FitsSigned w64 (int_rem (pos 1 -ℤ a) b)
rest_above_fits (pos zero) b fits positive negative = absurd (omega (arith, ints))
rest_above_fits (negsuc a) b fits positive negative = absurd (omega (arith, ints))
rest_above_fits (pos (suc n)) (pos b) fits positive negative = absurd (omega (arith, ints))
rest_above_fits (pos (suc n)) (negsuc b) fits positive negative =
    rw (less_one n, remainder_of_negative n b) (small (n % suc b) (omega (arith, fits.sfits, mod-le n (suc b))))
  where
    small : (r : ℕ) → r < 2 ^ 63 → FitsSigned w64 (neg_ℤ (pos r))
    small zero h = record { sfits = omega arith }
    small (suc r) h = record { sfits = omega arith }

pub remainder_above_fits : (a b : ℤ) → FitsSigned w64 b → pos 0 <ℤ a → b <ℤ pos 0 → FitsSigned w64 ((b +ℤ pos 1) -ℤ int_rem (pos 1 -ℤ a) b)
remainder_above_fits (pos zero) b fits positive negative = absurd (omega (arith, ints))
remainder_above_fits (negsuc a) b fits positive negative = absurd (omega (arith, ints))
remainder_above_fits (pos (suc n)) (pos b) fits positive negative = absurd (omega (arith, ints))
remainder_above_fits (pos (suc n)) (negsuc b) fits positive negative =
    rw (less_one n, remainder_of_negative n b) (small (n % suc b) (mod-lt n (omega arith)))
  where
    small : (r : ℕ) → r < suc b → FitsSigned w64 ((negsuc b +ℤ pos 1) -ℤ neg_ℤ (pos r))
    small r h =
        let size : (negsuc b +ℤ pos 1) -ℤ neg_ℤ (pos r) ≡ neg_ℤ (pos (b - r)) = omega (arith, ints) in
        rw size (within (b - r) (omega (arith, fits.sfits)))
      where
        within : (m : ℕ) → m < 2 ^ 63 → FitsSigned w64 (neg_ℤ (pos m))
        within zero k = record { sfits = omega arith }
        within (suc m) k = record { sfits = omega arith }

pub rest_below_fits : (a b : ℤ) → FitsSigned w64 a → a <ℤ pos 0 → FitsSigned w64 (int_rem (negsuc 0 -ℤ a) b)
rest_below_fits (pos a) b fits negative = absurd (omega (arith, ints))
rest_below_fits (negsuc m) b fits negative =
    let shifted : negsuc 0 -ℤ negsuc m ≡ pos m = omega (arith, ints) in
    rw shifted (record { sfits = omega (arith, fits.sfits, mod-le m (nat_abs b)) })

pub remainder_below_fits : (a b : ℤ) → FitsSigned w64 b → a <ℤ pos 0 → pos 0 <ℤ b
    → FitsSigned w64 ((b -ℤ pos 1) -ℤ int_rem (negsuc 0 -ℤ a) b)
remainder_below_fits (pos a) b fits negative positive = absurd (omega (arith, ints))
remainder_below_fits (negsuc m) (negsuc b) fits negative positive = absurd (omega (arith, ints))
remainder_below_fits (negsuc m) (pos zero) fits negative positive = absurd (omega (arith, ints))
remainder_below_fits (negsuc m) (pos (suc k)) fits negative positive =
    let shifted : negsuc 0 -ℤ negsuc m ≡ pos m = omega (arith, ints) in
    let less : m % suc k < suc k = mod-lt m (omega arith) in
    let size : (pos (suc k) -ℤ pos 1) -ℤ pos (m % suc k) ≡ pos (k - m % suc k) = omega (arith, ints, less) in
    rw (shifted, size) (record { sfits = omega (arith, fits.sfits) })

-- the steps before them are too
pub below_shifted_fits : (a : ℤ) → FitsSigned w64 a → a <ℤ pos 0 → FitsSigned w64 (negsuc 0 -ℤ a)
below_shifted_fits a fits negative = omega (arith, ints)

pub above_shifted_fits : (a : ℤ) → FitsSigned w64 a → pos 0 <ℤ a → FitsSigned w64 (pos 1 -ℤ a)
above_shifted_fits a fits positive = omega (arith, ints)

pub one_less_fits : (b : ℤ) → FitsSigned w64 b → pos 0 <ℤ b → FitsSigned w64 (b -ℤ pos 1)
one_less_fits b fits positive = omega (arith, ints)

pub one_more_fits : (b : ℤ) → FitsSigned w64 b → b <ℤ pos 0 → FitsSigned w64 (b +ℤ pos 1)
one_more_fits b fits negative = omega (arith, ints)

-- of numbers of one sign, or of 0, the quotient is the machine's
alike_quotient : (a b : ℤ) → b ≢ pos 0 → (a <ℤ pos 0 → b <ℤ pos 0) → (pos 0 <ℤ a → pos 0 <ℤ b) → div_down_of a b ≡ int_div a b
alike_quotient (pos a) (pos b) nonzero below above = refl
alike_quotient (pos zero) (negsuc b) nonzero below above =
    let nothing : (0 + b) / suc b ≡ 0 = div-eq_of_lt (omega arith) in
    rw (nothing, zero-div (suc b)) refl
alike_quotient (pos (suc a)) (negsuc b) nonzero below above =
    absurd (let bad : pos 0 <ℤ negsuc b = above (omega (arith, ints)) in omega (arith, ints))
alike_quotient (negsuc a) (pos b) nonzero below above =
    absurd (let bad : pos b <ℤ pos 0 = below (omega (arith, ints)) in omega (arith, ints))
alike_quotient (negsuc a) (negsuc b) nonzero below above = refl

-- and the remainder is
pub alike_rest : (a b : ℤ) → b ≢ pos 0 → (a <ℤ pos 0 → b <ℤ pos 0) → (pos 0 <ℤ a → pos 0 <ℤ b) → int_rem a b ≡ mod_down_of a b
alike_rest (pos a) (pos zero) nonzero below above = absurd (nonzero refl)
alike_rest (pos a) (pos (suc b)) nonzero below above =
    let parts : suc b * (a / suc b) + a % suc b ≡ a = div-add-mod a (suc b) in
    let product : pos (suc b) *ℤ pos (a / suc b) ≡ pos (suc b * (a / suc b)) = refl in
    rw product (omega (arith, ints, parts))
alike_rest (pos zero) (negsuc b) nonzero below above =
    let nothing : (0 + b) / suc b ≡ 0 = div-eq_of_lt (omega arith) in
    rw (nothing, zero-mod (suc b)) (omega (arith, ints))
alike_rest (pos (suc a)) (negsuc b) nonzero below above =
    absurd (let bad : pos 0 <ℤ negsuc b = above (omega (arith, ints)) in omega (arith, ints))
alike_rest (negsuc a) (pos b) nonzero below above = absurd (let bad : pos b <ℤ pos 0 = below (omega (arith, ints)) in omega (arith, ints))
alike_rest (negsuc a) (negsuc b) nonzero below above =
    let q = suc a / suc b in
    let parts : suc b * q + suc a % suc b ≡ suc a = div-add-mod (suc a) (suc b) in
    let product : negsuc b *ℤ pos q ≡ neg_ℤ (pos (suc b * q)) = refl in
    rw product (omega (arith, ints, parts))

-- a number of INTEGER has 64 bits
integer_fits : (n : ℤ) → is_integer n ≡ true → FitsSigned w64 n
integer_fits (pos n) h = record { sfits = grind (arith, nat_tests) }
integer_fits (negsuc n) h = record { sfits = grind (arith, nat_tests) }

pub nonzero_divides : (b : ℤ) → FitsSigned w64 b → b ≢ pos 0 → IsNonZero w64 b
nonzero_divides (pos zero) fits nonzero = absurd (nonzero refl)
nonzero_divides (pos (suc n)) fits nonzero = omega arith
nonzero_divides (negsuc n) fits nonzero = omega (arith, fits.sfits)

-- what the checked division of the machine answers of numbers of one sign, or of 0
pub checked_alike : (a b : ℤ) (result : Option ℤ) → FitsSigned w64 b → b ≢ pos 0 → (a <ℤ pos 0 → b <ℤ pos 0) → (pos 0 <ℤ a → pos 0 <ℤ b)
    → SomeIff result (CanDivide w64 a b) (int_div a b)
    → MatchOption result (is_integer (div_down_of a b) ≡ false) (λ quotient. quotient ≡ div_down_of a b)
checked_alike a b (Some q) fits nonzero below above given = given.1 ∙ sym (alike_quotient a b nonzero below above)
checked_alike a b None fits nonzero below above given =
    rw (alike_quotient a b nonzero below above) (decided (is_integer (int_div a b)) refl)
  where
    decided : (t : Bool) → is_integer (int_div a b) ≡ t → t ≡ false
    decided false e = refl
    decided true e = absurd (given (nonzero_divides b fits nonzero, integer_fits (int_div a b) e))
