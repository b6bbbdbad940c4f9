-- Zero, by its test.
use Rattle.std.proofs.Common.{◌≡◌, refl, ap}
use Rattle.std.specs.Prelude.{ℤ, pos, negsuc, zero, suc, true, false}
use Rattle.alma_base.specs.Numbers.{is_zero}

pub zero_is : (x : ℤ) → x ≡ pos 0 → is_zero x ≡ true
zero_is x e = ap is_zero e

pub zero_is_not : (x : ℤ) → (x ≡ pos 0 → ⊥) → is_zero x ≡ false
zero_is_not (pos zero) h = absurd (h refl)
zero_is_not (pos (suc n)) h = refl
zero_is_not (negsuc n) h = refl

pub ruleset tests = (zero_is, zero_is_not)
