-- What three tests of a comparison come to.
use Rattle.std.proofs.Common.{◌≡◌, Bool, true, false, refl, ap, ◌∙◌}
use Rattle.std.specs.Prelude.{◌&&◌}

pub not_first : (a b c : Bool) → a ≡ false → (a && (b && c)) ≡ false
not_first a b c e = ap (λ x. x && (b && c)) e

pub not_second : (a b c : Bool) → b ≡ false → (a && (b && c)) ≡ false
not_second true b c e = ap (λ x. x && c) e
not_second false b c e = refl

pub not_third : (a b c : Bool) → c ≡ false → (a && (b && c)) ≡ false
not_third true true c e = e
not_third true false c e = refl
not_third false b c e = refl

pub all_three : (a b c : Bool) → a ≡ true → b ≡ true → c ≡ true → (a && (b && c)) ≡ true
all_three a b c e f g = ap (λ x. x && (b && c)) e ∙ ap (λ x. x && c) f ∙ g
