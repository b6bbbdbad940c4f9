-- What READ finds, byte by byte.
use Rattle.std.proofs.Common.{◌≡◌, ◌≤◌, ◌<◌, ◌+◌, ◌-◌, ◌*◌, ℕ, suc, Bool, true, false, nat_lt, List, ◌∷◌, length, drop, get_or, min, ap}
use Rattle.std.proofs.Common.{◌∙◌, arith, add-one, drop-cons}
use Rattle.std.proofs.lemmas.Bool.Decides.{nat_tests}
use Rattle.alma_base.specs.Choice.{if_true}
use Rattle.alma_base.specs.Reading.{is_blank, is_digit, ended, digits_on, sign_on, number_on}

-- a blank is passed
pub blank_is_passed : (place c : ℕ) (rest : List ℕ) → is_blank c ≡ true → number_on place (c ∷ rest) ≡ number_on (suc place) rest
blank_is_passed place c rest h = ap (λ (b : Bool). if_true b (λ _. number_on (suc place) rest) (λ _. sign_on place (c ∷ rest))) h

-- what is no blank ends them
pub blanks_end : (place c : ℕ) (rest : List ℕ) → is_blank c ≡ false → number_on place (c ∷ rest) ≡ sign_on place (c ∷ rest)
blanks_end place c rest h = ap (λ (b : Bool). if_true b (λ _. number_on (suc place) rest) (λ _. sign_on place (c ∷ rest))) h

-- a digit makes the value ten times as great, and is added
pub digit_is_read : (any negative : Bool) (value place c : ℕ) (rest : List ℕ) → is_digit c ≡ true
    → digits_on any negative value place (c ∷ rest) ≡ digits_on true negative (value * 10 + (c - 48)) (suc place) rest
digit_is_read any negative value place c rest h =
    ap (λ (b : Bool). if_true b (λ _. digits_on true negative (value * 10 + (c - 48)) (suc place) rest)
    (λ _. ended any negative value place)) h

-- what is no digit ends them
pub digits_end : (any negative : Bool) (value place c : ℕ) (rest : List ℕ) → is_digit c ≡ false
    → digits_on any negative value place (c ∷ rest) ≡ ended any negative value place
digits_end any negative value place c rest h =
    ap (λ (b : Bool). if_true b (λ _. digits_on true negative (value * 10 + (c - 48)) (suc place) rest)
    (λ _. ended any negative value place)) h

-- a value that stays at its greatest is the exact one, cut once
pub cut_once : (most value digit : ℕ) → min (min (min value most * 10) most + digit) most ≡ min (value * 10 + digit) most
cut_once most value digit = omega arith

-- one digit more makes the value that it makes
pub one_digit_more : (input : List ℕ) (start end value : ℕ) (negative : Bool) → start ≤ end → end < length input
    → is_digit (get_or input end 0) ≡ true
    → digits_on (nat_lt start end) negative value end (drop end input)
    ≡ digits_on (nat_lt start (end + 1)) negative (value * 10 + (get_or input end 0 - 48)) (end + 1) (drop (end + 1) input)
one_digit_more input start end value negative begun within digit =
    let more : nat_lt start (end + 1) ≡ true = grind (arith, nat_tests) in
    rw (more, add-one) (ap (digits_on (nat_lt start end) negative value end) (drop-cons input end 0 within)
    ∙ digit_is_read (nat_lt start end) negative value end (get_or input end 0) (drop (suc end) input) digit)
