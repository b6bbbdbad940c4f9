-- What READ finds in the input, on an INTEGER type.
use Rattle.std.specs.Prelude.{ℕ, suc, ◌+◌, ◌-◌, ◌*◌, Bool, true, false, ◌&&◌, ◌||◌, nat_eq, nat_le, ℤ, pos, neg_ℤ, List, [], ◌∷◌, drop}
use Rattle.alma_base.specs.Choice.{if_true}
use Rattle.alma_base.specs.Numbers.{is_integer}
use Rattle.alma_base.specs.declared.number.ReadInt.{ReadInt}
use Rattle.alma_base.specs.declared.number.ReadInt.TheVariants.{Number, NoNumber, TooLarge}

-- space, TAB, CR or LF
abbrev pub is_blank : ℕ → Bool
is_blank c = nat_eq c 32 || nat_eq c 9 || nat_eq c 13 || nat_eq c 10

-- one of 0 to 9
abbrev pub is_digit : ℕ → Bool
is_digit c = nat_le 48 c && nat_le c 57

-- the value with its sign
abbrev pub signed_value : (negative : Bool) → ℕ → ℤ
signed_value false value = pos value
signed_value true value = neg_ℤ (pos value)

-- a value that fits INTEGER is a number, any other is too large
abbrev pub sized : (fits : Bool) → ℤ → ℕ → ReadInt
sized true value place = Number value place
sized false value place = TooLarge

-- what the digits that were read make, where there were any
abbrev pub ended : (any negative : Bool) (value place : ℕ) → ReadInt
ended false negative value place = NoNumber
ended true negative value place = sized (is_integer (signed_value negative value)) (signed_value negative value) place

-- all digits from a place on, after those that make the value
abbrev pub digits_on : (any negative : Bool) (value place : ℕ) → List ℕ → ReadInt
digits_on any negative value place [] = ended any negative value place
digits_on any negative value place (c ∷ rest) =
    if_true (is_digit c) (λ _. digits_on true negative (value * 10 + (c - 48)) (suc place) rest)
    (λ _. ended any negative value place)

-- an optional sign, and then digits
abbrev pub sign_on : (place : ℕ) → List ℕ → ReadInt
sign_on place [] = NoNumber
sign_on place (c ∷ rest) =
    if_true (nat_eq c 45) (λ _. digits_on false true 0 (suc place) rest)
    (λ _. if_true (nat_eq c 43) (λ _. digits_on false false 0 (suc place) rest)
    (λ _. digits_on false false 0 place (c ∷ rest)))

-- any blanks, an optional sign, and then digits
abbrev pub number_on : (place : ℕ) → List ℕ → ReadInt
number_on place [] = NoNumber
number_on place (c ∷ rest) =
    if_true (is_blank c) (λ _. number_on (suc place) rest) (λ _. sign_on place (c ∷ rest))

-- what READ finds from a place of the input on: the number, and the place behind its last digit
abbrev pub number_from : List ℕ → ℕ → ReadInt
number_from input place = number_on place (drop place input)
