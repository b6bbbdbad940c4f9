-- What READ finds, told at once: blanks, a sign or none, and digits.
use Rattle.std.specs.Prelude.{◌≡◌, ◌≢◌, ℕ, ◌+◌, Bool, true, false, ◌||◌, nat_eq, List, [], ◌∷◌, ◌++◌, length, drop}
use Rattle.std.specs.List.{AllPass}
use Rattle.std.specs.Str.Parse.{digits_value}
use Rattle.alma_base.specs.Numbers.{is_integer}
use Rattle.alma_base.specs.Reading.{is_blank, is_digit, signed_value, number_from}
use Rattle.alma_base.specs.declared.number.ReadInt.{ReadInt}
use Rattle.alma_base.specs.declared.number.ReadInt.TheVariants.{Number, NoNumber, TooLarge}

-- the sign of a number: none, a plus or a minus
pub data Sign : Type 0 where
  Unsigned : Sign
  Plus : Sign
  Minus : Sign

-- the bytes of a sign
abbrev pub sign_text : Sign → List ℕ
sign_text Unsigned = []
sign_text Plus = 43 ∷ []
sign_text Minus = 45 ∷ []

-- only a minus makes a number negative
abbrev pub is_negative : Sign → Bool
is_negative Unsigned = false
is_negative Plus = false
is_negative Minus = true

-- a plus or a minus
abbrev pub is_sign : ℕ → Bool
is_sign c = nat_eq c 43 || nat_eq c 45

-- no byte stands there, or one that is not of the class
abbrev pub BeginsWithout : (ℕ → Bool) → List ℕ → Type 0
BeginsWithout test [] = Unit {0}
BeginsWithout test (c ∷ rest) = test c ≡ false

-- what stands in the input from a place on, and what is found there
pub record IsFound (input : List ℕ) (from : ℕ) (found : ReadInt) : Type 0 where
  pub blanks : List ℕ
  pub sign : Sign
  pub digits : List ℕ
  pub rest : List ℕ
  -- from the place on there are blanks, a sign or none, digits, and the rest
  pub whole : drop from input ≡ blanks ++ (sign_text sign ++ (digits ++ rest))
  -- the blanks are all that stand there
  pub blank : AllPass is_blank blanks
  pub all_blanks : BeginsWithout is_blank (sign_text sign ++ (digits ++ rest))
  -- a sign that stands there is taken
  pub unsigned : sign ≡ Unsigned → BeginsWithout is_sign (digits ++ rest)
  -- the digits are all that stand there
  pub digit : AllPass is_digit digits
  pub all_digits : BeginsWithout is_digit rest
  -- with no digit there is no number, whatever the blanks and the sign
  pub none : digits ≡ [] → found ≡ NoNumber
  -- the number is the decimal value of the digits with its sign, and the place is the one behind the last digit
  pub number : digits ≢ [] → is_integer (signed_value (is_negative sign) (digits_value 10 digits)) ≡ true
      → found ≡ Number (signed_value (is_negative sign) (digits_value 10 digits))
      (from + length blanks + length (sign_text sign) + length digits)
  -- that value is too large exactly where it is no INTEGER
  pub large : digits ≢ [] → is_integer (signed_value (is_negative sign) (digits_value 10 digits)) ≡ false → found ≡ TooLarge

-- from each place of each input READ finds that
abbrev pub ReadFinds : Type 0
ReadFinds = (input : List ℕ) (from : ℕ) → IsFound input from (number_from input from)
