-- Classes of bytes, and runs of one class.
use Rattle.std.specs.Prelude.{◌≡◌, ℕ, ◌+◌, ◌-◌, ◌*◌, Bool, true, false, ◌||◌, not, nat_eq, List, [], ◌∷◌}

-- " or '
abbrev pub is_quote : ℕ → Bool
is_quote b = nat_eq b 34 || nat_eq b 39

-- LF or CR
abbrev pub is_line_end : ℕ → Bool
is_line_end b = nat_eq b 10 || nat_eq b 13

-- a byte that may stand between two quotes of this sort
abbrev pub may_stand_in : (quote : ℕ) → ℕ → Bool
may_stand_in quote b = not (nat_eq b quote || is_line_end b)

-- each byte is of the class
abbrev pub AllIn : (ℕ → Bool) → List ℕ → Type 0
AllIn test [] = Unit {0}
AllIn test (b ∷ bytes) = (test b ≡ true) × AllIn test bytes

-- the first byte is of the class
abbrev pub Begins : (ℕ → Bool) → List ℕ → Type 0
Begins test [] = ⊥
Begins test (b ∷ bytes) = test b ≡ true

-- no byte stands there, or one that is not of the class
abbrev pub Stops : (ℕ → Bool) → List ℕ → Type 0
Stops test [] = Unit {0}
Stops test (b ∷ bytes) = test b ≡ false

-- the value of decimal digits, behind digits whose value is known
abbrev pub value_behind : ℕ → List ℕ → ℕ
value_behind value [] = value
value_behind value (digit ∷ digits) = value_behind (value * 10 + (digit - 48)) digits

-- the value of decimal digits
abbrev pub value_of : List ℕ → ℕ
value_of digits = value_behind 0 digits
