-- The numbers of the language: INTEGER, ranges of it, and division that rounds down.
use Rattle.std.specs.Prelude.{◌≢◌, ℕ, zero, suc, ◌+◌, ◌-◌, ◌/◌, ◌^◌, Bool, true, false, ◌&&◌, nat_eq, ℤ, pos, negsuc, ◌-ℤ◌, ◌*ℤ◌, neg_ℤ}
use Rattle.std.specs.Prelude.{◌≤ℤ◌, ◌<ℤ◌, int_le, int_lt, nat_abs}
use Rattle.alma_base.specs.declared.number.Range.{Range}

-- the number is in the range
abbrev pub within : Range → ℤ → Bool
within range n = int_le range.low n && int_le n range.high

-- how many numbers a range has whose low end is not above its high end
abbrev pub range_size : Range → ℕ
range_size range = nat_abs (range.high -ℤ range.low) + 1

-- all numbers of INTEGER
abbrev pub whole_range : Range
whole_range = record { low = negsuc (2 ^ 63 - 1); high = pos (2 ^ 63 - 1) }

-- all numbers of CHAR
abbrev pub char_range : Range
char_range = record { low = pos 0; high = pos 255 }

-- the number is one of INTEGER, of 64 bits with a sign
abbrev pub is_integer : ℤ → Bool
is_integer n = int_le (negsuc (2 ^ 63 - 1)) n && int_le n (pos (2 ^ 63 - 1))

-- the two numbers are one
abbrev pub int_eq : ℤ → ℤ → Bool
int_eq (pos a) (pos b) = nat_eq a b
int_eq (negsuc a) (negsuc b) = nat_eq a b
int_eq (pos a) (negsuc b) = false
int_eq (negsuc a) (pos b) = false

-- a count is beyond the limit of a loop: above it where the step is at least 0, and else below it
abbrev pub is_beyond : (count limit by : ℤ) → Bool
is_beyond count limit (pos step) = int_lt limit count
is_beyond count limit (negsuc step) = int_lt count limit

-- the number is 0
abbrev pub is_zero : ℤ → Bool
is_zero (pos zero) = true
is_zero (pos (suc n)) = false
is_zero (negsuc n) = false

-- the number of a truth: 1 or 0
abbrev pub bit : Bool → ℤ
bit true = pos 1
bit false = pos 0

-- the quotient rounded down; `negsuc n` is -(n + 1)
abbrev pub div_down_of : ℤ → ℤ → ℤ
div_down_of (pos a) (pos b) = pos (a / b)
div_down_of (negsuc a) (pos b) = negsuc (a / b)
div_down_of (pos a) (negsuc b) = neg_ℤ (pos ((a + b) / suc b))
div_down_of (negsuc a) (negsuc b) = pos (suc a / suc b)

-- what the quotient rounded down leaves, computed exactly
abbrev pub mod_down_of : ℤ → ℤ → ℤ
mod_down_of a b = a -ℤ (b *ℤ div_down_of a b)

-- what a quotient rounded down leaves of a divisor: it has the divisor's sign, and is nearer to 0
abbrev pub IsRest : (divisor rest : ℤ) → Type 0
IsRest (pos n) rest = (pos 0 ≤ℤ rest) × (rest <ℤ pos n)
IsRest (negsuc n) rest = (negsuc n <ℤ rest) × (rest ≤ℤ pos 0)

-- the division is the one that rounds down
abbrev pub RoundsDown : Type 0
RoundsDown = (a b : ℤ) → b ≢ pos 0 → IsRest b (mod_down_of a b)
