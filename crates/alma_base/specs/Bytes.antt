-- Bytes of which names and reserved words are made.
use Rattle.std.specs.Prelude.{ℕ, Bool, ◌&&◌, ◌||◌, nat_le, nat_eq}
use Rattle.alma_base.specs.Reading.{is_digit}

-- one of A to Z and a to z, or _
abbrev pub is_letter : ℕ → Bool
is_letter b = (nat_le 65 b && nat_le b 90) || (nat_le 97 b && nat_le b 122) || nat_eq b 95

-- a letter, _ or a digit: a byte of a word behind its first
abbrev pub is_word_byte : ℕ → Bool
is_word_byte b = is_letter b || is_digit b
