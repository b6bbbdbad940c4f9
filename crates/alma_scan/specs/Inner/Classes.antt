-- The classes of bytes that the code asks for.
use Rattle.std.specs.Prelude.{ℕ, Bool}
use Rattle.alma_base.specs.Bytes.{is_word_byte}
use Rattle.alma_base.specs.Reading.{is_blank, is_digit}
use Rattle.alma_scan.specs.declared.byte.Class.{Class}
use Rattle.alma_scan.specs.declared.byte.Class.TheVariants.{Blank, Digit, Word, Inside}
use Rattle.alma_scan.specs.Bytes.{may_stand_in}

-- the byte is of the class
abbrev pub in_class : Class → ℕ → Bool
in_class Blank = is_blank
in_class Digit = is_digit
in_class Word = is_word_byte
in_class (Inside quote) = may_stand_in quote
