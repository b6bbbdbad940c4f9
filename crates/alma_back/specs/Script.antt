-- What a script is.
use Rattle.std.specs.Prelude.{◌+◌, ℕ, Bool, false, ◌&&◌, eqb, cond, is_none, List, [], ◌∷◌, ◌++◌, length, Option, None, Some}
use Rattle.std.specs.Prelude.{option_map, Result, Ok, Err}
use Rattle.std.specs.List.{list_all}
use Rattle.alma_base.specs.Bytes.{is_letter, is_word_byte}
use Rattle.alma_scan.specs.Bytes.{value_of}
use Rattle.alma_scan.specs.Spellings.{look_up, reserved_words}
use Rattle.alma_driver_words.specs.Words.{is_numeral}

-- ---- a line

-- what a line asks for: so many steps, so many back, the value of a name, or how much was printed
pub data Line : Type 0 where
  Forward : (steps : ℕ) → Line
  Backward : (steps : ℕ) → Line
  Value : (name : List ℕ) → Line
  Output : Line

-- the greatest number of steps of a line
abbrev pub greatest_count : ℕ
greatest_count = 1000000

-- the greatest number of its digits
abbrev pub count_digits : ℕ
count_digits = 7

-- one to `count_digits` digits, of a value from 1 to `greatest_count`
abbrev pub is_count : List ℕ → Bool
is_count text = is_numeral count_digits greatest_count text

-- the number that such a text is
abbrev pub count_in : List ℕ → Option ℕ
count_in text = cond (is_count text) (Some (value_of text)) None

-- a letter or _, and then letters, digits and _
abbrev pub is_word : List ℕ → Bool
is_word [] = false
is_word (byte ∷ bytes) = is_letter byte && list_all is_word_byte bytes

-- such a word that is no reserved one
abbrev pub is_name : List ℕ → Bool
is_name text = is_word text && is_none (look_up reserved_words text)

-- the name that a text is
abbrev pub name_in : List ℕ → Option (List ℕ)
name_in text = cond (is_name text) (Some text) None

-- the line of a letter and what stands behind its space: s is 115, b is 98, p is 112
abbrev pub line_with : (letter : ℕ) → (rest : List ℕ) → Option Line
line_with letter rest =
    cond (eqb letter 115) (option_map Forward (count_in rest))
    (cond (eqb letter 98) (option_map Backward (count_in rest))
    (cond (eqb letter 112) (option_map Value (name_in rest)) None))

-- the line that a text is, if it is one: o, which is 111, or a letter, a space and more
abbrev pub line_in : List ℕ → Option Line
line_in [] = None
line_in (letter ∷ []) = cond (eqb letter 111) (Some Output) None
line_in (letter ∷ space ∷ rest) = cond (eqb space 32) (line_with letter rest) None

-- ---- a script

-- the texts that are ended by a line feed, in order, and what stands behind the last
pub record Texts : Type 0 where
  pub ended : List (List ℕ)
  pub left : List ℕ

-- the same with one byte more in front
abbrev pub with_byte : (byte : ℕ) → (ended : List (List ℕ)) → (left : List ℕ) → Texts
with_byte byte [] left = record { ended = []; left = byte ∷ left }
with_byte byte (text ∷ ended) left = record { ended = (byte ∷ text) ∷ ended; left = left }

-- the texts of a script
abbrev pub texts_in : List ℕ → Texts
texts_in [] = record { ended = []; left = [] }
texts_in (byte ∷ bytes) =
    cond (eqb byte 10) (record { ended = [] ∷ (texts_in bytes).ended; left = (texts_in bytes).left })
    (with_byte byte (texts_in bytes).ended (texts_in bytes).left)

-- all lines, or the number, from 1, of the first text that is none; one without a line feed is none
abbrev pub all_read : (left : List ℕ) → (got : List Line) → Result (List Line) ℕ
all_read [] got = Ok got
all_read (byte ∷ left) got = Err (length got + 1)

-- one line more, and what comes of the rest
abbrev pub one_more : Option Line → (rest : List Line → Result (List Line) ℕ) → (got : List Line) → Result (List Line) ℕ
one_more (Some line) rest got = rest (got ++ line ∷ [])
one_more None rest got = Err (length got + 1)

-- the lines of texts, behind those that were
abbrev pub lines_behind : (ended : List (List ℕ)) → (left : List ℕ) → (got : List Line) → Result (List Line) ℕ
lines_behind [] left got = all_read left got
lines_behind (text ∷ ended) left got = one_more (line_in text) (lines_behind ended left) got

-- the lines of a script, or the number of the first bad one
abbrev pub lines_in : (script : List ℕ) → Result (List Line) ℕ
lines_in script = lines_behind (texts_in script).ended (texts_in script).left []
