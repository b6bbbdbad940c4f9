-- How long samples are.
use Rattle.std.proofs.Common.{◌≤◌, ◌<◌, ◌+◌, ◌*◌, ◌/◌, ◌%◌, ℕ, zero, suc, length, List, ◌++◌, codes, arith}
use Rattle.std.proofs.lemmas.List.{length-append}
use Rattle.std.proofs.lemmas.Fmt.{length-decimal-le}
use Rattle.std.proofs.lemmas.Nat.{mod_below}
use Rattle.std.specs.Fmt.{decimal}
use Rattle.alma_base.specs.Limits.{source_limit}
use Rattle.alma_driver_words.specs.Words.{greatest_lines}
use Rattle.alma_driver_words.specs.Sample.{form_line, line_of, lines_from, next_number, head_text, tail_text, sample_text}

-- two texts, one behind the other
pub joined : (s t : List ℕ) (m n : ℕ) → length s ≤ m → length t ≤ n → length (s ++ t) ≤ m + n
joined s t m n a b = rw (length-append s t) (omega (arith, a, b))

-- a text between others
pub piece : (s t : List ℕ) (n : ℕ) → length s ≤ 2 → length t ≤ n → length (s ++ t) ≤ n + 2
piece s t n a b = rw (length-append s t) (omega (arith, a, b))

-- a line of each form is short where its numbers are
pub form_length : (form : ℕ) (cell value : List ℕ) → length cell ≤ 2 → length value ≤ 2 → length (form_line form cell value) ≤ 64
form_length zero cell value a b =
    let last : length (codes ";\n") ≤ 2 = omega arith in
    let one : length (value ++ codes ";\n") ≤ 4 = piece value (codes ";\n") 2 b last in
    let two : length (cell ++ (codes "] := " ++ (value ++ codes ";\n"))) ≤ 11 =
    piece cell (codes "] := " ++ (value ++ codes ";\n")) 9 a (omega (arith, one)) in
    omega (arith, two)
form_length (suc zero) cell value a b =
    let one : length (value ++ codes " END;\n") ≤ 8 = piece value (codes " END;\n") 6 b (omega arith) in
    let two : length (cell ++ (codes "] := " ++ (value ++ codes " END;\n"))) ≤ 15 =
    piece cell (codes "] := " ++ (value ++ codes " END;\n")) 13 a (omega (arith, one)) in
    let three : length (value ++ (codes " ORELSE v[" ++ (cell ++ (codes "] := " ++ (value ++ codes " END;\n"))))) ≤ 27 =
    piece value (codes " ORELSE v[" ++ (cell ++ (codes "] := " ++ (value ++ codes " END;\n")))) 25 b (omega (arith, two)) in
    let four : length (cell ++ (codes "] = " ++ (value ++ (codes " ORELSE v[" ++ (cell ++ (codes "] := " ++ (value ++ codes " END;\n")))))))
    ≤ 33 =
    piece cell (codes "] = " ++ (value ++ (codes " ORELSE v[" ++ (cell ++ (codes "] := " ++ (value ++ codes " END;\n")))))) 31 a
    (omega (arith, three)) in
    omega (arith, four)
form_length (suc (suc zero)) cell value a b =
    let one : length (cell ++ codes "] := n END;\n") ≤ 14 = piece cell (codes "] := n END;\n") 12 a (omega arith) in
    let two : length (value ++ (codes " DO TRUE END DO v[" ++ (cell ++ codes "] := n END;\n"))) ≤ 34 =
    piece value (codes " DO TRUE END DO v[" ++ (cell ++ codes "] := n END;\n")) 32 b (omega (arith, one)) in
    omega (arith, two)
form_length (suc (suc (suc others))) cell value a b =
    let one : length (cell ++ codes "] := n END END;\n") ≤ 18 = piece cell (codes "] := n END END;\n") 16 a (omega arith) in
    let two : length (value ++ (codes " DO v[" ++ (cell ++ codes "] := n END END;\n"))) ≤ 26 =
    piece value (codes " DO v[" ++ (cell ++ codes "] := n END END;\n")) 24 b (omega (arith, one)) in
    omega (arith, two)

-- a number below 100 has at most two digits
pub two_digits : (n : ℕ) → n < 100 → length (decimal n) ≤ 2
two_digits n below = length-decimal-le 2 n (omega arith) below (omega (arith, below))

-- the line of a number is short
pub line_length : (number : ℕ) → length (line_of number) ≤ 64
line_length number =
    form_length (number / 65536 % 4) (decimal (number / 256 % 100)) (decimal (number / 16 % 9))
    (two_digits (number / 256 % 100) (mod_below (number / 256) 100 (omega arith)))
    (two_digits (number / 16 % 9) (omega (arith, mod_below (number / 16) 9 (omega arith))))

-- so are lines, each
pub lines_length : (count number : ℕ) → length (lines_from count number) ≤ count * 64
lines_length zero number = omega arith
lines_length (suc count) number =
    let both : length (line_of number ++ lines_from count (next_number number)) ≤ 64 + count * 64 =
    joined (line_of number) (lines_from count (next_number number)) 64 (count * 64) (line_length number)
    (lines_length count (next_number number)) in
    omega (arith, both)

-- so is what stands round them
pub whole_length : (lines : ℕ) → lines ≤ greatest_lines → length (head_text ++ (lines_from lines 12345 ++ tail_text)) ≤ source_limit
whole_length lines few =
    let head : length head_text ≤ 100 = omega arith in
    let tail : length tail_text ≤ 100 = omega arith in
    let behind : length (lines_from lines 12345 ++ tail_text) ≤ lines * 64 + 100 =
    joined (lines_from lines 12345) tail_text (lines * 64) 100 (lines_length lines 12345) tail in
    let whole : length (head_text ++ (lines_from lines 12345 ++ tail_text)) ≤ 100 + (lines * 64 + 100) =
    joined head_text (lines_from lines 12345 ++ tail_text) 100 (lines * 64 + 100) head behind in
    omega (arith, whole, few)

-- a sample of up to 5,000 lines is short
pub sample_length : (lines : ℕ) → lines ≤ greatest_lines → length (sample_text lines) ≤ source_limit
unfolding sample_text
sample_length lines few = whole_length lines few
