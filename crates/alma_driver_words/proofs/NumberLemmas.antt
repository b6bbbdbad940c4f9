-- Digits that name numbers.
use Rattle.std.proofs.Common.{◌≡◌, ◌<◌, ◌≤◌, ◌+◌, ◌-◌, ◌*◌, ◌∙◌, ℕ, zero, suc, List, [], ◌∷◌, length, take, drop, get_or, sym, ap, subst}
use Rattle.std.proofs.Common.{arith, add-one, drop-cons, refl}
use Rattle.std.specs.Prelude.{Bool, true, false, ◌&&◌, leb}
use Rattle.std.specs.List.{list_all}
use Rattle.std.proofs.lemmas.Bool.{and_parts, leb-true, le-leb}
use Rattle.std.proofs.lemmas.Bool.Decides.{nat_tests}
use Rattle.alma_base.specs.Reading.{is_digit}
use Rattle.alma_scan.specs.Bytes.{AllIn, value_of, value_behind}
use Rattle.alma_scan.proofs.Runs.{all_in_more}
use Rattle.alma_scan.proofs.Values.{value_behind_past}
use Rattle.alma_driver_words.specs.Words.{IsNumeral, is_numeral}

-- what all bytes pass, each of them passes
all_in_at : (test : ℕ → Bool) (bytes : List ℕ) (i : ℕ) → AllIn test bytes → i < length bytes → test (get_or bytes i 0) ≡ true
all_in_at test [] i h lt = absurd (omega (arith, lt))
all_in_at test (b ∷ bytes) zero h lt = h.0
all_in_at test (b ∷ bytes) (suc i) h lt = all_in_at test bytes i h.1 (omega (arith, lt))

-- bytes that are not all digits are no numeral
pub not_digits : (text : List ℕ) (i most greatest : ℕ) → i < length text → is_digit (get_or text i 0) ≡ false → (number : ℕ)
    → IsNumeral most text number
    → number ≤ greatest → ⊥
not_digits text i most greatest lt other number h small = cc (all_in_at is_digit text i h.digits lt, other)

-- nor do digits of a value that is too large name a number within a bound
pub not_small : (text : List ℕ) (i value most greatest : ℕ) → i < length text → greatest < value * 10 + (get_or text i 0 - 48)
    → value_behind value (drop i text) ≡ value_behind 0 text → (number : ℕ) → IsNumeral most text number → number ≤ greatest → ⊥
not_small text i value most greatest lt large same number h small =
    let past = value_behind_past text i value (greatest + 1) lt (omega (arith, large)) in
    omega (arith, past, same, h.value, small)

-- the value with one digit more
pub value_more : (text : List ℕ) (i value : ℕ) → i < length text
    → value_behind value (drop i text) ≡ value_behind (value * 10 + (get_or text i 0 - 48)) (drop (i + 1) text)
value_more text i value lt = ap (value_behind value) (drop-cons text i 0 lt)
    ∙ ap (λ k. value_behind (value * 10 + (get_or text i 0 - 48)) (drop k text)) (sym (add-one i))

-- a digit is no more than 9
pub digit_small : (b : ℕ) → is_digit b ≡ true → b ≤ 57
digit_small b h = grind (arith, nat_tests)

-- one byte more is a digit
pub digits_more : (text : List ℕ) (i : ℕ) → i < length text → AllIn is_digit (take i text) → is_digit (get_or text i 0) ≡ true
    → AllIn is_digit (take (i + 1) text)
digits_more text i lt h here = subst (λ k. AllIn is_digit (take k text)) (sym (add-one i)) (all_in_more is_digit text i lt h here)

-- ---- the test of a numeral

-- what each byte passes, all pass
pub all_pass : (test : ℕ → Bool) (text : List ℕ) → AllIn test text → list_all test text ≡ true
all_pass test [] h = refl
all_pass test (c ∷ text) h = ap (λ b. b && list_all test text) h.0 ∙ all_pass test text h.1

pub pass_all : (test : ℕ → Bool) (text : List ℕ) → list_all test text ≡ true → AllIn test text
pass_all test [] h = tt
pass_all test (c ∷ text) h = let parts = and_parts (test c) (list_all test text) h in (parts.0, pass_all test text parts.1)

-- a numeral of a number from 1 to the greatest passes it
pub numeral_passes : (most greatest : ℕ) (text : List ℕ) (number : ℕ) → IsNumeral most text number → 1 ≤ number → number ≤ greatest
    → is_numeral most greatest text ≡ true
numeral_passes most greatest text number h least small =
    ap (λ b. b && (leb 1 (length text) && (leb (length text) most && (leb 1 (value_of text) && leb (value_of text) greatest))))
    (all_pass is_digit text h.digits)
    ∙ ap (λ b. b && (leb (length text) most && (leb 1 (value_of text) && leb (value_of text) greatest))) (le-leb 1 (length text) h.some)
    ∙ ap (λ b. b && (leb 1 (value_of text) && leb (value_of text) greatest)) (le-leb (length text) most h.short)
    ∙ ap (λ b. b && leb (value_of text) greatest) (le-leb 1 (value_of text) (subst (λ n. 1 ≤ n) (sym h.value) least))
    ∙ le-leb (value_of text) greatest (subst (λ n. n ≤ greatest) (sym h.value) small)

-- what passes it is a numeral of its value, which is from 1 to the greatest
pub passes_numeral : (most greatest : ℕ) (text : List ℕ) → is_numeral most greatest text ≡ true
    → IsNumeral most text (value_of text) × (1 ≤ value_of text) × (value_of text ≤ greatest)
passes_numeral most greatest text e =
    let a = and_parts (list_all is_digit text) _ e in
    let b = and_parts (leb 1 (length text)) _ a.1 in
    let c = and_parts (leb (length text) most) _ b.1 in
    let d = and_parts (leb 1 (value_of text)) _ c.1 in (
      record {
        digits = pass_all is_digit text a.0;
        some = leb-true 1 (length text) b.0;
        short = leb-true (length text) most c.0;
        value = refl;
      },
      leb-true 1 (value_of text) d.0,
      leb-true (value_of text) greatest d.1,
    )
