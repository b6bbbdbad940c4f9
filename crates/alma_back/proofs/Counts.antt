-- Numbers of steps, and names.
use Rattle.std.proofs.Common.{◌≡◌, ◌≤◌, ◌∙◌, ◌↔◌, ℕ, List, [], ◌∷◌, refl, sym, ap, arith, true≢false}
use Rattle.std.proofs.lemmas.Bool.{and_parts}
use Rattle.std.specs.Prelude.{Bool, true, false, ◌&&◌, cond, is_none, Option, None, Some, IsTrue}
use Rattle.std.specs.List.{list_all}
use Rattle.alma_base.specs.Bytes.{is_letter, is_word_byte}
use Rattle.alma_tree.specs.declared.kind.Kind.{Kind}
use Rattle.alma_scan.specs.Bytes.{value_of}
use Rattle.alma_scan.specs.Spellings.{IsWord, look_up, reserved_words}
use Rattle.alma_driver_words.specs.Words.{IsNumeral, IsName}
use Rattle.alma_driver_words.proofs.NumberLemmas.{all_pass, pass_all, numeral_passes, passes_numeral}
use Rattle.alma_driver_words.proofs.NameTests.{IsFreeWord, name_is_free, one_name}
use Rattle.alma_back.specs.Script.{is_count, count_in, is_word, is_name, name_in, count_digits, greatest_count}

-- ---- numbers

-- a number that digits name is one of steps, unless it is 0
count_is : (text : List ℕ) (count : ℕ) → IsNumeral count_digits text count → count ≤ greatest_count → 1 ≤ count → count_in text ≡ Some count
count_is text count h small some =
    ap (λ b. cond b (Some (value_of text)) None) (numeral_passes count_digits greatest_count text count h some small) ∙ ap Some h.value

-- what a number of steps is
record Counts (text : List ℕ) : Type 0 where
  numeral : IsNumeral count_digits text (value_of text)
  small : value_of text ≤ greatest_count
  some : 1 ≤ value_of text

counts : (text : List ℕ) → is_count text ≡ true → Counts text
counts text e =
    let passed = passes_numeral count_digits greatest_count text e in record { numeral = passed.0; small = passed.2; some = passed.1 }

-- where none is named
no_count : (text : List ℕ) → (Counts text → ⊥) → count_in text ≡ None
no_count text other = by (is_count text) refl
  where
    by : (b : Bool) → is_count text ≡ b → cond b (Some (value_of text)) None ≡ None
    by false e = refl
    by true e = absurd (other (counts text e))

-- what reading a numeral answers
pub count_found : (text : List ℕ) (count : ℕ) → IsNumeral count_digits text count × (count ≤ greatest_count) → (count ≡ 0 → ⊥)
    → Some count ≡ count_in text
count_found text count h some = sym (count_is text count h.0 h.1 (omega (arith, some)))

pub count_none : (text : List ℕ) → ((count : ℕ) → IsNumeral count_digits text count → count ≤ greatest_count → ⊥) → None ≡ count_in text
count_none text other = sym (no_count text (λ (k : Counts text). other (value_of text) k.numeral k.small))

-- ---- names

-- a word of a script is one of the language
word_is : (text : List ℕ) → IsWord text → is_word text ≡ true
word_is [] h = absurd h
word_is (b ∷ bytes) h = ap (λ x. x && list_all is_word_byte bytes) h.0 ∙ all_pass is_word_byte bytes h.1

is_word_of : (text : List ℕ) → is_word text ≡ true → IsWord text
is_word_of [] h = cc h
is_word_of (b ∷ bytes) h =
    let parts = and_parts (is_letter b) (list_all is_word_byte bytes) h in
    (parts.0, pass_all is_word_byte bytes parts.1)

-- so is one that is not reserved
free_is : (text : List ℕ) → IsFreeWord text → is_name text ≡ true
free_is text h = ap (λ b. b && is_none (look_up reserved_words text)) (word_is text h.0) ∙ ap (λ o. is_none o) h.1

none_of : (o : Option Kind) → is_none o ≡ true → o ≡ None
none_of None e = refl
none_of (Some k) e = cc e

free_of : (text : List ℕ) → is_name text ≡ true → IsFreeWord text
free_of text h =
    let parts = and_parts (is_word text) (is_none (look_up reserved_words text)) h in
    (is_word_of text parts.0, none_of (look_up reserved_words text) parts.1)

-- a text is a name of a script where it is one name of the language
pub names : (text : List ℕ) → IsTrue (is_name text) ↔ IsName text
names text = (λ h. one_name text (free_of text h), λ n. free_is text (name_is_free text n))

-- a text that is tested
pub name_found : (text : List ℕ) → IsName text → Some text ≡ name_in text
name_found text n = ap (λ b. cond b (Some text) None) (sym ((names text).1 n))

pub name_none : (text : List ℕ) → (b : Bool) → b ≡ false → IsTrue b ↔ IsName text → None ≡ name_in text
name_none text b false_is is = by (is_name text) refl
  where
    by : (n : Bool) → is_name text ≡ n → None ≡ name_in text
    by false e = ap (λ x. cond x (Some text) None) (sym e)
    by true e = absurd (true≢false (sym (is.1 ((names text).0 e)) ∙ false_is))
