-- What the first byte of a spelled text tells of it.
use Rattle.std.proofs.Common.{◌≡◌, ◌≤◌, ℕ, Bool, true, false, ◌&&◌, ◌||◌, List, [], ◌∷◌, ◌++◌, Option, None, Some, length, refl, ap, sym}
use Rattle.std.proofs.Common.{◌∙◌, subst, arith}
use Rattle.std.specs.Prelude.{not, nat_eq, nat_le, bytes_eq, unwrap_or, if◌then◌else◌}
use Rattle.std.proofs.lemmas.Bool.Decides.{nat_tests}
use Rattle.std.proofs.lemmas.Slice.Eq.{bytes_eq-Decides}
use Rattle.alma_base.specs.Bytes.{is_letter, is_word_byte}
use Rattle.alma_base.specs.Reading.{is_blank, is_digit}
use Rattle.alma_tree.specs.declared.kind.Kind.{Kind}
use Rattle.alma_tree.specs.declared.kind.Kind.TheVariants as kinds
use Rattle.alma_scan.specs.Bytes.{is_quote, AllIn, value_of}
use Rattle.alma_scan.specs.Spellings.{Spelling, symbols, reserved_words, look_up, IsDigits, IsLiteral, greatest_number, Spells, name}
use Rattle.alma_scan.specs.Spellings.{number, literal, symbol, reserved}
use Rattle.alma_scan.specs.Inner.Fronts.{IsOtherFirst}
use Rattle.alma_scan.proofs.Basics.{true_false, both, heads}

-- no letter is a digit
pub letter_no_digit : (b : ℕ) → is_letter b ≡ true → is_digit b ≡ true → ⊥
letter_no_digit b h k = grind (arith, nat_tests)

-- no letter is a quote
letter_no_quote : (b : ℕ) → is_letter b ≡ true → is_quote b ≡ true → ⊥
letter_no_quote b h k = grind (arith, nat_tests)

-- no digit is a quote
pub digit_no_quote : (b : ℕ) → is_digit b ≡ true → is_quote b ≡ true → ⊥
digit_no_quote b h k = grind (arith, nat_tests)

-- no letter is a blank
pub letter_no_blank : (b : ℕ) → is_letter b ≡ true → is_blank b ≡ false
letter_no_blank b h = grind (arith, nat_tests)

-- no digit is a blank
pub digit_no_blank : (b : ℕ) → is_digit b ≡ true → is_blank b ≡ false
digit_no_blank b h = grind (arith, nat_tests)

-- no quote is a blank
pub quote_no_blank : (b : ℕ) → is_quote b ≡ true → is_blank b ≡ false
quote_no_blank b h = grind (arith, nat_tests)

-- no letter is (
pub letter_no_paren : (b : ℕ) → is_letter b ≡ true → nat_eq b 40 ≡ false
letter_no_paren b h = grind (arith, nat_tests)

-- no digit is (
pub digit_no_paren : (b : ℕ) → is_digit b ≡ true → nat_eq b 40 ≡ false
digit_no_paren b h = grind (arith, nat_tests)

-- no quote is (
pub quote_no_paren : (b : ℕ) → is_quote b ≡ true → nat_eq b 40 ≡ false
quote_no_paren b h = grind (arith, nat_tests)

-- a letter may stand in a word
letter_in_word : (b : ℕ) → is_letter b ≡ true → is_word_byte b ≡ true
letter_in_word b h = rw h refl

-- each entry of the table passes
abbrev all_pass : (Spelling → Bool) → List Spelling → Bool
all_pass test [] = true
all_pass test (e ∷ table) = test e && all_pass test table

-- of two tests that pass the first does
and_left : (a b : Bool) → (a && b) ≡ true → a ≡ true
and_left true b h = refl
and_left false b h = h

-- of two tests that pass the second does
and_right : (a b : Bool) → (a && b) ≡ true → b ≡ true
and_right true b h = h
and_right false b h = absurd (true_false (sym h))

-- a table gives its first entry or one of the others
taken : (test : Spelling → Bool) (e : Spelling) (table : List Spelling) (text : List ℕ) (kind : Kind) → test e ≡ true
    → (look_up table text ≡ Some kind → test (record { text = text; kind = kind }) ≡ true)
    → (same : Bool) → bytes_eq e.text text ≡ same → (if same then Some e.kind else look_up table text) ≡ Some kind
    → test (record { text = text; kind = kind }) ≡ true
taken test e table text kind a more true s h =
    let t : e.text ≡ text = (bytes_eq-Decides e.text text).0 s in
    let k : e.kind ≡ kind = cc h in
    subst (λ (x : Kind). test (record { text = text; kind = x }) ≡ true) k
    (subst (λ (x : List ℕ). test (record { text = x; kind = e.kind }) ≡ true) t a)
taken test e table text kind a more false s h = more h

-- what a table gives is one of its entries
looked_up : (test : Spelling → Bool) (table : List Spelling) (text : List ℕ) (kind : Kind) → all_pass test table ≡ true
    → look_up table text ≡ Some kind
    → test (record { text = text; kind = kind }) ≡ true
looked_up test [] text kind a h = let n : None ≡ Some kind = h in cc n
looked_up test (e ∷ table) text kind a h =
    taken test e table text kind (and_left (test e) (all_pass test table) a)
    (λ k. looked_up test table text kind (and_right (test e) (all_pass test table) a) k) (bytes_eq e.text text) refl h

-- of two tests that fail the first does
or_left : (a b : Bool) → (a || b) ≡ false → a ≡ false
or_left true b h = h
or_left false b h = refl

-- of two tests that fail the second does
or_right : (a b : Bool) → (a || b) ≡ false → b ≡ false
or_right true b h = absurd (true_false h)
or_right false b h = h

-- a test of which the opposite passes fails
not_true : (a : Bool) → not a ≡ true → a ≡ false
not_true true h = absurd (true_false (sym h))
not_true false h = refl

-- a kind of which each spelling stands in a table
abbrev is_table_kind : Kind → Bool
is_table_kind kinds.Name = false
is_table_kind kinds.Number = false
is_table_kind kinds.Literal = false
is_table_kind _ = true

-- no symbol begins so
abbrev is_starter : ℕ → Bool
is_starter b = is_letter b || is_digit b || is_quote b || is_blank b

-- the first byte passes
abbrev first_of : (ℕ → Bool) → List ℕ → Bool
first_of test [] = false
first_of test (b ∷ bytes) = test b

-- a text of one byte or two that begins as a symbol may
abbrev is_sign : Spelling → Bool
is_sign e = first_of (λ b. not (is_starter b)) e.text && (nat_le (length e.text) 2 && is_table_kind e.kind)

-- each byte passes
abbrev all_in : (ℕ → Bool) → List ℕ → Bool
all_in test [] = true
all_in test (b ∷ bytes) = test b && all_in test bytes

-- a text of letters that begins as a word does
abbrev is_reserved : Spelling → Bool
is_reserved e = first_of is_letter e.text && (all_in is_word_byte e.text && is_table_kind e.kind)

-- what the test says of each byte
all_in_so : (test : ℕ → Bool) (bytes : List ℕ) → all_in test bytes ≡ true → AllIn test bytes
all_in_so test [] h = tt
all_in_so test (b ∷ bytes) h = (and_left (test b) (all_in test bytes) h, all_in_so test bytes (and_right (test b) (all_in test bytes) h))

-- each symbol is such a text
signs : all_pass is_sign symbols ≡ true
signs = refl

-- each reserved word is such a text
reserveds : all_pass is_reserved reserved_words ≡ true
reserveds = refl

-- what the first byte of a symbol is not, and how long a symbol is
record Sign (text : List ℕ) (kind : Kind) : Type 0 where
  first : first_of (λ b. not (is_starter b)) text ≡ true
  short : nat_le (length text) 2 ≡ true
  table : is_table_kind kind ≡ true

-- what a symbol looks like
sign_so : (text : List ℕ) (kind : Kind) → look_up symbols text ≡ Some kind → Sign text kind
sign_so text kind h =
    let t = looked_up is_sign symbols text kind signs h in
    let r = and_right (first_of (λ b. not (is_starter b)) text) (nat_le (length text) 2 && is_table_kind kind) t in
    record {
      first = and_left (first_of (λ b. not (is_starter b)) text) (nat_le (length text) 2 && is_table_kind kind) t;
      short = and_left (nat_le (length text) 2) (is_table_kind kind) r;
      table = and_right (nat_le (length text) 2) (is_table_kind kind) r;
    }

record Word (text : List ℕ) (kind : Kind) : Type 0 where
  first : first_of is_letter text ≡ true
  word : AllIn is_word_byte text
  table : is_table_kind kind ≡ true

-- what a reserved word looks like
word_so : (text : List ℕ) (kind : Kind) → look_up reserved_words text ≡ Some kind → Word text kind
word_so text kind h =
    let t = looked_up is_reserved reserved_words text kind reserveds h in
    let r = and_right (first_of is_letter text) (all_in is_word_byte text && is_table_kind kind) t in
    record {
      first = and_left (first_of is_letter text) (all_in is_word_byte text && is_table_kind kind) t;
      word = all_in_so is_word_byte text (and_left (all_in is_word_byte text) (is_table_kind kind) r);
      table = and_right (all_in is_word_byte text) (is_table_kind kind) r;
    }

-- a symbol is at most two bytes long
pub symbol_short : (text : List ℕ) (kind : Kind) → look_up symbols text ≡ Some kind → length text ≤ 2
symbol_short text kind h = let s = (sign_so text kind h).short in grind (arith, nat_tests)

-- what begins no symbol
pub sign_starter : (b : ℕ) (bytes : List ℕ) (kind : Kind) → look_up symbols (b ∷ bytes) ≡ Some kind → is_starter b ≡ false
sign_starter b bytes kind h = not_true (is_starter b) (sign_so (b ∷ bytes) kind h).first

-- no symbol begins with a letter
starter_letter : (b : ℕ) → is_starter b ≡ false → is_letter b ≡ false
starter_letter b h = or_left (is_letter b) (is_digit b)
    (or_left (is_letter b || is_digit b) (is_quote b) (or_left (is_letter b || is_digit b || is_quote b) (is_blank b) h))

-- no symbol begins with a digit
starter_digit : (b : ℕ) → is_starter b ≡ false → is_digit b ≡ false
starter_digit b h = or_right (is_letter b) (is_digit b)
    (or_left (is_letter b || is_digit b) (is_quote b) (or_left (is_letter b || is_digit b || is_quote b) (is_blank b) h))

-- no symbol begins with a quote
starter_quote : (b : ℕ) → is_starter b ≡ false → is_quote b ≡ false
starter_quote b h = or_right (is_letter b || is_digit b) (is_quote b) (or_left (is_letter b || is_digit b || is_quote b) (is_blank b) h)

-- no symbol begins with a blank
pub starter_blank : (b : ℕ) → is_starter b ≡ false → is_blank b ≡ false
starter_blank b h = or_right (is_letter b || is_digit b || is_quote b) (is_blank b) h

-- no text without a byte is spelled
pub spells_some : (kind : Kind) → Spells kind [] → ⊥
spells_some kind (name e w n) = w
spells_some kind (number e d v) = d
spells_some kind (literal e q) = let c : [] ≡ q.0 ∷ (q.1 ++ q.0 ∷ []) = q.2 in cc c
spells_some kind (symbol h) = true_false (sym (sign_so [] kind h).first)
spells_some kind (reserved h) = true_false (sym (word_so [] kind h).first)

-- what begins with a letter is a word
pub word_only : (kind : Kind) (b : ℕ) (bytes : List ℕ) → Spells kind (b ∷ bytes) → is_letter b ≡ true
    → AllIn is_word_byte (b ∷ bytes) × (kind ≡ unwrap_or (look_up reserved_words (b ∷ bytes)) kinds.Name)
word_only kind b bytes (name e w n) l = ((letter_in_word b l, w.1), e ∙ ap (λ (o : Option Kind). unwrap_or o kinds.Name) (sym n))
word_only kind b bytes (number e d v) l = absurd (letter_no_digit b l d.0)
word_only kind b bytes (literal e q) l = absurd (letter_no_quote b l (ap is_quote (heads q.2) ∙ q.3))
word_only kind b bytes (symbol h) l = absurd (both (is_letter b) l (starter_letter b (sign_starter b bytes kind h)))
word_only kind b bytes (reserved h) l = ((word_so (b ∷ bytes) kind h).word, ap (λ (o : Option Kind). unwrap_or o kinds.Name) (sym h))

-- what begins with a digit is a number
pub number_only : (kind : Kind) (b : ℕ) (bytes : List ℕ) → Spells kind (b ∷ bytes) → is_digit b ≡ true
    → AllIn is_digit (b ∷ bytes) × (kind ≡ kinds.Number) × (value_of (b ∷ bytes) ≤ greatest_number)
number_only kind b bytes (name e w n) l = absurd (letter_no_digit b w.0 l)
number_only kind b bytes (number e d v) l = (d, e, v)
number_only kind b bytes (literal e q) l = absurd (digit_no_quote b l (ap is_quote (heads q.2) ∙ q.3))
number_only kind b bytes (symbol h) l = absurd (both (is_digit b) l (starter_digit b (sign_starter b bytes kind h)))
number_only kind b bytes (reserved h) l = absurd (letter_no_digit b (word_so (b ∷ bytes) kind h).first l)

-- what begins with a quote is a literal
pub literal_only : (kind : Kind) (b : ℕ) (bytes : List ℕ) → Spells kind (b ∷ bytes) → is_quote b ≡ true
    → IsLiteral (b ∷ bytes) × (kind ≡ kinds.Literal)
literal_only kind b bytes (name e w n) l = absurd (letter_no_quote b w.0 l)
literal_only kind b bytes (number e d v) l = absurd (digit_no_quote b d.0 l)
literal_only kind b bytes (literal e q) l = (q, e)
literal_only kind b bytes (symbol h) l = absurd (both (is_quote b) l (starter_quote b (sign_starter b bytes kind h)))
literal_only kind b bytes (reserved h) l = absurd (letter_no_quote b (word_so (b ∷ bytes) kind h).first l)

-- what begins with another byte is a symbol
pub symbol_only : (kind : Kind) (b : ℕ) (bytes : List ℕ) → Spells kind (b ∷ bytes) → IsOtherFirst (b ∷ bytes)
    → look_up symbols (b ∷ bytes) ≡ Some kind
symbol_only kind b bytes (name e w n) l = absurd (both (is_letter b) w.0 l.0)
symbol_only kind b bytes (number e d v) l = absurd (both (is_digit b) d.0 l.1)
symbol_only kind b bytes (literal e q) l = absurd (both (is_quote b) (ap is_quote (heads q.2) ∙ q.3) l.2)
symbol_only kind b bytes (symbol h) l = h
symbol_only kind b bytes (reserved h) l = absurd (both (is_letter b) (word_so (b ∷ bytes) kind h).first l.0)

-- a Number is digits
pub number_digits : (kind : Kind) (text : List ℕ) → Spells kind text → kind ≡ kinds.Number → IsDigits text
number_digits kind text (name e w n) k = absurd (let c : kinds.Name ≡ kinds.Number = sym e ∙ k in cc c)
number_digits kind text (number e d v) k = d
number_digits kind text (literal e q) k = absurd (let c : kinds.Literal ≡ kinds.Number = sym e ∙ k in cc c)
number_digits kind text (symbol h) k = absurd (true_false (sym (sign_so text kind h).table ∙ ap is_table_kind k))
number_digits kind text (reserved h) k = absurd (true_false (sym (word_so text kind h).table ∙ ap is_table_kind k))
