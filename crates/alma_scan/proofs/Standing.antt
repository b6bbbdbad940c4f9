-- Which token or fault stands at the front of bytes.
use Rattle.std.proofs.Common.{◌≡◌, ◌≤◌, ℕ, ◌+◌, Bool, true, false, List, [], ◌∷◌, ◌++◌, Option, None, Some, length, refl, ap, sym, ◌∙◌}
use Rattle.std.proofs.Common.{subst, arith, append_assoc, length-append, take}
use Rattle.std.proofs.Math.Seq.{take-append_seam}
use Rattle.std.proofs.lemmas.Bool.Decides.{nat_tests}
use Rattle.std.specs.Prelude.{nat_eq, unwrap_or, ok_or}
use Rattle.alma_base.specs.Bytes.{is_letter, is_word_byte}
use Rattle.alma_base.specs.Reading.{is_blank, is_digit}
use Rattle.alma_tree.specs.declared.kind.Kind.{Kind}
use Rattle.alma_tree.specs.declared.kind.Kind.TheVariants as kinds
use Rattle.alma_scan.specs.Bytes.{is_quote, is_line_end, may_stand_in, AllIn, Begins, Stops, value_of}
use Rattle.alma_scan.specs.Comments.{opens}
use Rattle.alma_scan.specs.Spellings.{symbols, reserved_words, look_up, IsWord, IsDigits, greatest_number, Spells, name, number, literal}
use Rattle.alma_scan.specs.Spellings.{symbol, reserved}
use Rattle.alma_scan.specs.Tokens.{IsToken}
use Rattle.alma_scan.specs.Faults.{EndsLine, IsOpenString, IsTooLarge, IsBadByte}
use Rattle.alma_base.specs.declared.fault.LexFault.TheVariants.{BadByte}
use Rattle.alma_scan.specs.declared.front.Front.{Front}
use Rattle.alma_scan.specs.Inner.Fronts.{IsOtherFirst, IsFront, IsSymbolAt}
use Rattle.alma_scan.proofs.Basics.{true_false, both, heads, tails}
use Rattle.alma_scan.proofs.Runs.{run_longest, run_once}
use Rattle.alma_scan.proofs.Spelled.{word_only, number_only, literal_only, symbol_only, spells_some, letter_no_digit, letter_no_paren}
use Rattle.alma_scan.proofs.Spelled.{digit_no_paren, quote_no_paren, number_digits, symbol_short}

-- what begins with another byte than ( opens no comment
pub no_open : (b : ℕ) (bytes : List ℕ) → nat_eq b 40 ≡ false → opens (b ∷ bytes) ≡ false
no_open b [] h = refl
no_open b (c ∷ bytes) h = rw h refl

-- a run behind a letter is a word
word_text : (text rest : List ℕ) → Begins is_letter (text ++ rest) → AllIn is_word_byte text → Stops is_word_byte rest → IsWord text
word_text [] [] l a s = l
word_text [] (c ∷ rest) l a s = absurd (true_false (sym (let w : is_word_byte c ≡ true = rw l refl in w) ∙ s))
word_text (b ∷ text) rest l a s = (l, a.1)

-- a word is a reserved one or a name
word_spelled : (text : List ℕ) (found : Option Kind) → look_up reserved_words text ≡ found → IsWord text
    → Spells (unwrap_or found kinds.Name) text
word_spelled text None e w = name refl w e
word_spelled text (Some kind) e w = reserved e

-- no token is longer than the run of a word
word_longest : (text rest : List ℕ) → IsWord text → Stops is_word_byte rest
    → (other : Kind) (longer after : List ℕ) → text ++ rest ≡ longer ++ after → Spells other longer → length longer ≤ length text
word_longest [] rest w s other longer after e h = absurd w
word_longest (b ∷ text) rest w s other [] after e h = absurd (spells_some other h)
word_longest (b ∷ text) rest w s other (c ∷ longer) after e h =
    run_longest is_word_byte (b ∷ text) rest (c ∷ longer) after e s (word_only other c longer h (sym (ap is_letter (heads e)) ∙ w.0)).0

-- no word is digits
word_no_digits : (text : List ℕ) → IsWord text → IsDigits text → ⊥
word_no_digits [] w d = w
word_no_digits (b ∷ text) w d = letter_no_digit b w.0 d.0

-- no comment opens at a word
word_no_open : (text rest : List ℕ) → IsWord text → opens (text ++ rest) ≡ false
word_no_open [] rest w = absurd w
word_no_open (b ∷ text) rest w = no_open b (text ++ rest) (letter_no_paren b w.0)

-- a run of letters and digits behind a letter is a token
pub word_token : (text rest : List ℕ) → Begins is_letter (text ++ rest) → AllIn is_word_byte text → Stops is_word_byte rest
    → IsToken (unwrap_or (look_up reserved_words text) kinds.Name) text rest
word_token text rest l a s =
    let w = word_text text rest l a s in
    let h = word_spelled text (look_up reserved_words text) refl w in
    record {
      spelled = h;
      longest = word_longest text rest w s;
      no_digit = λ k. absurd (word_no_digits text w (number_digits (unwrap_or (look_up reserved_words text) kinds.Name) text h k));
      no_comment = word_no_open text rest w;
    }

-- a run behind a digit is digits
pub digits_text : (text rest : List ℕ) → Begins is_digit (text ++ rest) → AllIn is_digit text → Stops is_digit rest → IsDigits text
digits_text [] [] l a s = l
digits_text [] (c ∷ rest) l a s = absurd (both (is_digit c) l s)
digits_text (b ∷ text) rest l a s = a

-- no token is longer than the run of digits
number_longest : (text rest : List ℕ) → IsDigits text → Stops is_digit rest
    → (other : Kind) (longer after : List ℕ) → text ++ rest ≡ longer ++ after → Spells other longer → length longer ≤ length text
number_longest [] rest d s other longer after e h = absurd d
number_longest (b ∷ text) rest d s other [] after e h = absurd (spells_some other h)
number_longest (b ∷ text) rest d s other (c ∷ longer) after e h =
    run_longest is_digit (b ∷ text) rest (c ∷ longer) after e s (number_only other c longer h (sym (ap is_digit (heads e)) ∙ d.0)).0

-- no comment opens at digits
digits_no_open : (text rest : List ℕ) → IsDigits text → opens (text ++ rest) ≡ false
digits_no_open [] rest d = absurd d
digits_no_open (b ∷ text) rest d = no_open b (text ++ rest) (digit_no_paren b d.0)

-- a run of digits that is not too large is a token
pub number_token : (text rest : List ℕ) → Begins is_digit (text ++ rest) → AllIn is_digit text → Stops is_digit rest
    → value_of text ≤ greatest_number
    → IsToken kinds.Number text rest
number_token text rest l a s v =
    let d = digits_text text rest l a s in
    record {
      spelled = number refl d v;
      longest = number_longest text rest d s;
      no_digit = λ k. s;
      no_comment = digits_no_open text rest d;
    }

-- the same quote may not stand inside a literal
pub quote_stops : (quote : ℕ) → may_stand_in quote quote ≡ false
quote_stops quote = grind (arith, nat_tests)

-- what stands between the quotes is one
pub literal_once : (quote other : ℕ) (inner inside rest after : List ℕ)
    → quote ∷ (inner ++ quote ∷ rest) ≡ other ∷ (inside ++ other ∷ after)
    → AllIn (may_stand_in quote) inner → AllIn (may_stand_in other) inside → inner ≡ inside
literal_once quote other inner inside rest after e a b =
    let q : other ≡ quote = sym (heads e) in
    let t : inner ++ quote ∷ rest ≡ inside ++ quote ∷ after = tails e ∙ ap (λ (x : ℕ). inside ++ x ∷ after) q in
    (run_once (may_stand_in quote) inner (quote ∷ rest) inside (quote ∷ after) t a (quote_stops quote)
    (subst (λ (x : ℕ). AllIn (may_stand_in x) inside) q b) (quote_stops quote)).0

-- a literal and what stands behind it
pub literal_whole : (quote : ℕ) (inner rest : List ℕ) → (quote ∷ (inner ++ quote ∷ [])) ++ rest ≡ quote ∷ (inner ++ quote ∷ rest)
literal_whole quote inner rest = ap (λ (z : List ℕ). quote ∷ z) (append_assoc inner (quote ∷ []) rest)

-- no token is longer than the literal
literal_longest : (quote : ℕ) (inner rest : List ℕ) → is_quote quote ≡ true → AllIn (may_stand_in quote) inner
    → (other : Kind) (longer after : List ℕ) → (quote ∷ (inner ++ quote ∷ [])) ++ rest ≡ longer ++ after → Spells other longer
    → length longer ≤ length (quote ∷ (inner ++ quote ∷ []))
literal_longest quote inner rest q a other [] after e h = absurd (spells_some other h)
literal_longest quote inner rest q a other (c ∷ longer) after e h =
    let l = (literal_only other c longer h (sym (ap is_quote (heads e)) ∙ q)).0 in
    let whole = sym (literal_whole quote inner rest) ∙ e ∙ ap (λ (z : List ℕ). z ++ after) l.2 ∙ literal_whole l.0 l.1 after in
    let same = literal_once quote l.0 inner l.1 rest after whole a l.4 in
    let size = ap length l.2 in
    let inside = ap length same in
    omega (arith, size, inside, length-append l.1 (l.0 ∷ []), length-append inner (quote ∷ []))

-- bytes between two quotes of one sort are a token
pub literal_token : (quote : ℕ) (inner rest : List ℕ) → is_quote quote ≡ true → AllIn (may_stand_in quote) inner
    → IsToken kinds.Literal (quote ∷ (inner ++ quote ∷ [])) rest
literal_token quote inner rest q a = record {
  spelled = literal refl (quote, inner, refl, q, a);
  longest = literal_longest quote inner rest q a;
  no_digit = λ k. absurd (let c : kinds.Literal ≡ kinds.Number = k in cc c);
  no_comment = no_open quote ((inner ++ quote ∷ []) ++ rest) (quote_no_paren quote q);
}

-- a literal, and what stands behind its second quote
pub literal_rest : (quote closing : ℕ) (bytes inner inside end rest : List ℕ) → bytes ≡ quote ∷ inner → inner ≡ inside ++ end
    → end ≡ closing ∷ rest → closing ≡ quote
    → bytes ≡ (quote ∷ (inside ++ quote ∷ [])) ++ rest
literal_rest quote closing bytes inner inside end rest e f g h =
    e ∙ ap (λ (z : List ℕ). quote ∷ z) (f ∙ ap (λ (z : List ℕ). inside ++ z) (g ∙ ap (λ (x : ℕ). x ∷ rest) h))
    ∙ sym (literal_whole quote inside rest)

-- a literal has two more bytes than stand inside it
pub literal_text : (quote : ℕ) (bytes inside rest : List ℕ) → bytes ≡ (quote ∷ (inside ++ quote ∷ [])) ++ rest
    → take (length inside + 2) bytes ≡ quote ∷ (inside ++ quote ∷ [])
literal_text quote bytes inside rest whole =
    let size : length inside + 2 ≡ length (quote ∷ (inside ++ quote ∷ [])) = omega (arith, length-append inside (quote ∷ [])) in
    ap (λ (n : ℕ). take n bytes) size ∙ ap (take (length (quote ∷ (inside ++ quote ∷ [])))) whole
    ∙ take-append_seam (quote ∷ (inside ++ quote ∷ [])) rest

-- a byte that may not stand inside a literal and is not its quote ends the line
line_end : (quote b : ℕ) → may_stand_in quote b ≡ false → (b ≡ quote → ⊥) → is_line_end b ≡ true
line_end quote b h n = grind (arith, nat_tests)

-- where the inside stops at no closing quote the line ends
pub ends_line : (quote : ℕ) (end : List ℕ) → Stops (may_stand_in quote) end → ((b : ℕ) (rest : List ℕ) → end ≡ b ∷ rest → b ≡ quote → ⊥)
    → EndsLine end
ends_line quote [] s n = tt
ends_line quote (b ∷ end) s n = line_end quote b s (n b end refl)

-- symbols --

-- a first byte is there
other_cons : (bytes : List ℕ) → IsOtherFirst bytes → bytes ≡ [] → ⊥
other_cons bytes h e = subst IsOtherFirst e h

-- no digits stand where another byte does
other_no_digits : (text rest : List ℕ) → IsOtherFirst (text ++ rest) → IsDigits text → ⊥
other_no_digits [] rest h d = d
other_no_digits (b ∷ text) rest h d = both (is_digit b) d.0 h.1

-- no symbol of this length stands at the front
abbrev pub NoSymbol : List ℕ → ℕ → Type 0
NoSymbol bytes size = (text rest : List ℕ) → bytes ≡ text ++ rest → length text ≡ size → look_up symbols text ≡ None

-- what is spelled there is a symbol of one byte or two
short_symbol : (other : Kind) (longer : List ℕ) (bytes after : List ℕ) → bytes ≡ longer ++ after → IsOtherFirst bytes → Spells other longer
    → (look_up symbols longer ≡ Some other) × (length longer ≤ 2) × (1 ≤ length longer)
short_symbol other [] bytes after e o h = absurd (spells_some other h)
short_symbol other (c ∷ longer) bytes after e o h =
    let s = symbol_only other c longer h (subst IsOtherFirst e o) in
    (s, symbol_short (c ∷ longer) other s, omega arith)

-- no token there is longer than one byte where no symbol of two stands
one_longest : (bytes : List ℕ) → IsOtherFirst bytes → NoSymbol bytes 2 → (other : Kind) (longer after : List ℕ) → bytes ≡ longer ++ after
    → Spells other longer → length longer ≤ 1
one_longest bytes o n other longer after e h =
    let s = short_symbol other longer bytes after e o h in
    go (nat_eq (length longer) 2) refl s where
      go : (two : Bool) → nat_eq (length longer) 2 ≡ two → (look_up symbols longer ≡ Some other) × (length longer ≤ 2) × (1 ≤ length longer)
          → length longer ≤ 1
      go true t s = absurd (let c : None ≡ Some other = sym (n longer after e (grind (arith, nat_tests))) ∙ s.0 in cc c)
      go false t s = grind (arith, nat_tests)

-- a symbol is a token where none is longer
symbol_token : (kind : Kind) (bytes text rest : List ℕ) → bytes ≡ text ++ rest → look_up symbols text ≡ Some kind → opens bytes ≡ false
    → IsOtherFirst bytes
    → ((other : Kind) (longer after : List ℕ) → bytes ≡ longer ++ after → Spells other longer → length longer ≤ length text)
    → IsToken kind text rest
symbol_token kind bytes text rest e s c o l = record {
  spelled = symbol s;
  longest = λ other longer after f h. l other longer after (e ∙ f) h;
  no_digit = λ k. absurd (other_no_digits text rest (subst IsOtherFirst e o) (number_digits kind text (symbol s) k));
  no_comment = subst (λ (z : List ℕ). opens z ≡ false) e c;
}

-- a symbol of two bytes is a token
pub two_token : (kind : Kind) (bytes text rest : List ℕ) → bytes ≡ text ++ rest → length text ≡ 2 → look_up symbols text ≡ Some kind
    → opens bytes ≡ false → IsOtherFirst bytes
    → IsToken kind text rest
two_token kind bytes text rest e two s c o =
    symbol_token kind bytes text rest e s c o
    (λ other longer after f h. let k = (short_symbol other longer bytes after f o h).1 in omega (arith, k))

-- a symbol of one byte is a token where none of two bytes stands
pub one_token : (kind : Kind) (bytes text rest : List ℕ) → bytes ≡ text ++ rest → length text ≡ 1 → look_up symbols text ≡ Some kind
    → opens bytes ≡ false → IsOtherFirst bytes → NoSymbol bytes 2
    → IsToken kind text rest
one_token kind bytes text rest e one s c o n =
    symbol_token kind bytes text rest e s c o
    (λ other longer after f h. let k = one_longest bytes o n other longer after f h in omega (arith, k))

-- no open literal begins there
no_string : (bytes : List ℕ) → IsOtherFirst bytes → IsOpenString bytes → ⊥
no_string bytes o s = let f : IsOtherFirst (s.quote ∷ (s.inner ++ s.rest)) = subst IsOtherFirst s.whole o in
    both (is_quote s.quote) s.quoted f.2

-- no number begins there
no_number : (bytes : List ℕ) → IsOtherFirst bytes → IsTooLarge bytes → ⊥
no_number bytes o s = other_no_digits s.digits s.rest (subst IsOtherFirst s.whole o) s.run

-- where no symbol stands the byte is bad
pub bad_byte : (bytes : List ℕ) → IsOtherFirst bytes → Stops is_blank bytes → opens bytes ≡ false → NoSymbol bytes 2 → NoSymbol bytes 1
    → IsBadByte bytes
bad_byte bytes o b c two one = record {
  there = other_cons bytes o;
  no_blank = b;
  no_token = λ kind text rest e h.
      let s = short_symbol kind text bytes rest e o h in
      let l = one_longest bytes o two kind text rest e h in
      let n = one text rest e (omega (arith, l, s.2)) in
      let q : None ≡ Some kind = sym n ∙ s.0 in
      cc q;
  no_comment = c;
  no_string = no_string bytes o;
  no_number = no_number bytes o;
}

-- one symbol of one byte, or a bad byte
pub last_symbol : (bytes : List ℕ) (found : Option Front) → IsSymbolAt bytes 1 found → IsOtherFirst bytes → Stops is_blank bytes
    → opens bytes ≡ false → NoSymbol bytes 2
    → IsFront bytes (ok_or found BadByte)
last_symbol bytes None s o b c two = bad_byte bytes o b c two s
last_symbol bytes (Some front) s o b c two = record {
  whole = s.whole;
  token = one_token front.kind bytes front.text.now front.rest.now s.whole s.length_is s.kind c o two;
}
