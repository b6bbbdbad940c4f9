-- Each source can be read: it has tokens or a fault.
use Rattle.std.proofs.Common.{◌≡◌, ◌≤◌, ◌<◌, ℕ, zero, suc, ◌-◌, Bool, true, false, ◌&&◌, List, [], ◌∷◌, ◌++◌, Option, None, Some, length}
use Rattle.std.proofs.Common.{take, drop, refl, ap, sym, ◌∙◌, subst, arith, length-append, inl, inr}
use Rattle.std.specs.Prelude.{◌⊎◌, nat_eq, nat_le, unwrap_or}
use Rattle.std.proofs.lemmas.List.{take-append-drop, length-take-le}
use Rattle.std.proofs.lemmas.Bool.Decides.{nat_tests}
use Rattle.alma_base.specs.Bytes.{is_letter, is_word_byte}
use Rattle.alma_base.specs.Reading.{is_blank, is_digit}
use Rattle.alma_base.specs.declared.fault.LexFault.{LexFault}
use Rattle.alma_base.specs.declared.fault.LexFault.TheVariants.{BadByte, OpenComment, OpenString, NumberTooLarge}
use Rattle.alma_tree.specs.declared.kind.Kind.{Kind}
use Rattle.alma_tree.specs.declared.kind.Kind.TheVariants as kinds
use Rattle.alma_scan.specs.Bytes.{is_quote, may_stand_in, AllIn, Begins, Stops, value_of}
use Rattle.alma_scan.specs.Comments.{Closes, here, Gap, none, blank, comment, opens, closes}
use Rattle.alma_scan.specs.Spellings.{look_up, symbols, reserved_words, greatest_number}
use Rattle.alma_scan.specs.Tokens.{Lexeme, IsToken, HasToken, HasTokens}
use Rattle.alma_scan.specs.Faults.{IsFault, EndsLine, HasFault}
use Rattle.alma_scan.specs.Inner.Fronts.{IsGapEnd, IsOtherFirst}
use Rattle.alma_scan.proofs.Basics.{true_false, heads, tails}
use Rattle.alma_scan.proofs.Comments.{ClosesAll, opened, opened_back, closed_back, byted, byted_back, no_all}
use Rattle.alma_scan.proofs.Gaps.{gap_shorter, closes_shorter}
use Rattle.alma_scan.proofs.Standing.{word_token, number_token, digits_text, literal_token, literal_rest, ends_line, NoSymbol, two_token}
use Rattle.alma_scan.proofs.Standing.{one_token, bad_byte}
use Rattle.alma_scan.proofs.Lists.{token_shorter}
use Rattle.alma_scan.proofs.Once.{is_a_letter, is_a_digit, is_a_quote, is_another, first, empty_end, same_front}

-- the bytes close so many comments and one more, or they do not
data Ends (depth : ℕ) (bytes : List ℕ) : Type 0 where
  closed_at : (rest : List ℕ) → ClosesAll depth bytes rest → Ends depth bytes
  never : ((rest : List ℕ) → ClosesAll depth bytes rest → ⊥) → Ends depth bytes

-- a test of two bytes says which they are
two_bytes : (x y a b : ℕ) → (nat_eq a x && nat_eq b y) ≡ true → (a ≡ x) × (b ≡ y)
two_bytes x y a b h = (grind (arith, nat_tests), grind (arith, nat_tests))

-- before another opening the same is known
ends_opened : (depth : ℕ) (bytes : List ℕ) → Ends (suc depth) bytes → Ends depth (40 ∷ 42 ∷ bytes)
ends_opened depth bytes (closed_at rest h) = closed_at rest (opened depth bytes rest h)
ends_opened depth bytes (never n) = never (λ rest h. n rest (opened_back depth bytes rest h))

-- before a closing the same is known
ends_closed : (depth : ℕ) (bytes : List ℕ) → ((d : ℕ) → Ends d bytes) → Ends depth (42 ∷ 41 ∷ bytes)
ends_closed zero bytes more = closed_at bytes (here bytes)
ends_closed (suc depth) bytes more = go (more depth) where
  go : Ends depth bytes → Ends (suc depth) (42 ∷ 41 ∷ bytes)
  go (closed_at rest h) = closed_at rest (bytes, here bytes, h)
  go (never n) = never (λ rest h. n rest (closed_back depth bytes rest h))

-- before any other byte the same is known
ends_byte : (depth b : ℕ) (bytes : List ℕ) → opens (b ∷ bytes) ≡ false → closes (b ∷ bytes) ≡ false → Ends depth bytes
    → Ends depth (b ∷ bytes)
ends_byte depth b bytes o c (closed_at rest h) = closed_at rest (byted depth b bytes rest o c h)
ends_byte depth b bytes o c (never n) = never (λ rest h. n rest (byted_back depth b bytes rest o c h))

-- the first two bytes decide
ends_two : (depth a b : ℕ) (bytes : List ℕ) → ((d : ℕ) → Ends d bytes) → Ends depth (b ∷ bytes) → (o c : Bool) → opens (a ∷ b ∷ bytes) ≡ o
    → closes (a ∷ b ∷ bytes) ≡ c
    → Ends depth (a ∷ b ∷ bytes)
ends_two depth a b bytes more next true c o e =
    let two = two_bytes 40 42 a b o in
    subst (λ (x : ℕ). Ends depth (x ∷ b ∷ bytes)) (sym two.0)
    (subst (λ (y : ℕ). Ends depth (40 ∷ y ∷ bytes)) (sym two.1) (ends_opened depth bytes (more (suc depth))))
ends_two depth a b bytes more next false true o c =
    let two = two_bytes 42 41 a b c in
    subst (λ (x : ℕ). Ends depth (x ∷ b ∷ bytes)) (sym two.0)
    (subst (λ (y : ℕ). Ends depth (42 ∷ y ∷ bytes)) (sym two.1) (ends_closed depth bytes more))
ends_two depth a b bytes more next false false o c = ends_byte depth a (b ∷ bytes) o c next

-- a comment ends or does not
ends_total : (bytes : List ℕ) (depth : ℕ) → Ends depth bytes
ends_total [] depth = never (no_all depth)
ends_total (a ∷ []) depth = ends_byte depth a [] refl refl (never (no_all depth))
ends_total (a ∷ b ∷ bytes) depth = ends_two depth a b bytes (λ d. ends_total bytes d) (ends_total (b ∷ bytes) depth) (opens (a ∷ b ∷ bytes))
    (closes (a ∷ b ∷ bytes)) refl refl

-- the end of the gap with which bytes begin
abbrev GapOf : List ℕ → Type 0
GapOf bytes = (rest : List ℕ) × Gap bytes rest × IsGapEnd rest

-- what stands behind an opening
open_inner : (bytes : List ℕ) → opens bytes ≡ true → (inner : List ℕ) × (bytes ≡ 40 ∷ 42 ∷ inner)
open_inner [] h = absurd (true_false (sym h))
open_inner (a ∷ []) h = absurd (true_false (sym h))
open_inner (a ∷ b ∷ bytes) h =
    let two = two_bytes 40 42 a b h in
    (bytes, ap (λ (x : ℕ). x ∷ b ∷ bytes) two.0 ∙ ap (λ (y : ℕ). 40 ∷ y ∷ bytes) two.1)

-- a gap that begins with a comment, where this ends
gap_comment : (n : ℕ) (bytes inner : List ℕ) → length bytes ≤ suc n → bytes ≡ 40 ∷ 42 ∷ inner → Ends 0 inner
    → ((more : List ℕ) → length more ≤ n → GapOf more) → GapOf bytes
gap_comment n bytes inner l e (closed_at rest c) more =
    let whole = ap length e in
    let shorter = closes_shorter c in
    let r = more rest (omega (arith, l, whole, shorter)) in
    (r.0, subst (λ (z : List ℕ). Gap z r.0) (sym e) (comment inner rest r.0 c r.1), r.2)
gap_comment n bytes inner l e (never o) more = (
  bytes,
  none bytes,
  record {
    no_blank = subst (Stops is_blank) (sym e) refl;
    no_comment = λ other rest f c. o rest (subst (λ (z : List ℕ). Closes z rest) (sym (tails (tails (sym e ∙ f)))) c);
  },
)

-- a gap goes on by its first byte
gap_step : (n b : ℕ) (bytes : List ℕ) → length (b ∷ bytes) ≤ suc n → ((more : List ℕ) → length more ≤ n → GapOf more) → (t o : Bool)
    → is_blank b ≡ t → opens (b ∷ bytes) ≡ o → GapOf (b ∷ bytes)
gap_step n b bytes l more true o t e = let r = more bytes (omega (arith, l)) in (r.0, blank b bytes r.0 t r.1, r.2)
gap_step n b bytes l more false true t e =
    let i = open_inner (b ∷ bytes) e in
    gap_comment n (b ∷ bytes) i.0 l i.1 (ends_total i.0 0) more
gap_step n b bytes l more false false t e = (
  b ∷ bytes,
  none (b ∷ bytes),
  record {
    no_blank = t;
    no_comment = λ inner rest f c. true_false (sym (ap opens f) ∙ e);
  },
)

-- each gap has an end
gap_total : (n : ℕ) (bytes : List ℕ) → length bytes ≤ n → GapOf bytes
gap_total n [] l = ([], none [], empty_end)
gap_total zero (b ∷ bytes) l = absurd (omega (arith, l))
gap_total (suc n) (b ∷ bytes) l = gap_step n b bytes l (λ more k. gap_total n more k) (is_blank b) (opens (b ∷ bytes)) refl refl

-- the run of a class with which bytes begin
record RunOf (test : ℕ → Bool) (bytes : List ℕ) : Type 0 where
  run : List ℕ
  rest : List ℕ
  whole : bytes ≡ run ++ rest
  inside : AllIn test run
  stop : Stops test rest

-- a run goes on by its first byte
run_step : (test : ℕ → Bool) (b : ℕ) (bytes : List ℕ) → RunOf test bytes → (t : Bool) → test b ≡ t → RunOf test (b ∷ bytes)
run_step test b bytes r true t = record {
  run = b ∷ r.run;
  rest = r.rest;
  whole = ap (λ (z : List ℕ). b ∷ z) r.whole;
  inside =
      (t, r.inside);
  stop = r.stop;
}
run_step test b bytes r false t = record { run = []; rest = b ∷ bytes; whole = refl; inside = tt; stop = t }

-- each run has an end
run_total : (test : ℕ → Bool) (bytes : List ℕ) → RunOf test bytes
run_total test [] = record { run = []; rest = []; whole = refl; inside = tt; stop = tt }
run_total test (b ∷ bytes) = run_step test b bytes (run_total test bytes) (test b) refl

-- what stands at the front of bytes
data Stands (bytes : List ℕ) : Type 0 where
  nothing : bytes ≡ [] → Stands bytes
  a_token : (k : Kind) (text rest : List ℕ) → bytes ≡ text ++ rest → IsToken k text rest → Stands bytes
  a_fault : (fault : LexFault) → IsFault fault bytes → Stands bytes

-- a letter begins a word
word_stands : (bytes : List ℕ) → Begins is_letter bytes → Stands bytes
word_stands bytes l =
    let r = run_total is_word_byte bytes in
    a_token (unwrap_or (look_up reserved_words r.run) kinds.Name) r.run r.rest r.whole
    (word_token r.run r.rest (subst (Begins is_letter) r.whole l) r.inside r.stop)

-- a digit begins a number or one that is too large
digits_stand : (bytes : List ℕ) → Begins is_digit bytes → (r : RunOf is_digit bytes) → (t : Bool)
    → nat_le (value_of r.run) greatest_number ≡ t → Stands bytes
digits_stand bytes l r true t = a_token kinds.Number r.run r.rest r.whole
    (number_token r.run r.rest (subst (Begins is_digit) r.whole l) r.inside r.stop (grind (arith, nat_tests)))
digits_stand bytes l r false t = a_fault NumberTooLarge record {
  digits = r.run;
  rest = r.rest;
  whole = r.whole;
  run = digits_text r.run r.rest (subst (Begins is_digit) r.whole l) r.inside r.stop;
  ends = r.stop;
  large = grind (arith, nat_tests);
}

-- a quote begins an open literal where the line ends first
string_open : (b : ℕ) (bytes inner rest : List ℕ) → is_quote b ≡ true → bytes ≡ inner ++ rest → AllIn (may_stand_in b) inner → EndsLine rest
    → Stands (b ∷ bytes)
string_open b bytes inner rest q e a l = a_fault OpenString record {
  quote = b;
  inner = inner;
  rest = rest;
  whole = ap (λ (z : List ℕ). b ∷ z) e;
  quoted = q;
  inside = a;
  ends = l;
}

-- a quote begins a literal where the same quote comes first
string_closes : (b c : ℕ) (bytes inner rest : List ℕ) → is_quote b ≡ true → bytes ≡ inner ++ c ∷ rest → AllIn (may_stand_in b) inner
    → may_stand_in b c ≡ false → (t : Bool) → nat_eq c b ≡ t → Stands (b ∷ bytes)
string_closes b c bytes inner rest q e a s true t =
    let same : c ≡ b = grind (arith, nat_tests) in
    a_token kinds.Literal (b ∷ (inner ++ b ∷ [])) rest (literal_rest b c (b ∷ bytes) bytes inner (c ∷ rest) rest refl e refl same)
    (literal_token b inner rest q a)
string_closes b c bytes inner rest q e a s false t =
    string_open b bytes inner (c ∷ rest) q e a (ends_line b (c ∷ rest) s (λ d more f g. differs c b t (heads f ∙ g))) where
      differs : (c b : ℕ) → nat_eq c b ≡ false → c ≡ b → ⊥
      differs c b h e = grind (arith, nat_tests)

-- a quote begins a literal or an open one
string_stands : (b : ℕ) (bytes inner rest : List ℕ) → is_quote b ≡ true → bytes ≡ inner ++ rest → AllIn (may_stand_in b) inner
    → Stops (may_stand_in b) rest → Stands (b ∷ bytes)
string_stands b bytes inner [] q e a s = string_open b bytes inner [] q e a tt
string_stands b bytes inner (c ∷ rest) q e a s = string_closes b c bytes inner rest q e a s (nat_eq c b) refl

-- a symbol of so many bytes stands at the front, or none does
data SymbolOf (bytes : List ℕ) (size : ℕ) : Type 0 where
  some_symbol : (k : Kind) (text rest : List ℕ) → bytes ≡ text ++ rest → length text ≡ size → look_up symbols text ≡ Some k
      → SymbolOf bytes size
  no_symbol : NoSymbol bytes size → SymbolOf bytes size

-- the first bytes are a symbol or none
symbol_found : (bytes : List ℕ) (size : ℕ) → size ≤ length bytes → (found : Option Kind) → look_up symbols (take size bytes) ≡ found
    → SymbolOf bytes size
symbol_found bytes size l (Some k) h = some_symbol k (take size bytes) (drop size bytes) (sym (take-append-drop size bytes))
    (length-take-le size bytes l) h
symbol_found bytes size l None h = no_symbol (λ text rest e n.
    let same = same_front (take size bytes) (drop size bytes) text rest (take-append-drop size bytes ∙ e)
    (length-take-le size bytes l ∙ sym n) in
    ap (look_up symbols) (sym same.0) ∙ h)

-- there are so many bytes or not
symbol_sized : (bytes : List ℕ) (size : ℕ) → (t : Bool) → nat_le size (length bytes) ≡ t → SymbolOf bytes size
symbol_sized bytes size true t = symbol_found bytes size (grind (arith, nat_tests)) (look_up symbols (take size bytes)) refl
symbol_sized bytes size false t = no_symbol (λ text rest e n.
    let whole = ap length e ∙ length-append text rest in
    let short : length bytes < size = grind (arith, nat_tests) in
    absurd (omega (arith, whole, short, n)))

-- a symbol of so many bytes stands there or none
symbol_total : (bytes : List ℕ) (size : ℕ) → SymbolOf bytes size
symbol_total bytes size = symbol_sized bytes size (nat_le size (length bytes)) refl

-- any other byte begins a symbol or is bad
symbols_stand : (bytes : List ℕ) → IsOtherFirst bytes → Stops is_blank bytes → opens bytes ≡ false → SymbolOf bytes 2 → SymbolOf bytes 1
    → Stands bytes
symbols_stand bytes o b c (some_symbol k text rest e n h) one = a_token k text rest e (two_token k bytes text rest e n h c o)
symbols_stand bytes o b c (no_symbol two) (some_symbol k text rest e n h) =
    a_token k text rest e (one_token k bytes text rest e n h c o two)
symbols_stand bytes o b c (no_symbol two) (no_symbol one) = a_fault BadByte (bad_byte bytes o b c two one)

-- any other byte begins a symbol or an open comment or is bad
other_stands : (bytes : List ℕ) → IsGapEnd bytes → IsOtherFirst bytes → (t : Bool) → opens bytes ≡ t → Stands bytes
other_stands bytes g o true t = let i = open_inner bytes t in a_fault OpenComment (i.0, i.1, λ rest c. g.no_comment i.0 rest i.1 c)
other_stands bytes g o false t = symbols_stand bytes o g.no_blank t (symbol_total bytes 2) (symbol_total bytes 1)

-- at the end of a gap stands nothing, a token or a fault
stands : (bytes : List ℕ) → IsGapEnd bytes → Stands bytes
stands [] g = nothing refl
stands (b ∷ bytes) g = elim (first b) [
  | is_a_letter e ↦ word_stands (b ∷ bytes) e
  | is_a_digit e ↦ let r = run_total is_digit (b ∷ bytes) in digits_stand (b ∷ bytes) e r (nat_le (value_of r.run) greatest_number) refl
  | is_a_quote e ↦ let r = run_total (may_stand_in b) bytes in string_stands b bytes r.run r.rest e r.whole r.inside r.stop
  | is_another e f h ↦ other_stands (b ∷ bytes) g (e, f, h) (opens (b ∷ bytes)) refl
]

-- the last bytes of a source have tokens or a fault
data Reading (size : ℕ) (bytes : List ℕ) : Type 0 where
  listed : (tokens : List Lexeme) → HasTokens size bytes tokens [] → Reading size bytes
  faulty : (tokens : List Lexeme) (fault : LexFault) (at : ℕ) → HasFault size bytes tokens fault at → Reading size bytes

-- behind a token the rest decides
reading_next : (size : ℕ) (bytes : List ℕ) (t : Lexeme) (rest : List ℕ) → HasToken size bytes t rest → Reading size rest
    → Reading size bytes
reading_next size bytes t rest h (listed ts i) = listed (t ∷ ts) (rest, h, i)
reading_next size bytes t rest h (faulty ts fault at i) = faulty (t ∷ ts) fault at record {
  rest = i.rest;
  front = (rest, h, i.front);
  is_fault = i.is_fault;
  place = i.place;
}

-- what stands at the end of the gap decides
reading_front : (n size : ℕ) (bytes front : List ℕ) → length bytes ≤ size → length bytes ≤ n → Gap bytes front → Stands front
    → ((more : List ℕ) → length more ≤ size → length more < length bytes → Reading size more) → Reading size bytes
reading_front n size bytes front l k g (nothing e) more = listed [] (subst (Gap bytes) e g)
reading_front n size bytes front l k g (a_token kind text rest e h) more =
    let shorter = gap_shorter g in
    let whole = ap length e in
    let at = size - length (text ++ rest) in
    let t : HasToken size bytes (record { kind = kind; text = text; start = at }) rest = record {
      gap = subst (Gap bytes) e g;
      is_token = h;
      start = omega (arith, l, shorter, whole);
    } in
    let less = token_shorter size bytes (record { kind = kind; text = text; start = at }) rest t in
    reading_next size bytes (record { kind = kind; text = text; start = at }) rest t (more rest (omega (arith, less, l)) less)
reading_front n size bytes front l k g (a_fault fault h) more =
    let shorter = gap_shorter g in
    faulty [] fault (size - length front) record {
      rest = front;
      front = g;
      is_fault = h;
      place = omega (arith, l, shorter);
    }

-- the last bytes of a source have tokens or a fault
reading_total : (n size : ℕ) (bytes : List ℕ) → length bytes ≤ size → length bytes ≤ n → Reading size bytes
reading_total zero size [] l k = listed [] (none [])
reading_total zero size (b ∷ bytes) l k = absurd (omega (arith, k))
reading_total (suc n) size bytes l k =
    let g = gap_total (length bytes) bytes (omega arith) in
    reading_front (suc n) size bytes g.0 l k g.1 (stands g.0 g.2) (λ more m s. reading_total n size more m (omega (arith, k, s)))

-- each source has tokens or a fault
pub always : (source : List ℕ) → ((tokens : List Lexeme) × HasTokens (length source) source tokens [])
    ⊎ ((fault : LexFault) × (at : ℕ) × ((tokens : List Lexeme) × HasFault (length source) source tokens fault at))
always source = go (reading_total (length source) (length source) source (omega arith) (omega arith)) where
  go : Reading (length source) source → ((tokens : List Lexeme) × HasTokens (length source) source tokens [])
      ⊎ ((fault : LexFault) × (at : ℕ) × ((tokens : List Lexeme) × HasFault (length source) source tokens fault at))
  go (listed ts h) = inl (ts, h)
  go (faulty ts fault at h) = inr (fault, at, (ts, h))
