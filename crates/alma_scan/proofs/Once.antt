-- A source is read in at most one way.
use Rattle.std.proofs.Common.{◌≡◌, ℕ, Bool, true, false, List, [], ◌∷◌, ◌++◌, Some, length, refl, ap, sym, ◌∙◌, subst, arith}
use Rattle.std.proofs.lemmas.Bool.Decides.{nat_tests}
use Rattle.alma_base.specs.Bytes.{is_letter}
use Rattle.alma_base.specs.Reading.{is_blank, is_digit}
use Rattle.alma_base.specs.declared.fault.LexFault.{LexFault}
use Rattle.alma_base.specs.declared.fault.LexFault.TheVariants.{BadByte, OpenComment, OpenString, NumberTooLarge}
use Rattle.alma_tree.specs.declared.kind.Kind.{Kind}
use Rattle.alma_scan.specs.Bytes.{is_quote, is_line_end, may_stand_in, AllIn, Stops, value_of}
use Rattle.alma_scan.specs.Comments.{Closes, Gap, opens}
use Rattle.alma_scan.specs.Inner.Fronts.{IsGapEnd}
use Rattle.alma_scan.specs.Spellings.{Spells, IsDigits}
use Rattle.alma_scan.specs.Tokens.{Lexeme, IsToken, HasToken, HasTokens}
use Rattle.alma_scan.specs.Faults.{IsOpenComment, IsOpenString, IsTooLarge, IsFault, EndsLine, HasFault}
use Rattle.alma_scan.proofs.Basics.{true_false, heads, tails, some_none}
use Rattle.alma_scan.proofs.Runs.{run_once}
use Rattle.alma_scan.proofs.Gaps.{gap_once}
use Rattle.alma_scan.proofs.Spelled.{word_only, number_only, literal_only, symbol_only, spells_some, starter_blank, sign_starter}
use Rattle.alma_scan.proofs.Spelled.{letter_no_blank, digit_no_blank, quote_no_blank, digit_no_quote, digit_no_paren, quote_no_paren}
use Rattle.alma_scan.proofs.Standing.{no_open, quote_stops, literal_whole}

-- what the first byte of a spelled text is
pub data First (b : ℕ) : Type 0 where
  is_a_letter : is_letter b ≡ true → First b
  is_a_digit : is_digit b ≡ true → First b
  is_a_quote : is_quote b ≡ true → First b
  is_another : is_letter b ≡ false → is_digit b ≡ false → is_quote b ≡ false → First b

-- each byte is of one of these sorts
pub first : (b : ℕ) → First b
first b = go (is_letter b) (is_digit b) (is_quote b) refl refl refl where
  go : (l d q : Bool) → is_letter b ≡ l → is_digit b ≡ d → is_quote b ≡ q → First b
  go true d q e f g = is_a_letter e
  go false true q e f g = is_a_digit f
  go false false true e f g = is_a_quote g
  go false false false e f g = is_another e f g

-- a text is a spelling of one kind
kind_once : (k j : Kind) (text : List ℕ) → Spells k text → Spells j text → k ≡ j
kind_once k j [] h i = absurd (spells_some k h)
kind_once k j (b ∷ bytes) h i = elim (first b) [
  | is_a_letter e ↦ (word_only k b bytes h e).1 ∙ sym (word_only j b bytes i e).1
  | is_a_digit e ↦ (number_only k b bytes h e).1 ∙ sym (number_only j b bytes i e).1
  | is_a_quote e ↦ (literal_only k b bytes h e).1 ∙ sym (literal_only j b bytes i e).1
  | is_another e f g ↦ some_once k j (sym (symbol_only k b bytes h (e, f, g)) ∙ symbol_only j b bytes i (e, f, g))
] where
  some_once : (k j : Kind) → Some k ≡ Some j → k ≡ j
  some_once k j e = cc e

-- no spelled text begins with a blank
spelled_no_blank : (k : Kind) (text rest : List ℕ) → Spells k text → Stops is_blank (text ++ rest)
spelled_no_blank k [] rest h = absurd (spells_some k h)
spelled_no_blank k (b ∷ bytes) rest h = elim (first b) [
  | is_a_letter e ↦ letter_no_blank b e
  | is_a_digit e ↦ digit_no_blank b e
  | is_a_quote e ↦ quote_no_blank b e
  | is_another e f g ↦ starter_blank b (sign_starter b bytes k (symbol_only k b bytes h (e, f, g)))
]

-- no comment opens where the test says so
closed_open : (bytes inner : List ℕ) → opens bytes ≡ false → bytes ≡ 40 ∷ 42 ∷ inner → ⊥
closed_open bytes inner o e = true_false (sym (ap opens e) ∙ o)

-- no gap goes on where a token stands
token_end : (k : Kind) (text rest : List ℕ) → IsToken k text rest → IsGapEnd (text ++ rest)
token_end k text rest h = record {
  no_blank = spelled_no_blank k text rest h.spelled;
  no_comment = λ inner after e c. closed_open (text ++ rest) inner h.no_comment e;
}

-- no gap goes on where the source ends
pub empty_end : IsGapEnd []
empty_end = record { no_blank = tt; no_comment = λ inner rest e c. some_none (sym e) }

-- no gap goes on where a quote stands
quoted_end : (quote : ℕ) (bytes : List ℕ) → is_quote quote ≡ true → IsGapEnd (quote ∷ bytes)
quoted_end quote bytes q = record {
  no_blank = quote_no_blank quote q;
  no_comment = λ inner rest e c. closed_open (quote ∷ bytes) inner (no_open quote bytes (quote_no_paren quote q)) e;
}

-- no gap goes on where a digit stands
digits_end : (digits rest : List ℕ) → IsDigits digits → IsGapEnd (digits ++ rest)
digits_end [] rest d = absurd d
digits_end (b ∷ digits) rest d = record {
  no_blank = digit_no_blank b d.0;
  no_comment = λ inner after e c. closed_open (b ∷ (digits ++ rest)) inner (no_open b (digits ++ rest) (digit_no_paren b d.0)) e;
}

-- no gap goes on where an open comment stands
open_end : (bytes : List ℕ) → IsOpenComment bytes → IsGapEnd bytes
open_end bytes o = subst IsGapEnd (sym o.1) record {
  no_blank = refl;
  no_comment = λ inner rest e c. o.2 rest (subst (λ (z : List ℕ). Closes z rest) (sym (tails (tails e))) c);
}

-- no gap goes on where a fault stands
fault_end : (fault : LexFault) (bytes : List ℕ) → IsFault fault bytes → IsGapEnd bytes
fault_end BadByte bytes h = record { no_blank = h.no_blank; no_comment = λ inner rest e c. closed_open bytes inner h.no_comment e }
fault_end OpenComment bytes h = open_end bytes h
fault_end OpenString bytes h = subst IsGapEnd (sym h.whole) (quoted_end h.quote (h.inner ++ h.rest) h.quoted)
fault_end NumberTooLarge bytes h = subst IsGapEnd (sym h.whole) (digits_end h.digits h.rest h.run)

-- fronts of one length of equal lists are equal
pub same_front : (a x b y : List ℕ) → a ++ x ≡ b ++ y → length a ≡ length b → (a ≡ b) × (x ≡ y)
same_front [] x [] y e l = (refl, e)
same_front [] x (c ∷ b) y e l = absurd (omega (arith, l))
same_front (c ∷ a) x [] y e l = absurd (omega (arith, l))
same_front (c ∷ a) x (d ∷ b) y e l =
    let k = same_front a x b y (tails e) (omega (arith, l)) in
    (ap (λ (z : ℕ). z ∷ a) (heads e) ∙ ap (λ (z : List ℕ). d ∷ z) k.0, k.1)

-- one token stands at a place
token_once : (k j : Kind) (text other rest after : List ℕ) → text ++ rest ≡ other ++ after → IsToken k text rest → IsToken j other after
    → (k ≡ j) × (text ≡ other) × (rest ≡ after)
token_once k j text other rest after e h i =
    let above = h.longest j other after e i.spelled in
    let below = i.longest k text rest (sym e) h.spelled in
    let same = same_front text rest other after e (omega (arith, above, below)) in
    (kind_once k j text h.spelled (subst (Spells j) (sym same.0) i.spelled), same.0, same.1)

-- what ends a line may not stand in a literal
line_stops : (quote b : ℕ) → is_line_end b ≡ true → may_stand_in quote b ≡ false
line_stops quote b h = grind (arith, nat_tests)

-- no quote ends a line
quote_no_line_end : (quote : ℕ) → is_quote quote ≡ true → is_line_end quote ≡ true → ⊥
quote_no_line_end quote h k = grind (arith, nat_tests)

-- the inside of a literal stops where its line ends
end_stops : (quote : ℕ) (rest : List ℕ) → EndsLine rest → Stops (may_stand_in quote) rest
end_stops quote [] h = tt
end_stops quote (b ∷ rest) h = line_stops quote b h

-- no line ends at a quote
quote_no_end : (quote : ℕ) (rest other : List ℕ) → is_quote quote ≡ true → quote ∷ rest ≡ other → EndsLine other → ⊥
quote_no_end quote rest [] q e h = some_none e
quote_no_end quote rest (b ∷ other) q e h = quote_no_line_end quote q (ap is_line_end (heads e) ∙ h)

-- a literal that is closed is not open
closed_string : (quote other : ℕ) (inner rest inside after : List ℕ) → quote ∷ (inner ++ quote ∷ rest) ≡ other ∷ (inside ++ after)
    → is_quote quote ≡ true
    → AllIn (may_stand_in quote) inner → AllIn (may_stand_in other) inside → EndsLine after → ⊥
closed_string quote other inner rest inside after e q a b s =
    let same = sym (heads e) in
    let once = run_once (may_stand_in quote) inner (quote ∷ rest) inside after (tails e) a (quote_stops quote)
    (subst (λ (x : ℕ). AllIn (may_stand_in x) inside) same b) (end_stops quote after s) in
    quote_no_end quote rest after q once.1 s

-- an open literal begins with a quote
string_first : (b : ℕ) (bytes : List ℕ) → IsOpenString (b ∷ bytes) → is_quote b ≡ true
string_first b bytes o = ap is_quote (heads o.whole) ∙ o.quoted

-- no open literal begins with a token
string_no_text : (k : Kind) (text rest : List ℕ) → Spells k text → IsOpenString (text ++ rest) → ⊥
string_no_text k [] rest h o = spells_some k h
string_no_text k (b ∷ text) rest h o =
    let l = (literal_only k b text h (string_first b (text ++ rest) o)).0 in
    let e : l.0 ∷ (l.1 ++ l.0 ∷ rest) ≡ o.quote ∷ (o.inner ++ o.rest) = sym (literal_whole l.0 l.1 rest)
    ∙ ap (λ (z : List ℕ). z ++ rest) (sym l.2) ∙ o.whole in
    closed_string l.0 o.quote l.1 rest o.inner o.rest e l.3 l.4 o.inside o.ends

-- digits begin with a digit
first_digit : (b : ℕ) (bytes digits rest : List ℕ) → b ∷ bytes ≡ digits ++ rest → IsDigits digits → is_digit b ≡ true
first_digit b bytes [] rest e d = absurd d
first_digit b bytes (c ∷ digits) rest e d = ap is_digit (heads e) ∙ d.0

-- one or more digits are all digits
digits_all : (digits : List ℕ) → IsDigits digits → AllIn is_digit digits
digits_all [] d = absurd d
digits_all (b ∷ digits) d = d

-- no number that is too large begins with a token
large_no_text : (k : Kind) (text rest : List ℕ) → IsToken k text rest → IsTooLarge (text ++ rest) → ⊥
large_no_text k [] rest h f = spells_some k h.spelled
large_no_text k (b ∷ text) rest h f =
    let n = number_only k b text h.spelled (first_digit b (text ++ rest) f.digits f.rest f.whole f.run) in
    let same = run_once is_digit (b ∷ text) rest f.digits f.rest f.whole n.0 (h.no_digit n.1) (digits_all f.digits f.run) f.ends in
    let value = ap value_of same.0 in
    let small = n.2 in
    let large = f.large in
    absurd (omega (arith, value, small, large))

-- where a token stands no fault does
token_no_fault : (k : Kind) (text rest : List ℕ) (fault : LexFault) → IsToken k text rest → IsFault fault (text ++ rest) → ⊥
token_no_fault k text rest BadByte h f = f.no_token k text rest refl h.spelled
token_no_fault k text rest OpenComment h f = closed_open (text ++ rest) f.0 h.no_comment f.1
token_no_fault k text rest OpenString h f = string_no_text k text rest h.spelled f
token_no_fault k text rest NumberTooLarge h f = large_no_text k text rest h f

-- an open comment is no open literal
open_no_string : (bytes : List ℕ) → IsOpenComment bytes → IsOpenString bytes → ⊥
open_no_string bytes f g = true_false (sym (string_first 40 (42 ∷ f.0) (subst IsOpenString f.1 g)))

-- an open comment is no number
open_no_number : (bytes : List ℕ) → IsOpenComment bytes → IsTooLarge bytes → ⊥
open_no_number bytes f g = true_false (sym (first_digit 40 (42 ∷ f.0) g.digits g.rest (sym f.1 ∙ g.whole) g.run))

-- an open literal is no number
string_no_number : (bytes : List ℕ) → IsOpenString bytes → IsTooLarge bytes → ⊥
string_no_number bytes f g = digit_no_quote f.quote (first_digit f.quote (f.inner ++ f.rest) g.digits g.rest (sym f.whole ∙ g.whole) g.run)
    f.quoted

-- one fault stands at a place
fault_once : (fault other : LexFault) (bytes : List ℕ) → IsFault fault bytes → IsFault other bytes → fault ≡ other
fault_once BadByte BadByte bytes f g = refl
fault_once BadByte OpenComment bytes f g = absurd (closed_open bytes g.0 f.no_comment g.1)
fault_once BadByte OpenString bytes f g = absurd (f.no_string g)
fault_once BadByte NumberTooLarge bytes f g = absurd (f.no_number g)
fault_once OpenComment BadByte bytes f g = absurd (closed_open bytes f.0 g.no_comment f.1)
fault_once OpenComment OpenComment bytes f g = refl
fault_once OpenComment OpenString bytes f g = absurd (open_no_string bytes f g)
fault_once OpenComment NumberTooLarge bytes f g = absurd (open_no_number bytes f g)
fault_once OpenString BadByte bytes f g = absurd (g.no_string f)
fault_once OpenString OpenComment bytes f g = absurd (open_no_string bytes g f)
fault_once OpenString OpenString bytes f g = refl
fault_once OpenString NumberTooLarge bytes f g = absurd (string_no_number bytes f g)
fault_once NumberTooLarge BadByte bytes f g = absurd (g.no_number f)
fault_once NumberTooLarge OpenComment bytes f g = absurd (open_no_number bytes g f)
fault_once NumberTooLarge OpenString bytes f g = absurd (string_no_number bytes g f)
fault_once NumberTooLarge NumberTooLarge bytes f g = refl

-- digits have a byte
digits_some : (digits rest : List ℕ) → [] ≡ digits ++ rest → IsDigits digits → ⊥
digits_some [] rest e d = d
digits_some (b ∷ digits) rest e d = some_none (sym e)

-- no fault stands at the end of the source
fault_some : (fault : LexFault) → IsFault fault [] → ⊥
fault_some BadByte f = f.there refl
fault_some OpenComment f = some_none (sym f.1)
fault_some OpenString f = some_none (sym f.whole)
fault_some NumberTooLarge f = digits_some f.digits f.rest f.whole f.run

-- a spelled text has a byte
text_some : (k : Kind) (text rest : List ℕ) → Spells k text → [] ≡ text ++ rest → ⊥
text_some k [] rest h e = spells_some k h
text_some k (b ∷ text) rest h e = some_none (sym e)

-- no token and no gap goes on here
pub record Final (rest : List ℕ) : Type 0 where
  pub end : IsGapEnd rest
  pub no_token : (k : Kind) (text after : List ℕ) → rest ≡ text ++ after → IsToken k text after → ⊥

-- nothing goes on at the end of the source
final_end : Final []
final_end = record { end = empty_end; no_token = λ k text after e h. text_some k text after h.spelled e }

-- nothing goes on at a fault
final_fault : (fault : LexFault) (rest : List ℕ) → IsFault fault rest → Final rest
final_fault fault rest f = record {
  end = fault_end fault rest f;
  no_token = λ k text after e h. token_no_fault k text after fault h (subst (IsFault fault) e f);
}

-- tokens with equal parts are equal
lexeme_same : (t u : Lexeme) → t.kind ≡ u.kind → t.text ≡ u.text → t.start ≡ u.start → t ≡ u
lexeme_same t u k x s =
    ap (λ (z : Kind). record { kind = z; text = t.text; start = t.start }) k
    ∙ ap (λ (z : List ℕ). record { kind = u.kind; text = z; start = t.start }) x
    ∙ ap (λ (z : ℕ). record { kind = u.kind; text = u.text; start = z }) s

-- the same token comes next
pub next_once : (size : ℕ) (bytes : List ℕ) (t u : Lexeme) (rest after : List ℕ) → HasToken size bytes t rest → HasToken size bytes u after
    → (t ≡ u) × (rest ≡ after)
next_once size bytes t u rest after h i =
    let front = gap_once h.gap (u.text ++ after) (token_end t.kind t.text rest h.is_token) (token_end u.kind u.text after i.is_token)
    i.gap in
    let same = token_once t.kind u.kind t.text u.text rest after front h.is_token i.is_token in
    let left = ap length front in
    let start = h.start in
    let other = i.start in
    (lexeme_same t u same.0 same.1 (omega (arith, left, start, other)), same.2)

-- no token comes where nothing goes on
pub next_none : (size : ℕ) (bytes : List ℕ) (t : Lexeme) (rest end : List ℕ) → HasToken size bytes t rest → Gap bytes end → Final end → ⊥
next_none size bytes t rest end h g f =
    let front = gap_once g (t.text ++ rest) f.end (token_end t.kind t.text rest h.is_token) h.gap in
    f.no_token t.kind t.text rest front h.is_token

-- the same tokens come, up to the same place
pub lists_once : (size : ℕ) (bytes : List ℕ) (ts us : List Lexeme) (rest after : List ℕ) → HasTokens size bytes ts rest
    → HasTokens size bytes us after → Final rest → Final after
    → (ts ≡ us) × (rest ≡ after)
lists_once size bytes [] [] rest after h i f g = (refl, gap_once h after f.end g.end i)
lists_once size bytes [] (u ∷ us) rest after h i f g = absurd (next_none size bytes u i.0 rest i.1 h f)
lists_once size bytes (t ∷ ts) [] rest after h i f g = absurd (next_none size bytes t h.0 after h.1 i g)
lists_once size bytes (t ∷ ts) (u ∷ us) rest after h i f g =
    let next = next_once size bytes t u h.0 i.0 h.1 i.1 in
    let more = lists_once size h.0 ts us rest after h.2 (subst (λ (z : List ℕ). HasTokens size z us after) (sym next.1) i.2) f g in
    (ap (λ (z : Lexeme). z ∷ ts) next.0 ∙ ap (λ (z : List Lexeme). u ∷ z) more.0, more.1)

-- a source has one list of tokens
pub tokens_once : (size : ℕ) (bytes : List ℕ) (ts us : List Lexeme) → HasTokens size bytes ts [] → HasTokens size bytes us [] → ts ≡ us
tokens_once size bytes ts us h i = (lists_once size bytes ts us [] [] h i final_end final_end).0

-- a source has one fault
pub faults_once : (size : ℕ) (bytes : List ℕ) (ts us : List Lexeme) (fault other : LexFault) (at place : ℕ)
    → HasFault size bytes ts fault at → HasFault size bytes us other place
    → (fault ≡ other) × (at ≡ place)
faults_once size bytes ts us fault other at place h i =
    let same = (lists_once size bytes ts us h.rest i.rest h.front i.front (final_fault fault h.rest h.is_fault)
    (final_fault other i.rest i.is_fault)).1 in
    let left = ap length same in
    let here = h.place in
    let there = i.place in
    (fault_once fault other h.rest h.is_fault (subst (IsFault other) (sym same) i.is_fault), omega (arith, left, here, there))

-- a source has no fault where it has tokens
pub never_both : (size : ℕ) (bytes : List ℕ) (ts us : List Lexeme) (fault : LexFault) (at : ℕ) → HasTokens size bytes ts []
    → HasFault size bytes us fault at → ⊥
never_both size bytes ts us fault at h i =
    let same = (lists_once size bytes ts us [] i.rest h i.front final_end (final_fault fault i.rest i.is_fault)).1 in
    fault_some fault (subst (IsFault fault) (sym same) i.is_fault)

-- no source ends where a token comes
pub token_or_end : (size : ℕ) (bytes : List ℕ) (t : Lexeme) (rest : List ℕ) → HasToken size bytes t rest → Gap bytes [] → ⊥
token_or_end size bytes t rest h g = next_none size bytes t rest [] h g final_end

-- no fault comes where a token does
pub token_or_fault : (size : ℕ) (bytes : List ℕ) (t : Lexeme) (rest : List ℕ) (fault : LexFault) (at : ℕ) → HasToken size bytes t rest
    → HasFault size bytes [] fault at → ⊥
token_or_fault size bytes t rest fault at h i = next_none size bytes t rest i.rest h i.front (final_fault fault i.rest i.is_fault)
