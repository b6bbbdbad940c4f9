-- READ finds blanks, a sign or none, and digits.
use Rattle.std.proofs.Common.{◌≡◌, ◌+◌, ◌-◌, ◌*◌, ℕ, suc, Bool, true, false, nat_eq, List, [], ◌∷◌, ◌++◌, length, drop, refl, ap, sym, ◌∙◌}
use Rattle.std.proofs.Common.{subst, arith}
use Rattle.std.proofs.lemmas.Bool.Decides.{nat_tests}
use Rattle.std.proofs.lemmas.List.Elements.{All-nil, All-cons, All-head, All-tail}
use Rattle.std.specs.List.{AllPass}
use Rattle.std.specs.Char.{digit_value}
use Rattle.std.specs.Str.Parse.{digits_value, digits_value_after}
use Rattle.alma_base.specs.Choice.{if_true}
use Rattle.alma_base.specs.Numbers.{is_integer}
use Rattle.alma_base.specs.Reading.{is_blank, is_digit, signed_value, sized, ended, digits_on, sign_on, number_on, number_from}
use Rattle.alma_base.specs.Finding.{Sign, Unsigned, Plus, Minus, sign_text, is_negative, is_sign, BeginsWithout, IsFound, ReadFinds}
use Rattle.alma_base.specs.declared.number.ReadInt.TheVariants.{NoNumber}
use Rattle.alma_base.proofs.Numerals.{blank_is_passed, blanks_end, digit_is_read, digits_end}

-- ---- the longest front of one class

-- the bytes of a class that stand in front, and what follows them
record Run (test : ℕ → Bool) (text : List ℕ) : Type 0 where
  front : List ℕ
  rest : List ℕ
  whole : text ≡ front ++ rest
  each : AllPass test front
  stops : BeginsWithout test rest

-- a front with one byte before it
run_more : (test : ℕ → Bool) (c : ℕ) (text : List ℕ) → Run test text → (b : Bool) → test c ≡ b → Run test (c ∷ text)
run_more test c text r false e = record { front = []; rest = c ∷ text; whole = refl; each = All-nil (λ x. test x ≡ true); stops = e }
run_more test c text r true e = record {
  front = c ∷ r.front;
  rest = r.rest;
  whole = ap (λ z. c ∷ z) r.whole;
  each = All-cons (λ x. test x ≡ true) c r.front e r.each;
  stops = r.stops;
}

run : (test : ℕ → Bool) (text : List ℕ) → Run test text
run test [] = record { front = []; rest = []; whole = refl; each = All-nil (λ x. test x ≡ true); stops = tt }
run test (c ∷ text) = run_more test c text (run test text) (test c) refl

-- ---- what a run makes

-- all blanks are passed
blanks_passed : (place : ℕ) (blanks rest : List ℕ) → AllPass is_blank blanks → BeginsWithout is_blank rest
    → number_on place (blanks ++ rest) ≡ sign_on (place + length blanks) rest
blanks_passed place [] [] each stops = refl
blanks_passed place [] (c ∷ rest) each stops =
    let same : place + 0 ≡ place = omega arith in
    rw same (blanks_end place c rest stops)
blanks_passed place (c ∷ blanks) rest each stops =
    let next : suc place + length blanks ≡ place + suc (length blanks) = omega arith in
    blank_is_passed place c (blanks ++ rest) (All-head (λ x. is_blank x ≡ true) c blanks each)
    ∙ blanks_passed (suc place) blanks rest (All-tail (λ x. is_blank x ≡ true) c blanks each) stops
    ∙ ap (λ n. sign_on n rest) next

-- what a digit stands for
digit_is : (c : ℕ) → is_digit c ≡ true → c - 48 ≡ digit_value c
digit_is c h = grind (arith, nat_tests)

-- digits behind a first one make their decimal value
more_digits : (negative : Bool) (value place : ℕ) (digits rest : List ℕ) → AllPass is_digit digits → BeginsWithout is_digit rest
    → digits_on true negative value place (digits ++ rest) ≡ ended true negative (digits_value_after 10 value digits)
    (place + length digits)
more_digits negative value place [] [] each stops =
    let same : place + 0 ≡ place = omega arith in
    rw same refl
more_digits negative value place [] (c ∷ rest) each stops =
    let same : place + 0 ≡ place = omega arith in
    rw same (digits_end true negative value place c rest stops)
more_digits negative value place (c ∷ digits) rest each stops =
    let digit : is_digit c ≡ true = All-head (λ x. is_digit x ≡ true) c digits each in
    let next : suc place + length digits ≡ place + suc (length digits) = omega arith in
    digit_is_read true negative value place c (digits ++ rest) digit
    ∙ more_digits negative (value * 10 + (c - 48)) (suc place) digits rest (All-tail (λ x. is_digit x ≡ true) c digits each) stops
    ∙ ap (λ d. ended true negative (digits_value_after 10 (value * 10 + d) digits) (suc place + length digits)) (digit_is c digit)
    ∙ ap (ended true negative (digits_value_after 10 (value * 10 + digit_value c) digits)) next

-- with no digit there is no number
no_digits : (negative : Bool) (place : ℕ) (rest : List ℕ) → BeginsWithout is_digit rest → digits_on false negative 0 place rest ≡ NoNumber
no_digits negative place [] stops = refl
no_digits negative place (c ∷ rest) stops = digits_end false negative 0 place c rest stops

-- digits make their decimal value
some_digits : (negative : Bool) (place c : ℕ) (digits rest : List ℕ) → AllPass is_digit (c ∷ digits) → BeginsWithout is_digit rest
    → digits_on false negative 0 place (c ∷ (digits ++ rest)) ≡ ended true negative (digits_value 10 (c ∷ digits))
    (place + suc (length digits))
some_digits negative place c digits rest each stops =
    let digit : is_digit c ≡ true = All-head (λ x. is_digit x ≡ true) c digits each in
    digit_is_read false negative 0 place c (digits ++ rest) digit
    ∙ sym (digit_is_read true negative 0 place c (digits ++ rest) digit)
    ∙ more_digits negative 0 place (c ∷ digits) rest each stops

-- ---- a sign or none

no_minus : (c : ℕ) → is_sign c ≡ false → nat_eq c 45 ≡ false
no_minus c h = grind (arith, nat_tests)

no_plus : (c : ℕ) → is_sign c ≡ false → nat_eq c 43 ≡ false
no_plus c h = grind (arith, nat_tests)

-- the digits begin behind the sign
sign_is_read : (sign : Sign) (place : ℕ) (text : List ℕ) → (sign ≡ Unsigned → BeginsWithout is_sign text)
    → sign_on place (sign_text sign ++ text) ≡ digits_on false (is_negative sign) 0 (place + length (sign_text sign)) text
sign_is_read Unsigned place [] stops = refl
sign_is_read Unsigned place (c ∷ text) stops =
    let same : place + 0 ≡ place = omega arith in
    let plus = λ (b : Bool). if_true b (λ _. digits_on false false 0 (suc place) text) (λ _. digits_on false false 0 place (c ∷ text)) in
    rw same (ap (λ (b : Bool). if_true b (λ _. digits_on false true 0 (suc place) text) (λ _. plus (nat_eq c 43))) (no_minus c (stops refl))
    ∙ ap plus (no_plus c (stops refl)))
sign_is_read Plus place text stops =
    let next : place + 1 ≡ suc place = omega arith in
    rw next refl
sign_is_read Minus place text stops =
    let next : place + 1 ≡ suc place = omega arith in
    rw next refl

-- ---- the whole

-- what these parts make is found
found_of : (input : List ℕ) (from : ℕ) (blanks : List ℕ) (sign : Sign) (digits rest : List ℕ)
    → drop from input ≡ blanks ++ (sign_text sign ++ (digits ++ rest)) → AllPass is_blank blanks
    → BeginsWithout is_blank (sign_text sign ++ (digits ++ rest)) → (sign ≡ Unsigned → BeginsWithout is_sign (digits ++ rest))
    → number_from input from ≡ digits_on false (is_negative sign) 0 (from + length blanks + length (sign_text sign)) (digits ++ rest)
found_of input from blanks sign digits rest whole blank all_blanks unsigned =
    ap (number_on from) whole
    ∙ blanks_passed from blanks (sign_text sign ++ (digits ++ rest)) blank all_blanks
    ∙ sign_is_read sign (from + length blanks) (digits ++ rest) unsigned

parts_found : (input : List ℕ) (from : ℕ) (blanks : List ℕ) (sign : Sign) (digits rest : List ℕ)
    → drop from input ≡ blanks ++ (sign_text sign ++ (digits ++ rest)) → AllPass is_blank blanks
    → BeginsWithout is_blank (sign_text sign ++ (digits ++ rest)) → (sign ≡ Unsigned → BeginsWithout is_sign (digits ++ rest))
    → AllPass is_digit digits → BeginsWithout is_digit rest → IsFound input from (number_from input from)
parts_found input from blanks sign [] rest whole blank all_blanks unsigned digit all_digits = record {
  blanks = blanks;
  sign = sign;
  digits = [];
  rest = rest;
  whole = whole;
  blank = blank;
  all_blanks = all_blanks;
  unsigned = unsigned;
  digit = digit;
  all_digits = all_digits;
  none = λ e. found_of input from blanks sign [] rest whole blank all_blanks unsigned
      ∙ no_digits (is_negative sign) (from + length blanks + length (sign_text sign)) rest all_digits;
  number = λ some fits. absurd (some refl);
  large = λ some fits. absurd (some refl);
}
parts_found input from blanks sign (c ∷ digits) rest whole blank all_blanks unsigned digit all_digits =
    let place = from + length blanks + length (sign_text sign) in
    let value = signed_value (is_negative sign) (digits_value 10 (c ∷ digits)) in
    let found : number_from input from ≡ sized (is_integer value) value (place + suc (length digits)) =
    found_of input from blanks sign (c ∷ digits) rest whole blank all_blanks unsigned
    ∙ some_digits (is_negative sign) place c digits rest digit all_digits in
    record {
      blanks = blanks;
      sign = sign;
      digits = c ∷ digits;
      rest = rest;
      whole = whole;
      blank = blank;
      all_blanks = all_blanks;
      unsigned = unsigned;
      digit = digit;
      all_digits = all_digits;
      none = λ (e : c ∷ digits ≡ []). cc;
      number = λ some fits. found ∙ ap (λ b. sized b value (place + suc (length digits))) fits;
      large = λ some fits. found ∙ ap (λ b. sized b value (place + suc (length digits))) fits;
    }

-- digits behind blanks and a sign that is known
behind_sign : (input : List ℕ) (from : ℕ) (blanks : List ℕ) (sign : Sign) (text : List ℕ)
    → drop from input ≡ blanks ++ (sign_text sign ++ text)
    → AllPass is_blank blanks → BeginsWithout is_blank (sign_text sign ++ text) → (sign ≡ Unsigned → BeginsWithout is_sign text)
    → IsFound input from (number_from input from)
behind_sign input from blanks sign text whole blank all_blanks unsigned =
    let r = run is_digit text in
    parts_found input from blanks sign r.front r.rest
    (whole ∙ ap (λ z. blanks ++ (sign_text sign ++ z)) r.whole)
    blank
    (subst (λ (z : List ℕ). BeginsWithout is_blank (sign_text sign ++ z)) r.whole all_blanks)
    (λ e. subst (BeginsWithout is_sign) r.whole (unsigned e))
    r.each r.stops

is_minus : (c : ℕ) → nat_eq c 45 ≡ true → c ≡ 45
is_minus c h = grind (arith, nat_tests)

is_plus : (c : ℕ) → nat_eq c 43 ≡ true → c ≡ 43
is_plus c h = grind (arith, nat_tests)

is_no_sign : (c : ℕ) → nat_eq c 45 ≡ false → nat_eq c 43 ≡ false → is_sign c ≡ false
is_no_sign c h k = grind (arith, nat_tests)

-- which sign stands behind the blanks
which_sign : (input : List ℕ) (from : ℕ) (blanks : List ℕ) (c : ℕ) (text : List ℕ) (minus plus : Bool) → nat_eq c 45 ≡ minus
    → nat_eq c 43 ≡ plus
    → drop from input ≡ blanks ++ (c ∷ text) → AllPass is_blank blanks → is_blank c ≡ false → IsFound input from (number_from input from)
which_sign input from blanks c text true plus m p whole blank stops =
    behind_sign input from blanks Minus text (whole ∙ ap (λ z. blanks ++ (z ∷ text)) (is_minus c m)) blank refl
    (λ (e : Minus ≡ Unsigned). cc)
which_sign input from blanks c text false true m p whole blank stops =
    behind_sign input from blanks Plus text (whole ∙ ap (λ z. blanks ++ (z ∷ text)) (is_plus c p)) blank refl (λ (e : Plus ≡ Unsigned). cc)
which_sign input from blanks c text false false m p whole blank stops =
    behind_sign input from blanks Unsigned (c ∷ text) whole blank stops (λ _. is_no_sign c m p)

behind_blanks : (input : List ℕ) (from : ℕ) (blanks text : List ℕ) → drop from input ≡ blanks ++ text → AllPass is_blank blanks
    → BeginsWithout is_blank text
    → IsFound input from (number_from input from)
behind_blanks input from blanks [] whole blank stops = behind_sign input from blanks Unsigned [] whole blank tt (λ _. tt)
behind_blanks input from blanks (c ∷ text) whole blank stops =
    which_sign input from blanks c text (nat_eq c 45) (nat_eq c 43) refl refl whole blank stops

pub read_finds : ReadFinds
read_finds input from =
    let r = run is_blank (drop from input) in
    behind_blanks input from r.front r.rest r.whole r.each r.stops
