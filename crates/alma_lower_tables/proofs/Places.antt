-- The place of an entry in a table, and what stands there.
use Rattle.std.proofs.Common.{◌≡◌, ℕ, suc, ◌+◌, ℤ, pos, negsuc, Bool, true, false, not, cond, List, [], ◌∷◌, ◌++◌, length, map, slice_get}
use Rattle.std.proofs.Common.{Some, None, position, refl, sym, ap, ◌∙◌, arith, if◌then◌else◌}
use Rattle.std.specs.Prelude.{◌&&◌, ◌||◌, nat_eq, nat_lt, Result, Ok, Err, IfOk}
use Rattle.std.proofs.Common.{int_eq}
use Rattle.std.specs.Cmp.Lexicographic.{pointwise}
use Rattle.std.specs.List.{position_or_len, list_any}
use Rattle.std.proofs.lemmas.Bool.{and_parts, eqb-true, eq-eqb, eqb-false, ltb-false, ne_eqb}
use Rattle.std.proofs.lemmas.Bool.Decides.{Decides-int_eq}
use Rattle.std.proofs.lemmas.List.{map-append}
use Rattle.std.proofs.lemmas.List.Sums.{prefix_len-le-length}
use Rattle.alma_base.specs.Numbers as alma
use Rattle.alma_base.specs.declared.number.Range.{Range}
use Rattle.alma_lower_templates.specs.Tables.{first_place, count_past, same_range, same_text}
use Rattle.alma_lower_tables.specs.Numbers.{range_of, with_entry}

module _ {K R : Type 0} (f : K → R) (same : R → R → Bool) (a : R) (t : K → Bool) (agrees : (k : K) → t k ≡ same (f k) a) where
  pub place_is : (ks : List K) → position_or_len t ks ≡ first_place same (map f ks) a
  place_is [] = refl
  place_is (k ∷ ks) = by (same (f k) a) (agrees k) (place_is ks)
    where
      by : (b : Bool) → t k ≡ b → position_or_len t ks ≡ first_place same (map f ks) a
          → cond (not (t k)) (1 + position_or_len t ks) 0 ≡ count_past b (first_place same (map f ks) a)
      by true e r = ap (λ x. cond (not x) (1 + position_or_len t ks) 0) e
      by false e r = let more : 1 + position_or_len t ks ≡ suc (first_place same (map f ks) a) = omega (arith, r) in
          ap (λ x. cond (not x) (1 + position_or_len t ks) 0) e ∙ more

  pub some_place : (ks : List K) (i : ℕ) → Some i ≡ position t ks → i ≡ first_place same (map f ks) a
  some_place ks i h = by (nat_lt (position_or_len t ks) (length ks)) h ∙ place_is ks
    where
      by : (b : Bool) → Some i ≡ cond b (Some (position_or_len t ks)) None → i ≡ position_or_len t ks
      by true e = cc
      by false e = absurd (cc)

  pub none_place : (ks : List K) → None ≡ position t ks → length ks ≡ first_place same (map f ks) a
  none_place ks h = by (nat_lt (position_or_len t ks) (length ks)) refl h ∙ place_is ks
    where
      by : (b : Bool) → nat_lt (position_or_len t ks) (length ks) ≡ b → None ≡ cond b (Some (position_or_len t ks)) None
          → length ks ≡ position_or_len t ks
      by true e h = absurd (cc)
      by false e h = omega (arith, prefix_len-le-length (λ x. not (t x)) ks, ltb-false (position_or_len t ks) (length ks) e)

  pub held_there : ((r : R) → same r a ≡ true → r ≡ a) → (ks : List K) → list_any t ks ≡ true
      → slice_get (map f ks) (first_place same (map f ks) a) ≡ Some a
  held_there is [] any = absurd (cc)
  held_there is (k ∷ ks) any = by (same (f k) a) refl (agrees k) any (held_there is ks)
    where
      by : (b : Bool) → same (f k) a ≡ b → t k ≡ same (f k) a → (t k || list_any t ks) ≡ true
          → (list_any t ks ≡ true → slice_get (map f ks) (first_place same (map f ks) a) ≡ Some a)
          → slice_get (map f (k ∷ ks)) (count_past b (first_place same (map f ks) a)) ≡ Some a
      by true e e2 any later = ap Some (is (f k) e)
      by false e e2 any later = later (sym (ap (λ x. x || list_any t ks) (e2 ∙ e)) ∙ any)

  any_is : (ks : List K) → list_any t ks ≡ list_any (λ x. same x a) (map f ks)
  any_is [] = refl
  any_is (k ∷ ks) = ap (λ x. x || list_any t ks) (agrees k) ∙ ap (λ x. same (f k) a || x) (any_is ks)

  -- what an insertion makes of the entries
  pub entered : (ks : List K) (k : K) → f k ≡ a → map f (if list_any t ks then ks else ks ++ k ∷ []) ≡ with_entry same (map f ks) a
  entered ks k e = by (list_any t ks) (list_any (λ x. same x a) (map f ks)) (any_is ks)
    where
      by : (b b2 : Bool) → b ≡ b2 → map f (if b then ks else ks ++ k ∷ []) ≡ (if b2 then map f ks else map f ks ++ a ∷ [])
      by true true is = refl
      by false false is = map-append f ks (k ∷ []) ∙ ap (λ x. map f ks ++ x ∷ []) e
      by true false is = absurd (cc)
      by false true is = absurd (cc)

any_last : {K : Type 0} (t : K → Bool) (ks : List K) (k : K) → t k ≡ true → list_any t (ks ++ k ∷ []) ≡ true
any_last t [] k e = ap (λ x. x || false) e
any_last t (x ∷ ks) k e = by (t x) (any_last t ks k e)
  where
    by : (b : Bool) → list_any t (ks ++ k ∷ []) ≡ true → (b || list_any t (ks ++ k ∷ [])) ≡ true
    by true h = refl
    by false h = h

-- a key that was inserted is among the keys
pub any_inserted : {K : Type 0} (t : K → Bool) (ks : List K) (k : K) → t k ≡ true
    → list_any t (if list_any t ks then ks else ks ++ k ∷ []) ≡ true
any_inserted t ks k e = by (list_any t ks) refl
  where
    by : (b : Bool) → list_any t ks ≡ b → list_any t (if b then ks else ks ++ k ∷ []) ≡ true
    by true is = is
    by false is = any_last t ks k e

-- what an insertion puts behind
abbrev pub inserted : {K : Type 0} → Bool → K → List K
inserted true k = []
inserted false k = k ∷ []

pub inserted_is : {K R : Type 0} (f : K → R) (b : Bool) (ks : List K) (k : K)
    → map f (if b then ks else ks ++ k ∷ []) ≡ map f ks ++ map f (inserted b k)
inserted_is f true ks k = nil (map f ks)
  where
    nil : {A : Type 0} (xs : List A) → xs ≡ xs ++ []
    nil [] = refl
    nil (x ∷ xs) = ap (λ l. x ∷ l) (nil xs)
inserted_is f false ks k = map-append f ks (k ∷ [])

-- ---- ranges

nat_swap : (a b : ℕ) → nat_eq a b ≡ nat_eq b a
nat_swap a b = by (nat_eq a b) refl
  where
    by : (t : Bool) → nat_eq a b ≡ t → t ≡ nat_eq b a
    by true e = sym (eq-eqb b a (sym (eqb-true a b e)))
    by false e = sym (ne_eqb b a (λ is. eqb-false a b e (sym is)))

same_number : (a b : ℤ) → alma.int_eq a b ≡ true → a ≡ b
same_number (pos a) (pos b) e = ap pos (eqb-true a b e)
same_number (negsuc a) (negsuc b) e = ap negsuc (eqb-true a b e)
same_number (pos a) (negsuc b) e = absurd (let bad : false ≡ true = e in cc)
same_number (negsuc a) (pos b) e = absurd (let bad : false ≡ true = e in cc)

itself : (a : ℤ) → alma.int_eq a a ≡ true
itself (pos a) = eq-eqb a a refl
itself (negsuc a) = eq-eqb a a refl

-- two tests that decide the same agree
alike : (s t : Bool) → (s ≡ true → t ≡ true) → (t ≡ true → s ≡ true) → s ≡ t
alike true t there back = sym (there refl)
alike false true there back = back refl
alike false false there back = refl

int_swap : (a b : ℤ) → int_eq a b ≡ alma.int_eq b a
int_swap a b =
    alike (int_eq a b) (alma.int_eq b a)
    (λ e. ap (λ n. alma.int_eq b n) ((Decides-int_eq a b).0 e) ∙ itself b)
    (λ e. (Decides-int_eq a b).1 (sym (same_number b a e)))

pub ends_agree : (range : Range) (low high : ℤ) → low ≡ range.low → high ≡ range.high → (k : ℤ × ℤ)
    → (int_eq low k.0 && int_eq high k.1) ≡ same_range (range_of k) range
ends_agree range low high is is2 k =
    ap (λ x. x && int_eq high k.1) (int_swap low k.0) ∙ ap (λ x. alma.int_eq k.0 low && x) (int_swap high k.1)
    ∙ ap (λ n. alma.int_eq k.0 n && alma.int_eq k.1 high) is ∙ ap (λ n. alma.int_eq k.0 range.low && alma.int_eq k.1 n) is2

pub range_is : (a b : Range) → same_range a b ≡ true → a ≡ b
range_is a b e =
    let z = and_parts (alma.int_eq a.low b.low) (alma.int_eq a.high b.high) e in
    let low : a.low ≡ b.low = same_number a.low b.low z.0 in
    let high : a.high ≡ b.high = same_number a.high b.high z.1 in
    ap (λ n. record { low = n; high = a.high }) low ∙ ap (λ n. record { low = b.low; high = n }) high

pub ends_are : (range : Range) (low high : ℤ) → low ≡ range.low → high ≡ range.high → range_of (low, high) ≡ range
ends_are range low high is is2 = ap (λ n. record { low = n; high = high }) is ∙ ap (λ n. record { low = range.low; high = n }) is2

pub ends_themselves : (low high : ℤ) → (int_eq low low && int_eq high high) ≡ true
ends_themselves low high = ap (λ x. x && int_eq high high) ((Decides-int_eq low low).1 refl) ∙ (Decides-int_eq high high).1 refl

-- ---- texts

pub bytes_agree : (text bytes : List ℕ) → pointwise nat_eq text bytes ≡ same_text bytes text
bytes_agree [] [] = refl
bytes_agree [] (b ∷ bs) = refl
bytes_agree (a ∷ more) [] = refl
bytes_agree (a ∷ more) (b ∷ bs) = ap (λ x. x && pointwise nat_eq more bs) (nat_swap a b) ∙ ap (λ x. nat_eq b a && x) (bytes_agree more bs)

pub text_is : (a b : List ℕ) → same_text a b ≡ true → a ≡ b
text_is [] [] e = refl
text_is [] (b ∷ bs) e = absurd (let bad : false ≡ true = e in cc)
text_is (a ∷ more) [] e = absurd (let bad : false ≡ true = e in cc)
text_is (a ∷ more) (b ∷ bs) e =
    let z = and_parts (nat_eq a b) (same_text more bs) e in
    ap (λ n. n ∷ more) (eqb-true a b z.0) ∙ ap (λ l. b ∷ l) (text_is more bs z.1)

pub bytes_themselves : (text : List ℕ) → pointwise nat_eq text text ≡ true
bytes_themselves [] = refl
bytes_themselves (a ∷ more) = ap (λ x. x && pointwise nat_eq more more) (eq-eqb a a refl) ∙ bytes_themselves more

-- the number of a result, said in another way
pub if_ok_to : {E : Type 0} (r : Result ℕ E) (m n : ℕ) → m ≡ n → IfOk r (λ x. x ≡ m) → IfOk r (λ x. x ≡ n)
if_ok_to (Ok x) m n e h = h ∙ e
if_ok_to (Err y) m n e h = h
