-- Entries that are put behind others, each where none is the same.
use Rattle.std.proofs.Common.{◌≡◌, ℕ, zero, suc, ◌<◌, Bool, true, false, List, [], ◌∷◌, ◌++◌, length, get_or, Some, refl, sym, ap, ◌∙◌}
use Rattle.std.proofs.Common.{subst, arith, append_assoc, if◌then◌else◌}
use Rattle.std.specs.Prelude.{slice_get, ◌||◌}
use Rattle.std.specs.List.{AllByRecursion, Contains, IsDistinct, list_any}
use Rattle.std.proofs.lemmas.List.Elements.{Contains-append_left, Contains-append_right}
use Rattle.std.proofs.lemmas.Map.Keys.{IsDistinct-cons, IsDistinct-head, IsDistinct-tail}
use Rattle.alma_ir.proofs.Each.{each_of_append}
use Rattle.alma_lower_sound.specs.Entries.{of_each}
use Rattle.alma_lower_tables.specs.Numbers.{with_entry}
use Rattle.alma_lower_templates.specs.Tables.{first_place, count_past}
use Rattle.alma_lower_tables.specs.AddsPhrases.{with_entries}

pub entries_row : {R : Type 0} (same : R → R → Bool) (zs xs ys : List R)
    → with_entries same zs (xs ++ ys) ≡ with_entries same (with_entries same zs xs) ys
entries_row same zs [] ys = refl
entries_row same zs (x ∷ xs) ys = entries_row same (with_entry same zs x) xs ys

pub each_row : {A B : Type 0} (f : A → List B) (xs ys : List A) → of_each f (xs ++ ys) ≡ of_each f xs ++ of_each f ys
each_row f [] ys = refl
each_row f (x ∷ xs) ys = ap (λ l. f x ++ l) (each_row f xs ys) ∙ sym (append_assoc (f x) (of_each f xs) (of_each f ys))

-- ---- members

in_more : {A : Type 0} (x : A) (xs : List A) (a : A) → Contains xs a → Contains (x ∷ xs) a
in_more x xs a h = (suc h.0, omega (arith, h.1), h.2)

pub all_in : {A : Type 0} (P : A → Type 0) (xs : List A) → ((a : A) → Contains xs a → P a) → AllByRecursion P xs
all_in P [] h = tt
all_in P (x ∷ xs) h = (h x (0, omega arith, refl), all_in P xs (λ a there. h a (in_more x xs a there)))

at_index : {A : Type 0} (xs : List A) (i : ℕ) (d e : A) → i < length xs → get_or xs i d ≡ get_or xs i e
at_index [] i d e lt = absurd (omega (arith, lt))
at_index (x ∷ xs) zero d e lt = refl
at_index (x ∷ xs) (suc i) d e lt = at_index xs i d e (omega (arith, lt))

pub in_row_at : {A : Type 0} (xs : List A) (i : ℕ) (d : A) → i < length xs → Contains xs (get_or xs i d)
in_row_at xs i d lt = (i, lt, at_index xs i (get_or xs i d) d lt)

in_each_at : {A B : Type 0} (f : A → List B) (b : B) (xs : List A) (k : ℕ) (a : A) → k < length xs → get_or xs k a ≡ a → Contains (f a) b
    → Contains (of_each f xs) b
in_each_at f b [] k a lt e h = absurd (omega (arith, lt))
in_each_at f b (x ∷ xs) zero a lt e h = Contains-append_left (f x) (of_each f xs) b (subst (λ y. Contains (f y) b) (sym e) h)
in_each_at f b (x ∷ xs) (suc k) a lt e h = Contains-append_right (f x) (of_each f xs) b (in_each_at f b xs k a (omega (arith, lt)) e h)

pub in_each : {A B : Type 0} (f : A → List B) (b : B) (xs : List A) (a : A) → Contains xs a → Contains (f a) b → Contains (of_each f xs) b
in_each f b xs a there h = in_each_at f b xs there.0 a there.1 there.2 h

-- what holds of the elements of each list holds of all
pub all_each : {A B : Type 0} (P : B → Type 0) (f : A → List B) (xs : List A) → AllByRecursion (λ x. AllByRecursion P (f x)) xs
    → AllByRecursion P (of_each f xs)
all_each P f [] h = tt
all_each P f (x ∷ xs) h = each_of_append P (f x) (of_each f xs) h.0 (all_each P f xs h.1)

pub all_at : {A : Type 0} (P : A → Type 0) (xs : List A) (a : A) → AllByRecursion P xs → Contains xs a → P a
all_at P xs a h there = at P xs there.0 a h there.1 there.2
  where
    at : {A : Type 0} (P : A → Type 0) (xs : List A) (k : ℕ) (a : A) → AllByRecursion P xs → k < length xs → get_or xs k a ≡ a → P a
    at P [] k a h lt e = absurd (omega (arith, lt))
    at P (x ∷ xs) zero a h lt e = subst P e h.0
    at P (x ∷ xs) (suc k) a h lt e = at P xs k a h.1 (omega (arith, lt)) e

-- ---- entries that are held, among some, and each once

module _ {R : Type 0} (same : R → R → Bool) (is : (a b : R) → same a b ≡ true → a ≡ b) (itself : (a : R) → same a a ≡ true) where
  any_front : (xs ys : List R) (r : R) → list_any (λ x. same x r) xs ≡ true → list_any (λ x. same x r) (xs ++ ys) ≡ true
  any_front [] ys r e = absurd (cc)
  any_front (x ∷ xs) ys r e = by (same x r) (any_front xs ys r) e
    where
      by : (b : Bool) → (list_any (λ y. same y r) xs ≡ true → list_any (λ y. same y r) (xs ++ ys) ≡ true)
          → (b || list_any (λ y. same y r) xs) ≡ true → (b || list_any (λ y. same y r) (xs ++ ys)) ≡ true
      by true later h = refl
      by false later h = later h

  any_last : (xs : List R) (r : R) → list_any (λ x. same x r) (xs ++ r ∷ []) ≡ true
  any_last [] r = ap (λ b. b || false) (itself r)
  any_last (x ∷ xs) r = by (same x r) (any_last xs r)
    where
      by : (b : Bool) → list_any (λ y. same y r) (xs ++ r ∷ []) ≡ true → (b || list_any (λ y. same y r) (xs ++ r ∷ [])) ≡ true
      by true h = refl
      by false h = h

  any_new : (xs : List R) (r : R) → list_any (λ x. same x r) (with_entry same xs r) ≡ true
  any_new xs r = by (list_any (λ x. same x r) xs) refl
    where
      by : (b : Bool) → list_any (λ x. same x r) xs ≡ b → list_any (λ x. same x r) (if b then xs else xs ++ r ∷ []) ≡ true
      by true e = e
      by false e = any_last xs r

  any_kept : (xs : List R) (q r : R) → list_any (λ x. same x r) xs ≡ true → list_any (λ x. same x r) (with_entry same xs q) ≡ true
  any_kept xs q r e = by (list_any (λ x. same x q) xs)
    where
      by : (b : Bool) → list_any (λ x. same x r) (if b then xs else xs ++ q ∷ []) ≡ true
      by true = e
      by false = any_front xs (q ∷ []) r e

  any_stays : (xs qs : List R) (r : R) → list_any (λ x. same x r) xs ≡ true → list_any (λ x. same x r) (with_entries same xs qs) ≡ true
  any_stays xs [] r e = e
  any_stays xs (q ∷ qs) r e = any_stays (with_entry same xs q) qs r (any_kept xs q r e)

  any_of : (xs qs : List R) (k : ℕ) (r : R) → k < length qs → get_or qs k r ≡ r → list_any (λ x. same x r) (with_entries same xs qs) ≡ true
  any_of xs [] k r lt e = absurd (omega (arith, lt))
  any_of xs (q ∷ qs) zero r lt e = any_stays (with_entry same xs q) qs r
      (subst (λ y. list_any (λ x. same x r) (with_entry same xs y) ≡ true) (sym e) (any_new xs r))
  any_of xs (q ∷ qs) (suc k) r lt e = any_of (with_entry same xs q) qs k r (omega (arith, lt)) e

  found : (xs : List R) (r : R) → list_any (λ x. same x r) xs ≡ true → slice_get xs (first_place same xs r) ≡ Some r
  found [] r e = absurd (cc)
  found (x ∷ xs) r e = by (same x r) refl e (found xs r)
    where
      by : (b : Bool) → same x r ≡ b → (b || list_any (λ y. same y r) xs) ≡ true
          → (list_any (λ y. same y r) xs ≡ true → slice_get xs (first_place same xs r) ≡ Some r)
          → slice_get (x ∷ xs) (count_past b (first_place same xs r)) ≡ Some r
      by true e2 h later = ap Some (is x r e2)
      by false e2 h later = later h

  -- each of the new entries stands at its first place
  pub held : (xs qs : List R) (r : R) → Contains qs r
      → slice_get (with_entries same xs qs) (first_place same (with_entries same xs qs) r) ≡ Some r
  held xs qs r h = found (with_entries same xs qs) r (any_of xs qs h.0 r h.1 h.2)

  -- all are among these, where the old and the new ones are
  pub among : (all xs qs : List R) → AllByRecursion (λ x. Contains all x) xs → AllByRecursion (λ x. Contains all x) qs
      → AllByRecursion (λ x. Contains all x) (with_entries same xs qs)
  among all xs [] h j = h
  among all xs (q ∷ qs) h j = among all (with_entry same xs q) qs (by (list_any (λ x. same x q) xs)) j.1
    where
      by : (b : Bool) → AllByRecursion (λ x. Contains all x) (if b then xs else xs ++ q ∷ [])
      by true = h
      by false = each_of_append (λ x. Contains all x) xs (q ∷ []) h (j.0, tt)

  none_last : (x q : R) (xs : List R) → AllByRecursion (λ y. same x y ≡ false) xs → same x q ≡ false
      → AllByRecursion (λ y. same x y ≡ false) (xs ++ q ∷ [])
  none_last x q xs h e = each_of_append (λ y. same x y ≡ false) xs (q ∷ []) h (e, tt)

  distinct_last : (xs : List R) (q : R) → IsDistinct same xs → list_any (λ x. same x q) xs ≡ false → IsDistinct same (xs ++ q ∷ [])
  unfolding IsDistinct
  distinct_last [] q h e = (tt, tt)
  distinct_last (x ∷ xs) q h e = by (same x q) refl e (distinct_last xs q (IsDistinct-tail same x xs h))
    where
      by : (b : Bool) → same x q ≡ b → (b || list_any (λ y. same y q) xs) ≡ false
          → (list_any (λ y. same y q) xs ≡ false → IsDistinct same (xs ++ q ∷ [])) → IsDistinct same (x ∷ (xs ++ q ∷ []))
      by true e2 rest later = absurd (let bad : true ≡ false = rest in cc)
      by false e2 rest later = IsDistinct-cons same x (xs ++ q ∷ []) (none_last x q xs (IsDistinct-head same x xs h) e2) (later rest)

  -- no two are alike
  pub distinct : (xs qs : List R) → IsDistinct same xs → IsDistinct same (with_entries same xs qs)
  distinct xs [] h = h
  distinct xs (q ∷ qs) h = distinct (with_entry same xs q) qs (by (list_any (λ x. same x q) xs) refl)
    where
      by : (b : Bool) → list_any (λ x. same x q) xs ≡ b → IsDistinct same (if b then xs else xs ++ q ∷ [])
      by true e = h
      by false e = distinct_last xs q h e

pub none_distinct : {R : Type 0} (same : R → R → Bool) → IsDistinct same []
unfolding IsDistinct
none_distinct same = tt
