-- The routines of modules that stay: each is found at one place, and has one number.
use Rattle.std.proofs.Common.{◌≡◌, ◌⊎◌, inl, inr, ℕ, zero, suc, ◌+◌, ◌<◌, ◌≤◌, Bool, true, false, List, [], ◌∷◌, ◌++◌, length, get_or, drop}
use Rattle.std.proofs.Common.{map, refl, sym, ap, ◌∙◌, subst, arith}
use Rattle.std.specs.Prelude.{nat_eq, ◌&&◌}
use Rattle.std.specs.List.{AllByRecursion}
use Rattle.std.proofs.lemmas.Bool.{eq-eqb, ne_eqb, and_from, and_left, and_right, true≢false}
use Rattle.alma_base.specs.Choice.{if_true}
use Rattle.alma_ir.specs.Tree.{Program, Routine, routine_at, no_routine}
use Rattle.alma_ir.proofs.Each.{each_of_append, each_follows}
use Rattle.alma_copy.specs.Moved.{moved_routine}
use Rattle.alma_join.specs.Joined.{Kept, is_bare, kept_from, kept_of, kept_in, number_of_kept, own_slots, procedure_moves}
use Rattle.alma_join.specs.Joined.{joined_procedures, no_program}

-- a fact of both outcomes of a test is one of the choice
pub by_test : {A : Type 0} (P : A → Type 0) (b : Bool) (x y : Unit {0} → A) → (b ≡ true → P (x tt)) → (b ≡ false → P (y tt))
    → P (if_true b x y)
by_test P true x y f g = f refl
by_test P false x y f g = g refl

-- the fact of one element of a list
pub each_at : {A : Type 0} (P : A → Type 0) (xs : List A) (d : A) → AllByRecursion P xs → (i : ℕ) → i < length xs → P (get_or xs i d)
each_at P [] d h i lt = absurd (omega (arith, lt))
each_at P (x ∷ xs) d h zero lt = h.0
each_at P (x ∷ xs) d h (suc i) lt = each_at P xs d h.1 i (omega (arith, lt))

abbrev pub no_kept : Kept
no_kept = record { unit = 0; number = 0; routine = no_routine }

-- the module at this place, from 0, and the slots of those before it
abbrev pub unit_at : List Program → ℕ → Program
unit_at units i = get_or units i no_program

abbrev pub before_at : List Program → ℕ → ℕ
before_at [] i = 0
before_at (p ∷ ps) zero = 0
before_at (p ∷ ps) (suc i) = own_slots p + before_at ps i

-- behind the first routine
pub behind_first : (rs : List Routine) (j : ℕ) → get_or (drop 1 rs) j no_routine ≡ get_or rs (suc j) no_routine
behind_first [] j = refl
behind_first (x ∷ rs) j = refl

pub fewer_behind : (rs : List Routine) (j : ℕ) → suc j < length rs → j < length (drop 1 rs)
fewer_behind [] j lt = absurd (omega (arith, lt))
fewer_behind (x ∷ rs) j lt = omega (arith, lt)

pub more_before : (rs : List Routine) (j : ℕ) → j < length (drop 1 rs) → suc j < length rs
more_before [] j lt = absurd (omega (arith, lt))
more_before (x ∷ rs) j lt = omega (arith, lt)

-- ---- in order

-- one stands before the other in its module, or in a module before
abbrev Before : Kept → Kept → Type 0
Before k o = (k.unit < o.unit) ⊎ ((k.unit ≡ o.unit) × (k.number < o.number))

abbrev pub Ascend : List Kept → Type 0
Ascend [] = Unit {0}
Ascend (k ∷ ks) = AllByRecursion (Before k) ks × Ascend ks

abbrev IsFrom : (unit r : ℕ) → Kept → Type 0
IsFrom unit r k = (k.unit ≡ unit) × (r ≤ k.number)

low_from : (unit : ℕ) (p : Program) (r : ℕ) (xs : List Routine) → AllByRecursion (IsFrom unit r) (kept_from unit p r xs)
low_from unit p r [] = tt
low_from unit p r (x ∷ xs) =
    let rest : AllByRecursion (IsFrom unit r) (kept_from unit p (suc r) xs) =
    each_follows (IsFrom unit (suc r)) (IsFrom unit r) (λ k h. (h.0, omega (arith, h.1))) (kept_from unit p (suc r) xs)
    (low_from unit p (suc r) xs) in
    by_test (AllByRecursion (IsFrom unit r)) (is_bare p r x) (λ _. kept_from unit p (suc r) xs)
    (λ _. record { unit = unit; number = r; routine = x } ∷ kept_from unit p (suc r) xs) (λ e. rest)
    (λ e. ((refl, omega arith), rest))

ascend_from : (unit : ℕ) (p : Program) (r : ℕ) (xs : List Routine) → Ascend (kept_from unit p r xs)
ascend_from unit p r [] = tt
ascend_from unit p r (x ∷ xs) =
    by_test Ascend (is_bare p r x) (λ _. kept_from unit p (suc r) xs)
    (λ _. record { unit = unit; number = r; routine = x } ∷ kept_from unit p (suc r) xs) (λ e. ascend_from unit p (suc r) xs)
    (λ e. (
      each_follows (IsFrom unit (suc r)) (Before (record { unit = unit; number = r; routine = x })) (λ k h. inr (sym h.0, h.1))
          (kept_from unit p (suc r) xs) (low_from unit p (suc r) xs),
      ascend_from unit p (suc r) xs,
    ))

ascend_two : (xs ys : List Kept) → Ascend xs → Ascend ys → AllByRecursion (λ x. AllByRecursion (Before x) ys) xs → Ascend (xs ++ ys)
ascend_two [] ys a b c = b
ascend_two (x ∷ xs) ys a b c = (each_of_append (Before x) xs ys a.0 c.0, ascend_two xs ys a.1 b c.1)

units_in : (unit : ℕ) (ps : List Program) → AllByRecursion (λ k. unit ≤ k.unit) (kept_in unit ps)
units_in unit [] = tt
units_in unit (p ∷ ps) =
    each_of_append (λ k. unit ≤ k.unit) (kept_of unit p) (kept_in (suc unit) ps)
    (each_follows (IsFrom unit 1) (λ k. unit ≤ k.unit) (λ k h. omega (arith, h.0)) (kept_of unit p) (low_from unit p 1 (drop 1 p.routines)))
    (each_follows (λ k. suc unit ≤ k.unit) (λ k. unit ≤ k.unit) (λ k h. omega (arith, h)) (kept_in (suc unit) ps) (units_in (suc unit) ps))

pub ascend_in : (unit : ℕ) (ps : List Program) → Ascend (kept_in unit ps)
ascend_in unit [] = tt
ascend_in unit (p ∷ ps) =
    ascend_two (kept_of unit p) (kept_in (suc unit) ps) (ascend_from unit p 1 (drop 1 p.routines)) (ascend_in (suc unit) ps)
    (each_follows (IsFrom unit 1) (λ k. AllByRecursion (Before k) (kept_in (suc unit) ps))
    (λ k h. each_follows (λ o. suc unit ≤ o.unit) (Before k) (λ o g. inl (omega (arith, h.0, g))) (kept_in (suc unit) ps)
    (units_in (suc unit) ps)) (kept_of unit p) (low_from unit p 1 (drop 1 p.routines)))

-- so each is the first with its module and number
pub number_is : (ks : List Kept) (at n : ℕ) → Ascend ks → n < length ks
    → number_of_kept ks at (get_or ks n no_kept).unit (get_or ks n no_kept).number ≡ at + n
number_is [] at n a lt = absurd (omega (arith, lt))
number_is (k ∷ ks) at zero a lt =
    ap (λ b. if_true b (λ _. at) (λ _. number_of_kept ks (suc at) k.unit k.number))
    (and_from _ _ (eq-eqb k.unit k.unit refl) (eq-eqb k.number k.number refl)) ∙ omega arith
number_is (k ∷ ks) at (suc n) a lt =
    let o : Kept = get_or ks n no_kept in
    let differ : (nat_eq k.unit o.unit && nat_eq k.number o.number) ≡ false = elim
    (each_at (Before k) ks no_kept a.0 n (omega (arith, lt))) [
      | inl u ↦ and_left _ _ (ne_eqb k.unit o.unit (λ e. absurd (omega (arith, e, u))))
      | inr s ↦ and_right _ _ (ne_eqb k.number o.number (λ e. absurd (omega (arith, e, s.1))))
    ] in
    ap (λ b. if_true b (λ _. at) (λ _. number_of_kept ks (suc at) o.unit o.number)) differ ∙ number_is ks (suc at) n a.1 (omega (arith, lt))
    ∙ omega arith

-- ---- where one is found

-- one of them has this module and number
abbrev pub Has : List Kept → (unit r : ℕ) → Type 0
Has [] unit r = ⊥
Has (k ∷ ks) unit r = ((k.unit ≡ unit) × (k.number ≡ r)) ⊎ Has ks unit r

has_front : (xs ys : List Kept) (unit r : ℕ) → Has xs unit r → Has (xs ++ ys) unit r
has_front [] ys unit r h = absurd h
has_front (x ∷ xs) ys unit r (inl h) = inl h
has_front (x ∷ xs) ys unit r (inr h) = inr (has_front xs ys unit r h)

has_back : (xs ys : List Kept) (unit r : ℕ) → Has ys unit r → Has (xs ++ ys) unit r
has_back [] ys unit r h = h
has_back (x ∷ xs) ys unit r h = inr (has_back xs ys unit r h)

-- the place of one with this module and number
pub record Found (ks : List Kept) (unit r : ℕ) : Type 0 where
  pub place : ℕ
  pub exists : place < length ks
  pub of_unit : (get_or ks place no_kept).unit ≡ unit
  pub of_number : (get_or ks place no_kept).number ≡ r

pub found : (ks : List Kept) (unit r : ℕ) → Has ks unit r → Found ks unit r
found [] unit r h = absurd h
found (k ∷ ks) unit r (inl h) = record { place = 0; exists = omega arith; of_unit = h.0; of_number = h.1 }
found (k ∷ ks) unit r (inr h) = let f = found ks unit r h in record {
  place = suc f.place;
  exists = omega (arith, f.exists);
  of_unit = f.of_unit;
  of_number = f.of_number;
}

has_from : (unit : ℕ) (p : Program) (r : ℕ) (xs : List Routine) (j n : ℕ) → n ≡ r + j → j < length xs
    → is_bare p n (get_or xs j no_routine) ≡ false → Has (kept_from unit p r xs) unit n
has_from unit p r [] j n e lt stays = absurd (omega (arith, lt))
has_from unit p r (x ∷ xs) zero n e lt stays =
    let same : n ≡ r = omega (arith, e) in
    by_test (λ ks. Has ks unit n) (is_bare p r x) (λ _. kept_from unit p (suc r) xs)
    (λ _. record { unit = unit; number = r; routine = x } ∷ kept_from unit p (suc r) xs)
    (λ t. absurd (true≢false (sym t ∙ subst (λ k. is_bare p k x ≡ false) same stays))) (λ t. inl (refl, sym same))
has_from unit p r (x ∷ xs) (suc j) n e lt stays =
    let rest : Has (kept_from unit p (suc r) xs) unit n = has_from unit p (suc r) xs j n (omega (arith, e)) (omega (arith, lt)) stays in
    by_test (λ ks. Has ks unit n) (is_bare p r x) (λ _. kept_from unit p (suc r) xs)
    (λ _. record { unit = unit; number = r; routine = x } ∷ kept_from unit p (suc r) xs) (λ t. rest) (λ t. inr rest)

has_of : (unit : ℕ) (p : Program) (n : ℕ) → 0 < n → n < length p.routines → is_bare p n (routine_at p n) ≡ false
    → Has (kept_of unit p) unit n
has_of unit p zero low high stays = absurd (omega (arith, low))
has_of unit p (suc j) low high stays =
    has_from unit p 1 (drop 1 p.routines) j (suc j) (omega arith) (fewer_behind p.routines j high)
    (subst (λ x. is_bare p (suc j) x ≡ false) (sym (behind_first p.routines j)) stays)

pub has_in : (unit : ℕ) (ps : List Program) (i n v : ℕ) → v ≡ unit + i → i < length ps → 0 < n → n < length (unit_at ps i).routines
    → is_bare (unit_at ps i) n (routine_at (unit_at ps i) n) ≡ false → Has (kept_in unit ps) v n
has_in unit [] i n v e lt low high stays = absurd (omega (arith, lt))
has_in unit (p ∷ ps) zero n v e lt low high stays =
    let same : unit ≡ v = omega (arith, e) in has_front (kept_of unit p) (kept_in (suc unit) ps) v n
    (subst (λ u. Has (kept_of unit p) u n) same (has_of unit p n low high stays))
has_in unit (p ∷ ps) (suc i) n v e lt low high stays = has_back (kept_of unit p) (kept_in (suc unit) ps) v n
    (has_in (suc unit) ps i n v (omega (arith, e)) (omega (arith, lt)) low high stays)

-- ---- the procedures beside them

-- a fact of each and of its procedure
abbrev pub Pairs : (Kept → Routine → Type 0) → List Kept → List Routine → Type 0
Pairs F [] [] = Unit {0}
Pairs F [] (x ∷ xs) = ⊥
Pairs F (k ∷ ks) [] = ⊥
Pairs F (k ∷ ks) (x ∷ xs) = F k x × Pairs F ks xs

pairs_two : (F : Kept → Routine → Type 0) (ks : List Kept) (xs : List Routine) (ls : List Kept) (ys : List Routine) → Pairs F ks xs
    → Pairs F ls ys → Pairs F (ks ++ ls) (xs ++ ys)
pairs_two F [] [] ls ys a b = b
pairs_two F [] (x ∷ xs) ls ys a b = absurd a
pairs_two F (k ∷ ks) [] ls ys a b = absurd a
pairs_two F (k ∷ ks) (x ∷ xs) ls ys a b = (a.0, pairs_two F ks xs ls ys a.1 b)

pairs_follow : (F G : Kept → Routine → Type 0) → ((k : Kept) (x : Routine) → F k x → G k x) → (ks : List Kept) (xs : List Routine)
    → Pairs F ks xs → Pairs G ks xs
pairs_follow F G f [] [] a = tt
pairs_follow F G f [] (x ∷ xs) a = absurd a
pairs_follow F G f (k ∷ ks) [] a = absurd a
pairs_follow F G f (k ∷ ks) (x ∷ xs) a = (f k x a.0, pairs_follow F G f ks xs a.1)

pub pairs_at : (F : Kept → Routine → Type 0) (ks : List Kept) (xs : List Routine) → Pairs F ks xs → (n : ℕ) → n < length ks
    → F (get_or ks n no_kept) (get_or xs n no_routine)
pairs_at F [] [] a n lt = absurd (omega (arith, lt))
pairs_at F [] (x ∷ xs) a n lt = absurd a
pairs_at F (k ∷ ks) [] a n lt = absurd a
pairs_at F (k ∷ ks) (x ∷ xs) a zero lt = a.0
pairs_at F (k ∷ ks) (x ∷ xs) a (suc n) lt = pairs_at F ks xs a.1 n (omega (arith, lt))

pub pairs_length : (F : Kept → Routine → Type 0) (ks : List Kept) (xs : List Routine) → Pairs F ks xs → length ks ≡ length xs
pairs_length F [] [] a = refl
pairs_length F [] (x ∷ xs) a = absurd a
pairs_length F (k ∷ ks) [] a = absurd a
pairs_length F (k ∷ ks) (x ∷ xs) a = ap suc (pairs_length F ks xs a.1)

-- what a routine that stays is, and what its procedure
pub record IsMoved (all : List Kept) (ps : List Program) (unit before : ℕ) (k : Kept) (x : Routine) : Type 0 where
  pub index : ℕ
  pub exists : index < length ps
  pub of_unit : k.unit ≡ unit + index
  pub low : 0 < k.number
  pub high : k.number < length (unit_at ps index).routines
  pub is_routine : k.routine ≡ routine_at (unit_at ps index) k.number
  pub stays : is_bare (unit_at ps index) k.number k.routine ≡ false
  pub slots : ℕ
  pub slots_are : slots ≡ before + before_at ps index
  pub moved : x ≡ moved_routine (procedure_moves all k.unit (unit_at ps index) slots) k.routine

pairs_from : (F : Kept → Routine → Type 0) (f : Kept → Routine) (unit : ℕ) (p : Program) (r : ℕ) (xs : List Routine)
    → ((j n : ℕ) → n ≡ r + j → j < length xs → is_bare p n (get_or xs j no_routine) ≡ false
    → F (record { unit = unit; number = n; routine = get_or xs j no_routine })
    (f (record { unit = unit; number = n; routine = get_or xs j no_routine })))
    → Pairs F (kept_from unit p r xs) (map f (kept_from unit p r xs))
pairs_from F f unit p r [] h = tt
pairs_from F f unit p r (x ∷ xs) h =
    let rest : Pairs F (kept_from unit p (suc r) xs) (map f (kept_from unit p (suc r) xs)) = pairs_from F f unit p (suc r) xs
    (λ j n e lt stays. h (suc j) n (omega (arith, e)) (omega (arith, lt)) stays) in
    by_test (λ ks. Pairs F ks (map f ks)) (is_bare p r x) (λ _. kept_from unit p (suc r) xs)
    (λ _. record { unit = unit; number = r; routine = x } ∷ kept_from unit p (suc r) xs) (λ t. rest)
    (λ t. (h 0 r (omega arith) (omega arith) t, rest))

pub pairs_in : (all : List Kept) (ps : List Program) (unit before : ℕ)
    → Pairs (IsMoved all ps unit before) (kept_in unit ps) (joined_procedures all unit before ps)
pairs_in all [] unit before = tt
pairs_in all (p ∷ ps) unit before =
    pairs_two (IsMoved all (p ∷ ps) unit before) (kept_of unit p)
    (map (λ k. moved_routine (procedure_moves all unit p before) k.routine) (kept_of unit p)) (kept_in (suc unit) ps)
    (joined_procedures all (suc unit) (before + own_slots p) ps)
    (pairs_from (IsMoved all (p ∷ ps) unit before) (λ k. moved_routine (procedure_moves all unit p before) k.routine) unit p 1
    (drop 1 p.routines) first)
    (pairs_follow (IsMoved all ps (suc unit) (before + own_slots p)) (IsMoved all (p ∷ ps) unit before) later (kept_in (suc unit) ps)
    (joined_procedures all (suc unit) (before + own_slots p) ps) (pairs_in all ps (suc unit) (before + own_slots p)))
  where
    first : (j n : ℕ) → n ≡ 1 + j → j < length (drop 1 p.routines) → is_bare p n (get_or (drop 1 p.routines) j no_routine) ≡ false
        → IsMoved all (p ∷ ps) unit before (record { unit = unit; number = n; routine = get_or (drop 1 p.routines) j no_routine })
        (moved_routine (procedure_moves all unit p before) (get_or (drop 1 p.routines) j no_routine))
    first j n e lt stays = let next : suc j ≡ n = omega (arith, e) in record {
      index = 0;
      exists = omega arith;
      of_unit = omega arith;
      low = omega (arith, e);
      high = omega (arith, e, more_before p.routines j lt);
      is_routine = behind_first p.routines j ∙ ap (λ k. get_or p.routines k no_routine) next;
      stays = stays;
      slots = before;
      slots_are = omega arith;
      moved = refl;
    }

    later : (k : Kept) (x : Routine) → IsMoved all ps (suc unit) (before + own_slots p) k x → IsMoved all (p ∷ ps) unit before k x
    later k x h = record {
      index = suc h.index;
      exists = omega (arith, h.exists);
      of_unit = omega (arith, h.of_unit);
      low = h.low;
      high = h.high;
      is_routine = h.is_routine;
      stays = h.stays;
      slots = h.slots;
      slots_are = omega (arith, h.slots_are);
      moved = h.moved;
    }
