-- The routines of a module that stay, one after another, and their new numbers.
use Rattle.std.proofs.Common.{◌≡◌, ℕ, zero, suc, ◌+◌, ◌<◌, ◌≤◌, Bool, true, false, List, [], ◌∷◌, ◌++◌, length, get_or, drop, refl, sym, ap}
use Rattle.std.proofs.Common.{◌∙◌, arith, add-one}
use Rattle.std.specs.Prelude.{nat_eq, ◌&&◌}
use Rattle.std.specs.List.{AllByRecursion}
use Rattle.std.proofs.lemmas.Bool.{eq-eqb}
use Rattle.std.proofs.lemmas.Bool.Decides.{nat_tests}
use Rattle.std.proofs.lemmas.List.{append-nil, append_assoc}
use Rattle.alma_base.specs.Choice.{if_true}
use Rattle.alma_ir.specs.Tree.{Routine, Program, routine_at, no_routine}
use Rattle.alma_join.specs.Joined.{Kept, is_bare, kept_from, kept_of, kept_in, matches, first_match, number_of_kept, new_number}
use Rattle.alma_ir.proofs.Each.{each_of_append}
use Rattle.alma_join.proofs.Rows.{rest_from, rest_none}

-- ---- those that stay

pub kept_if : (unit : ℕ) (p : Program) (r : ℕ) (x : Routine) (xs : List Routine) (b : Bool) → is_bare p r x ≡ b
    → kept_from unit p r (x ∷ xs) ≡ if_true b (λ _. kept_from unit p (suc r) xs)
    (λ _. record { unit = unit; number = r; routine = x } ∷ kept_from unit p (suc r) xs)
kept_if unit p r x xs b e = ap (λ t. if_true t (λ _. kept_from unit p (suc r) xs)
    (λ _. record { unit = unit; number = r; routine = x } ∷ kept_from unit p (suc r) xs)) e

-- a routine of this unit before the one of this number
abbrev pub IsBelow : (unit r : ℕ) → Kept → Type 0
IsBelow unit r k = (k.unit ≡ unit) × (k.number < r)

below_more : (unit r : ℕ) (ks : List Kept) → AllByRecursion (IsBelow unit r) ks → AllByRecursion (IsBelow unit (r + 1)) ks
below_more unit r [] h = tt
below_more unit r (k ∷ ks) h = ((h.0.0, omega (arith, h.0.1)), below_more unit r ks h.1)

-- `front` are those that stay before routine r
pub record Passed (unit : ℕ) (p : Program) (r : ℕ) (front : List Kept) : Type 0 where
  pub rest : front ++ kept_from unit p r (drop r p.routines) ≡ kept_of unit p
  pub below : AllByRecursion (IsBelow unit r) front

pub passed_none : (unit : ℕ) (p : Program) → Passed unit p 1 []
passed_none unit p = record { rest = refl; below = tt }

module _ (unit : ℕ) (p : Program) (r : ℕ) (front : List Kept) (within : r < length p.routines) (h : Passed unit p r front) where
  abbrev here : Routine
  here = routine_at p r

  pub rest_here : drop r p.routines ≡ here ∷ drop (r + 1) p.routines
  rest_here = rest_from p.routines r here within (at_any p.routines r within)
    where
      at_any : (xs : List Routine) (i : ℕ) → i < length xs → get_or xs i no_routine ≡ get_or xs i (get_or xs i no_routine)
      at_any [] i lt = absurd (omega (arith, lt))
      at_any (x ∷ xs) zero lt = refl
      at_any (x ∷ xs) (suc i) lt = at_any xs i (omega (arith, lt))

  abbrev next : List Kept
  next = kept_from unit p (r + 1) (drop (r + 1) p.routines)

  at_here : (b : Bool) → is_bare p r here ≡ b → kept_from unit p r (drop r p.routines)
      ≡ if_true b (λ _. next) (λ _. record { unit = unit; number = r; routine = here } ∷ next)
  at_here b e =
      ap (kept_from unit p r) rest_here ∙ kept_if unit p r here (drop (r + 1) p.routines) b e
      ∙ ap (λ n. if_true b (λ _. kept_from unit p n (drop (r + 1) p.routines))
      (λ _. record { unit = unit; number = r; routine = here } ∷ kept_from unit p n (drop (r + 1) p.routines))) (sym (add-one r))

  pub passed_bare : is_bare p r here ≡ true → Passed unit p (r + 1) front
  passed_bare e = record { rest = ap (λ l. front ++ l) (sym (at_here true e)) ∙ h.rest; below = below_more unit r front h.below }

  pub passed_kept : is_bare p r here ≡ false → Passed unit p (r + 1) (front ++ record { unit = unit; number = r; routine = here } ∷ [])
  passed_kept e = record {
    rest = append_assoc front (record { unit = unit; number = r; routine = here } ∷ []) next
        ∙ ap (λ l. front ++ l) (sym (at_here false e)) ∙ h.rest;
    below = each_of_append (IsBelow unit (r + 1)) front _ (below_more unit r front h.below) ((refl, omega arith), tt);
  }

  -- the list from here
  pub here_is : is_bare p r here ≡ false → kept_of unit p ≡ front ++ record { unit = unit; number = r; routine = here } ∷ next
  here_is e = sym h.rest ∙ ap (λ l. front ++ l) (at_here false e)

pub passed_all : (unit : ℕ) (p : Program) (r : ℕ) (front : List Kept) → length p.routines ≤ r → Passed unit p r front
    → front ≡ kept_of unit p
passed_all unit p r front past h = sym (append-nil front) ∙ ap (λ l. front ++ kept_from unit p r l) (sym (rest_none p.routines r past))
    ∙ h.rest

-- ---- those of several modules

pub kept_append : (unit : ℕ) (ps : List Program) (p : Program)
    → kept_in unit (ps ++ p ∷ []) ≡ kept_in unit ps ++ kept_of (unit + length ps) p
kept_append unit [] p = let e : unit ≡ unit + 0 = omega arith in append-nil _ ∙ ap (λ n. kept_of n p) e
kept_append unit (q ∷ ps) p =
    let e : suc unit + length ps ≡ unit + length (q ∷ ps) = omega arith in
    ap (λ l. kept_of unit q ++ l) (kept_append (suc unit) ps p ∙ ap (λ n. kept_in (suc unit) ps ++ kept_of n p) e)
    ∙ sym (append_assoc (kept_of unit q) (kept_in (suc unit) ps) _)

pub kept_split : (unit : ℕ) (ps qs : List Program) → kept_in unit (ps ++ qs) ≡ kept_in unit ps ++ kept_in (unit + length ps) qs
kept_split unit [] qs = let e : unit ≡ unit + 0 = omega arith in ap (λ n. kept_in n qs) e
kept_split unit (q ∷ ps) qs =
    let e : suc unit + length ps ≡ unit + length (q ∷ ps) = omega arith in
    ap (λ l. kept_of unit q ++ l) (kept_split (suc unit) ps qs ∙ ap (λ n. kept_in (suc unit) ps ++ kept_in n qs) e)
    ∙ sym (append_assoc (kept_of unit q) (kept_in (suc unit) ps) _)

of_unit : (unit : ℕ) (p : Program) (r : ℕ) (xs : List Routine) → AllByRecursion (λ k. k.unit ≡ unit) (kept_from unit p r xs)
of_unit unit p r [] = tt
of_unit unit p r (x ∷ xs) = by _ _ (is_bare p r x) refl (of_unit unit p (suc r) xs)
  where
    by : (ks : List Kept) (k : Kept) (b : Bool) → k.unit ≡ unit → AllByRecursion (λ k. k.unit ≡ unit) ks
        → AllByRecursion (λ k. k.unit ≡ unit) (if_true b (λ _. ks) (λ _. k ∷ ks))
    by ks k true e h = h
    by ks k false e h = (e, h)

pub each_to : (P Q : Kept → Type 0) (ks : List Kept) → ((k : Kept) → P k → Q k) → AllByRecursion P ks → AllByRecursion Q ks
each_to P Q [] f h = tt
each_to P Q (k ∷ ks) f h = (f k h.0, each_to P Q ks f h.1)

-- all of them stand at this unit or behind it
pub units_from : (unit : ℕ) (ps : List Program) → AllByRecursion (λ k. unit ≤ k.unit) (kept_in unit ps)
units_from unit [] = tt
units_from unit (p ∷ ps) =
    each_of_append (λ k. unit ≤ k.unit) (kept_of unit p) (kept_in (suc unit) ps)
    (each_to _ _ (kept_of unit p) (λ k e. omega (arith, e)) (of_unit unit p 1 (drop 1 p.routines)))
    (each_to _ _ (kept_in (suc unit) ps) (λ k le. omega (arith, le)) (units_from (suc unit) ps))

-- and before the unit behind the last
pub units_below : (unit : ℕ) (ps : List Program) → AllByRecursion (λ k. k.unit < unit + length ps) (kept_in unit ps)
units_below unit [] = tt
units_below unit (p ∷ ps) =
    each_of_append (λ k. k.unit < unit + length (p ∷ ps)) (kept_of unit p) (kept_in (suc unit) ps)
    (each_to _ _ (kept_of unit p) (λ k e. omega (arith, e)) (of_unit unit p 1 (drop 1 p.routines)))
    (each_to _ _ (kept_in (suc unit) ps) (λ k lt. omega (arith, lt)) (units_below (suc unit) ps))

-- ---- new numbers

-- the routine of this number and unit is another
abbrev pub Differs : (unit r : ℕ) → Kept → Type 0
Differs unit r k = (nat_eq k.unit unit && nat_eq k.number r) ≡ false

pub differs_by_unit : (unit r : ℕ) (k : Kept) → (k.unit ≡ unit → ⊥) → Differs unit r k
differs_by_unit unit r k ne = let no : nat_eq k.unit unit ≡ false = grind (arith, nat_tests, ne) in ap (λ b. b && nat_eq k.number r) no

pub differs_by_number : (unit r : ℕ) (k : Kept) → (k.number ≡ r → ⊥) → Differs unit r k
differs_by_number unit r k ne = let no : nat_eq k.number r ≡ false = grind (arith, nat_tests, ne) in ap (λ b. nat_eq k.unit unit && b) no
    ∙ and_false (nat_eq k.unit unit)
  where
    and_false : (b : Bool) → (b && false) ≡ false
    and_false true = refl
    and_false false = refl

number_behind : (xs ys : List Kept) (at unit r : ℕ) → AllByRecursion (Differs unit r) xs
    → number_of_kept (xs ++ ys) at unit r ≡ number_of_kept ys (at + length xs) unit r
number_behind [] ys at unit r h = let e : at ≡ at + 0 = omega arith in ap (λ n. number_of_kept ys n unit r) e
number_behind (k ∷ xs) ys at unit r h =
    let e : suc at + length xs ≡ at + length (k ∷ xs) = omega arith in
    ap (λ b. if_true b (λ _. at) (λ _. number_of_kept (xs ++ ys) (suc at) unit r)) h.0 ∙ number_behind xs ys (suc at) unit r h.1
    ∙ ap (λ n. number_of_kept ys n unit r) e

pub number_there : (xs ys : List Kept) (k : Kept) (unit r : ℕ) → AllByRecursion (Differs unit r) xs → k.unit ≡ unit → k.number ≡ r
    → number_of_kept (xs ++ k ∷ ys) 1 unit r ≡ 1 + length xs
number_there xs ys k unit r h u n =
    number_behind xs (k ∷ ys) 1 unit r h
    ∙ ap (λ b. if_true b (λ _. 1 + length xs) (λ _. number_of_kept ys (suc (1 + length xs)) unit r))
    (λ i. eq-eqb k.unit unit u i && eq-eqb k.number r n i)

pub number_none : (xs : List Kept) (at unit r : ℕ) → AllByRecursion (Differs unit r) xs → number_of_kept xs at unit r ≡ r
number_none [] at unit r h = refl
number_none (k ∷ xs) at unit r h = ap (λ b. if_true b (λ _. at) (λ _. number_of_kept xs (suc at) unit r)) h.0
    ∙ number_none xs (suc at) unit r h.1

-- the new number by whether the routine is bare
pub new_number_if : (all : List Kept) (unit : ℕ) (p : Program) (r : ℕ) (b : Bool) → 0 < r → is_bare p r (routine_at p r) ≡ b
    → new_number all unit p r ≡ if_true b (λ _. first_match (matches all 1 unit (routine_at p r).name)) (λ _. number_of_kept all 1 unit r)
new_number_if all unit p zero b some e = absurd (omega (arith, some))
new_number_if all unit p (suc r) b some e = ap (λ t. if_true t (λ _. first_match (matches all 1 unit (routine_at p (suc r)).name))
    (λ _. number_of_kept all 1 unit (suc r))) e
