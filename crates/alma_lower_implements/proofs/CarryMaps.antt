-- Carries as maps from places to cells: what changes do to them, whatever the cells are.
use Rattle.std.proofs.Common.{◌≡◌, ℕ, Bool, true, false, List, [], ◌∷◌, ◌++◌, refl, ap, ◌∙◌, arith}
use Rattle.std.specs.Prelude.{Some, None, ◌||◌, nat_eq}
use Rattle.std.specs.Cmp.{nat_eq_equiv}
use Rattle.std.proofs.lemmas.Bool.{and_parts, eqb-true}
use Rattle.std.proofs.lemmas.Bool.Decides.{nat_tests}
use Rattle.alma_base.specs.Carry.{Change, Carry, is_before, is_same_place, with_change, with_changes, carried_at}
use Rattle.alma_base.specs.Choice.{if_true}

-- ---- a choice

pub if_not : {A : Type 0} (b : Bool) (f g : Unit {0} → A) → b ≡ false → if_true b f g ≡ g tt
if_not true f g e = absurd (cc)
if_not false f g e = refl

-- what holds of both choices holds of the one that is taken
pub if_keeps : {A : Type 0} (P : A → Type 0) (b : Bool) (f g : Unit {0} → A) → (b ≡ true → P (f tt)) → (b ≡ false → P (g tt))
    → P (if_true b f g)
if_keeps P true f g p q = p refl
if_keeps P false f g p q = q refl

if_push : {A B : Type 0} (h : A → B) (b : Bool) (f g : Unit {0} → A) → h (if_true b f g) ≡ if_true b (λ u. h (f u)) (λ u. h (g u))
if_push h true f g = refl
if_push h false f g = refl

-- ---- places

pub same_place_is : (a b c d : ℕ) → is_same_place a b c d ≡ true → (a ≡ c) × (b ≡ d)
same_place_is a b c d e = let both = and_parts (nat_eq a c) (nat_eq b d) e in (eqb-true a c both.0, eqb-true b d both.1)

pub same_itself : (a b : ℕ) → is_same_place a b a b ≡ true
same_itself a b = grind (arith, nat_tests)

same_swap : (a b c d : ℕ) → is_same_place a b c d ≡ is_same_place c d a b
same_swap a b c d = let l = nat_eq_equiv.symm a c in let r = nat_eq_equiv.symm b d in rw (l, r) refl

before_not_same : (a b c d : ℕ) → is_before a b c d ≡ true → is_same_place c d a b ≡ false
before_not_same a b c d h = grind (arith, nat_tests)

before_trans : (a b c d e f : ℕ) → is_before a b c d ≡ true → is_before c d e f ≡ true → is_before a b e f ≡ true
before_trans a b c d e f h k = grind (arith, nat_tests)

neither_before : (a b c d : ℕ) → is_before a b c d ≡ false → is_same_place a b c d ≡ false → is_before c d a b ≡ true
neither_before a b c d h k = grind (arith, nat_tests)

same_trans : (a b c d e f : ℕ) → is_same_place a b c d ≡ true → is_same_place c d e f ≡ is_same_place a b e f
same_trans a b c d e f h = let one = same_place_is a b c d h in rw (one.0, one.1) refl

apart_trans : (a b c d e f : ℕ) → is_same_place a b c d ≡ false → is_same_place a b e f ≡ true → is_same_place c d e f ≡ false
apart_trans a b c d e f h k = let one = same_place_is a b e f k in rw (← one.0, ← one.1) (same_swap c d a b ∙ h)

pick : {A : Type 0} (b q t u : Bool) (x y r : A) → (q ≡ true → u ≡ t) → (q ≡ false → t ≡ true → u ≡ false) →
    if_true b (λ _. if_true t (λ _. x) (λ _. if_true u (λ _. y) (λ _. r)))
    (λ _. if_true q (λ _. if_true t (λ _. x) (λ _. r)) (λ _. if_true u (λ _. y) (λ _. if_true t (λ _. x) (λ _. r))))
    ≡ if_true t (λ _. x) (λ _. if_true u (λ _. y) (λ _. r))
pick true q t u x y r h k = refl
pick false true true u x y r h k = refl
pick false true false u x y r h k = rw (h refl) refl
pick false false true u x y r h k = rw (k refl refl) refl
pick false false false u x y r h k = refl

module _ {C : Type 0} where
  -- ---- a change

  -- a carry has for the place of a change its cell, and for others what it had
  pub carried_with : (f s : ℕ) (x : Change C) (cs : Carry C)
      → carried_at f s (with_change x cs) ≡ if_true (is_same_place x.frame x.slot f s) (λ _. Some x.cell) (λ _. carried_at f s cs)
  carried_with f s x [] = refl
  carried_with f s x (y ∷ cs) =
      let b = is_before x.frame x.slot y.frame y.slot in
      let q = is_same_place x.frame x.slot y.frame y.slot in
      let t = is_same_place x.frame x.slot f s in
      let u = is_same_place y.frame y.slot f s in
      let deep = if_push (carried_at f s) q (λ _. x ∷ cs) (λ _. y ∷ with_change x cs) in
      let ih = carried_with f s x cs in
      if_push (carried_at f s) b (λ _. x ∷ y ∷ cs) (λ _. if_true q (λ _. x ∷ cs) (λ _. y ∷ with_change x cs))
      ∙ (ap (λ z. if_true b (λ _. if_true t (λ _. Some x.cell) (λ _. if_true u (λ _. Some y.cell) (λ _. carried_at f s cs))) (λ _. z)) deep
      ∙ (ap (λ z. if_true b (λ _. if_true t (λ _. Some x.cell) (λ _. if_true u (λ _. Some y.cell) (λ _. carried_at f s cs)))
      (λ _. if_true q (λ _. if_true t (λ _. Some x.cell) (λ _. carried_at f s cs)) (λ _. if_true u (λ _. Some y.cell) (λ _. z)))) ih
      ∙ pick b q t u (Some x.cell) (Some y.cell) (carried_at f s cs) (same_trans x.frame x.slot y.frame y.slot f s)
      (apart_trans x.frame x.slot y.frame y.slot f s)))

  -- ---- places that rise

  -- each place of the carry is behind this one
  abbrev pub IsAbove : (frame slot : ℕ) → Carry C → Type 0
  IsAbove f s [] = Unit {0}
  IsAbove f s (x ∷ cs) = (is_before f s x.frame x.slot ≡ true) × IsAbove f s cs

  abbrev pub IsRising : Carry C → Type 0
  IsRising [] = Unit {0}
  IsRising (x ∷ cs) = IsAbove x.frame x.slot cs × IsRising cs

  above_trans : (a b c d : ℕ) (cs : Carry C) → is_before a b c d ≡ true → IsAbove c d cs → IsAbove a b cs
  above_trans a b c d [] e h = tt
  above_trans a b c d (x ∷ cs) e h = (before_trans a b c d x.frame x.slot e h.0, above_trans a b c d cs e h.1)

  above_with : (f s : ℕ) (x : Change C) (cs : Carry C) → IsAbove f s cs → is_before f s x.frame x.slot ≡ true
      → IsAbove f s (with_change x cs)
  above_with f s x [] h e = (e, tt)
  above_with f s x (y ∷ cs) h e =
      if_keeps (IsAbove f s) (is_before x.frame x.slot y.frame y.slot) (λ _. x ∷ y ∷ cs)
      (λ _. if_true (is_same_place x.frame x.slot y.frame y.slot) (λ _. x ∷ cs) (λ _. y ∷ with_change x cs)) (λ _. (e, h))
      (λ _. if_keeps (IsAbove f s) (is_same_place x.frame x.slot y.frame y.slot) (λ _. x ∷ cs) (λ _. y ∷ with_change x cs) (λ _. (e, h.1))
      (λ _. (h.0, above_with f s x cs h.1 e)))

  rising_with : (x : Change C) (cs : Carry C) → IsRising cs → IsRising (with_change x cs)
  rising_with x [] r = (tt, tt)
  rising_with x (y ∷ cs) r =
      if_keeps IsRising (is_before x.frame x.slot y.frame y.slot) (λ _. x ∷ y ∷ cs)
      (λ _. if_true (is_same_place x.frame x.slot y.frame y.slot) (λ _. x ∷ cs) (λ _. y ∷ with_change x cs))
      (λ b. ((b, above_trans x.frame x.slot y.frame y.slot cs b r.0), r))
      (λ nb. if_keeps IsRising (is_same_place x.frame x.slot y.frame y.slot) (λ _. x ∷ cs) (λ _. y ∷ with_change x cs)
      (λ s. let one = same_place_is x.frame x.slot y.frame y.slot s in (rw (one.0, one.1) r.0, r.1))
      (λ ns. (above_with y.frame y.slot x cs r.0 (neither_before x.frame x.slot y.frame y.slot nb ns), rising_with x cs r.1)))

  pub rising_all : (xs : List (Change C)) (cs : Carry C) → IsRising cs → IsRising (with_changes xs cs)
  rising_all [] cs r = r
  rising_all (x ∷ xs) cs r = rising_all xs (with_change x cs) (rising_with x cs r)

  -- the first place of a carry that rises has no second cell
  pub absent_below : (f s : ℕ) (cs : Carry C) → IsAbove f s cs → carried_at f s cs ≡ None
  absent_below f s [] h = refl
  absent_below f s (x ∷ cs) h = if_not (is_same_place x.frame x.slot f s) (λ _. Some x.cell) (λ _. carried_at f s cs)
      (before_not_same f s x.frame x.slot h.0) ∙ absent_below f s cs h.1

  -- ---- many changes, of which those at one place have one cell

  abbrev pub has_place : (frame slot : ℕ) → List (Change C) → Bool
  has_place f s [] = false
  has_place f s (x ∷ xs) = is_same_place x.frame x.slot f s || has_place f s xs

  abbrev pub Only : (frame slot : ℕ) → C → List (Change C) → Type 0
  Only f s c [] = Unit {0}
  Only f s c (x ∷ xs) = (is_same_place x.frame x.slot f s ≡ true → x.cell ≡ c) × Only f s c xs

  pub carried_all : (f s : ℕ) (c : C) (xs : List (Change C)) (cs : Carry C) → Only f s c xs
      → carried_at f s (with_changes xs cs) ≡ if_true (has_place f s xs) (λ _. Some c) (λ _. carried_at f s cs)
  carried_all f s c [] cs h = refl
  carried_all f s c (x ∷ xs) cs h =
      carried_all f s c xs (with_change x cs) h.1 ∙ ap (λ o. if_true (has_place f s xs) (λ _. Some c) (λ _. o)) (carried_with f s x cs)
      ∙ by (is_same_place x.frame x.slot f s) (has_place f s xs) h.0
    where
      by : (b d : Bool) → (b ≡ true → x.cell ≡ c)
          → if_true d (λ _. Some c) (λ _. if_true b (λ _. Some x.cell) (λ _. carried_at f s cs)) ≡ if_true (b || d) (λ _. Some c)
          (λ _. carried_at f s cs)
      by true true e = refl
      by true false e = ap Some (e refl)
      by false true e = refl
      by false false e = refl

  -- ---- two lists

  pub has_both : (f s : ℕ) (xs ys : List (Change C)) → has_place f s (xs ++ ys) ≡ has_place f s xs || has_place f s ys
  has_both f s [] ys = refl
  has_both f s (x ∷ xs) ys = ap (λ b. is_same_place x.frame x.slot f s || b) (has_both f s xs ys)
      ∙ assoc (is_same_place x.frame x.slot f s) (has_place f s xs) (has_place f s ys)
    where
      assoc : (a b c : Bool) → a || (b || c) ≡ (a || b) || c
      assoc true b c = refl
      assoc false b c = refl
