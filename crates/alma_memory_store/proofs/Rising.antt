-- Lemmas on carries whose places rise: what a change does to them, that their cells decide them, and how a change is taken back.
use Rattle.std.proofs.Common.{◌≡◌, ℕ, Bool, true, false, List, [], ◌∷◌, ◌++◌, refl, sym, ap, ◌∙◌, arith, ◌<◌, length, get_or}
use Rattle.std.specs.Prelude.{Option, Some, None}
use Rattle.std.proofs.Common.{◌+◌, take, drop}
use Rattle.std.proofs.lemmas.List.{take_more, map-append, take-append-drop}
use Rattle.std.proofs.lemmas.Bool.Decides.{nat_tests}
use Rattle.alma_base.specs.Carry.{Change, Carry, is_before, is_same_place, with_change, with_changes, carried_at}
use Rattle.alma_base.specs.Choice.{if_true}
use Rattle.alma_code.specs.declared.cell.Cell.{Cell}
use Rattle.alma_code.specs.declared.cell.Cell.TheVariants.{Unknown}
use Rattle.alma_memory_store.specs.declared.carry.SlotPlace.{SlotPlace}
use Rattle.alma_memory_store.specs.Carries.{change_of, carry_of_entries, IsAbove, IsRising, without_place, with_cell, put_back}
use Rattle.alma_memory_store.specs.Carries.{all_put_back, cells_before_setting}
use Rattle.alma_memory_store.proofs.Carrying.{same-place-is, same-place-swap}

-- ---- a choice

-- the choice where the test holds
pub if-true : {A : Type 0} (b : Bool) (f g : Unit {0} → A) → b ≡ true → if_true b f g ≡ f tt
if-true true f g e = refl
if-true false f g e = absurd (cc)

-- the choice where it does not
pub if-false : {A : Type 0} (b : Bool) (f g : Unit {0} → A) → b ≡ false → if_true b f g ≡ g tt
if-false true f g e = absurd (cc)
if-false false f g e = refl

-- what holds of both choices holds of the one that is taken
pub if-keeps : {A : Type 0} (P : A → Type 0) (b : Bool) (f g : Unit {0} → A) → (b ≡ true → P (f tt)) → (b ≡ false → P (g tt))
    → P (if_true b f g)
if-keeps P true f g p q = p refl
if-keeps P false f g p q = q refl

-- a function of a choice
if-push : {A B : Type 0} (h : A → B) (b : Bool) (f g : Unit {0} → A) → h (if_true b f g) ≡ if_true b (λ u. h (f u)) (λ u. h (g u))
if-push h true f g = refl
if-push h false f g = refl

-- ---- the order of places

-- a place is not before itself
before-not-same : (a b c d : ℕ) → is_before a b c d ≡ true → is_same_place c d a b ≡ false
before-not-same a b c d h = grind (arith, nat_tests)

-- places before places
before-trans : (a b c d e f : ℕ) → is_before a b c d ≡ true → is_before c d e f ≡ true → is_before a b e f ≡ true
before-trans a b c d e f h k = grind (arith, nat_tests)

-- of two places one is before the other
neither : (a b c d : ℕ) → is_before a b c d ≡ false → is_same_place a b c d ≡ false → is_before c d a b ≡ true
neither a b c d h k = grind (arith, nat_tests)

-- a place is itself
pub same-itself : (a b : ℕ) → is_same_place a b a b ≡ true
same-itself a b = grind (arith, nat_tests)

-- ---- a change

-- a carry has for the place of a change its cell, and for others what it had
pick : {A : Type 0} (b q t u : Bool) (x y r : A) → (q ≡ true → u ≡ t) → (q ≡ false → t ≡ true → u ≡ false) →
    if_true b (λ _. if_true t (λ _. x) (λ _. if_true u (λ _. y) (λ _. r)))
    (λ _. if_true q (λ _. if_true t (λ _. x) (λ _. r)) (λ _. if_true u (λ _. y) (λ _. if_true t (λ _. x) (λ _. r))))
    ≡ if_true t (λ _. x) (λ _. if_true u (λ _. y) (λ _. r))
pick true q t u x y r h k = refl
pick false true true u x y r h k = refl
pick false true false u x y r h k = rw (h refl) refl
pick false false true u x y r h k = rw (k refl refl) refl
pick false false false u x y r h k = refl

-- one place, compared to a third
same-trans : (a b c d e f : ℕ) → is_same_place a b c d ≡ true → is_same_place c d e f ≡ is_same_place a b e f
same-trans a b c d e f h = let one = same-place-is a b c d h in rw (one.0, one.1) refl

-- two places are not both a third
apart-trans : (a b c d e f : ℕ) → is_same_place a b c d ≡ false → is_same_place a b e f ≡ true → is_same_place c d e f ≡ false
apart-trans a b c d e f h k = let one = same-place-is a b e f k in rw (← one.0, ← one.1) (same-place-swap c d a b ∙ h)

-- the cells of a carry after a change
pub carried-with : (f s : ℕ) (x : Change Cell) (cs : Carry Cell) →
    carried_at f s (with_change x cs) ≡ if_true (is_same_place x.frame x.slot f s) (λ _. Some x.cell) (λ _. carried_at f s cs)
carried-with f s x [] = refl
carried-with f s x (y ∷ cs) =
    let b = is_before x.frame x.slot y.frame y.slot in
    let q = is_same_place x.frame x.slot y.frame y.slot in
    let t = is_same_place x.frame x.slot f s in
    let u = is_same_place y.frame y.slot f s in
    let deep = if-push (carried_at f s) q (λ _. x ∷ cs) (λ _. y ∷ with_change x cs) in
    let ih = carried-with f s x cs in
    if-push (carried_at f s) b (λ _. x ∷ y ∷ cs) (λ _. if_true q (λ _. x ∷ cs) (λ _. y ∷ with_change x cs))
    ∙ (ap (λ z. if_true b (λ _. if_true t (λ _. Some x.cell) (λ _. if_true u (λ _. Some y.cell) (λ _. carried_at f s cs))) (λ _. z)) deep
    ∙ (ap (λ z. if_true b (λ _. if_true t (λ _. Some x.cell) (λ _. if_true u (λ _. Some y.cell) (λ _. carried_at f s cs)))
    (λ _. if_true q (λ _. if_true t (λ _. Some x.cell) (λ _. carried_at f s cs)) (λ _. if_true u (λ _. Some y.cell) (λ _. z)))) ih
    ∙ pick b q t u (Some x.cell) (Some y.cell) (carried_at f s cs)
    (same-trans x.frame x.slot y.frame y.slot f s) (apart-trans x.frame x.slot y.frame y.slot f s)))

-- what comes after a place comes after each place before it
above-trans : (a b c d : ℕ) (cs : Carry Cell) → is_before a b c d ≡ true → IsAbove c d cs → IsAbove a b cs
above-trans a b c d [] e h = tt
above-trans a b c d (x ∷ cs) e h = (before-trans a b c d x.frame x.slot e h.0, above-trans a b c d cs e h.1)

-- a change above a place
above-with : (f s : ℕ) (x : Change Cell) (cs : Carry Cell) → IsAbove f s cs → is_before f s x.frame x.slot ≡ true
    → IsAbove f s (with_change x cs)
above-with f s x [] h e = (e, tt)
above-with f s x (y ∷ cs) h e =
    if-keeps (IsAbove f s) (is_before x.frame x.slot y.frame y.slot) (λ _. x ∷ y ∷ cs)
    (λ _. if_true (is_same_place x.frame x.slot y.frame y.slot) (λ _. x ∷ cs) (λ _. y ∷ with_change x cs))
    (λ _. (e, h))
    (λ _. if-keeps (IsAbove f s) (is_same_place x.frame x.slot y.frame y.slot) (λ _. x ∷ cs) (λ _. y ∷ with_change x cs)
    (λ _. (e, h.1)) (λ _. (h.0, above-with f s x cs h.1 e)))

-- places that rise do so after a change
pub rising-with : (x : Change Cell) (cs : Carry Cell) → IsRising cs → IsRising (with_change x cs)
rising-with x [] r = (tt, tt)
rising-with x (y ∷ cs) r =
    if-keeps IsRising (is_before x.frame x.slot y.frame y.slot) (λ _. x ∷ y ∷ cs)
    (λ _. if_true (is_same_place x.frame x.slot y.frame y.slot) (λ _. x ∷ cs) (λ _. y ∷ with_change x cs))
    (λ b. ((b, above-trans x.frame x.slot y.frame y.slot cs b r.0), r))
    (λ nb. if-keeps IsRising (is_same_place x.frame x.slot y.frame y.slot) (λ _. x ∷ cs) (λ _. y ∷ with_change x cs)
    (λ s. let one = same-place-is x.frame x.slot y.frame y.slot s in (rw (one.0, one.1) r.0, r.1))
    (λ ns. (above-with y.frame y.slot x cs r.0 (neither x.frame x.slot y.frame y.slot nb ns), rising-with x cs r.1)))

-- places that rise do so after all changes
pub rising-all : (xs : List (Change Cell)) (cs : Carry Cell) → IsRising cs → IsRising (with_changes xs cs)
rising-all [] cs r = r
rising-all (x ∷ xs) cs r = rising-all xs (with_change x cs) (rising-with x cs r)

-- ---- the cells of a carry decide it

-- a place below all places of a carry has no cell in it
pub absent-below : (f s : ℕ) (cs : Carry Cell) → IsAbove f s cs → carried_at f s cs ≡ None
absent-below f s [] h = refl
absent-below f s (x ∷ cs) h =
    if-false (is_same_place x.frame x.slot f s) (λ _. Some x.cell) (λ _. carried_at f s cs) (before-not-same f s x.frame x.slot h.0)
    ∙ absent-below f s cs h.1

-- the first place has its cell
first-carried : (x : Change Cell) (cs : Carry Cell) → carried_at x.frame x.slot (x ∷ cs) ≡ Some x.cell
first-carried x cs = if-true (is_same_place x.frame x.slot x.frame x.slot) (λ _. Some x.cell) (λ _. carried_at x.frame x.slot cs)
    (same-itself x.frame x.slot)

-- the first place of one carry is not before all places of the other
no-lower : (x y : Change Cell) (xs ys : Carry Cell) → IsRising (y ∷ ys)
    → carried_at x.frame x.slot (x ∷ xs) ≡ carried_at x.frame x.slot (y ∷ ys) →
    is_before x.frame x.slot y.frame y.slot ≡ true → ⊥
no-lower x y xs ys r e b =
    let none = absent-below x.frame x.slot (y ∷ ys) (b, above-trans x.frame x.slot y.frame y.slot ys b r.0) in
    let some = first-carried x xs in
    let both : Some x.cell ≡ None = sym some ∙ (e ∙ none) in
    absurd (cc)

-- a test that cannot hold
truth : (b : Bool) → (b ≡ true → ⊥) → b ≡ false
truth true h = absurd (h refl)
truth false h = refl

-- changes with the same parts are one
change-same : (x y : Change Cell) → x.frame ≡ y.frame → x.slot ≡ y.slot → x.cell ≡ y.cell → x ≡ y
change-same x y f s c =
    let made : ℕ → ℕ → Cell → Change Cell = (λ a b v. record { frame = a; slot = b; cell = v }) in
    ap (λ a. made a x.slot x.cell) f ∙ (ap (λ b. made y.frame b x.cell) s ∙ ap (made y.frame y.slot) c)

-- below the first place the carries agree on the rest
rest-agrees : (b : Bool) (x : Cell) (u v : Option Cell) → (b ≡ true → (u ≡ None) × (v ≡ None)) →
    if_true b (λ _. Some x) (λ _. u) ≡ if_true b (λ _. Some x) (λ _. v) → u ≡ v
rest-agrees true x u v h e = (h refl).0 ∙ sym (h refl).1
rest-agrees false x u v h e = e

-- a test that cannot fail
falsity : (b : Bool) → (b ≡ false → ⊥) → b ≡ true
falsity true h = refl
falsity false h = absurd (h refl)

-- places of which neither is before the other are one
same-first : (a b c d : ℕ) → is_before a b c d ≡ false → is_before c d a b ≡ false → (a ≡ c) × (b ≡ d)
same-first a b c d h k =
    same-place-is a b c d (falsity (is_same_place a b c d) (λ ns. let e : true ≡ false = sym (neither a b c d h ns) ∙ k in absurd (cc)))

-- two carries that rise and have the same cells are one
pub same-carry : (xs ys : Carry Cell) → IsRising xs → IsRising ys → ((f s : ℕ) → carried_at f s xs ≡ carried_at f s ys) → xs ≡ ys
same-carry [] [] rx ry h = refl
same-carry [] (y ∷ ys) rx ry h = let e : None ≡ Some y.cell = h y.frame y.slot ∙ first-carried y ys in absurd (cc)
same-carry (x ∷ xs) [] rx ry h = let e : Some x.cell ≡ None = sym (first-carried x xs) ∙ h x.frame x.slot in absurd (cc)
same-carry (x ∷ xs) (y ∷ ys) rx ry h =
    let nb = truth (is_before x.frame x.slot y.frame y.slot) (no-lower x y xs ys ry (h x.frame x.slot)) in
    let na = truth (is_before y.frame y.slot x.frame x.slot) (no-lower y x ys xs rx (sym (h y.frame y.slot))) in
    let one = same-first x.frame x.slot y.frame y.slot nb na in
    let cell : Some x.cell ≡ Some y.cell = sym (first-carried x xs) ∙ (h x.frame x.slot
    ∙ (ap (λ f. carried_at f x.slot (y ∷ ys)) one.0 ∙ (ap (λ s. carried_at y.frame s (y ∷ ys)) one.1 ∙ first-carried y ys))) in
    let first : x ≡ y = change-same x y one.0 one.1 (cc) in
    let agree : (f s : ℕ) → carried_at f s xs ≡ carried_at f s ys = (λ f s.
    rest-agrees (is_same_place y.frame y.slot f s) y.cell (carried_at f s xs) (carried_at f s ys)
    (λ q. let at = same-place-is y.frame y.slot f s q in (
      rw (← at.0, ← at.1, ← one.0, ← one.1) (absent-below x.frame x.slot xs rx.0),
      rw (← at.0, ← at.1) (absent-below y.frame y.slot ys ry.0),
    ))
    (rw first at (h f s))) in
    let rest : xs ≡ ys = same-carry xs ys rx.1 ry.1 agree in
    cc

-- ---- changes that are taken back

-- a place without a cell is not the first
not-found : (b : Bool) (v : Cell) (r : Option Cell) → if_true b (λ _. Some v) (λ _. r) ≡ None → (b ≡ false) × (r ≡ None)
not-found true v r e = absurd (cc)
not-found false v r e = (refl, e)

-- a place that had no cell is without one again
back-none : (x : Change Cell) (cs : Carry Cell) → carried_at x.frame x.slot cs ≡ None → without_place x.frame x.slot (with_change x cs) ≡ cs
back-none x [] e = if-true (is_same_place x.frame x.slot x.frame x.slot) (λ _. []) (λ _. x ∷ []) (same-itself x.frame x.slot)
back-none x (y ∷ cs) e =
    let P : Carry Cell → Type 0 = (λ zs. without_place x.frame x.slot zs ≡ y ∷ cs) in
    let q = is_same_place x.frame x.slot y.frame y.slot in
    let none = not-found (is_same_place y.frame y.slot x.frame x.slot) y.cell (carried_at x.frame x.slot cs) e in
    let apart : q ≡ false = same-place-swap x.frame x.slot y.frame y.slot ∙ none.0 in
    if-keeps P (is_before x.frame x.slot y.frame y.slot) (λ _. x ∷ y ∷ cs) (λ _. if_true q (λ _. x ∷ cs) (λ _. y ∷ with_change x cs))
    (λ _. if-true (is_same_place x.frame x.slot x.frame x.slot) (λ _. y ∷ cs) (λ _. x ∷ without_place x.frame x.slot (y ∷ cs))
    (same-itself x.frame x.slot))
    (λ _. if-keeps P q (λ _. x ∷ cs) (λ _. y ∷ with_change x cs)
    (λ s. let no : true ≡ false = sym s ∙ apart in absurd (cc))
    (λ _. if-false (is_same_place y.frame y.slot x.frame x.slot) (λ _. with_change x cs)
    (λ _. y ∷ without_place x.frame x.slot (with_change x cs)) none.0
    ∙ ap (λ rest. y ∷ rest) (back-none x cs none.1)))

-- a place that had a cell has it again
back-some : (x : Change Cell) (v : Cell) (cs : Carry Cell) → IsRising cs → carried_at x.frame x.slot cs ≡ Some v
    → with_cell x.frame x.slot v (with_change x cs) ≡ cs
back-some x v [] r e = absurd (cc)
back-some x v (y ∷ cs) r e =
    let P : Carry Cell → Type 0 = (λ zs. with_cell x.frame x.slot v zs ≡ y ∷ cs) in
    let q = is_same_place x.frame x.slot y.frame y.slot in
    let u = is_same_place y.frame y.slot x.frame x.slot in
    let swap : u ≡ q = same-place-swap y.frame y.slot x.frame x.slot in
    if-keeps P (is_before x.frame x.slot y.frame y.slot) (λ _. x ∷ y ∷ cs) (λ _. if_true q (λ _. x ∷ cs) (λ _. y ∷ with_change x cs))
    (λ b. let none = absent-below x.frame x.slot (y ∷ cs) (b, above-trans x.frame x.slot y.frame y.slot cs b r.0) in
    let no : None ≡ Some v = sym none ∙ e in absurd (cc))
    (λ _. if-keeps P q (λ _. x ∷ cs) (λ _. y ∷ with_change x cs)
    (λ s. let one = same-place-is x.frame x.slot y.frame y.slot s in
    let there : Some y.cell ≡ Some v = sym (if-true u (λ _. Some y.cell) (λ _. carried_at x.frame x.slot cs) (swap ∙ s)) ∙ e in
    let cell : v ≡ y.cell = cc in
    let x' : Change Cell = record x { cell = v } in
    if-true (is_same_place x.frame x.slot x.frame x.slot) (λ _. x' ∷ cs) (λ _. x ∷ with_cell x.frame x.slot v cs)
    (same-itself x.frame x.slot)
    ∙ ap (λ z. z ∷ cs) (change-same x' y one.0 one.1 cell))
    (λ ns. let apart : u ≡ false = swap ∙ ns in
    if-false u (λ _. record y { cell = v } ∷ with_change x cs) (λ _. y ∷ with_cell x.frame x.slot v (with_change x cs)) apart
    ∙ ap (λ rest. y ∷ rest) (back-some x v cs r.1 (sym (if-false u (λ _. Some y.cell) (λ _. carried_at x.frame x.slot cs) apart) ∙ e))))

-- a place has again what it had before it was set
pub back : (p : SlotPlace) (v : Cell) (cs : Carry Cell) (o : Option Cell) → IsRising cs → o ≡ carried_at p.frame p.slot cs →
    put_back p o (with_change (change_of p v) cs) ≡ cs
back p v cs None r e = back-none (change_of p v) cs (sym e)
back p v cs (Some w) r e = back-some (change_of p v) w cs r (sym e)

-- no places, no change
pub none-back : (xs : List (SlotPlace × Cell)) (cs : Carry Cell) → all_put_back xs [] cs ≡ cs
none-back [] cs = refl
none-back (x ∷ xs) cs = refl

-- changes of which some first ones were made are all taken back
pub all-back : (xs ys : List (SlotPlace × Cell)) (cs : Carry Cell) → IsRising cs
    → all_put_back (xs ++ ys) (cells_before_setting xs cs) (with_changes (carry_of_entries xs) cs) ≡ cs
all-back [] ys cs r = none-back ys cs
all-back (x ∷ xs) ys cs r =
    ap (put_back x.0 (carried_at x.0.frame x.0.slot cs))
    (all-back xs ys (with_change (change_of x.0 x.1) cs) (rising-with (change_of x.0 x.1) cs r))
    ∙ back x.0 x.1 cs (carried_at x.0.frame x.0.slot cs) r refl

-- what stands for a change that is not there
abbrev pub no_change : SlotPlace × Cell
no_change = (record { frame = 0; slot = 0 }, Unknown)

-- the last of the places is put back first
pub put-last : (xs : List (SlotPlace × Cell)) (had : List (Option Cell)) (o : Option Cell) (cs : Carry Cell) → length had < length xs →
    all_put_back xs (had ++ o ∷ []) cs ≡ all_put_back xs had (put_back (get_or xs (length had) no_change).0 o cs)
put-last [] had o cs l = absurd (omega arith)
put-last (x ∷ xs) [] o cs l = ap (put_back x.0 o) (none-back xs cs)
put-last (x ∷ xs) (h ∷ had) o cs l = ap (put_back x.0 h) (put-last xs had o cs (omega arith))

-- one more change
pub changes-push : (xs : List (Change Cell)) (x : Change Cell) (cs : Carry Cell)
    → with_changes (xs ++ x ∷ []) cs ≡ with_change x (with_changes xs cs)
changes-push [] x cs = refl
changes-push (y ∷ xs) x cs = changes-push xs x (with_change y cs)

-- what the place of one more change had
pub cells_before_setting-push : (xs : List (SlotPlace × Cell)) (x : SlotPlace × Cell) (cs : Carry Cell) →
    cells_before_setting (xs ++ x ∷ []) cs ≡ cells_before_setting xs cs
    ++ carried_at x.0.frame x.0.slot (with_changes (carry_of_entries xs) cs) ∷ []
cells_before_setting-push [] x cs = refl
cells_before_setting-push (y ∷ xs) x cs =
    ap (λ os. carried_at y.0.frame y.0.slot cs ∷ os) (cells_before_setting-push xs x (with_change (change_of y.0 y.1) cs))

-- the first i of the changes are made, and what their places had is noted
pub record IsSet (xs : List (SlotPlace × Cell)) (i : ℕ) (before now : Carry Cell) (had : List (Option Cell)) : Type 0 where
  pub carry : now ≡ with_changes (carry_of_entries (take i xs)) before
  pub noted : had ≡ cells_before_setting (take i xs) before

-- one more change is made
pub set-more : (xs : List (SlotPlace × Cell)) (i : ℕ) (before now now' : Carry Cell) (had had' : List (Option Cell)) (o : Option Cell) →
    IsSet xs i before now had → i < length xs → now' ≡ with_change (change_of (get_or xs i no_change).0 (get_or xs i no_change).1) now →
    o ≡ carried_at (get_or xs i no_change).0.frame (get_or xs i no_change).0.slot now → had' ≡ had ++ o ∷ []
    → IsSet xs (i + 1) before now' had'
set-more xs i before now now' had had' o s l p q r =
    let x : SlotPlace × Cell = get_or xs i no_change in
    let more : take (i + 1) xs ≡ take i xs ++ x ∷ [] = take_more xs i no_change l in
    record {
      carry = p ∙ (ap (with_change (change_of x.0 x.1)) s.carry
          ∙ (sym (changes-push (carry_of_entries (take i xs)) (change_of x.0 x.1) before)
          ∙ ap (λ ys. with_changes ys before) (sym (map-append (λ (y : SlotPlace × Cell). change_of y.0 y.1) (take i xs) (x ∷ []))
          ∙ ap carry_of_entries (sym more))));
      noted = r ∙ (ap (λ os. os ++ o ∷ []) s.noted
          ∙ (ap (λ y. cells_before_setting (take i xs) before ++ y ∷ []) (q ∙ ap (carried_at x.0.frame x.0.slot) s.carry)
          ∙ (sym (cells_before_setting-push (take i xs) x before) ∙ ap (λ ys. cells_before_setting ys before) (sym more))));
    }

-- where not all changes were made, those that were are taken back
pub set-back : (xs : List (SlotPlace × Cell)) (i : ℕ) (before now after : Carry Cell) (had : List (Option Cell)) → IsRising before →
    IsSet xs i before now had → after ≡ all_put_back xs had now → after ≡ before
set-back xs i before now after had r s p =
    p ∙ (ap (λ os. all_put_back xs os now) s.noted ∙ (ap (all_put_back xs (cells_before_setting (take i xs) before)) s.carry
    ∙ (ap (λ ys. all_put_back ys (cells_before_setting (take i xs) before) (with_changes (carry_of_entries (take i xs)) before))
    (sym (take-append-drop i xs))
    ∙ all-back (take i xs) (drop i xs) before r)))
