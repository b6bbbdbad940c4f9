-- The entries of an ordered map as a carry: what an insertion, a look-up, a removal and a write through the map do to it.
use Rattle.std.proofs.Common.{◌≡◌, ℕ, Bool, true, false, ◌&&◌, cond, List, [], ◌∷◌, refl, ap, ◌∙◌, arith}
use Rattle.std.specs.Prelude.{◌||◌, nat_lt, nat_eq, Some, None}
use Rattle.std.specs.Ordering.{nat_cmp, ordering_then, match_ordering, is_eq}
use Rattle.std.specs.declared.cmp.Ordering.{Ordering}
use Rattle.std.specs.declared.cmp.Ordering.TheVariants.{Less, Equal, Greater}
use Rattle.std.specs.Cmp.{nat_eq_equiv}
use Rattle.std.specs.Map.{lookup, remove_entry, set_value, keys_of}
use Rattle.std.specs.BTreeMap.{insert_entry, is_at}
use Rattle.std.specs.List.Sorted.{IsStrictlySortedBy}
use Rattle.std.specs.List.{AllByRecursion}
use Rattle.std.proofs.lemmas.Bool.{and_parts, eqb-true}
use Rattle.std.proofs.lemmas.Bool.Decides.{nat_tests}
use Rattle.alma_base.specs.Carry.{Carry, is_before, is_same_place, with_change, carried_at}
use Rattle.alma_base.specs.Choice.{if_true}
use Rattle.alma_code.specs.declared.cell.Cell.{Cell}
use Rattle.alma_memory_store.specs.declared.carry.SlotPlace.{SlotPlace}
use Rattle.alma_memory_store.specs.Carries.{change_of, carry_of_entries, IsAbove, IsRising, without_place, with_cell}

-- the order of slots: by their frames, and in a frame by their numbers
abbrev pub slot_cmp : SlotPlace → SlotPlace → Ordering
slot_cmp x y = ordering_then (nat_cmp x.frame y.frame) (nat_cmp x.slot y.slot)

-- ---- the order of slots, as the tests of a carry

-- the order of slots, by the tests of a carry
ordered-by : {A : Type 0} (below same below' same' : Bool) (a b c : A) →
    match_ordering (ordering_then (cond below Less (cond same Equal Greater)) (cond below' Less (cond same' Equal Greater))) a b c
    ≡ if_true (below || (same && below')) (λ _. a) (λ _. if_true (same && same') (λ _. b) (λ _. c))
ordered-by true same below' same' a b c = refl
ordered-by false true true same' a b c = refl
ordered-by false true false true a b c = refl
ordered-by false true false false a b c = refl
ordered-by false false below' same' a b c = refl

-- slots that tie are one place
tied-by : (below same below' same' : Bool) → (below ≡ true → same ≡ false) → (below' ≡ true → same' ≡ false) →
    is_eq (ordering_then (cond below Less (cond same Equal Greater)) (cond below' Less (cond same' Equal Greater))) ≡ same && same'
tied-by true same below' same' h k = rw (h refl) refl
tied-by false true true same' h k = rw (k refl) refl
tied-by false true false true h k = refl
tied-by false true false false h k = refl
tied-by false false below' same' h k = refl

-- a slot that is less comes before
less-by : (below same below' same' : Bool) →
    ordering_then (cond below Less (cond same Equal Greater)) (cond below' Less (cond same' Equal Greater)) ≡ Less
    → below || (same && below') ≡ true
less-by true same below' same' e = refl
less-by false true true same' e = refl
less-by false true false true e = absurd (cc)
less-by false true false false e = absurd (cc)
less-by false false below' same' e = absurd (cc)

-- a smaller number is another
not-same : (a b : ℕ) → nat_lt a b ≡ true → nat_eq a b ≡ false
not-same a b h = grind (arith, nat_tests)

-- the test for one place, either way round
pub same-place-swap : (a b c d : ℕ) → is_same_place a b c d ≡ is_same_place c d a b
same-place-swap a b c d = let l = nat_eq_equiv.symm a c in let r = nat_eq_equiv.symm b d in rw (l, r) refl

-- places that are one have one frame and one slot
pub same-place-is : (a b c d : ℕ) → is_same_place a b c d ≡ true → (a ≡ c) × (b ≡ d)
same-place-is a b c d e = let both = and_parts (nat_eq a c) (nat_eq b d) e in (eqb-true a c both.0, eqb-true b d both.1)

-- a look-up meets the key of its own place
at-same : (k e : SlotPlace) → is_at (slot_cmp k) e ≡ is_same_place e.frame e.slot k.frame k.slot
at-same k e =
    tied-by (nat_lt k.frame e.frame) (nat_eq k.frame e.frame) (nat_lt k.slot e.slot) (nat_eq k.slot e.slot) (not-same k.frame e.frame)
    (not-same k.slot e.slot)
    ∙ same-place-swap k.frame k.slot e.frame e.slot

-- ---- the entries of a map

-- a choice of entries, as a choice of carries
chosen-listed : (b s : Bool) (x y z : List (SlotPlace × Cell)) (y' z' : Carry Cell) → (s ≡ true → carry_of_entries y ≡ y')
    → carry_of_entries z ≡ z' →
    carry_of_entries (if_true b (λ _. x) (λ _. if_true s (λ _. y) (λ _. z))) ≡ if_true b (λ _. carry_of_entries x)
    (λ _. if_true s (λ _. y') (λ _. z'))
chosen-listed true s x y z y' z' h e = refl
chosen-listed false true x y z y' z' h e = h refl
chosen-listed false false x y z y' z' h e = e

-- an insertion sets the cell of a place
pub insert-listed : (es : List (SlotPlace × Cell)) (k : SlotPlace) (v : Cell)
    → carry_of_entries (insert_entry slot_cmp es k v) ≡ with_change (change_of k v) (carry_of_entries es)
insert-listed [] k v = refl
insert-listed (e ∷ es) k v =
    let order = ordered-by (nat_lt k.frame e.0.frame) (nat_eq k.frame e.0.frame) (nat_lt k.slot e.0.slot) (nat_eq k.slot e.0.slot)
    ((k, v) ∷ e ∷ es) ((e.0, v) ∷ es) (e ∷ insert_entry slot_cmp es k v) in
    ap carry_of_entries order
    ∙ chosen-listed (is_before k.frame k.slot e.0.frame e.0.slot) (is_same_place k.frame k.slot e.0.frame e.0.slot)
    ((k, v) ∷ e ∷ es) ((e.0, v) ∷ es) (e ∷ insert_entry slot_cmp es k v)
    (change_of k v ∷ carry_of_entries es) (change_of e.0 e.1 ∷ with_change (change_of k v) (carry_of_entries es))
    (λ s. let one = same-place-is k.frame k.slot e.0.frame e.0.slot s in rw (one.0, one.1) refl)
    (ap (λ rest. change_of e.0 e.1 ∷ rest) (insert-listed es k v))

-- a choice by a test, and the same choice in a carry
by-test : {A : Type 0} (t b : Bool) (x y y' : A) → t ≡ b → y ≡ y' → cond t x y ≡ if_true b (λ _. x) (λ _. y')
by-test t true x y y' h e = rw h refl
by-test t false x y y' h e = rw h e

-- the same choice in a carry
by-test-listed : (t b : Bool) (x y : List (SlotPlace × Cell)) (y' : Carry Cell) → t ≡ b → carry_of_entries y ≡ y'
    → carry_of_entries (cond t x y) ≡ if_true b (λ _. carry_of_entries x) (λ _. y')
by-test-listed t true x y y' h e = rw h refl
by-test-listed t false x y y' h e = rw h e

-- a look-up finds the cell of a place
pub lookup-listed : (es : List (SlotPlace × Cell)) (k : SlotPlace)
    → lookup (is_at (slot_cmp k)) es ≡ carried_at k.frame k.slot (carry_of_entries es)
lookup-listed [] k = refl
lookup-listed (e ∷ es) k =
    by-test (is_at (slot_cmp k) e.0) (is_same_place e.0.frame e.0.slot k.frame k.slot) (Some e.1) (lookup (is_at (slot_cmp k)) es)
    (carried_at k.frame k.slot (carry_of_entries es)) (at-same k e.0) (lookup-listed es k)

-- a removal takes a place away
pub remove-listed : (es : List (SlotPlace × Cell)) (k : SlotPlace)
    → carry_of_entries (remove_entry (is_at (slot_cmp k)) es) ≡ without_place k.frame k.slot (carry_of_entries es)
remove-listed [] k = refl
remove-listed (e ∷ es) k =
    by-test-listed (is_at (slot_cmp k) e.0) (is_same_place e.0.frame e.0.slot k.frame k.slot) es (e ∷ remove_entry (is_at (slot_cmp k)) es)
    (change_of e.0 e.1 ∷ without_place k.frame k.slot (carry_of_entries es)) (at-same k e.0)
    (ap (λ rest. change_of e.0 e.1 ∷ rest) (remove-listed es k))

-- a write through the map changes the cell of a place
pub set-listed : (es : List (SlotPlace × Cell)) (k : SlotPlace) (v : Cell)
    → carry_of_entries (set_value (is_at (slot_cmp k)) es v) ≡ with_cell k.frame k.slot v (carry_of_entries es)
set-listed [] k v = refl
set-listed (e ∷ es) k v =
    by-test-listed (is_at (slot_cmp k) e.0) (is_same_place e.0.frame e.0.slot k.frame k.slot) ((e.0, v) ∷ es)
    (e ∷ set_value (is_at (slot_cmp k)) es v)
    (change_of e.0 e.1 ∷ with_cell k.frame k.slot v (carry_of_entries es)) (at-same k e.0)
    (ap (λ rest. change_of e.0 e.1 ∷ rest) (set-listed es k v))

-- the keys above a key come after its place
above-listed : (k : SlotPlace) (es : List (SlotPlace × Cell)) → AllByRecursion (λ y. slot_cmp k y ≡ Less) (keys_of es)
    → IsAbove k.frame k.slot (carry_of_entries es)
above-listed k [] h = tt
above-listed k (e ∷ es) h = (
  less-by (nat_lt k.frame e.0.frame) (nat_eq k.frame e.0.frame) (nat_lt k.slot e.0.slot) (nat_eq k.slot e.0.slot) h.0,
  above-listed k es h.1,
)

-- the entries of an ordered map rise
pub rising-listed : (es : List (SlotPlace × Cell)) → IsStrictlySortedBy slot_cmp (keys_of es) → IsRising (carry_of_entries es)
unfolding IsStrictlySortedBy
rising-listed [] h = tt
rising-listed (e ∷ es) h = (above-listed e.0 es h.0, rising-listed es h.1)

-- a place that a carry does not have gets no cell
pub with-absent : (f s : ℕ) (v : Cell) (cs : Carry Cell) → carried_at f s cs ≡ None → with_cell f s v cs ≡ cs
with-absent f s v [] e = refl
with-absent f s v (x ∷ cs) e = choose (is_same_place x.frame x.slot f s) (with-absent f s v cs) e
  where
    choose : (b : Bool) → (carried_at f s cs ≡ None → with_cell f s v cs ≡ cs)
        → if_true b (λ _. Some x.cell) (λ _. carried_at f s cs) ≡ None →
        if_true b (λ _. record x { cell = v } ∷ cs) (λ _. x ∷ with_cell f s v cs) ≡ x ∷ cs
    choose true ih h = absurd (cc)
    choose false ih h = ap (λ rest. x ∷ rest) (ih h)
