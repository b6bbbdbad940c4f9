-- Lemmas on lists of changes: two that name the same places give a carry the same.
use Rattle.std.proofs.Common.{Result, Ok, Err, ◌≡◌, ℕ, ◌≤◌, ◌<◌, Bool, true, false, not, ◌&&◌, cond, List, [], ◌∷◌, ◌++◌, length, get_or}
use Rattle.std.proofs.Common.{suc, zero, inl, inr, refl, sym, ap, ◌∙◌, arith}
use Rattle.std.specs.Prelude.{IfOk, ◌⊎◌, ◌||◌, nat_lt, nat_eq, Option, Some, None, IsSome, if◌then◌else◌}
use Rattle.std.specs.BTreeMap.{is_at}
use Rattle.std.specs.Map.{lookup}
use Rattle.std.specs.Ordering.{nat_cmp, is_eq}
use Rattle.std.specs.declared.cmp.Ordering.TheVariants.{Less, Equal, Greater}
use Rattle.std.proofs.lemmas.Bool.{and_parts, ltb-true, eqb-true, false≢true}
use Rattle.std.proofs.lemmas.Bool.Decides.{nat_tests}
use Rattle.alma_base.specs.Carry.{Change, Carry, is_same_place, carried_at, with_change, with_changes}
use Rattle.alma_base.specs.Choice.{if_true}
use Rattle.alma_code.specs.declared.cell.Cell.{Cell}
use Rattle.alma_code.specs.declared.cell.Cell.TheVariants.{Unknown}
use Rattle.alma_code.specs.Picture.{PlainFrame, no_frame, cell_at}
use Rattle.alma_code.specs.Carries.{number_at, same_cell, differs, diff_at, slot_diffs, frame_diffs, diffs}
use Rattle.alma_code.proofs.Cells.{same_itself}
use Rattle.alma_memory_store.specs.Frames.{AreWhole}
use Rattle.alma_memory_store.specs.Numbers.{number_of}
use Rattle.alma_memory_store.specs.Past.{change_between, has_place, AllChanged, Gains, IsNone, SameGain}
use Rattle.alma_memory_store.proofs.Carrying.{same-place-is}
use Rattle.alma_memory_store.proofs.Rising.{same-itself, carried-with, rising-all, same-carry}
use Rattle.alma_memory_store.proofs.Stores.{number-cell, number-frame}

-- ---- the change at a place

-- the change at a place, if it changed to something
abbrev pub change_at : (frame slot : ℕ) → Option Cell → List (Change Cell)
change_at frame slot None = []
change_at frame slot (Some c) = (record { frame = frame; slot = slot; cell = c }) ∷ []

-- the change at a place, by its tests
diff-by : (p q r : Bool) (f s : ℕ) (a b : Cell) → same_cell a b ≡ r →
    (if p && (q && not r) then (record { frame = f; slot = s; cell = b }) ∷ [] else [])
    ≡ change_at f s (change_between (if p then Some a else None) (if q then Some b else None))
diff-by false q r f s a b e = refl
diff-by true false r f s a b e = refl
diff-by true true true f s a b e = rw e refl
diff-by true true false f s a b e = rw e refl

-- the change at a place is what its number slot changed to
pub diff-changed : (before now : List PlainFrame) (f s : ℕ)
    → diff_at before now f s ≡ change_at f s (change_between (number_of before f s) (number_of now f s))
diff-changed before now f s =
    diff-by (number_at before f s) (number_at now f s) (same_cell (cell_at before f s Unknown) (cell_at now f s Unknown)) f s
    (cell_at before f s Unknown) (cell_at now f s Unknown) refl

-- a key that a query meets is the number that it asks for
at-by : (less same : Bool) → is_eq (cond less Less (cond same Equal Greater)) ≡ true → same ≡ true
at-by true same e = absurd (false≢true e)
at-by false true e = refl
at-by false false e = absurd (false≢true e)

at-key : (k e : ℕ) → is_at (nat_cmp k) e ≡ true → e ≡ k
at-key k e h = sym (eqb-true k e (at-by (nat_lt k e) (nat_eq k e) h))

-- ---- tests

-- one of two tests holds
or-cases : (a b : Bool) → a || b ≡ true → (a ≡ true) ⊎ (b ≡ true)
or-cases true b e = inl refl
or-cases false b e = inr e

-- the first test holds
or-first : (a b : Bool) → a ≡ true → a || b ≡ true
or-first true b e = refl
or-first false b e = absurd (cc)

-- the second test holds
or-second : (a b : Bool) → b ≡ true → a || b ≡ true
or-second true b e = refl
or-second false b e = e

-- two tests that follow from one another are one
both-ways : (a b : Bool) → (a ≡ true → b ≡ true) → (b ≡ true → a ≡ true) → a ≡ b
both-ways true b h k = sym (h refl)
both-ways false true h k = k refl
both-ways false false h k = refl

-- a number below the next of another
below-suc : (s k : ℕ) → s < suc k → (s < k) ⊎ (s ≡ k)
below-suc s k l = choose (nat_lt s k) refl
  where
    choose : (b : Bool) → nat_lt s k ≡ b → (s < k) ⊎ (s ≡ k)
    choose true e = inl (ltb-true s k e)
    choose false e = inr (grind (arith, nat_tests))

-- ---- places of changes

-- a change of the first list
pub has-left : (f s : ℕ) (xs ys : List (Change Cell)) → has_place f s xs ≡ true → has_place f s (xs ++ ys) ≡ true
has-left f s [] ys h = absurd (cc)
has-left f s (x ∷ xs) ys h =
    elim (or-cases (is_same_place x.frame x.slot f s) (has_place f s xs) h) [
      | inl a ↦ or-first (is_same_place x.frame x.slot f s) (has_place f s (xs ++ ys)) a
      | inr b ↦ or-second (is_same_place x.frame x.slot f s) (has_place f s (xs ++ ys)) (has-left f s xs ys b)
    ]

-- a change of the second list
pub has-right : (f s : ℕ) (xs ys : List (Change Cell)) → has_place f s ys ≡ true → has_place f s (xs ++ ys) ≡ true
has-right f s [] ys h = h
has-right f s (x ∷ xs) ys h = or-second (is_same_place x.frame x.slot f s) (has_place f s (xs ++ ys)) (has-right f s xs ys h)

-- ---- each change is one

module _ (before now : List PlainFrame) where
  -- two lists of changes
  pub all-append : (xs ys : List (Change Cell)) → AllChanged before now xs → AllChanged before now ys → AllChanged before now (xs ++ ys)
  all-append [] ys h k = k
  all-append (x ∷ xs) ys h k = (h.0, all-append xs ys h.1 k)

  -- the change at a place
  pub all-diff : (f s : ℕ) → AllChanged before now (diff_at before now f s)
  all-diff f s = choose (differs before now f s) refl
    where
      choose : (b : Bool) → differs before now f s ≡ b →
          AllChanged before now (if b then (record { frame = f; slot = s; cell = cell_at now f s Unknown }) ∷ [] else [])
      choose true e = ((e, refl), tt)
      choose false e = tt

  -- the changes in some slots
  pub all-slots : (f n : ℕ) → AllChanged before now (slot_diffs before now f n)
  all-slots f zero = tt
  all-slots f (suc n) = all-append (slot_diffs before now f n) (diff_at before now f n) (all-slots f n) (all-diff f n)

  -- the changes in some frames
  pub all-frames : (n : ℕ) → AllChanged before now (frame_diffs before now n)
  all-frames zero = tt
  all-frames (suc n) = all-append (frame_diffs before now n) (slot_diffs before now n (length (get_or now n no_frame).cells))
      (all-frames n) (all-slots n (length (get_or now n no_frame).cells))

  -- a place of such a change differs
  sound : (f s : ℕ) (xs : List (Change Cell)) → AllChanged before now xs → has_place f s xs ≡ true → differs before now f s ≡ true
  sound f s [] h e = absurd (cc)
  sound f s (x ∷ xs) h e =
      elim (or-cases (is_same_place x.frame x.slot f s) (has_place f s xs) e) [
        | inl a ↦ (let one = same-place-is x.frame x.slot f s a in
            ap (λ g. differs before now g s) (sym one.0) ∙ (ap (λ t. differs before now x.frame t) (sym one.1) ∙ h.0.0))
        | inr b ↦ sound f s xs h.1 b
      ]

  -- ---- each place that differs is changed

  -- a place that differs has a change
  pub has-diff : (f s : ℕ) → differs before now f s ≡ true → has_place f s (diff_at before now f s) ≡ true
  has-diff f s d =
      let one : diff_at before now f s ≡ (record { frame = f; slot = s; cell = cell_at now f s Unknown }) ∷ [] = rw d refl in
      ap (has_place f s) one ∙ or-first (is_same_place f s f s) false (same-itself f s)

  -- a slot that differs is among the changes of its frame
  pub has-slots : (f s n : ℕ) → differs before now f s ≡ true → s < n → has_place f s (slot_diffs before now f n) ≡ true
  has-slots f s zero d l = absurd (omega arith)
  has-slots f s (suc n) d l =
      elim (below-suc s n l) [
        | inl lt ↦ has-left f s (slot_diffs before now f n) (diff_at before now f n) (has-slots f s n d lt)
        | inr e ↦ has-right f s (slot_diffs before now f n) (diff_at before now f n)
            (ap (λ t. has_place f s (diff_at before now f t)) (sym e) ∙ has-diff f s d)
      ]

  -- a place that differs is among the changes of the frames
  pub has-frames : (f s n : ℕ) → differs before now f s ≡ true → f < n → s < length (get_or now f no_frame).cells
      → has_place f s (frame_diffs before now n) ≡ true
  has-frames f s zero d l w = absurd (omega arith)
  has-frames f s (suc n) d l w =
      elim (below-suc f n l) [
        | inl lt ↦ has-left f s (frame_diffs before now n) (slot_diffs before now n (length (get_or now n no_frame).cells))
            (has-frames f s n d lt w)
        | inr e ↦ has-right f s (frame_diffs before now n) (slot_diffs before now n (length (get_or now n no_frame).cells))
            (ap (λ g. has_place f s (slot_diffs before now g (length (get_or now g no_frame).cells))) (sym e)
            ∙ has-slots f s (length (get_or now f no_frame).cells) d w)
      ]

  -- ---- what a carry gains

  -- a place that is changed first or later
  pick : (q h : Bool) (v w r : Option Cell) → (q ≡ true → w ≡ v) →
      if_true h (λ _. v) (λ _. if_true q (λ _. w) (λ _. r)) ≡ if_true (q || h) (λ _. v) (λ _. r)
  pick true true v w r e = refl
  pick true false v w r e = e refl
  pick false true v w r e = refl
  pick false false v w r e = refl

  -- the cell of now at the place of a change
  cell-same : (f s : ℕ) (x : Change Cell) → x.cell ≡ cell_at now x.frame x.slot Unknown → is_same_place x.frame x.slot f s ≡ true
      → Some x.cell ≡ Some (cell_at now f s Unknown)
  cell-same f s x e q =
      let one = same-place-is x.frame x.slot f s q in
      ap Some (e ∙ (ap (λ g. cell_at now g x.slot Unknown) one.0 ∙ ap (λ t. cell_at now f t Unknown) one.1))

  -- a place of the changes has its cell of now, and any other what it had
  carried-changes : (f s : ℕ) (xs : List (Change Cell)) (cs : Carry Cell) → AllChanged before now xs →
      carried_at f s (with_changes xs cs) ≡ if_true (has_place f s xs) (λ _. Some (cell_at now f s Unknown)) (λ _. carried_at f s cs)
  carried-changes f s [] cs h = refl
  carried-changes f s (x ∷ xs) cs h =
      carried-changes f s xs (with_change x cs) h.1
      ∙ (ap (λ o. if_true (has_place f s xs) (λ _. Some (cell_at now f s Unknown)) (λ _. o)) (carried-with f s x cs)
      ∙ pick (is_same_place x.frame x.slot f s) (has_place f s xs) (Some (cell_at now f s Unknown)) (Some x.cell) (carried_at f s cs)
      (cell-same f s x h.0.1))

  -- two lists of changes of which each names all places that differ give the same
  pub same-gain : (xs ys : List (Change Cell)) → AllChanged before now xs → AllChanged before now ys →
      ((f s : ℕ) → differs before now f s ≡ true → has_place f s xs ≡ true)
      → ((f s : ℕ) → differs before now f s ≡ true → has_place f s ys ≡ true) → SameGain xs ys
  same-gain xs ys h k cx cy = λ cs r.
      same-carry (with_changes xs cs) (with_changes ys cs) (rising-all xs cs r) (rising-all ys cs r)
      (λ f s. carried-changes f s xs cs h
      ∙ (ap (λ b. if_true b (λ _. Some (cell_at now f s Unknown)) (λ _. carried_at f s cs))
      (both-ways (has_place f s xs) (has_place f s ys) (λ e. cy f s (sound f s xs h e)) (λ e. cx f s (sound f s ys k e)))
      ∙ sym (carried-changes f s ys cs k)))

-- ---- the places that are looked at

-- a place that differs is a live number slot in both
pub parts : (before now : List PlainFrame) (f s : ℕ) → differs before now f s ≡ true → (number_at before f s ≡ true)
    × (number_at now f s ≡ true)
parts before now f s d =
    let one = and_parts (number_at before f s) _ d in
    let two = and_parts (number_at now f s) _ one.1 in
    (one.0, two.0)

-- a number slot that is as before did not change
same-number : (o : Option Cell) → change_between o o ≡ None
same-number None = refl
same-number (Some c) = rw (same_itself c) refl

-- a place that differs is not as before
pub not-same : (before now : List PlainFrame) (f s : ℕ) → differs before now f s ≡ true → number_of before f s ≡ number_of now f s → ⊥
not-same before now f s d e =
    let none : diff_at before now f s ≡ [] = diff-changed before now f s
    ∙ ap (change_at f s) (ap (λ o. change_between o (number_of now f s)) e ∙ same-number (number_of now f s)) in
    let no : true ≡ false = sym (has-diff before now f s d) ∙ ap (has_place f s) none in
    absurd (cc)

-- what is found gives a carry all changes
pub found-gain : (before now : List PlainFrame) (found : List (Change Cell)) → AreWhole now → AllChanged before now found →
    ((f s : ℕ) → differs before now f s ≡ true → has_place f s found ≡ true) → SameGain found (diffs before now)
found-gain before now found w all cover =
    same-gain before now found (diffs before now) all (all-frames before now (length now)) cover
    (λ f s d. has-frames before now f s (length now) d (number-frame now f s (parts before now f s d).1)
    (number-cell now f s w (parts before now f s d).1))

-- ---- one more step

-- the change at a place
pub gains-diff : (before now : List PlainFrame) (named : ℕ → ℕ → Type 0) (f s : ℕ) (old new : List (Change Cell))
    → new ≡ old ++ diff_at before now f s →
    ((g t : ℕ) → named g t → (g ≡ f) × (t ≡ s)) → Gains before now named IsNone old new
gains-diff before now named f s old new e one = record {
  changed = λ h. rw e (all-append before now old (diff_at before now f s) h (all-diff before now f s));
  kept = λ g t h. rw e (has-left g t old (diff_at before now f s) h);
  all = λ g t h d. (let o = one g t h in
      inr (rw e (has-right g t old (diff_at before now f s)
      (ap (λ k. has_place g t (diff_at before now k s)) (sym o.0)
      ∙ (ap (λ k. has_place g t (diff_at before now g k)) (sym o.1) ∙ has-diff before now g t d)))));
}

-- the changes in a frame
pub gains-frame : (before now : List PlainFrame) (f n : ℕ) (old new : List (Change Cell)) → new ≡ old ++ slot_diffs before now f n
    → AreWhole now → length (get_or now f no_frame).cells ≤ n →
    Gains before now (λ g t. g ≡ f) IsNone old new
gains-frame before now f n old new e w l = record {
  changed = λ h. rw e (all-append before now old (slot_diffs before now f n) h (all-slots before now f n));
  kept = λ g t h. rw e (has-left g t old (slot_diffs before now f n) h);
  all = λ g t h d. (
      let d' : differs before now f t ≡ true = ap (λ k. differs before now k t) (sym h) ∙ d in
      let lt = number-cell now f t w (parts before now f t d').1 in
      let has : has_place f t (slot_diffs before now f n) ≡ true = has-slots before now f t n d' (omega (arith, lt, l)) in
      inr (rw e (has-right g t old (slot_diffs before now f n) (ap (λ k. has_place k t (slot_diffs before now f n)) h ∙ has))));
}

-- nothing, where nothing is named
pub gains-none : (before now : List PlainFrame) (named : ℕ → ℕ → Type 0) (old : List (Change Cell))
    → ((f s : ℕ) → named f s → differs before now f s ≡ true → ⊥) → Gains before now named IsNone old old
gains-none before now named old never = record { changed = λ h. h; kept = λ f s h. h; all = λ f s h d. absurd (never f s h d) }

-- nothing yet
pub gains-start : (before now : List PlainFrame) (named : ℕ → ℕ → Type 0) (old : List (Change Cell)) → Gains before now named named old old
gains-start before now named old = record { changed = λ h. h; kept = λ f s h. h; all = λ f s h d. inl h }

-- one more of what was left
pub gains-step : (before now : List PlainFrame) (named left here rest : ℕ → ℕ → Type 0) (old new more : List (Change Cell))
    → Gains before now named left old new → Gains before now here IsNone new more →
    ((f s : ℕ) → left f s → here f s ⊎ rest f s) → Gains before now named rest old more
gains-step before now named left here rest old new more g h split = record {
  changed = λ x. h.changed (g.changed x);
  kept = λ f s x. h.kept f s (g.kept f s x);
  all = λ f s x d. by_left f s d (g.all f s x d);
}
  where
    by_split : (f s : ℕ) → differs before now f s ≡ true → here f s ⊎ rest f s → rest f s ⊎ (has_place f s more ≡ true)
    by_split f s d (inr r) = inl r
    by_split f s d (inl x) = elim (h.all f s x d) [
      | inl x ↦ absurd x
      | inr e ↦ inr e
    ]

    by_left : (f s : ℕ) → differs before now f s ≡ true → left f s ⊎ (has_place f s new ≡ true) → rest f s ⊎ (has_place f s more ≡ true)
    by_left f s d (inr e) = inr (h.kept f s e)
    by_left f s d (inl l) = by_split f s d (split f s l)

-- nothing is left
pub gains-end : (before now : List PlainFrame) (named left : ℕ → ℕ → Type 0) (old new : List (Change Cell))
    → Gains before now named left old new → ((f s : ℕ) → left f s → ⊥) → Gains before now named IsNone old new
gains-end before now named left old new g never = record {
  changed = g.changed;
  kept = g.kept;
  all = λ f s x d. elim (g.all f s x d) [
    | inl l ↦ absurd (never f s l)
    | inr e ↦ inr e
  ];
}

-- ---- keys

-- a key is the first or one of the rest
pub key-split : {X : Type 0} (k : ℕ) (e : ℕ × X) (es : List (ℕ × X)) → IsSome (lookup (is_at (nat_cmp k)) (e ∷ es)) → (e.0 ≡ k)
    ⊎ IsSome (lookup (is_at (nat_cmp k)) es)
key-split {X} k e es h = choose (is_at (nat_cmp k) e.0) refl h
  where
    choose : (b : Bool) → is_at (nat_cmp k) e.0 ≡ b → IsSome (cond b (Some e.1) (lookup (is_at (nat_cmp k)) es)) → (e.0 ≡ k)
        ⊎ IsSome (lookup (is_at (nat_cmp k)) es)
    choose true q s = inl (at-key k e.0 q)
    choose false q s = inr s

-- two steps from nothing, of which one or the other finds each place that differs
pub gained-all : (before now : List PlainFrame) (kept replaced : ℕ → ℕ → Type 0) (start middle found : List (Change Cell)) → start ≡ []
    → Gains before now kept IsNone start middle →
    Gains before now replaced IsNone middle found → ((f s : ℕ) → differs before now f s ≡ true → replaced f s ⊎ kept f s) →
    AllChanged before now found × ((f s : ℕ) → differs before now f s ≡ true → has_place f s found ≡ true)
gained-all before now kept replaced start middle found e g h cover =
    (h.changed (g.changed (rw e tt)), λ f s d. by_place f s d (cover f s d))
  where
    by_place : (f s : ℕ) → differs before now f s ≡ true → replaced f s ⊎ kept f s → has_place f s found ≡ true
    by_place f s d (inl r) = elim (h.all f s r d) [
      | inl x ↦ absurd x
      | inr y ↦ y
    ]
    by_place f s d (inr k) = elim (g.all f s k d) [
      | inl x ↦ absurd x
      | inr y ↦ h.kept f s y
    ]

pub if-ok : {V E : Type 0} (r : Result V E) (P Q : V → Type 0) → ((v : V) → P v → Q v) → IfOk r P → IfOk r Q
if-ok (Ok v) P Q f h = f v h
if-ok (Err e) P Q f h = h
