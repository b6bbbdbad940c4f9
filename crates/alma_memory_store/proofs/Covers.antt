-- Each slot that differs stands where something was written, or in a frame whose region was replaced.
use Rattle.std.proofs.Common.{◌≡◌, ◌⊎◌, inl, inr, ℕ, ◌≤◌, ◌<◌, ◌+◌, ◌-◌, ◌/◌, Bool, true, false, List, [], ◌∷◌, length, take, get_or, suc}
use Rattle.std.proofs.Common.{zero, refl, sym, ap, subst, ◌∙◌, arith}
use Rattle.std.specs.Prelude.{Option, Some, None, IsSome, slice_get, if◌then◌else◌}
use Rattle.std.specs.BTreeMap.{get}
use Rattle.std.specs.Map.{lookup}
use Rattle.std.specs.BTreeMap.{is_at}
use Rattle.std.specs.Ordering.{nat_cmp}
use Rattle.std.proofs.lemmas.Bool.{cases_lt, false≢true}
use Rattle.std.proofs.lemmas.List.{length-take-le, get_or-take}
use Rattle.alma_code.specs.declared.cell.Cell.{Cell}
use Rattle.alma_code.specs.Kinds.{is_number}
use Rattle.alma_code.specs.Picture.{PlainFrame, no_frame}
use Rattle.alma_code.specs.Carries.{number_at, differs}
use Rattle.alma_memory_rewind.specs.PlainRewind.{top_copy, needed, first_or}
use Rattle.alma_memory_store.specs.declared.past.Past.TheInside.{Inside}
use Rattle.alma_memory_store.specs.declared.store.Region.{Region}
use Rattle.alma_memory_store.specs.declared.store.Slot.{Slot}
use Rattle.alma_memory_store.specs.Numbers.{number_of}
use Rattle.alma_memory_store.specs.Past.{IsPast, IsAt, IsKept, IsReplaced}
use Rattle.alma_memory_store.specs.Regions.{frames_of, no_region, AreLaid, slot_number}
use Rattle.alma_memory_store.proofs.Frames.{laid-at}
use Rattle.alma_memory_store.proofs.Finds.{number-live, number-past, live-length, region-at}
use Rattle.alma_memory_store.proofs.Stores.{number-frame}
use Rattle.alma_memory_store.proofs.Gains.{parts, not-same, key-split}

-- ---- the order of regions

-- a region ends at or below the base of a later one
pub laid-order : (low : ℕ) (rs : List Region) (top f g : ℕ) → AreLaid low rs top → f < g → g < length rs →
    (get_or rs f no_region).base + (get_or rs f no_region).slots ≤ (get_or rs g no_region).base
laid-order low [] top f g h l k = absurd (omega (arith, k))
laid-order low (r ∷ rs) top f zero h l k = absurd (omega (arith, l))
laid-order low (r ∷ rs) top zero (suc g) h l k = (laid-at (r.base + r.slots) rs top g h.1 (omega (arith, k))).0
laid-order low (r ∷ rs) top (suc f) (suc g) h l k = laid-order (r.base + r.slots) rs top f g h.1 (omega (arith, l)) (omega (arith, k))

-- the region that holds a place lies from the middle on, where that begins at or below the place
pub above-middle : (rs : List Region) (top at f s middle : ℕ) → AreLaid 0 rs top → middle < length rs
    → (get_or rs middle no_region).base ≤ at → IsAt rs at f s → middle ≤ f
above-middle rs top at f s middle h k l a = by_case (cases_lt f middle)
  where
    by_case : (f < middle) ⊎ (middle ≤ f) → middle ≤ f
    by_case (inr g) = g
    by_case (inl lt) = let o = laid-order 0 rs top f middle h lt k in absurd (omega (arith, o, l, a.own, a.there))

-- and below the middle, where that begins above the place
pub below-middle : (rs : List Region) (top at f s middle : ℕ) → AreLaid 0 rs top → at < (get_or rs middle no_region).base → IsAt rs at f s
    → f < middle
below-middle rs top at f s middle h l a = by_case (cases_lt f middle)
  where
    same : middle ≤ f → (middle ≡ f) ⊎ (middle < f)
    same g = choose (cases_lt middle f)
      where
        choose : (middle < f) ⊎ (f ≤ middle) → (middle ≡ f) ⊎ (middle < f)
        choose (inl lt) = inr lt
        choose (inr le) = inl (omega (arith, g, le))

    far : (middle ≡ f) ⊎ (middle < f) → ⊥
    far (inl e) =
        let b : (get_or rs middle no_region).base ≡ (get_or rs f no_region).base = ap (λ k. (get_or rs k no_region).base) e in
        omega (arith, b, l, a.there)
    far (inr lt) =
        let o = laid-order 0 rs top middle f h lt a.live in
        omega (arith, o, l, a.there)

    by_case : (f < middle) ⊎ (middle ≤ f) → f < middle
    by_case (inl lt) = lt
    by_case (inr g) = absurd (far (same g))

-- ---- places that were not written

first-none : {X : Type 0} (o other : Option X) → (IsSome o → ⊥) → first_or o other ≡ other
first-none None other h = refl
first-none (Some x) other h = absurd (h refl)

there-from : {X : Type 0} (xs : List X) (i : ℕ) (d : X) → i < length xs → slice_get xs i ≡ Some (get_or xs i d)
there-from [] i d l = absurd (omega (arith, l))
there-from (x ∷ xs) zero d l = refl
there-from (x ∷ xs) (suc i) d l = there-from xs i d (omega (arith, l))

-- a slot that is in no map is as before
pub unwritten : (p : Inside) (f s : ℕ) → IsPast p → f < p.old_live → f < p.live → s < (get_or p.regions.now.now f no_region).slots →
    (IsSome (get nat_cmp p.old_regions f) → ⊥) → (IsSome (get nat_cmp p.old_slots ((get_or p.regions.now.now f no_region).base + s)) → ⊥) →
    number_of (frames_of (top_copy p.slots.now.held) (take p.old_live (top_copy p.regions.now.held))) f s ≡ number_of
    (frames_of p.slots.now.now (take p.live p.regions.now.now)) f s
unwritten p f s h a b o nr ns =
    let r : Region = get_or p.regions.now.now f no_region in
    let lt : f < length p.regions.now.now = omega (arith, b, h.now.live) in
    let here : slice_get p.regions.now.now f ≡ Some r = there-from p.regions.now.now f no_region lt in
    let low : f < needed p.regions.now.held = omega (arith, a, h.before.live) in
    let was : slice_get (top_copy p.regions.now.held) f ≡ Some r = h.regions.is f low
    ∙ (first-none (get nat_cmp p.old_regions f) (slice_get p.regions.now.now f) nr ∙ here) in
    let at : get_or (take p.old_live (top_copy p.regions.now.held)) f no_region ≡ r =
    region-at (top_copy p.regions.now.held) p.old_live f r a was in
    let w : f < length (take p.old_live (top_copy p.regions.now.held)) =
    rw (length-take-le p.old_live (top_copy p.regions.now.held) h.before.live) a in
    let end = (laid-at 0 (take p.old_live (top_copy p.regions.now.held)) (length (top_copy p.slots.now.held)) f h.before.laid w).1 in
    let end' : r.base + r.slots ≤ needed p.slots.now.held = rw at at end in
    let deep : r.base + s < needed p.slots.now.held = omega (arith, end', o) in
    let slot : slice_get (top_copy p.slots.now.held) (r.base + s) ≡ slice_get p.slots.now.now (r.base + s) =
    h.slots.is (r.base + s) deep ∙ first-none (get nat_cmp p.old_slots (r.base + s)) (slice_get p.slots.now.now (r.base + s)) ns in
    number-live (top_copy p.slots.now.held) (top_copy p.regions.now.held) p.old_live f s r h.before.live a was o
    ∙ (ap slot_number slot ∙ sym (number-live p.slots.now.now p.regions.now.now p.live f s r h.now.live b here o))

-- a number slot of a live frame stands in its region
pub number-own : (cells : List Slot) (regions : List Region) (n f s : ℕ) → n ≤ length regions
    → number_at (frames_of cells (take n regions)) f s ≡ true → (f < n) × (s < (get_or regions f no_region).slots)
number-own cells regions n f s k h = (lt, by_case (cases_lt s (get_or regions f no_region).slots))
  where
    lt : f < n
    lt = let l = number-frame (frames_of cells (take n regions)) f s h in omega (arith, l, live-length cells regions n k)

    by_case : (s < (get_or regions f no_region).slots) ⊎ ((get_or regions f no_region).slots ≤ s) → s < (get_or regions f no_region).slots
    by_case (inl l) = l
    by_case (inr g) =
        let here : slice_get regions f ≡ Some (get_or regions f no_region) = there-from regions f no_region (omega (arith, lt, k)) in
        let none : number_of (frames_of cells (take n regions)) f s ≡ None =
        number-past cells regions n f s (get_or regions f no_region) k lt here g in
        absurd (not-there (is_number (slice_get (get_or (frames_of cells (take n regions)) f no_frame).kinds s)) _ h none)
      where
        not-there : (b : Bool) (c : Cell) → b ≡ true → (if b then Some c else None) ≡ None → ⊥
        not-there true c e q = absurd (cc)
        not-there false c e q = absurd (cc)

-- each place that differs is in one of the maps
pub covers : (p : Inside) (f s : ℕ) → IsPast p →
    differs (frames_of (top_copy p.slots.now.held) (take p.old_live (top_copy p.regions.now.held)))
    (frames_of p.slots.now.now (take p.live p.regions.now.now)) f s ≡ true →
    IsReplaced p.old_regions.entries f s ⊎ IsKept (take p.live p.regions.now.now) p.old_slots.entries f s
covers p f s h d = by_region (some-or (get nat_cmp p.old_regions f))
  where
    before : List PlainFrame
    before = frames_of (top_copy p.slots.now.held) (take p.old_live (top_copy p.regions.now.held))

    now : List PlainFrame
    now = frames_of p.slots.now.now (take p.live p.regions.now.now)

    some-or : {X : Type 0} (o : Option X) → IsSome o ⊎ (IsSome o → ⊥)
    some-or None = inr (λ x. false≢true x)
    some-or (Some x) = inl refl

    old : f < p.old_live
    old = (number-own (top_copy p.slots.now.held) (top_copy p.regions.now.held) p.old_live f s h.before.live (parts before now f s d).0).0

    own : (f < p.live) × (s < (get_or p.regions.now.now f no_region).slots)
    own = number-own p.slots.now.now p.regions.now.now p.live f s h.now.live (parts before now f s d).1

    by_slot : (IsSome (get nat_cmp p.old_regions f) → ⊥)
        → IsSome (get nat_cmp p.old_slots ((get_or p.regions.now.now f no_region).base + s))
        ⊎ (IsSome (get nat_cmp p.old_slots ((get_or p.regions.now.now f no_region).base + s)) → ⊥) →
        IsReplaced p.old_regions.entries f s ⊎ IsKept (take p.live p.regions.now.now) p.old_slots.entries f s
    by_slot nr (inl y) =
        let at : get_or (take p.live p.regions.now.now) f no_region ≡ get_or p.regions.now.now f no_region =
        get_or-take p.live p.regions.now.now f no_region own.0 in
        inr (record { live = rw (length-take-le p.live p.regions.now.now h.now.live) own.0; own = rw at own.1; there = rw at y })
    by_slot nr (inr ns) = absurd (not-same before now f s d (unwritten p f s h old own.0 own.1 nr ns))

    by_region : IsSome (get nat_cmp p.old_regions f) ⊎ (IsSome (get nat_cmp p.old_regions f) → ⊥) → IsReplaced p.old_regions.entries f s
        ⊎ IsKept (take p.live p.regions.now.now) p.old_slots.entries f s
    by_region (inl y) = inl y
    by_region (inr nr) = by_slot nr (some-or (get nat_cmp p.old_slots ((get_or p.regions.now.now f no_region).base + s)))

-- ---- what is left of the keys

pub kept-split : (regions : List Region) (it : List (ℕ × Slot)) (e : ℕ × Slot) (es : List (ℕ × Slot)) → it ≡ e ∷ es → (f s : ℕ)
    → IsKept regions it f s → IsAt regions e.0 f s ⊎ IsKept regions es f s
kept-split regions it e es q f s k = choose (key-split ((get_or regions f no_region).base + s) e es raw)
  where
    raw : IsSome (lookup (is_at (nat_cmp ((get_or regions f no_region).base + s))) (e ∷ es))
    raw = subst (λ xs. IsSome (lookup (is_at (nat_cmp ((get_or regions f no_region).base + s))) xs)) q k.there

    choose : (e.0 ≡ (get_or regions f no_region).base + s) ⊎ IsSome (lookup (is_at (nat_cmp ((get_or regions f no_region).base + s))) es)
        → IsAt regions e.0 f s ⊎ IsKept regions es f s
    choose (inl y) = inl (record { live = k.live; own = k.own; there = sym y })
    choose (inr y) = inr (record { live = k.live; own = k.own; there = y })

pub kept-none : (regions : List Region) (it : List (ℕ × Slot)) → it ≡ [] → (f s : ℕ) → IsKept regions it f s → ⊥
kept-none regions it q f s k = false≢true
    (subst (λ xs. IsSome (lookup (is_at (nat_cmp ((get_or regions f no_region).base + s))) xs)) q k.there)

pub replaced-split : (it : List (ℕ × Region)) (e : ℕ × Region) (es : List (ℕ × Region)) → it ≡ e ∷ es → (f s : ℕ) → IsReplaced it f s
    → (f ≡ e.0) ⊎ IsReplaced es f s
replaced-split it e es q f s k = choose (key-split f e es (subst (λ xs. IsSome (lookup (is_at (nat_cmp f)) xs)) q k))
  where
    choose : (e.0 ≡ f) ⊎ IsSome (lookup (is_at (nat_cmp f)) es) → (f ≡ e.0) ⊎ IsReplaced es f s
    choose (inl y) = inl (sym y)
    choose (inr y) = inr y

pub replaced-none : (it : List (ℕ × Region)) → it ≡ [] → (f s : ℕ) → IsReplaced it f s → ⊥
replaced-none it q f s k = false≢true (subst (λ xs. IsSome (lookup (is_at (nat_cmp f)) xs)) q k)

-- the middle of two places
pub half : (low high : ℕ) → 1 < high - low → (low < low + (high - low) / 2) × (low + (high - low) / 2 < high)
half low high l = (omega arith, omega arith)
