-- Which slots of the live frames need no note.
use Rattle.std.proofs.Common.{Result, Ok, Err, ◌≡◌, ◌⊎◌, inl, inr, ℕ, ◌≤◌, ◌<◌, ◌+◌, Bool, true, false, List, [], ◌∷◌, ◌++◌, length, take}
use Rattle.std.proofs.Common.{drop, get_or, suc, zero, refl, sym, ap, ◌∙◌, arith}
use Rattle.std.specs.Prelude.{OnOk}
use Rattle.std.proofs.lemmas.List.{length-map, get_or-map, get_or-take, get_or-drop, get_or_past, length_push, get_or_append_left}
use Rattle.std.proofs.lemmas.Bool.{cases_lt, false≢true}
use Rattle.alma_memory_store.specs.declared.store.Region.{Region}
use Rattle.alma_memory_store.specs.Regions.{no_region, AreLaid, end_of}
use Rattle.alma_memory_store.specs.PlainStore.{flags_of, IsNoted}
use Rattle.alma_memory_store.proofs.Frames.{laid-at, laid-end}

few : (n : ℕ) (xs : List Bool) → length (take n xs) ≤ n
few zero xs = omega arith
few (suc n) [] = omega arith
few (suc n) (x ∷ xs) = omega (arith, few n xs)

-- the flag of a slot of a region
pub flag-there : (flags : List Bool) (rs : List Region) (f s : ℕ) (r : Region) → f < length rs → get_or rs f no_region ≡ r → s < r.slots →
    get_or (get_or (flags_of flags rs) f []) s false ≡ get_or flags (r.base + s) false
flag-there flags rs f s r l e k =
    ap (λ bs. get_or bs s false) (get_or-map (λ (q : Region). take q.slots (drop q.base flags)) rs f no_region [] l
    ∙ ap (λ (q : Region). take q.slots (drop q.base flags)) e)
    ∙ (get_or-take r.slots (drop r.base flags) s false k ∙ get_or-drop r.base flags s false)

-- a slot that needs no note is there
pub flag-live : (flags : List Bool) (rs : List Region) (f s : ℕ) → IsNoted (flags_of flags rs) f s → (f < length rs)
    × (s < (get_or rs f no_region).slots)
flag-live flags rs f s h = by_frame (cases_lt f (length rs)) (cases_lt s (get_or rs f no_region).slots)
  where
    by_frame : (f < length rs) ⊎ (length rs ≤ f) → (s < (get_or rs f no_region).slots) ⊎ ((get_or rs f no_region).slots ≤ s)
        → (f < length rs) × (s < (get_or rs f no_region).slots)
    by_frame (inl l) (inl k) = (l, k)
    by_frame (inl l) (inr g) =
        let one : get_or (flags_of flags rs) f [] ≡ take (get_or rs f no_region).slots (drop (get_or rs f no_region).base flags) =
        get_or-map (λ (q : Region). take q.slots (drop q.base flags)) rs f no_region [] l in
        let past : length (take (get_or rs f no_region).slots (drop (get_or rs f no_region).base flags)) ≤ s =
        omega (arith, few (get_or rs f no_region).slots (drop (get_or rs f no_region).base flags), g) in
        absurd (false≢true (sym
        (ap (λ bs. get_or bs s false) one ∙ get_or_past (take (get_or rs f no_region).slots (drop (get_or rs f no_region).base flags)) s
        false past) ∙ h))
    by_frame (inr g) _ =
        let past : length (flags_of flags rs) ≤ f = rw (length-map rs (λ (q : Region). take q.slots (drop q.base flags))) g in
        absurd (false≢true (sym (ap (λ bs. get_or bs s false) (get_or_past (flags_of flags rs) f [] past)) ∙ h))

-- more flags
pub flags-kept : (flags flags' : List Bool) (rs : List Region) → ((p : ℕ) → get_or flags p false ≡ true → get_or flags' p false ≡ true)
    → (f s : ℕ) → IsNoted (flags_of flags rs) f s → IsNoted (flags_of flags' rs) f s
flags-kept flags flags' rs kept f s h =
    let live = flag-live flags rs f s h in
    flag-there flags' rs f s (get_or rs f no_region) live.0 refl live.1
    ∙ kept ((get_or rs f no_region).base + s) (sym (flag-there flags rs f s (get_or rs f no_region) live.0 refl live.1) ∙ h)

pub on-ok : {V E : Type 0} (r : Result V E) (P Q : Type 0) → (P → Q) → OnOk r P → OnOk r Q
on-ok (Ok v) P Q f h = f h
on-ok (Err e) P Q f h = h

-- ---- a frame that is entered

pub enter-kept : (flags flags' : List Bool) (rs : List Region) (r : Region) (base top : ℕ) → AreLaid 0 rs top → end_of 0 rs ≤ base →
    ((p : ℕ) → get_or (take base flags) p false ≡ true → get_or flags' p false ≡ true) → (f s : ℕ) → IsNoted (flags_of flags rs) f s
    → IsNoted (flags_of flags' (rs ++ r ∷ [])) f s
enter-kept flags flags' rs r base top laid low kept f s h =
    let live = flag-live flags rs f s h in
    let own : Region = get_or rs f no_region in
    let ends = laid-at 0 rs (end_of 0 rs) f (laid-end 0 rs top laid).0 live.0 in
    let below : own.base + s < base = omega (arith, ends.1, live.1, low) in
    let more : f < length (rs ++ r ∷ []) = rw (length_push rs r) (omega (arith, live.0)) in
    let was : get_or (take base flags) (own.base + s) false ≡ true =
    get_or-take base flags (own.base + s) false below ∙ (sym (flag-there flags rs f s own live.0 refl live.1) ∙ h) in
    flag-there flags' (rs ++ r ∷ []) f s own more (get_or_append_left rs (r ∷ []) no_region f live.0) live.1 ∙ kept (own.base + s) was

-- the flags of the frames below, where those above change
pub low-kept : (flags flags' : List Bool) (rs : List Region) (base top : ℕ) → AreLaid 0 rs top → end_of 0 rs ≤ base →
    ((p : ℕ) → get_or (take base flags) p false ≡ true → get_or flags' p false ≡ true) → (f s : ℕ) → IsNoted (flags_of flags rs) f s
    → IsNoted (flags_of flags' rs) f s
low-kept flags flags' rs base top laid low kept f s h =
    let live = flag-live flags rs f s h in
    let own : Region = get_or rs f no_region in
    let ends = laid-at 0 rs (end_of 0 rs) f (laid-end 0 rs top laid).0 live.0 in
    let below : own.base + s < base = omega (arith, ends.1, live.1, low) in
    let was : get_or (take base flags) (own.base + s) false ≡ true =
    get_or-take base flags (own.base + s) false below ∙ (sym (flag-there flags rs f s own live.0 refl live.1) ∙ h) in
    flag-there flags' rs f s own live.0 refl live.1 ∙ kept (own.base + s) was
