-- Lemmas on stamps: each tells of the latest note of its place.
use Rattle.std.proofs.Common.{◌≡◌, ◌⊎◌, inl, inr, ℕ, suc, zero, ◌≤◌, ◌<◌, ◌+◌, List, [], ◌∷◌, ◌++◌, length, map, get_or, set, replicate}
use Rattle.std.proofs.Common.{refl}
use Rattle.std.proofs.Common.{sym, ap, ◌∙◌, arith}
use Rattle.std.proofs.lemmas.List.{get_or-set_same, get_or-set_other, length_push, get_or_append_left, get_or_push, map-append, length-map}
use Rattle.std.proofs.lemmas.List.{get_or_past, length-set}
use Rattle.std.proofs.lemmas.Bool.{cases_eq, cases_lt}
use Rattle.alma_memory_rewind.specs.declared.rewind.Note.{Note}
use Rattle.alma_memory_rewind.specs.declared.rewind.Mark.{Mark}
use Rattle.alma_memory_rewind.specs.Trail.{at_of, stamp_of, no_mark}
use Rattle.alma_memory_rewind.specs.Sound.{HasNote, IsStamp, AreStamps, AreOld}

pub at-push : {T : Type 0} (trail : List (Note T)) (n : Note T) (p : ℕ) → p < length trail → at_of (trail ++ n ∷ []) p ≡ at_of trail p
at-push trail n p l =
    let w : p < length (map (λ (x : Note _). x.at) trail) = rw (length-map trail (λ (x : Note _). x.at)) l in
    ap (λ ks. get_or ks p 0) (map-append (λ (x : Note _). x.at) trail (n ∷ []))
    ∙ get_or_append_left (map (λ (x : Note _). x.at) trail) (n.at ∷ []) 0 p w

pub at-last : {T : Type 0} (trail : List (Note T)) (n : Note T) → at_of (trail ++ n ∷ []) (length trail) ≡ n.at
at-last trail n =
    ap (λ ks. get_or ks (length trail) 0) (map-append (λ (x : Note _). x.at) trail (n ∷ []))
    ∙ get_or_push (map (λ (x : Note _). x.at) trail) n.at 0 (length trail) (length-map trail (λ (x : Note _). x.at))

pub stamp-push : {T : Type 0} (trail : List (Note T)) (n : Note T) (p : ℕ) → p < length trail
    → stamp_of (trail ++ n ∷ []) p ≡ stamp_of trail p
stamp-push trail n p l =
    let w : p < length (map (λ (x : Note _). x.stamp) trail) = rw (length-map trail (λ (x : Note _). x.stamp)) l in
    ap (λ ks. get_or ks p 0) (map-append (λ (x : Note _). x.stamp) trail (n ∷ []))
    ∙ get_or_append_left (map (λ (x : Note _). x.stamp) trail) (n.stamp ∷ []) 0 p w

pub stamp-last : {T : Type 0} (trail : List (Note T)) (n : Note T) → stamp_of (trail ++ n ∷ []) (length trail) ≡ n.stamp
stamp-last trail n =
    ap (λ ks. get_or ks (length trail) 0) (map-append (λ (x : Note _). x.stamp) trail (n ∷ []))
    ∙ get_or_push (map (λ (x : Note _). x.stamp) trail) n.stamp 0 (length trail) (length-map trail (λ (x : Note _). x.stamp))

-- a stamp 0 is right
pub no-stamp : {T : Type 0} (ms : List Mark) (trail : List (Note T)) (n at : ℕ)
    → ((i : ℕ) → i < length ms → 1 ≤ (get_or ms i no_mark).serial) → IsStamp ms trail n at 0
no-stamp ms trail n at pos = λ i l a b c. (let one : 1 ≤ (get_or ms i no_mark).serial = pos i l in absurd (omega (arith, one, b)))

-- a note is there after another one too
note-more : {T : Type 0} (trail : List (Note T)) (x : Note T) (low n up at : ℕ) → n ≤ length trail → n ≤ up → HasNote trail low n at
    → HasNote (trail ++ x ∷ []) low up at
note-more trail x low n up at l k h =
    let lt : h.place < length trail = omega (arith, h.below, l) in
    record { place = h.place; above = h.above; below = omega (arith, h.below, k); there = at-push trail x h.place lt ∙ h.there }

-- and before it, where it is not the last
note-less : {T : Type 0} (trail : List (Note T)) (x : Note T) (low n at : ℕ) → n ≤ length trail → HasNote (trail ++ x ∷ []) low n at
    → HasNote trail low n at
note-less trail x low n at l h =
    let lt : h.place < length trail = omega (arith, h.below, l) in
    record { place = h.place; above = h.above; below = h.below; there = sym (at-push trail x h.place lt) ∙ h.there }

-- a new note, and any stamp for its place
pub stamps-push : {T : Type 0} (ms : List Mark) (trail : List (Note T)) (n : Note T) (stamps : List ℕ) (serial : ℕ)
    → n.stamp ≡ get_or stamps n.at 0 →
    ((i : ℕ) → i < length ms → (get_or ms i no_mark).mark ≤ length trail) → AreStamps ms trail stamps
    → AreStamps ms (trail ++ n ∷ []) (set stamps n.at serial)
stamps-push {T} ms trail n stamps serial e low s = record {
  now = λ k. now-at k (cases_eq k n.at);
  older = λ p h. older-at p (rw (length_push trail n) at h) (cases_eq p (length trail));
}
  where
    now-at : (k : ℕ) → (k ≡ n.at) ⊎ (k ≡ n.at → ⊥)
        → IsStamp ms (trail ++ n ∷ []) (length (trail ++ n ∷ [])) k (get_or (set stamps n.at serial) k 0)
    now-at k (inl q) = λ i l a b c. record {
      place = length trail;
      above = low i l;
      below = rw (length_push trail n) (omega arith);
      there = at-last trail n ∙ sym q;
    }
    now-at k (inr d) = λ i l a b c. (
        let same : get_or (set stamps n.at serial) k 0 ≡ get_or stamps k 0 = get_or-set_other stamps n.at k serial 0 d in
        note-more trail n (get_or ms i no_mark).mark (length trail) (length (trail ++ n ∷ [])) k (omega arith)
        (rw (length_push trail n) (omega arith)) (s.now k i l (low i l) (rw same at b) c))

    older-at : (p : ℕ) → p < length trail + 1 → (p ≡ length trail) ⊎ (p ≡ length trail → ⊥)
        → IsStamp ms (trail ++ n ∷ []) p (at_of (trail ++ n ∷ []) p) (stamp_of (trail ++ n ∷ []) p)
    older-at p h (inl q) = λ i l a b c. (
        let at : at_of (trail ++ n ∷ []) p ≡ n.at = ap (at_of (trail ++ n ∷ [])) q ∙ at-last trail n in
        let st : stamp_of (trail ++ n ∷ []) p ≡ get_or stamps n.at 0 = ap (stamp_of (trail ++ n ∷ [])) q ∙ (stamp-last trail n ∙ e) in
        let b' : (get_or ms i no_mark).serial ≤ get_or stamps n.at 0 = rw st at b in
        let c' : n.at < (get_or ms i no_mark).top = rw at at c in
        rw at (note-more trail n (get_or ms i no_mark).mark (length trail) p n.at (omega arith) (omega (arith, q))
        (s.now n.at i l (low i l) b' c')))
    older-at p h (inr d) = λ i l a b c. (
        let lt : p < length trail = omega (arith, h, d) in
        let at : at_of (trail ++ n ∷ []) p ≡ at_of trail p = at-push trail n p lt in
        let st : stamp_of (trail ++ n ∷ []) p ≡ stamp_of trail p = stamp-push trail n p lt in
        let b' : (get_or ms i no_mark).serial ≤ stamp_of trail p = rw st at b in
        let c' : at_of trail p < (get_or ms i no_mark).top = rw at at c in
        rw at (note-more trail n (get_or ms i no_mark).mark p p (at_of trail p) (omega (arith, lt)) (omega arith)
        (s.older p lt i l a b' c')))

-- the last note is taken away, and its place gets a stamp that is right below it
pub stamps-pop : {T : Type 0} (ms : List Mark) (trail : List (Note T)) (n : Note T) (stamps : List ℕ) (stamp : ℕ)
    → ((i : ℕ) → i < length ms → 1 ≤ (get_or ms i no_mark).serial) →
    IsStamp ms trail (length trail) n.at stamp → AreStamps ms (trail ++ n ∷ []) stamps → AreStamps ms trail (set stamps n.at stamp)
stamps-pop {T} ms trail n stamps stamp pos st s = record {
  now = λ k. now-at k (cases_eq k n.at) (cases_lt k (length stamps));
  older = λ p h. older-at p h;
}
  where
    older-at : (p : ℕ) → p < length trail → IsStamp ms trail p (at_of trail p) (stamp_of trail p)
    older-at p h = λ i l a b c. (
        let up : p < length (trail ++ n ∷ []) = rw (length_push trail n) (omega (arith, h)) in
        let at : at_of (trail ++ n ∷ []) p ≡ at_of trail p = at-push trail n p h in
        let st : stamp_of (trail ++ n ∷ []) p ≡ stamp_of trail p = stamp-push trail n p h in
        let b' : (get_or ms i no_mark).serial ≤ stamp_of (trail ++ n ∷ []) p = rw st b in
        let c' : at_of (trail ++ n ∷ []) p < (get_or ms i no_mark).top = rw at c in
        let note = s.older p up i l a b' c' in
        note-less trail n (get_or ms i no_mark).mark p (at_of trail p) (omega (arith, h)) (rw at at note))

    other : (k low : ℕ) → (k ≡ n.at → ⊥) → HasNote (trail ++ n ∷ []) low (length (trail ++ n ∷ [])) k → HasNote trail low (length trail) k
    other k low d h = by_place (cases_eq h.place (length trail))
      where
        by_place : (h.place ≡ length trail) ⊎ (h.place ≡ length trail → ⊥) → HasNote trail low (length trail) k
        by_place (inl q) = absurd (d (sym h.there ∙ (ap (at_of (trail ++ n ∷ [])) q ∙ at-last trail n)))
        by_place (inr e) =
            let b : h.place < length trail + 1 = rw (length_push trail n) at h.below in
            let lt : h.place < length trail = omega (arith, b, e) in
            record { place = h.place; above = h.above; below = lt; there = sym (at-push trail n h.place lt) ∙ h.there }

    now-at : (k : ℕ) → (k ≡ n.at) ⊎ (k ≡ n.at → ⊥) → (k < length stamps) ⊎ (length stamps ≤ k)
        → IsStamp ms trail (length trail) k (get_or (set stamps n.at stamp) k 0)
    now-at k (inl q) (inl lt) =
        let is : get_or (set stamps n.at stamp) k 0 ≡ stamp = ap (λ j. get_or (set stamps n.at stamp) j 0) q
        ∙ get_or-set_same stamps n.at stamp 0 (rw q at lt) in
        rw (is, q) st
    now-at k (inl q) (inr ge) =
        let is : get_or (set stamps n.at stamp) k 0 ≡ 0 = get_or_past (set stamps n.at stamp) k 0 (rw (length-set stamps n.at stamp) ge) in
        rw is (no-stamp ms trail (length trail) k pos)
    now-at k (inr d) _ = λ i l a b c. (
        let same : get_or (set stamps n.at stamp) k 0 ≡ get_or stamps k 0 = get_or-set_other stamps n.at k stamp 0 d in
        let up : (get_or ms i no_mark).mark ≤ length (trail ++ n ∷ []) = rw (length_push trail n) (omega (arith, a)) in
        let b' : (get_or ms i no_mark).serial ≤ get_or stamps k 0 = rw same at b in
        other k (get_or ms i no_mark).mark d (s.now k i l up b' c))

-- the stamp of the last note is right below it
pub stamp-before : {T : Type 0} (ms : List Mark) (trail : List (Note T)) (n : Note T) (stamps : List ℕ)
    → AreStamps ms (trail ++ n ∷ []) stamps → IsStamp ms trail (length trail) n.at n.stamp
stamp-before ms trail n stamps s = λ i l a b c. (
    let up : length trail < length (trail ++ n ∷ []) = rw (length_push trail n) (omega arith) in
    let b' : (get_or ms i no_mark).serial ≤ stamp_of (trail ++ n ∷ []) (length trail) = rw (stamp-last trail n) b in
    let c' : at_of (trail ++ n ∷ []) (length trail) < (get_or ms i no_mark).top = rw (at-last trail n) c in
    let note = s.older (length trail) up i l a b' c' in
    note-less trail n (get_or ms i no_mark).mark (length trail) n.at (omega arith) (rw (at-last trail n) at note))

pub zeros : (z n k : ℕ) → get_or (replicate n z) k z ≡ z
zeros z zero zero = refl
zeros z zero (suc k) = refl
zeros z (suc n) zero = refl
zeros z (suc n) (suc k) = zeros z n k

get_or-zeros : (stamps : List ℕ) (n k : ℕ) → get_or (stamps ++ replicate n 0) k 0 ≡ get_or stamps k 0
get_or-zeros [] n zero = zeros 0 n zero
get_or-zeros [] n (suc k) = zeros 0 n (suc k)
get_or-zeros (x ∷ stamps) n zero = refl
get_or-zeros (x ∷ stamps) n (suc k) = get_or-zeros stamps n k

pub stamps-zeros : {T : Type 0} (ms : List Mark) (trail : List (Note T)) (stamps : List ℕ) (n : ℕ) → AreStamps ms trail stamps
    → AreStamps ms trail (stamps ++ replicate n 0)
stamps-zeros ms trail stamps n s = record { now = λ k. rw (get_or-zeros stamps n k) (s.now k); older = s.older }

-- ---- the counter

pub old-push : {T : Type 0} (ms : List Mark) (trail : List (Note T)) (n : Note T) (stamps : List ℕ) (serial counter : ℕ)
    → n.stamp ≡ get_or stamps n.at 0 → serial ≤ counter →
    AreOld ms trail stamps counter → AreOld ms (trail ++ n ∷ []) (set stamps n.at serial) counter
old-push {T} ms trail n stamps serial counter e l o = record {
  now = λ k. now-at k (cases_eq k n.at) (cases_lt k (length stamps));
  older = λ p h. older-at p (rw (length_push trail n) at h) (cases_eq p (length trail));
  serials = o.serials;
  some = o.some;
}
  where
    now-at : (k : ℕ) → (k ≡ n.at) ⊎ (k ≡ n.at → ⊥) → (k < length stamps) ⊎ (length stamps ≤ k)
        → get_or (set stamps n.at serial) k 0 ≤ counter
    now-at k (inl q) (inl lt) =
        let is : get_or (set stamps n.at serial) k 0 ≡ serial = ap (λ j. get_or (set stamps n.at serial) j 0) q
        ∙ get_or-set_same stamps n.at serial 0 (rw q at lt) in
        rw is l
    now-at k (inl q) (inr ge) =
        let is : get_or (set stamps n.at serial) k 0 ≡ 0 =
        get_or_past (set stamps n.at serial) k 0 (rw (length-set stamps n.at serial) ge) in
        rw is (omega arith)
    now-at k (inr d) _ = rw (get_or-set_other stamps n.at k serial 0 d) (o.now k)

    older-at : (p : ℕ) → p < length trail + 1 → (p ≡ length trail) ⊎ (p ≡ length trail → ⊥) → stamp_of (trail ++ n ∷ []) p ≤ counter
    older-at p h (inl q) = rw (ap (stamp_of (trail ++ n ∷ [])) q ∙ (stamp-last trail n ∙ e)) (o.now n.at)
    older-at p h (inr d) = let lt : p < length trail = omega (arith, h, d) in rw (stamp-push trail n p lt) (o.older p lt)

pub old-pop : {T : Type 0} (ms : List Mark) (trail : List (Note T)) (n : Note T) (stamps : List ℕ) (counter : ℕ)
    → AreOld ms (trail ++ n ∷ []) stamps counter → AreOld ms trail (set stamps n.at n.stamp) counter
old-pop {T} ms trail n stamps counter o = record {
  now = λ k. now-at k (cases_eq k n.at) (cases_lt k (length stamps));
  older = λ p h. (
      let up : p < length (trail ++ n ∷ []) = rw (length_push trail n) (omega (arith, h)) in
      let raw : stamp_of (trail ++ n ∷ []) p ≤ counter = o.older p up in rw (stamp-push trail n p h) at raw);
  serials = o.serials;
  some = o.some;
}
  where
    own : n.stamp ≤ counter
    own =
        let up : length trail < length (trail ++ n ∷ []) = rw (length_push trail n) (omega arith) in
        let raw : stamp_of (trail ++ n ∷ []) (length trail) ≤ counter = o.older (length trail) up in
        rw (stamp-last trail n) at raw

    now-at : (k : ℕ) → (k ≡ n.at) ⊎ (k ≡ n.at → ⊥) → (k < length stamps) ⊎ (length stamps ≤ k)
        → get_or (set stamps n.at n.stamp) k 0 ≤ counter
    now-at k (inl q) (inl lt) =
        let is : get_or (set stamps n.at n.stamp) k 0 ≡ n.stamp = ap (λ j. get_or (set stamps n.at n.stamp) j 0) q
        ∙ get_or-set_same stamps n.at n.stamp 0 (rw q at lt) in
        rw is own
    now-at k (inl q) (inr ge) =
        let is : get_or (set stamps n.at n.stamp) k 0 ≡ 0 =
        get_or_past (set stamps n.at n.stamp) k 0 (rw (length-set stamps n.at n.stamp) ge) in
        rw is (omega arith)
    now-at k (inr d) _ = rw (get_or-set_other stamps n.at k n.stamp 0 d) (o.now k)

pub old-zeros : {T : Type 0} (ms : List Mark) (trail : List (Note T)) (stamps : List ℕ) (counter n : ℕ)
    → AreOld ms trail stamps counter → AreOld ms trail (stamps ++ replicate n 0) counter
old-zeros ms trail stamps counter n o =
    record { now = λ k. rw (get_or-zeros stamps n k) (o.now k); older = o.older; serials = o.serials; some = o.some }
