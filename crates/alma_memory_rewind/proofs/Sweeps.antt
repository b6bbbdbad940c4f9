-- A note that no copy needs may be dropped.
use Rattle.std.proofs.Common.{◌≡◌, ◌⊎◌, inl, inr, ℕ, suc, zero, ◌≤◌, ◌<◌, ◌+◌, ◌-◌, true, nat_le, List, [], ◌∷◌, ◌++◌, length, map, take}
use Rattle.std.proofs.Common.{drop, get_or, set, refl, sym, ap, subst, ◌∙◌, arith, length-append, append_assoc}
use Rattle.std.proofs.lemmas.List.{map-append, length-map, drop-append-le, get_or_append_left, take_more_set, drop-set-lt, length-take-le}
use Rattle.std.proofs.lemmas.List.{length-drop}
use Rattle.std.proofs.lemmas.Bool.{cases_eq, cases_lt}
use Rattle.alma_memory_rewind.specs.declared.rewind.Note.{Note}
use Rattle.alma_memory_rewind.specs.declared.rewind.Mark.{Mark}
use Rattle.alma_memory_rewind.specs.Trail.{before, copy_of, held_of, at_of, stamp_of, last_mark, no_mark, is_free}
use Rattle.alma_memory_rewind.specs.Sound.{Rises, IsSound, Keeps, HasNote, AreStamps, IsStamp, Sweeps}
use Rattle.alma_memory_rewind.proofs.Trails.{rises-le, rises-last, rises-more, at-drop}
use Rattle.alma_memory_rewind.proofs.Changes.{note-dropped, note-above, or-cases, le-from_true}

-- each mark is at or below the last
below-last : (mk tp : ℕ) (ms : List Mark) (last : Mark) → Rises mk tp ms last.mark last.top → (i : ℕ) → i < length ms
    → ((get_or ms i no_mark).mark ≤ last.mark) × ((get_or ms i no_mark).top ≤ last.top)
below-last mk tp [] last r i l = absurd (omega (arith, l))
below-last mk tp (m ∷ ms) last r zero l = rises-le m.mark m.top ms last.mark last.top r.2
below-last mk tp (m ∷ ms) last r (suc i) l = below-last m.mark m.top ms last r.2 i (omega (arith, l))

module _ {T : Type 0} where
  -- ---- reading a trail without one of its notes

  at-front : (front ys : List (Note T)) (p : ℕ) → p < length front → at_of (front ++ ys) p ≡ at_of front p
  at-front front ys p l =
      let w : p < length (map (λ (x : Note T). x.at) front) = rw (length-map front (λ (x : Note T). x.at)) l in
      ap (λ ks. get_or ks p 0) (map-append (λ (x : Note T). x.at) front ys)
      ∙ get_or_append_left (map (λ (x : Note T). x.at) front) (map (λ (x : Note T). x.at) ys) 0 p w

  stamp-front : (front ys : List (Note T)) (p : ℕ) → p < length front → stamp_of (front ++ ys) p ≡ stamp_of front p
  stamp-front front ys p l =
      let w : p < length (map (λ (x : Note T). x.stamp) front) = rw (length-map front (λ (x : Note T). x.stamp)) l in
      ap (λ ks. get_or ks p 0) (map-append (λ (x : Note T). x.stamp) front ys)
      ∙ get_or_append_left (map (λ (x : Note T). x.stamp) front) (map (λ (x : Note T). x.stamp) ys) 0 p w

  at-here : (front : List (Note T)) (n : Note T) (rest : List (Note T)) → at_of (front ++ n ∷ rest) (length front) ≡ n.at
  at-here [] n rest = refl
  at-here (x ∷ front) n rest = at-here front n rest

  stamp-here : (front : List (Note T)) (n : Note T) (rest : List (Note T)) → stamp_of (front ++ n ∷ rest) (length front) ≡ n.stamp
  stamp-here [] n rest = refl
  stamp-here (x ∷ front) n rest = stamp-here front n rest

  at-rest : (front : List (Note T)) (n : Note T) (rest : List (Note T)) (p : ℕ) → length front ≤ p
      → at_of (front ++ n ∷ rest) (suc p) ≡ at_of (front ++ rest) p
  at-rest [] n rest p l = refl
  at-rest (x ∷ front) n rest zero l = absurd (omega (arith, l))
  at-rest (x ∷ front) n rest (suc p) l = at-rest front n rest p (omega (arith, l))

  stamp-rest : (front : List (Note T)) (n : Note T) (rest : List (Note T)) (p : ℕ) → length front ≤ p
      → stamp_of (front ++ n ∷ rest) (suc p) ≡ stamp_of (front ++ rest) p
  stamp-rest [] n rest p l = refl
  stamp-rest (x ∷ front) n rest zero l = absurd (omega (arith, l))
  stamp-rest (x ∷ front) n rest (suc p) l = stamp-rest front n rest p (omega (arith, l))

  more : (front : List (Note T)) (n : Note T) (rest : List (Note T)) → length (front ++ n ∷ rest) ≡ suc (length (front ++ rest))
  more [] n rest = refl
  more (x ∷ front) n rest = ap suc (more front n rest)

  -- a note below the dropped one
  note-low : (front : List (Note T)) (n : Note T) (rest : List (Note T)) (low up at : ℕ) → up ≤ length front
      → HasNote (front ++ n ∷ rest) low up at → HasNote (front ++ rest) low up at
  note-low front n rest low up at l h =
      let lt : h.place < length front = omega (arith, h.below, l) in
      record {
        place = h.place;
        above = h.above;
        below = h.below;
        there = at-front front rest h.place lt
            ∙ (sym (at-front front (n ∷ rest) h.place lt) ∙ h.there);
      }

  -- a note of the same place is still there, below what was one more note
  note-same : (front : List (Note T)) (n : Note T) (rest : List (Note T)) (low up at : ℕ) → low ≤ length front → length front ≤ up
      → (at ≡ n.at → HasNote (front ++ n ∷ rest) low (length front) at) →
      HasNote (front ++ n ∷ rest) low (suc up) at → HasNote (front ++ rest) low up at
  note-same front n rest low up at k l early h = by_place (cases_lt h.place (length front)) (cases_eq h.place (length front))
    where
      wider : HasNote (front ++ rest) low (length front) at → HasNote (front ++ rest) low up at
      wider x = record { place = x.place; above = x.above; below = omega (arith, x.below, l); there = x.there }

      by_place : (h.place < length front) ⊎ (length front ≤ h.place) → (h.place ≡ length front) ⊎ (h.place ≡ length front → ⊥)
          → HasNote (front ++ rest) low up at
      by_place (inl lt) _ = record {
        place = h.place;
        above = h.above;
        below = omega (arith, lt, l);
        there = at-front front rest h.place lt
            ∙ (sym (at-front front (n ∷ rest) h.place lt) ∙ h.there);
      }
      by_place (inr ge) (inl q) =
          let own : at ≡ n.at = sym h.there ∙ (ap (at_of (front ++ n ∷ rest)) q ∙ at-here front n rest) in
          wider (note-low front n rest low (length front) at (omega arith) (early own))
      by_place (inr ge) (inr d) =
          let back : suc (h.place - 1) ≡ h.place = omega (arith, ge, d) in
          let over : length front ≤ h.place - 1 = omega (arith, ge, d) in
          let same : at_of (front ++ rest) (h.place - 1) ≡ at = sym (at-rest front n rest (h.place - 1) over)
          ∙ (ap (at_of (front ++ n ∷ rest)) back ∙ h.there) in
          record { place = h.place - 1; above = omega (arith, k, over); below = omega (arith, h.below, over); there = same }

module _ {T : Type 0} where
  -- ---- the copies

  copy-without : (front : List (Note T)) (n : Note T) (rest : List (Note T)) (xs : List T) (m last : Mark) → m.mark ≤ last.mark
      → m.top ≤ last.top → last.mark ≤ length front →
      (n.at < last.top → HasNote (front ++ n ∷ rest) last.mark (length front) n.at)
      → copy_of (front ++ n ∷ rest) xs m ≡ copy_of (front ++ rest) xs m
  copy-without front n rest xs m last l t k early = by_place (cases_lt n.at last.top)
    where
      le : m.mark ≤ length front
      le = omega (arith, l, k)

      old : drop m.mark (front ++ n ∷ rest) ≡ drop m.mark front ++ n ∷ rest
      old = drop-append-le m.mark front (n ∷ rest) le

      new : drop m.mark (front ++ rest) ≡ drop m.mark front ++ rest
      new = drop-append-le m.mark front rest le

      by_place : (n.at < last.top) ⊎ (last.top ≤ n.at) → copy_of (front ++ n ∷ rest) xs m ≡ copy_of (front ++ rest) xs m
      by_place (inl lt) =
          let e = early lt in
          let i : ℕ = e.place - m.mark in
          let here : m.mark + i ≡ e.place = omega (arith, e.above, l) in
          let wide : length (drop m.mark front) ≡ length front - m.mark = length-drop m.mark front in
          let in_part : i < length (drop m.mark front) = omega (arith, wide, e.above, e.below, l) in
          let at : at_of (drop m.mark front) i ≡ n.at = at-drop m.mark front i
          ∙ (ap (at_of front) here ∙ (sym (at-front front (n ∷ rest) e.place e.below) ∙ e.there)) in
          ap (λ ns. take m.top (before ns xs)) old
          ∙ (ap (take m.top) (note-dropped (drop m.mark front) rest n xs i in_part at) ∙ sym (ap (λ ns. take m.top (before ns xs)) new))
      by_place (inr ge) =
          ap (λ ns. take m.top (before ns xs)) old
          ∙ (note-above (drop m.mark front) rest n xs m.top (omega (arith, t, ge)) ∙ sym (ap (λ ns. take m.top (before ns xs)) new))

  held-without : (mk tp : ℕ) (ms : List Mark) (front : List (Note T)) (n : Note T) (rest : List (Note T)) (xs : List T) (last : Mark)
      → Rises mk tp ms last.mark last.top → last.mark ≤ length front →
      (n.at < last.top → HasNote (front ++ n ∷ rest) last.mark (length front) n.at)
      → held_of (front ++ rest) xs ms ≡ held_of (front ++ n ∷ rest) xs ms
  held-without mk tp [] front n rest xs last r k early = refl
  held-without mk tp (m ∷ ms) front n rest xs last r k early =
      let le = rises-le m.mark m.top ms last.mark last.top r.2 in
      let one : copy_of (front ++ rest) xs m ≡ copy_of (front ++ n ∷ rest) xs m =
      sym (copy-without front n rest xs m last le.0 le.1 k early) in
      let others : held_of (front ++ rest) xs ms ≡ held_of (front ++ n ∷ rest) xs ms =
      held-without m.mark m.top ms front n rest xs last r.2 k early in
      cc

  -- ---- what no copy needs

  -- a note that is free has an earlier one of its place, where the copy reaches it
  early-note : (ms : List Mark) (front : List (Note T)) (n : Note T) (rest : List (Note T)) (stamps : List ℕ) → 1 ≤ length ms
      → (last_mark ms).mark ≤ length front → is_free ms n.at n.stamp ≡ true →
      AreStamps ms (front ++ n ∷ rest) stamps → n.at < (last_mark ms).top
      → HasNote (front ++ n ∷ rest) (last_mark ms).mark (length front) n.at
  early-note [] front n rest stamps some k f s l = absurd (omega (arith, some))
  early-note (m ∷ ms) front n rest stamps some k f s l =
      by_case (or-cases (nat_le (last_mark (m ∷ ms)).top n.at) (nat_le (last_mark (m ∷ ms)).serial n.stamp) f)
    where
      lt : length front < length (front ++ n ∷ rest)
      lt = rw (more front n rest) (let w = length-append front rest in omega (arith, w))

      by_case : (nat_le (last_mark (m ∷ ms)).top n.at ≡ true) ⊎ (nat_le (last_mark (m ∷ ms)).serial n.stamp ≡ true)
          → HasNote (front ++ n ∷ rest) (last_mark (m ∷ ms)).mark (length front) n.at
      by_case (inl h) = let g = le-from_true (last_mark (m ∷ ms)).top n.at h in absurd (omega (arith, g, l))
      by_case (inr h) =
          let at = at-here front n rest in
          let st = stamp-here front n rest in
          let serial : (last_mark (m ∷ ms)).serial ≤ stamp_of (front ++ n ∷ rest) (length front) =
          rw st (le-from_true (last_mark (m ∷ ms)).serial n.stamp h) in
          let low : at_of (front ++ n ∷ rest) (length front) < (last_mark (m ∷ ms)).top = rw at l in
          let raw = s.older (length front) lt (length (m ∷ ms) - 1) (omega arith) k serial low in
          subst (λ j. HasNote (front ++ n ∷ rest) (last_mark (m ∷ ms)).mark (length front) j) at raw

  widen : (trail : List (Note T)) (low low' up at : ℕ) → low' ≤ low → HasNote trail low up at → HasNote trail low' up at
  widen trail low low' up at l h = record { place = h.place; above = omega (arith, h.above, l); below = h.below; there = h.there }

  pub sweep-keeps : (ms : List Mark) (front : List (Note T)) (n : Note T) (rest : List (Note T)) (xs : List T) (stamps : List ℕ)
      (counter : ℕ) → 1 ≤ length ms → (last_mark ms).mark ≤ length front →
      is_free ms n.at n.stamp ≡ true → IsSound ms (front ++ n ∷ rest) xs stamps counter
      → Keeps ms (front ++ n ∷ rest) (front ++ rest) xs xs stamps counter
  sweep-keeps [] front n rest xs stamps counter some k f s = absurd (omega (arith, some))
  sweep-keeps (m ∷ ms) front n rest xs stamps counter some k f s = record {
    held = held-without 0 0 (m ∷ ms) front n rest xs last up.0 k early;
    sound = record {
      wide = s.wide;
      stamped = record { now = now-at; older = older-at };
      old = record { now = s.old.now; older = old-at; serials = s.old.serials; some = s.old.some };
      rises = rises-more 0 0 (m ∷ ms) last.mark last.top (length (front ++ rest)) (length xs) up.0
          (let w = length-append front rest in omega (arith, w, k)) up.2;
      idle = λ z. absurd (omega (arith, z));
    };
  }
    where
      last : Mark
      last = last_mark (m ∷ ms)

      up : Rises 0 0 (m ∷ ms) last.mark last.top × (last.mark ≤ length (front ++ n ∷ rest)) × (last.top ≤ length xs)
      up = rises-last 0 0 m ms (length (front ++ n ∷ rest)) (length xs) s.rises

      early : n.at < last.top → HasNote (front ++ n ∷ rest) last.mark (length front) n.at
      early l = early-note (m ∷ ms) front n rest stamps some k f s.stamped l

      long : length (front ++ n ∷ rest) ≡ suc (length (front ++ rest))
      long = more front n rest

      front_in : length front ≤ length (front ++ rest)
      front_in = let w = length-append front rest in omega (arith, w)

      of-place : (i at : ℕ) → i < length (m ∷ ms) → at < (get_or (m ∷ ms) i no_mark).top → at ≡ n.at
          → HasNote (front ++ n ∷ rest) (get_or (m ∷ ms) i no_mark).mark (length front) at
      of-place i at l c q =
          let b = below-last 0 0 (m ∷ ms) last up.0 i l in
          let lt : n.at < last.top = omega (arith, c, q, b.1) in
          subst (λ j. HasNote (front ++ n ∷ rest) (get_or (m ∷ ms) i no_mark).mark (length front) j) (sym q)
          (widen (front ++ n ∷ rest) last.mark (get_or (m ∷ ms) i no_mark).mark (length front) n.at b.0 (early lt))

      mark-in : (i : ℕ) → i < length (m ∷ ms) → (get_or (m ∷ ms) i no_mark).mark ≤ length front
      mark-in i l = let b = below-last 0 0 (m ∷ ms) last up.0 i l in omega (arith, b.0, k)

      now-at : (j : ℕ) → IsStamp (m ∷ ms) (front ++ rest) (length (front ++ rest)) j (get_or stamps j 0)
      now-at j = λ i l a b c. (
          let in_old : (get_or (m ∷ ms) i no_mark).mark ≤ length (front ++ n ∷ rest) = omega (arith, long, a) in
          let raw = s.stamped.now j i l in_old b c in
          note-same front n rest (get_or (m ∷ ms) i no_mark).mark (length (front ++ rest)) j (mark-in i l) front_in (of-place i j l c)
          (subst (λ u. HasNote (front ++ n ∷ rest) (get_or (m ∷ ms) i no_mark).mark u j) long raw))

      older-at : (p : ℕ) → p < length (front ++ rest)
          → IsStamp (m ∷ ms) (front ++ rest) p (at_of (front ++ rest) p) (stamp_of (front ++ rest) p)
      older-at p h = by_place (cases_lt p (length front))
        where
          by_place : (p < length front) ⊎ (length front ≤ p)
              → IsStamp (m ∷ ms) (front ++ rest) p (at_of (front ++ rest) p) (stamp_of (front ++ rest) p)
          by_place (inl lt) = λ i l a b c. (
              let at : at_of (front ++ rest) p ≡ at_of (front ++ n ∷ rest) p = at-front front rest p lt
              ∙ sym (at-front front (n ∷ rest) p lt) in
              let st : stamp_of (front ++ rest) p ≡ stamp_of (front ++ n ∷ rest) p = stamp-front front rest p lt
              ∙ sym (stamp-front front (n ∷ rest) p lt) in
              let b' : (get_or (m ∷ ms) i no_mark).serial ≤ stamp_of (front ++ n ∷ rest) p = rw st at b in
              let c' : at_of (front ++ n ∷ rest) p < (get_or (m ∷ ms) i no_mark).top = rw at at c in
              let raw = s.stamped.older p (omega (arith, long, h)) i l a b' c' in
              let low = note-low front n rest (get_or (m ∷ ms) i no_mark).mark p (at_of (front ++ n ∷ rest) p) (omega (arith, lt)) raw in
              subst (λ j. HasNote (front ++ rest) (get_or (m ∷ ms) i no_mark).mark p j) (sym at) low)
          by_place (inr ge) = λ i l a b c. (
              let at : at_of (front ++ n ∷ rest) (suc p) ≡ at_of (front ++ rest) p = at-rest front n rest p ge in
              let st : stamp_of (front ++ n ∷ rest) (suc p) ≡ stamp_of (front ++ rest) p = stamp-rest front n rest p ge in
              let b' : (get_or (m ∷ ms) i no_mark).serial ≤ stamp_of (front ++ n ∷ rest) (suc p) = rw st b in
              let c' : at_of (front ++ n ∷ rest) (suc p) < (get_or (m ∷ ms) i no_mark).top = rw at c in
              let raw = s.stamped.older (suc p) (omega (arith, long, h)) i l (omega (arith, a)) b' c' in
              note-same front n rest (get_or (m ∷ ms) i no_mark).mark p (at_of (front ++ rest) p) (mark-in i l) ge
              (of-place i (at_of (front ++ rest) p) l c)
              (subst (λ j. HasNote (front ++ n ∷ rest) (get_or (m ∷ ms) i no_mark).mark (suc p) j) at raw))

      old-at : (p : ℕ) → p < length (front ++ rest) → stamp_of (front ++ rest) p ≤ counter
      old-at p h = by_place (cases_lt p (length front))
        where
          by_place : (p < length front) ⊎ (length front ≤ p) → stamp_of (front ++ rest) p ≤ counter
          by_place (inl lt) =
              let st : stamp_of (front ++ rest) p ≡ stamp_of (front ++ n ∷ rest) p = stamp-front front rest p lt
              ∙ sym (stamp-front front (n ∷ rest) p lt) in
              rw st (s.old.older p (omega (arith, long, h)))
          by_place (inr ge) =
              let st : stamp_of (front ++ n ∷ rest) (suc p) ≡ stamp_of (front ++ rest) p = stamp-rest front n rest p ge in
              rw (← st) (s.old.older (suc p) (omega (arith, long, h)))

module _ {T : Type 0} where
  -- ---- the loop

  pub sweeps-none : (ms : List Mark) (trail : List (Note T)) → Sweeps ms trail trail
  sweeps-none ms trail = record { keeps = λ xs stamps counter s. record { held = refl; sound = s } }

  -- a note stays
  pub sweeps-keep : (ms : List Mark) (old trail : List (Note T)) (n : Note T) (to at : ℕ) → to ≤ at → to < length trail
      → drop at trail ≡ n ∷ drop (at + 1) trail → Sweeps ms old (take to trail ++ drop at trail) →
      Sweeps ms old (take (to + 1) (set trail to n) ++ drop (at + 1) (set trail to n))
  sweeps-keep ms old trail n to at l w e s =
      let front : take (to + 1) (set trail to n) ≡ take to trail ++ n ∷ [] = take_more_set trail to n w in
      let rest : drop (at + 1) (set trail to n) ≡ drop (at + 1) trail = drop-set-lt (at + 1) trail to n (omega (arith, l)) in
      let same : take to trail ++ drop at trail ≡ take (to + 1) (set trail to n) ++ drop (at + 1) (set trail to n) =
      ap (λ v. take to trail ++ v) e ∙ (sym (append_assoc (take to trail) (n ∷ []) (drop (at + 1) trail))
      ∙ sym (ap (λ v. v ++ drop (at + 1) (set trail to n)) front ∙ ap (λ v. (take to trail ++ n ∷ []) ++ v) rest)) in
      subst (λ t. Sweeps ms old t) same s

  -- a note goes
  pub sweeps-drop : (ms : List Mark) (old trail : List (Note T)) (n : Note T) (to at : ℕ) → 1 ≤ length ms → (last_mark ms).mark ≤ to
      → to ≤ length trail → drop at trail ≡ n ∷ drop (at + 1) trail →
      is_free ms n.at n.stamp ≡ true → Sweeps ms old (take to trail ++ drop at trail) → Sweeps ms old (take to trail ++ drop (at + 1) trail)
  sweeps-drop ms old trail n to at some l w e f s = record {
    keeps = λ xs stamps counter sound. (
        let one : Sweeps ms old (take to trail ++ n ∷ drop (at + 1) trail) = subst (λ t. Sweeps ms old (take to trail ++ t)) e s in
        let k = one.keeps xs stamps counter sound in
        let low : (last_mark ms).mark ≤ length (take to trail) = rw (length-take-le to trail w) l in
        let two = sweep-keeps ms (take to trail) n (drop (at + 1) trail) xs stamps counter some low f k.sound in
        record { held = two.held ∙ k.held; sound = two.sound });
  }
