-- Lemmas on the way back: what leaves each copy as it was.
use Rattle.std.proofs.Common.{◌≡◌, ◌⊎◌, inl, inr, ℕ, suc, zero, ◌≤◌, ◌<◌, ◌+◌, ◌-◌, List, [], ◌∷◌, ◌++◌, length, map, take, drop, get_or}
use Rattle.std.proofs.Common.{set, refl, sym, ap, ◌∙◌, arith}
use Rattle.std.proofs.lemmas.List.{set-set, set_comm, length-set, drop-append-le, get_or-drop, length-drop, take-append-drop}
use Rattle.std.proofs.lemmas.List.{length-take-le, take-take, drop-map, get_or-map, length-map}
use Rattle.std.proofs.lemmas.Bool.{cases_eq}
use Rattle.alma_memory_rewind.specs.declared.rewind.Note.{Note}
use Rattle.alma_memory_rewind.specs.declared.rewind.Mark.{Mark}
use Rattle.alma_memory_rewind.specs.PlainRewind.{top_copy, needed}
use Rattle.alma_memory_rewind.specs.Trail.{before, copy_of, held_of, at_of, last_mark, no_mark}
use Rattle.alma_memory_rewind.specs.Sound.{Rises}

-- ---- the way back

pub before-append : {T : Type 0} (ms ns : List (Note T)) (xs : List T) → before (ms ++ ns) xs ≡ before ms (before ns xs)
before-append [] ns xs = refl
before-append (m ∷ ms) ns xs = ap (λ v. set v m.at m.old) (before-append ms ns xs)

pub length-before : {T : Type 0} (ns : List (Note T)) (xs : List T) → length (before ns xs) ≡ length xs
length-before [] xs = refl
length-before (n ∷ ns) xs = length-set (before ns xs) n.at n.old ∙ length-before ns xs

-- a write and a cut of the list commute
pub set-take : {T : Type 0} (n : ℕ) (xs : List T) (k : ℕ) (x : T) → set (take n xs) k x ≡ take n (set xs k x)
set-take zero xs k x = refl
set-take (suc n) [] k x = refl
set-take (suc n) (y ∷ xs) zero x = refl
set-take (suc n) (y ∷ xs) (suc k) x = ap (λ v. y ∷ v) (set-take n xs k x)

-- the way back and a cut of the list commute
pub before-take : {T : Type 0} (ns : List (Note T)) (n : ℕ) (xs : List T) → before ns (take n xs) ≡ take n (before ns xs)
before-take [] n xs = refl
before-take (m ∷ ns) n xs = ap (λ v. set v m.at m.old) (before-take ns n xs) ∙ set-take n (before ns xs) m.at m.old

-- what stood below a top depends on what stands below it alone
pub before-agree : {T : Type 0} (ns : List (Note T)) (top : ℕ) (xs ys : List T) → take top xs ≡ take top ys
    → take top (before ns xs) ≡ take top (before ns ys)
before-agree ns top xs ys e = sym (before-take ns top xs) ∙ (ap (before ns) e ∙ before-take ns top ys)

-- away from k the way back does not read what stands at k
away : {T : Type 0} (ns : List (Note T)) (xs : List T) (k : ℕ) (x z : T) → set (before ns (set xs k x)) k z ≡ set (before ns xs) k z
away [] xs k x z = set-set xs k x z
away {T} (n ∷ ns) xs k x z = by_place (cases_eq n.at k) (away ns xs k x z)
  where
    by_place : (n.at ≡ k) ⊎ (n.at ≡ k → ⊥) → set (before ns (set xs k x)) k z ≡ set (before ns xs) k z →
        set (before (n ∷ ns) (set xs k x)) k z ≡ set (before (n ∷ ns) xs) k z
    by_place (inl e) ih =
        ap (λ j. set (set (before ns (set xs k x)) j n.old) k z) e ∙ (set-set (before ns (set xs k x)) k n.old z
        ∙ (ih ∙ (sym (set-set (before ns xs) k n.old z) ∙ sym (ap (λ j. set (set (before ns xs) j n.old) k z) e))))
    by_place (inr d) ih =
        set_comm (before ns (set xs k x)) n.at k n.old z d
        ∙ (ap (λ u. set u n.at n.old) ih ∙ sym (set_comm (before ns xs) n.at k n.old z d))

-- a place that a note holds may be written, and the way back is the same
pub free-before : {T : Type 0} (ns : List (Note T)) (xs : List T) (k i : ℕ) (x : T) → i < length ns → at_of ns i ≡ k
    → before ns (set xs k x) ≡ before ns xs
free-before [] xs k i x l e = absurd (omega arith)
free-before (n ∷ ns) xs k zero x l e =
    ap (λ j. set (before ns (set xs k x)) j n.old) e ∙ (away ns xs k x n.old ∙ sym (ap (λ j. set (before ns xs) j n.old) e))
free-before (n ∷ ns) xs k (suc i) x l e = ap (λ v. set v n.at n.old) (free-before ns xs k i x (omega arith) e)

-- ---- marks

pub rises-le : (mark top : ℕ) (ms : List Mark) (notes items : ℕ) → Rises mark top ms notes items → (mark ≤ notes) × (top ≤ items)
rises-le mark top [] notes items h = h
rises-le mark top (m ∷ ms) notes items h =
    let r : (m.mark ≤ notes) × (m.top ≤ items) = rises-le m.mark m.top ms notes items h.2 in
    (omega (arith, h.0, r.0), omega (arith, h.1, r.1))

pub rises-more : (mark top : ℕ) (ms : List Mark) (notes items notes' items' : ℕ) → Rises mark top ms notes items → notes ≤ notes'
    → items ≤ items' → Rises mark top ms notes' items'
rises-more mark top [] notes items notes' items' h l k = (omega (arith, h.0, l), omega (arith, h.1, k))
rises-more mark top (m ∷ ms) notes items notes' items' h l k = (h.0, h.1, rises-more m.mark m.top ms notes items notes' items' h.2 l k)

pub rises-push : (mark top : ℕ) (ms : List Mark) (m : Mark) (notes items : ℕ) → Rises mark top ms m.mark m.top → m.mark ≤ notes
    → m.top ≤ items → Rises mark top (ms ++ m ∷ []) notes items
rises-push mark top [] m notes items h l k = (h.0, h.1, (l, k))
rises-push mark top (d ∷ ms) m notes items h l k = (h.0, h.1, rises-push d.mark d.top ms m notes items h.2 l k)

pub rises-pop : (mark top : ℕ) (ms : List Mark) (m : Mark) (notes items : ℕ) → Rises mark top (ms ++ m ∷ []) notes items
    → Rises mark top ms m.mark m.top × (m.mark ≤ notes) × (m.top ≤ items)
rises-pop mark top [] m notes items h = ((h.0, h.1), h.2.0, h.2.1)
rises-pop mark top (d ∷ ms) m notes items h =
    let r = rises-pop d.mark d.top ms m notes items h.2 in ((h.0, h.1, r.0), r.1, r.2)

pub rises-take : (h mark top : ℕ) (ms : List Mark) (notes items : ℕ) → Rises mark top ms notes items
    → Rises mark top (take h ms) notes items
rises-take zero mark top ms notes items r = rises-le mark top ms notes items r
rises-take (suc h) mark top [] notes items r = r
rises-take (suc h) mark top (m ∷ ms) notes items r = (r.0, r.1, rises-take h m.mark m.top ms notes items r.2)

last-cons : (m n : Mark) (ms : List Mark) → last_mark (m ∷ n ∷ ms) ≡ last_mark (n ∷ ms)
last-cons m n ms =
    let up : length (m ∷ n ∷ ms) - 1 ≡ suc (length (n ∷ ms) - 1) = omega arith in
    ap (λ k. get_or (m ∷ n ∷ ms) k no_mark) up

-- the marks rise up to the last of them
pub rises-last : (mark top : ℕ) (m : Mark) (ms : List Mark) (notes items : ℕ) → Rises mark top (m ∷ ms) notes items →
    Rises mark top (m ∷ ms) (last_mark (m ∷ ms)).mark (last_mark (m ∷ ms)).top × ((last_mark (m ∷ ms)).mark ≤ notes)
    × ((last_mark (m ∷ ms)).top ≤ items)
rises-last mark top m [] notes items r = ((r.0, r.1, (omega arith, omega arith)), r.2.0, r.2.1)
rises-last mark top m (n ∷ ms) notes items r =
    let s = rises-last m.mark m.top n ms notes items r.2 in
    rw (last-cons m n ms) ((r.0, r.1, s.0), s.1, s.2)

-- ---- copies

-- copies that end at or below t are the same for lists that agree up to t
pub held-agree : {T : Type 0} (mark top n t : ℕ) (trail : List (Note T)) (xs ys : List T) (ms : List Mark) → Rises mark top ms n t
    → take t xs ≡ take t ys → held_of trail xs ms ≡ held_of trail ys ms
held-agree mark top n t trail xs ys [] r e = refl
held-agree mark top n t trail xs ys (m ∷ ms) r e =
    let l : m.top ≤ t = (rises-le m.mark m.top ms n t r.2).1 in
    let low : take m.top xs ≡ take m.top ys = sym (take-take m.top t xs l) ∙ (ap (take m.top) e ∙ take-take m.top t ys l) in
    let one : copy_of trail xs m ≡ copy_of trail ys m = before-agree (drop m.mark trail) m.top xs ys low in
    let rest : held_of trail xs ms ≡ held_of trail ys ms = held-agree m.mark m.top n t trail xs ys ms r.2 e in
    cc

-- a new note leaves each copy as it was
pub held-push : {T : Type 0} (mark top q t : ℕ) (trail : List (Note T)) (n : Note T) (xs ys : List T) (ms : List Mark)
    → Rises mark top ms q t → q ≤ length trail →
    set ys n.at n.old ≡ xs → held_of (trail ++ n ∷ []) ys ms ≡ held_of trail xs ms
held-push mark top q t trail n xs ys [] r k u = refl
held-push mark top q t trail n xs ys (m ∷ ms) r k u =
    let l : m.mark ≤ q = (rises-le m.mark m.top ms q t r.2).0 in
    let le : m.mark ≤ length trail = omega (arith, l, k) in
    let back : before (drop m.mark (trail ++ n ∷ [])) ys ≡ before (drop m.mark trail) xs =
    ap (λ ns. before ns ys) (drop-append-le m.mark trail (n ∷ []) le)
    ∙ (before-append (drop m.mark trail) (n ∷ []) ys ∙ ap (before (drop m.mark trail)) u) in
    let one : copy_of (trail ++ n ∷ []) ys m ≡ copy_of trail xs m = ap (take m.top) back in
    let rest : held_of (trail ++ n ∷ []) ys ms ≡ held_of trail xs ms = held-push m.mark m.top q t trail n xs ys ms r.2 k u in
    cc

pub at-drop : {T : Type 0} (m : ℕ) (trail : List (Note T)) (i : ℕ) → at_of (drop m trail) i ≡ at_of trail (m + i)
at-drop m trail i = ap (λ ks. get_or ks i 0) (sym (drop-map (λ n. n.at) m trail)) ∙ get_or-drop m (map (λ n. n.at) trail) i 0

-- a write to a place whose note stands above every mark leaves each copy as it was
pub held-free : {T : Type 0} (mark top q t : ℕ) (trail : List (Note T)) (xs : List T) (k p : ℕ) (x : T) (ms : List Mark)
    → Rises mark top ms q t → q ≤ p → p < length trail →
    at_of trail p ≡ k → held_of trail (set xs k x) ms ≡ held_of trail xs ms
held-free mark top q t trail xs k p x [] r a l e = refl
held-free mark top q t trail xs k p x (m ∷ ms) r a l e =
    let le : m.mark ≤ q = (rises-le m.mark m.top ms q t r.2).0 in
    let here : m.mark + (p - m.mark) ≡ p = omega (arith, le, a) in
    let wide : p - m.mark < length (drop m.mark trail) = rw (length-drop m.mark trail) (omega (arith, le, a, l)) in
    let at : at_of (drop m.mark trail) (p - m.mark) ≡ k = at-drop m.mark trail (p - m.mark) ∙ (ap (at_of trail) here ∙ e) in
    let back : before (drop m.mark trail) (set xs k x) ≡ before (drop m.mark trail) xs =
    free-before (drop m.mark trail) xs k (p - m.mark) x wide at in
    let one : copy_of trail (set xs k x) m ≡ copy_of trail xs m = ap (take m.top) back in
    let rest : held_of trail (set xs k x) ms ≡ held_of trail xs ms = held-free m.mark m.top q t trail xs k p x ms r.2 a l e in
    cc

-- the copies below a mark, once the notes above it are undone
pub held-unwound : {T : Type 0} (mark top q t : ℕ) (trail : List (Note T)) (xs : List T) (ms : List Mark) → Rises mark top ms q t
    → q ≤ length trail →
    held_of (take q trail) (before (drop q trail) xs) ms ≡ held_of trail xs ms
held-unwound mark top q t trail xs [] r k = refl
held-unwound mark top q t trail xs (m ∷ ms) r k =
    let l : m.mark ≤ q = (rises-le m.mark m.top ms q t r.2).0 in
    let le : m.mark ≤ length (take q trail) = rw (length-take-le q trail k) l in
    let split : drop m.mark (take q trail) ++ drop q trail ≡ drop m.mark trail =
    sym (drop-append-le m.mark (take q trail) (drop q trail) le) ∙ ap (drop m.mark) (take-append-drop q trail) in
    let back : before (drop m.mark (take q trail)) (before (drop q trail) xs) ≡ before (drop m.mark trail) xs =
    sym (before-append (drop m.mark (take q trail)) (drop q trail) xs) ∙ ap (λ ns. before ns xs) split in
    let one : copy_of (take q trail) (before (drop q trail) xs) m ≡ copy_of trail xs m = ap (take m.top) back in
    let rest : held_of (take q trail) (before (drop q trail) xs) ms ≡ held_of trail xs ms =
    held-unwound m.mark m.top q t trail xs ms r.2 k in
    cc

-- ---- the top copy

pub length-copy : {T : Type 0} (trail : List (Note T)) (xs : List T) (m : Mark) → m.top ≤ length xs → length (copy_of trail xs m) ≡ m.top
length-copy trail xs m l =
    let w : m.top ≤ length (before (drop m.mark trail) xs) = rw (length-before (drop m.mark trail) xs) l in
    length-take-le m.top (before (drop m.mark trail) xs) w

pub top-copy : {T : Type 0} (trail : List (Note T)) (xs : List T) (m : Mark) (ms : List Mark)
    → top_copy (held_of trail xs (m ∷ ms)) ≡ copy_of trail xs (last_mark (m ∷ ms))
top-copy {T} trail xs m ms =
    let wide : length (held_of trail xs (m ∷ ms)) ≡ length (m ∷ ms) = length-map (m ∷ ms) (copy_of trail xs) in
    let lt : length (m ∷ ms) - 1 < length (m ∷ ms) = omega arith in
    ap (λ k. get_or (held_of trail xs (m ∷ ms)) (k - 1) []) wide
    ∙ get_or-map (copy_of trail xs) (m ∷ ms) (length (m ∷ ms) - 1) no_mark [] lt

-- what the copies need is what lies below the top of the last mark
pub needed-top : {T : Type 0} (trail : List (Note T)) (xs : List T) (ms : List Mark) (notes : ℕ) → Rises 0 0 ms notes (length xs)
    → needed (held_of trail xs ms) ≡ (last_mark ms).top
needed-top trail xs [] notes r = refl
needed-top trail xs (m ∷ ms) notes r =
    ap length (top-copy trail xs m ms) ∙ length-copy trail xs (last_mark (m ∷ ms)) (rises-last 0 0 m ms notes (length xs) r).2
