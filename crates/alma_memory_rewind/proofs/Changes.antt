-- What each call keeps.
use Rattle.std.proofs.Common.{◌≡◌, ◌⊎◌, inl, inr, ℕ, suc, zero, ◌≤◌, ◌<◌, ◌+◌, ◌-◌, Bool, true, false, ◌||◌, nat_le, List, [], ◌∷◌}
use Rattle.std.proofs.Common.{◌++◌, length, take, drop, get_or, set, replicate, refl, sym, ap, subst, ◌∙◌, arith, min}
use Rattle.std.proofs.lemmas.List.{length-append, length-replicate, take_all, get_or_read, set-set, set-get_or, length-set, length_push}
use Rattle.std.proofs.lemmas.List.{map-append}
use Rattle.std.proofs.lemmas.List.{take-append-le, length-take-le, length-take, take-take, take-set-le, drop-append-le, take-map, drop_all}
use Rattle.std.proofs.lemmas.List.{get_or-set_same, get_or-set_other, get_or_past, get_or_push, get_or_append_left, get_or-take}
use Rattle.std.proofs.lemmas.Bool.{cases_eq, cases_lt, false≢true}
use Rattle.std.proofs.lemmas.Bool.Decides.{nat_tests}
use Rattle.alma_memory_rewind.specs.declared.rewind.Note.{Note}
use Rattle.alma_memory_rewind.specs.declared.rewind.Mark.{Mark}
use Rattle.alma_memory_rewind.specs.PlainRewind.{top_copy, needed}
use Rattle.alma_memory_rewind.specs.Trail.{before, copy_of, held_of, at_of, stamp_of, last_mark, no_mark, is_free, free_from, noted_to}
use Rattle.alma_memory_rewind.specs.Trail.{trail_for}
use Rattle.alma_memory_rewind.specs.Sound.{Rises, IsSound, Keeps, HasNote, AreStamps, IsStamp, AreOld, AddsNoted}
use Rattle.alma_memory_rewind.proofs.Trails.{rises-le, rises-last, rises-more, rises-push, rises-take, held-agree, held-free, held-push}
use Rattle.alma_memory_rewind.proofs.Trails.{held-unwound, length-before, length-copy, top-copy, before-append, free-before, before-agree}
use Rattle.alma_memory_rewind.proofs.Stamps.{stamps-push, stamps-pop, stamps-zeros, old-push, old-pop, old-zeros}

-- ---- places that need no note

pub or-cases : (a b : Bool) → (a || b) ≡ true → (a ≡ true) ⊎ (b ≡ true)
or-cases true b h = inl refl
or-cases false b h = inr h

or-right : (a b : Bool) → b ≡ true → (a || b) ≡ true
or-right true b h = refl
or-right false b h = h

or-left : (a b : Bool) → a ≡ true → (a || b) ≡ true
or-left a b h = rw h refl

pub le-from_true : (a b : ℕ) → nat_le a b ≡ true → a ≤ b
le-from_true a b h = grind (arith, nat_tests)

true-from_le : (a b : ℕ) → a ≤ b → nat_le a b ≡ true
true-from_le a b h = grind (arith, nat_tests)

-- a place above the top needs no note
pub free-above : (ms : List Mark) (k stamp : ℕ) → (last_mark ms).top ≤ k → is_free ms k stamp ≡ true
free-above [] k stamp l = refl
free-above (m ∷ ms) k stamp l = or-left (nat_le (last_mark (m ∷ ms)).top k) (nat_le (last_mark (m ∷ ms)).serial stamp)
    (true-from_le (last_mark (m ∷ ms)).top k l)

pub free-at : (ms : List Mark) (k : ℕ) (stamps : List ℕ) (i : ℕ) → i < length stamps
    → get_or (free_from ms k stamps) i false ≡ is_free ms (k + i) (get_or stamps i 0)
free-at ms k [] i l = absurd (omega arith)
free-at ms k (s ∷ stamps) zero l = let z : k + 0 ≡ k = omega arith in rw z refl
free-at ms k (s ∷ stamps) (suc i) l = let z : k + suc i ≡ suc k + i = omega arith in rw z (free-at ms (suc k) stamps i (omega arith))

pub length-free : (ms : List Mark) (k : ℕ) (stamps : List ℕ) → length (free_from ms k stamps) ≡ length stamps
length-free ms k [] = refl
length-free ms k (s ∷ stamps) = ap suc (length-free ms (suc k) stamps)

-- ---- of the items alone

-- a place that is noted is one of an item
noted-low : (n : ℕ) (fs : List Bool) (k : ℕ) → get_or (take n fs) k false ≡ true → k < n
noted-low n fs k h = by_case (cases_lt k n)
  where
    by_case : (k < n) ⊎ (n ≤ k) → k < n
    by_case (inl l) = l
    by_case (inr g) =
        let past : length (take n fs) ≤ k = rw (length-take n fs) (omega (arith, g)) in
        absurd (false≢true (sym (get_or_past (take n fs) k false past) ∙ h))

pub noted-within : (ms : List Mark) (n : ℕ) (stamps : List ℕ) (k : ℕ) → get_or (noted_to ms n stamps) k false ≡ true → k < n
noted-within ms n stamps k h = noted-low n (free_from ms 0 stamps) k h

pub noted-flag : (ms : List Mark) (n : ℕ) (stamps : List ℕ) (k : ℕ) → get_or (noted_to ms n stamps) k false ≡ true
    → get_or (free_from ms 0 stamps) k false ≡ true
noted-flag ms n stamps k h = sym (get_or-take n (free_from ms 0 stamps) k false (noted-within ms n stamps k h)) ∙ h

noted-from : (ms : List Mark) (n : ℕ) (stamps : List ℕ) (k : ℕ) → k < n → get_or (free_from ms 0 stamps) k false ≡ true
    → get_or (noted_to ms n stamps) k false ≡ true
noted-from ms n stamps k l h = get_or-take n (free_from ms 0 stamps) k false l ∙ h

-- the flag of a place, where it is there
pub flag : (ms : List Mark) (stamps : List ℕ) (k : ℕ) → k < length stamps
    → get_or (free_from ms 0 stamps) k false ≡ is_free ms k (get_or stamps k 0)
flag ms stamps k l = let z : 0 + k ≡ k = omega arith in free-at ms 0 stamps k l ∙ ap (λ j. is_free ms j (get_or stamps k 0)) z

pub flag-within : (ms : List Mark) (stamps : List ℕ) (k : ℕ) → get_or (free_from ms 0 stamps) k false ≡ true → k < length stamps
flag-within ms stamps k h = by_cases (cases_lt k (length stamps))
  where
    by_cases : (k < length stamps) ⊎ (length stamps ≤ k) → k < length stamps
    by_cases (inl l) = l
    by_cases (inr g) = absurd (false≢true (sym (get_or_past (free_from ms 0 stamps) k false (rw (length-free ms 0 stamps) g)) ∙ h))

-- a place that is noted is seen to be so by its stamp
pub free-read : (ms shown : List Mark) (n : ℕ) (stamps : List ℕ) (k s : ℕ) → shown ≡ ms → s ≡ get_or stamps k s
    → get_or (noted_to ms n stamps) k false ≡ true → is_free shown k s ≡ true
free-read ms shown n stamps k s e g h =
    let f : get_or (free_from ms 0 stamps) k false ≡ true = noted-flag ms n stamps k h in
    let l : k < length stamps = flag-within ms stamps k f in
    let st : s ≡ get_or stamps k 0 = get_or_read stamps k s l g 0 in
    ap (λ ns. is_free ns k s) e ∙ (ap (is_free ms k) st ∙ (sym (flag ms stamps k l) ∙ f))

pub adds-free : (ms : List Mark) (n : ℕ) (stamps : List ℕ) (k : ℕ) → k < n → k < length stamps
    → is_free ms k (get_or stamps k 0) ≡ true → AddsNoted ms n stamps stamps k
adds-free ms n stamps k w l f = record { noted = noted-from ms n stamps k w (flag ms stamps k l ∙ f); kept = λ p h. h }

pub adds-set : (ms : List Mark) (n : ℕ) (stamps : List ℕ) (k s : ℕ) → k < n → k < length stamps → is_free ms k s ≡ true
    → AddsNoted ms n stamps (set stamps k s) k
adds-set ms n stamps k s w l f = record {
  noted = noted-from ms n (set stamps k s) k w here;
  kept = λ p h. noted-from ms n (set stamps k s) p (noted-within ms n stamps p h)
      (by_place p (noted-flag ms n stamps p h) (cases_eq p k));
}
  where
    here : get_or (free_from ms 0 (set stamps k s)) k false ≡ true
    here = flag ms (set stamps k s) k (rw (length-set stamps k s) l) ∙ (ap (is_free ms k) (get_or-set_same stamps k s 0 l) ∙ f)

    by_place : (p : ℕ) → get_or (free_from ms 0 stamps) p false ≡ true → (p ≡ k) ⊎ (p ≡ k → ⊥)
        → get_or (free_from ms 0 (set stamps k s)) p false ≡ true
    by_place p h (inl e) = rw e here
    by_place p h (inr d) =
        let w : p < length stamps = flag-within ms stamps p h in
        flag ms (set stamps k s) p (rw (length-set stamps k s) w)
        ∙ (ap (is_free ms p) (get_or-set_other stamps k p s 0 d) ∙ (sym (flag ms stamps p w) ∙ h))

-- ---- marks

-- the marks rise up to any number of items that is not below the last top
pub rises-to : (ms : List Mark) (notes items t : ℕ) → Rises 0 0 ms notes items → (last_mark ms).top ≤ t → Rises 0 0 ms notes t
rises-to [] notes items t r l = (r.0, omega arith)
rises-to (m ∷ ms) notes items t r l =
    let s = rises-last 0 0 m ms notes items r in
    rises-more 0 0 (m ∷ ms) (last_mark (m ∷ ms)).mark (last_mark (m ∷ ms)).top notes t s.0 s.1 l

pub top-le : (ms : List Mark) (notes items : ℕ) → Rises 0 0 ms notes items → (last_mark ms).top ≤ items
top-le [] notes items r = omega arith
top-le (m ∷ ms) notes items r = (rises-last 0 0 m ms notes items r).2

-- lists that agree below the last top have the same copies
pub held-below : {T : Type 0} (trail : List (Note T)) (xs ys : List T) (ms : List Mark) (notes items : ℕ) → Rises 0 0 ms notes items
    → take (last_mark ms).top xs ≡ take (last_mark ms).top ys →
    held_of trail xs ms ≡ held_of trail ys ms
held-below trail xs ys ms notes items r e =
    held-agree 0 0 notes (last_mark ms).top trail xs ys ms (rises-to ms notes items (last_mark ms).top r (omega arith)) e

-- each mark is within the trail
pub mark-le : (mk tp : ℕ) (ms : List Mark) (notes items : ℕ) → Rises mk tp ms notes items → (i : ℕ) → i < length ms
    → (get_or ms i no_mark).mark ≤ notes
mark-le mk tp [] notes items r i l = absurd (omega (arith, l))
mark-le mk tp (m ∷ ms) notes items r zero l = (rises-le m.mark m.top ms notes items r.2).0
mark-le mk tp (m ∷ ms) notes items r (suc i) l = mark-le m.mark m.top ms notes items r.2 i (omega (arith, l))

-- ---- writes

pub write-free : {T : Type 0} (ms : List Mark) (trail : List (Note T)) (xs : List T) (stamps : List ℕ) (counter k : ℕ) (x : T)
    → is_free ms k (get_or stamps k 0) ≡ true →
    IsSound ms trail xs stamps counter → Keeps ms trail trail xs (set xs k x) stamps counter
write-free {T} ms trail xs stamps counter k x f s = record {
  held = by_marks ms f s.rises (s.stamped.now k);
  sound = record {
    wide = rw (length-set xs k x) s.wide;
    stamped = s.stamped;
    old = s.old;
    rises = rw (length-set xs k x) s.rises;
    idle = s.idle;
  };
}
  where
    above : (m : Mark) (ms : List Mark) → Rises 0 0 (m ∷ ms) (length trail) (length xs) → (last_mark (m ∷ ms)).top ≤ k
        → held_of trail (set xs k x) (m ∷ ms) ≡ held_of trail xs (m ∷ ms)
    above m ms r l = held-below trail (set xs k x) xs (m ∷ ms) (length trail) (length xs) r (take-set-le (last_mark (m ∷ ms)).top xs k x l)

    noted : (m : Mark) (ms : List Mark) → Rises 0 0 (m ∷ ms) (length trail) (length xs)
        → HasNote trail (last_mark (m ∷ ms)).mark (length trail) k → held_of trail (set xs k x) (m ∷ ms) ≡ held_of trail xs (m ∷ ms)
    noted m ms r h =
        let t = rises-last 0 0 m ms (length trail) (length xs) r in
        held-free 0 0 (last_mark (m ∷ ms)).mark (last_mark (m ∷ ms)).top trail xs k h.place x (m ∷ ms) t.0 h.above h.below h.there

    by_top : (m : Mark) (ms : List Mark) → Rises 0 0 (m ∷ ms) (length trail) (length xs)
        → IsStamp (m ∷ ms) trail (length trail) k (get_or stamps k 0) →
        (last_mark (m ∷ ms)).serial ≤ get_or stamps k 0 → (k < (last_mark (m ∷ ms)).top) ⊎ ((last_mark (m ∷ ms)).top ≤ k)
        → held_of trail (set xs k x) (m ∷ ms) ≡ held_of trail xs (m ∷ ms)
    by_top m ms r st l (inr ge) = above m ms r ge
    by_top m ms r st l (inl lt) =
        let t = rises-last 0 0 m ms (length trail) (length xs) r in
        noted m ms r (st (length (m ∷ ms) - 1) (omega arith) t.1 l lt)

    by_case : (m : Mark) (ms : List Mark) → Rises 0 0 (m ∷ ms) (length trail) (length xs)
        → IsStamp (m ∷ ms) trail (length trail) k (get_or stamps k 0) →
        (nat_le (last_mark (m ∷ ms)).top k ≡ true) ⊎ (nat_le (last_mark (m ∷ ms)).serial (get_or stamps k 0) ≡ true)
        → held_of trail (set xs k x) (m ∷ ms) ≡ held_of trail xs (m ∷ ms)
    by_case m ms r st (inl h) = above m ms r (le-from_true (last_mark (m ∷ ms)).top k h)
    by_case m ms r st (inr h) = by_top m ms r st (le-from_true (last_mark (m ∷ ms)).serial (get_or stamps k 0) h)
        (cases_lt k (last_mark (m ∷ ms)).top)

    by_marks : (ms : List Mark) → is_free ms k (get_or stamps k 0) ≡ true → Rises 0 0 ms (length trail) (length xs)
        → IsStamp ms trail (length trail) k (get_or stamps k 0) → held_of trail (set xs k x) ms ≡ held_of trail xs ms
    by_marks [] f r st = refl
    by_marks (m ∷ ms) f r st = by_case m ms r st
        (or-cases (nat_le (last_mark (m ∷ ms)).top k) (nat_le (last_mark (m ∷ ms)).serial (get_or stamps k 0)) f)

pub write-noted : {T : Type 0} (ms : List Mark) (trail : List (Note T)) (n : Note T) (xs : List T) (stamps : List ℕ) (counter : ℕ) (x : T)
    → is_free ms n.at (get_or stamps n.at 0) ≡ false →
    n.at < length stamps → n.stamp ≡ get_or stamps n.at 0 → n.old ≡ get_or xs n.at n.old →
    IsSound ms trail xs stamps counter → Keeps ms trail (trail ++ n ∷ []) xs (set xs n.at x) (set stamps n.at (last_mark ms).serial) counter
write-noted {T} ms trail n xs stamps counter x f l e o s = record {
  held = held-push 0 0 (length trail) (length xs) trail n xs (set xs n.at x) ms s.rises (omega arith) undone;
  sound = record {
    wide = rw (length-set stamps n.at (last_mark ms).serial, length-set xs n.at x) s.wide;
    stamped = stamps-push ms trail n stamps (last_mark ms).serial e (mark-le 0 0 ms (length trail) (length xs) s.rises) s.stamped;
    old = old-push ms trail n stamps (last_mark ms).serial counter e (s.old.serials (length ms - 1) (some ms f)) s.old;
    rises = rw (length-set xs n.at x, length_push trail n)
        (rises-more 0 0 ms (length trail) (length xs) (length trail + 1) (length xs) s.rises (omega arith) (omega arith));
    idle = λ z. (let one = some ms f in absurd (omega (arith, one, z)));
  };
}
  where
    undone : set (set xs n.at x) n.at n.old ≡ xs
    undone = set-set xs n.at x n.old ∙ (ap (set xs n.at) o ∙ set-get_or xs n.at n.old)

    some : (ms : List Mark) → is_free ms n.at (get_or stamps n.at 0) ≡ false → length ms - 1 < length ms
    some [] f = absurd (false≢true (sym f))
    some (m ∷ ms) f = omega arith

pub note-keeps : {T : Type 0} (ms : List Mark) (trail : List (Note T)) (xs : List T) (stamps : List ℕ) (counter k : ℕ) (old x : T)
    → is_free ms k (get_or stamps k 0) ≡ false →
    k < length stamps → old ≡ get_or xs k old → IsSound ms trail xs stamps counter →
    Keeps ms trail (trail ++ (record { at = k; stamp = get_or stamps k 0; old = old }) ∷ []) xs (set xs k x)
    (set stamps k (last_mark ms).serial) counter
note-keeps {T} ms trail xs stamps counter k old x f l o s = write-noted ms trail n xs stamps counter x f l refl o s
  where
    n : Note T
    n = record { at = k; stamp = get_or stamps k 0; old = old }

-- a note alone
pub note-stays : {T : Type 0} (ms : List Mark) (trail : List (Note T)) (xs : List T) (stamps : List ℕ) (counter k : ℕ) (old : T) →
    is_free ms k (get_or stamps k 0) ≡ false →
    k < length stamps → old ≡ get_or xs k old → IsSound ms trail xs stamps counter →
    Keeps ms trail (trail ++ (record { at = k; stamp = get_or stamps k 0; old = old }) ∷ []) xs xs
    (set stamps k (last_mark ms).serial) counter
note-stays {T} ms trail xs stamps counter k old f l o s =
    let n : Note T = record { at = k; stamp = get_or stamps k 0; old = old } in
    let e : set xs k old ≡ xs = ap (set xs k) o ∙ set-get_or xs k old in
    subst (λ v. Keeps ms trail (trail ++ n ∷ []) xs v (set stamps k (last_mark ms).serial) counter) e
    (note-keeps ms trail xs stamps counter k old old f l o s)

-- the top serial is free
pub free-new : (ms : List Mark) (at : ℕ) → is_free ms at (last_mark ms).serial ≡ true
free-new [] at = refl
free-new (m ∷ ms) at = or-right (nat_le (last_mark (m ∷ ms)).top at) (nat_le (last_mark (m ∷ ms)).serial (last_mark (m ∷ ms)).serial)
    (true-from_le (last_mark (m ∷ ms)).serial (last_mark (m ∷ ms)).serial (omega arith))

-- ---- fewer and more items

pub cut-keeps : {T : Type 0} (ms : List Mark) (trail : List (Note T)) (xs : List T) (stamps : List ℕ) (counter b : ℕ)
    → (last_mark ms).top ≤ b →
    IsSound ms trail xs stamps counter → Keeps ms trail trail xs (take b xs) stamps counter
cut-keeps ms trail xs stamps counter b l s =
    let t : (last_mark ms).top ≤ length xs = top-le ms (length trail) (length xs) s.rises in
    let w : (last_mark ms).top ≤ length (take b xs) = rw (length-take b xs) (omega (arith, l, t)) in
    record {
      held = held-below trail (take b xs) xs ms (length trail) (length xs) s.rises (take-take (last_mark ms).top b xs l);
      sound = record {
        wide = rw (length-take b xs) (omega (arith, s.wide));
        stamped = s.stamped;
        old = s.old;
        rises = rises-to ms (length trail) (length xs) (length (take b xs)) s.rises w;
        idle = s.idle;
      };
    }

-- more items, and more stamps where there are fewer
pub extend-keeps : {T : Type 0} (ms : List Mark) (trail : List (Note T)) (xs ys : List T) (stamps stamps' : List ℕ) (counter wide : ℕ)
    (more : List T) → ys ≡ xs ++ more → stamps' ≡ stamps ++ replicate (wide - length stamps) 0 → wide ≡ length xs + length more →
    IsSound ms trail xs stamps counter → Keeps ms trail trail xs ys stamps' counter
extend-keeps ms trail xs ys stamps stamps' counter wide more p q w s =
    let n : ℕ = wide - length stamps in
    let t : (last_mark ms).top ≤ length xs = top-le ms (length trail) (length xs) s.rises in
    let long : length (xs ++ more) ≡ length xs + length more = length-append xs more in
    let stamps_long : length (stamps ++ replicate n 0) ≡ length stamps + n = length-append stamps (replicate n 0)
    ∙ ap (λ k. length stamps + k) (length-replicate {A = ℕ} n 0) in
    rw (p, q) (record {
      held = held-below trail (xs ++ more) xs ms (length trail) (length xs) s.rises (take-append-le (last_mark ms).top xs more t);
      sound = record {
        wide = rw (long, stamps_long) (omega (arith, w));
        stamped = stamps-zeros ms trail stamps n s.stamped;
        old = old-zeros ms trail stamps counter n s.old;
        rises = rises-to ms (length trail) (length xs) (length (xs ++ more)) s.rises (rw long (omega (arith, t)));
        idle = s.idle;
      };
    })

-- places above the top need no note, whatever their stamp
free-all : (ms : List Mark) (k n : ℕ) (stamps : List ℕ) → (last_mark ms).top ≤ k → n ≤ length stamps
    → take n (free_from ms k stamps) ≡ replicate n true
free-all ms k zero stamps t l = refl
free-all ms k (suc n) [] t l = absurd (omega (arith, l))
free-all ms k (suc n) (s ∷ stamps) t l =
    ap (λ b. b ∷ take n (free_from ms (suc k) stamps)) (free-above ms k s t)
    ∙ ap (λ bs. true ∷ bs) (free-all ms (suc k) n stamps (omega (arith, t)) (omega (arith, l)))

free-more : (ms : List Mark) (k i n : ℕ) (stamps more : List ℕ) → (last_mark ms).top ≤ k + i → i ≤ length stamps
    → i + n ≤ length stamps + length more →
    take (i + n) (free_from ms k (stamps ++ more)) ≡ take i (free_from ms k stamps) ++ replicate n true
free-more ms k zero n stamps more t l w =
    let none : 0 + n ≡ n = omega arith in
    let long = length-append stamps more in
    ap (λ j. take j (free_from ms k (stamps ++ more))) none
    ∙ free-all ms k n (stamps ++ more) (omega (arith, t)) (omega (arith, long, w))
free-more ms k (suc i) n [] more t l w = absurd (omega (arith, l))
free-more ms k (suc i) n (s ∷ stamps) more t l w =
    let up : suc i + n ≡ suc (i + n) = omega arith in
    ap (λ j. take j (free_from ms k (s ∷ stamps ++ more))) up
    ∙ ap (λ bs. is_free ms k s ∷ bs) (free-more ms (suc k) i n stamps more (omega (arith, t)) (omega (arith, l)) (omega (arith, w)))

pub noted-extend : {T : Type 0} (ms : List Mark) (trail : List (Note T)) (xs ys : List T) (stamps stamps' : List ℕ) (counter wide : ℕ)
    (more : List T) (flags : List Bool) → ys ≡ xs ++ more → stamps' ≡ stamps ++ replicate (wide - length stamps) 0
    → wide ≡ length xs + length more → IsSound ms trail xs stamps counter → noted_to ms (length xs) stamps ≡ flags →
    noted_to ms (length ys) stamps' ≡ flags ++ replicate (length more) true
noted-extend ms trail xs ys stamps stamps' counter wide more flags p q w s e =
    let n : ℕ = wide - length stamps in
    let t : (last_mark ms).top ≤ length xs = top-le ms (length trail) (length xs) s.rises in
    let zeros : length (replicate {A = ℕ} n 0) ≡ n = length-replicate {A = ℕ} n 0 in
    let long : length ys ≡ length xs + length more = ap length p ∙ length-append xs more in
    ap (λ k. noted_to ms k stamps') long ∙ (ap (noted_to ms (length xs + length more)) q
    ∙ (free-more ms 0 (length xs) (length more) stamps (replicate n 0) (omega (arith, t)) s.wide (omega (arith, zeros, s.wide, w))
    ∙ ap (λ fs. fs ++ replicate (length more) true) e))

-- fewer items: the stamps stay
pub noted-take : {T : Type 0} (ms : List Mark) (xs : List T) (stamps : List ℕ) (b : ℕ)
    → noted_to ms (length (take b xs)) stamps ≡ take b (noted_to ms (length xs) stamps)
noted-take ms xs stamps b =
    ap (λ k. noted_to ms k stamps) (length-take b xs) ∙ by_case (cases_lt b (length xs))
  where
    by_case : (b < length xs) ⊎ (length xs ≤ b) → noted_to ms (min b (length xs)) stamps ≡ take b (noted_to ms (length xs) stamps)
    by_case (inl l) =
        let least : min b (length xs) ≡ b = omega (arith, l) in
        rw least (sym (take-take b (length xs) (free_from ms 0 stamps) (omega (arith, l))))
    by_case (inr g) =
        let least : min b (length xs) ≡ length xs = omega (arith, g) in
        let short : length (noted_to ms (length xs) stamps) ≤ b = rw (length-take (length xs) (free_from ms 0 stamps)) (omega (arith, g)) in
        rw least (sym (take_all b (noted_to ms (length xs) stamps) short))

-- ---- a new copy

pub record Chooses {T : Type 0} (ms ms' : List Mark) (top : ℕ) (trail : List (Note T)) (xs : List T) (stamps : List ℕ) (counter : ℕ) : Type
    0 where
  pub held : held_of trail xs ms' ≡ held_of trail xs ms ++ take top xs ∷ []
  pub sound : IsSound ms' trail xs stamps counter

-- a stamp is right for one more mark, whose serial it does not reach
stamp-choose : {T : Type 0} (ms : List Mark) (m : Mark) (trail : List (Note T)) (n at stamp : ℕ) → stamp < m.serial
    → IsStamp ms trail n at stamp → IsStamp (ms ++ m ∷ []) trail n at stamp
stamp-choose {T} ms m trail n at stamp l st = λ i w. at-mark i (rw (length_push ms m) at w) (cases_eq i (length ms))
  where
    at-mark : (i : ℕ) → i < length ms + 1 → (i ≡ length ms) ⊎ (i ≡ length ms → ⊥) → (get_or (ms ++ m ∷ []) i no_mark).mark ≤ n
        → (get_or (ms ++ m ∷ []) i no_mark).serial ≤ stamp →
        at < (get_or (ms ++ m ∷ []) i no_mark).top → HasNote trail (get_or (ms ++ m ∷ []) i no_mark).mark n at
    at-mark i w (inl q) a b c =
        let is : get_or (ms ++ m ∷ []) i no_mark ≡ m = get_or_push ms m no_mark i (sym q) in
        let s : m.serial ≤ stamp = rw is at b in
        absurd (omega (arith, l, s))
    at-mark i w (inr d) a b c =
        let lt : i < length ms = omega (arith, w, d) in
        let is : get_or (ms ++ m ∷ []) i no_mark ≡ get_or ms i no_mark = get_or_append_left ms (m ∷ []) no_mark i lt in
        rw is (st i lt (rw is at a) (rw is at b) (rw is at c))

pub choose-sound : {T : Type 0} (ms ms' : List Mark) (m : Mark) (trail : List (Note T)) (xs : List T) (stamps : List ℕ) (counter : ℕ)
    → ms' ≡ ms ++ m ∷ [] → m.mark ≡ length trail →
    m.serial ≡ counter + 1 → (last_mark ms).top ≤ m.top → m.top ≤ length xs → IsSound ms trail xs stamps counter
    → Chooses ms ms' m.top trail xs stamps (counter + 1)
choose-sound {T} ms ms' m trail xs stamps counter p q z l k s =
    let none : drop m.mark trail ≡ [] = drop_all m.mark trail (omega (arith, q)) in
    let up : Rises 0 0 ms m.mark m.top = rw q (rises-to ms (length trail) (length xs) m.top s.rises l) in
    rw p (record {
      held = map-append (copy_of trail xs) ms (m ∷ []) ∙ ap (λ ns. held_of trail xs ms ++ take m.top (before ns xs) ∷ []) none;
      sound = record {
        wide = s.wide;
        stamped = record {
          now = λ j. (let o = s.old.now j in stamp-choose ms m trail (length trail) j (get_or stamps j 0) (omega (arith, o, z))
              (s.stamped.now j));
          older = λ j h. (let o = s.old.older j h in
              stamp-choose ms m trail j (at_of trail j) (stamp_of trail j) (omega (arith, o, z)) (s.stamped.older j h));
        };
        old = record {
          now = λ j. (let o = s.old.now j in omega (arith, o));
          older = λ j h. (let o = s.old.older j h in omega (arith, o));
          serials = λ i w. (serial-at i (rw (length_push ms m) at w) (cases_eq i (length ms))).0;
          some = λ i w. (serial-at i (rw (length_push ms m) at w) (cases_eq i (length ms))).1;
        };
        rises = rises-push 0 0 ms m (length trail) (length xs) up (omega (arith, q)) k;
        idle = λ h. absurd (omega (arith, length_push ms m, h));
      };
    })
  where
    serial-at : (i : ℕ) → i < length ms + 1 → (i ≡ length ms) ⊎ (i ≡ length ms → ⊥)
        → ((get_or (ms ++ m ∷ []) i no_mark).serial ≤ counter + 1) × (1 ≤ (get_or (ms ++ m ∷ []) i no_mark).serial)
    serial-at i w (inl e) =
        let is : get_or (ms ++ m ∷ []) i no_mark ≡ m = get_or_push ms m no_mark i (sym e) in
        rw is (omega (arith, z), omega (arith, z))
    serial-at i w (inr d) =
        let lt : i < length ms = omega (arith, w, d) in
        let is : get_or (ms ++ m ∷ []) i no_mark ≡ get_or ms i no_mark = get_or_append_left ms (m ∷ []) no_mark i lt in
        let a = s.old.serials i lt in
        let b = s.old.some i lt in
        rw is (omega (arith, a), b)

-- fewer marks
pub sound-fewer : {T : Type 0} (ms all : List Mark) (trail : List (Note T)) (xs : List T) (stamps : List ℕ) (counter : ℕ)
    → ((i : ℕ) → i < length ms → (i < length all) × (get_or ms i no_mark ≡ get_or all i no_mark)) →
    AreStamps all trail stamps → AreOld all trail stamps counter → AreStamps ms trail stamps × AreOld ms trail stamps counter
sound-fewer {T} ms all trail xs stamps counter sub s o = (
  record {
    now = λ k. fewer (length trail) k (get_or stamps k 0) (s.now k);
    older = λ p h. fewer p (at_of trail p) (stamp_of trail p) (s.older p h);
  },
  record {
    now = o.now;
    older = o.older;
    serials = λ i l. (let u = sub i l in rw u.1 (o.serials i u.0));
    some = λ i l. (let u = sub i l in rw u.1 (o.some i u.0));
  },
)
  where
    fewer : (n at stamp : ℕ) → IsStamp all trail n at stamp → IsStamp ms trail n at stamp
    fewer n at stamp st = λ i l a b c. (
        let u = sub i l in
        let e : get_or ms i no_mark ≡ get_or all i no_mark = u.1 in
        rw e (st i u.0 (rw e at a) (rw e at b) (rw e at c)))

-- ---- the way back

pub record Unwinds {T : Type 0} (ms : List Mark) (counter mark : ℕ) (trail : List (Note T)) (xs : List T) (wide : ℕ) (rest : List (Note T))
    (ys : List T) (stamps : List ℕ) : Type 0 where
  pub stamped : AreStamps ms rest stamps
  pub old : AreOld ms rest stamps counter
  pub above : mark ≤ length rest
  pub same : before (drop mark rest) ys ≡ before (drop mark trail) xs
  pub below : take mark rest ≡ take mark trail
  pub items : length ys ≡ length xs
  pub places : length stamps ≡ wide

pub unwinds-more : {T : Type 0} (ms : List Mark) (counter mark : ℕ) (trail : List (Note T)) (xs : List T) (wide : ℕ) (rest : List (Note T))
    (ys : List T) (stamps : List ℕ)
    (ns : List (Note T)) (n : Note T) (zs : List T) (stamps' : List ℕ) → rest ≡ ns ++ n ∷ [] → zs ≡ set ys n.at n.old
    → stamps' ≡ set stamps n.at n.stamp → mark < length rest →
    IsStamp ms ns (length ns) n.at n.stamp → Unwinds ms counter mark trail xs wide rest ys stamps
    → Unwinds ms counter mark trail xs wide ns zs stamps'
unwinds-more ms counter mark trail xs wide rest ys stamps ns n zs stamps' p q t l i u =
    let e : length rest ≡ length ns + 1 = ap length p ∙ length_push ns n in
    let le : mark ≤ length ns = omega (arith, e, l) in
    let s = u.stamped in
    let o = u.old in
    let stamped : AreStamps ms (ns ++ n ∷ []) stamps = rw p at s in
    let old : AreOld ms (ns ++ n ∷ []) stamps counter = rw p at o in
    record {
      stamped = rw t (stamps-pop ms ns n stamps n.stamp o.some i stamped);
      old = rw t (old-pop ms ns n stamps counter old);
      above = le;
      same = ap (before (drop mark ns)) q ∙ (sym (before-append (drop mark ns) (n ∷ []) ys)
          ∙ (ap (λ ms. before ms ys) (sym (ap (drop mark) p ∙ drop-append-le mark ns (n ∷ []) le)) ∙ u.same));
      below = sym (ap (take mark) p ∙ take-append-le mark ns (n ∷ []) le) ∙ u.below;
      items = ap length q ∙ (length-set ys n.at n.old ∙ u.items);
      places = ap length t ∙ (length-set stamps n.at n.stamp ∙ u.places);
    }

-- ---- marks that are dropped: where none is left the trail is emptied, and no stamp has to change
pub record Settles {T : Type 0} (ms : List Mark) (trail after : List (Note T)) (xs : List T) (stamps : List ℕ) (counter : ℕ) : Type 0 where
  pub held : held_of after xs ms ≡ held_of trail xs ms
  pub sound : IsSound ms after xs stamps counter

pub settles : {T : Type 0} (ms : List Mark) (trail after : List (Note T)) (xs : List T) (stamps : List ℕ) (counter : ℕ)
    → after ≡ trail_for ms trail → length xs ≤ length stamps → AreStamps ms trail stamps →
    AreOld ms trail stamps counter → Rises 0 0 ms (length trail) (length xs) → Settles ms trail after xs stamps counter
settles [] trail after xs stamps counter p w a o r = record {
  held = refl;
  sound = record {
    wide = w;
    stamped = record { now = λ k i l. absurd (omega (arith, l)); older = λ q h i l. absurd (omega (arith, l)) };
    old = record {
      now = o.now;
      older = λ q h. (let z : length after ≡ 0 = ap length p in absurd (omega (arith, h, z)));
      serials =
          λ i l. absurd (omega (arith, l));
      some = λ i l. absurd (omega (arith, l));
    };
    rises = (omega arith, omega arith);
    idle = λ _. p;
  };
}
settles (m ∷ ms) trail after xs stamps counter p w a o r = record {
  held = ap (λ t. held_of t xs (m ∷ ms)) p;
  sound = record { wide = w; stamped = rw p a; old = rw p o; rises = rw p r; idle = λ h. absurd (omega (arith, h)) };
}

pub sub-take : (h : ℕ) (ms all : List Mark) → ms ≡ take h all → (i : ℕ) → i < length ms → (i < length all)
    × (get_or ms i no_mark ≡ get_or all i no_mark)
sub-take h ms all p i l =
    let wide : length ms ≡ min h (length all) = ap length p ∙ length-take h all in
    let low : i < h = omega (arith, l, wide) in
    (omega (arith, l, wide), ap (λ xs. get_or xs i no_mark) p ∙ get_or-take h all i no_mark low)

-- ---- back to the top copy, which stays

pub record Backs {T : Type 0} (ms : List Mark) (trail after : List (Note T)) (xs ys : List T) (stamps : List ℕ) (counter : ℕ) : Type 0 where
  pub now : take (needed (held_of trail xs ms)) ys ≡ top_copy (held_of trail xs ms)
  pub held : held_of after ys ms ≡ held_of trail xs ms
  pub sound : IsSound ms after ys stamps counter

pub backs : {T : Type 0} (ms : List Mark) (trail after : List (Note T)) (xs ys : List T) (stamps stamps1 : List ℕ) (counter : ℕ)
    → 1 ≤ length ms →
    ys ≡ before (drop (last_mark ms).mark trail) xs → after ≡ take (last_mark ms).mark trail → length ys ≤ length stamps1
    → AreStamps ms after stamps1 → AreOld ms after stamps1 counter →
    IsSound ms trail xs stamps counter → Backs ms trail after xs ys stamps1 counter
backs [] trail after xs ys stamps stamps1 counter some q t w st old s = absurd (omega (arith, some))
backs {T} (m ∷ ms) trail after xs ys stamps stamps1 counter some q t w st old s =
    let r = rises-last 0 0 m ms (length trail) (length xs) s.rises in
    let last : Mark = last_mark (m ∷ ms) in
    let wide : length ys ≡ length xs = ap length q ∙ length-before (drop last.mark trail) xs in
    let notes : length after ≡ last.mark = ap length t ∙ length-take-le last.mark trail r.1 in
    let up : Rises 0 0 (m ∷ ms) (length after) (length ys) =
    rises-more 0 0 (m ∷ ms) last.mark last.top (length after) (length ys) r.0 (omega (arith, notes)) (omega (arith, wide, r.2)) in
    let back : held_of after ys (m ∷ ms) ≡ held_of trail xs (m ∷ ms) =
    ap (λ v. held_of v ys (m ∷ ms)) t ∙ (ap (λ v. held_of (take last.mark trail) v (m ∷ ms)) q
    ∙ held-unwound 0 0 last.mark last.top trail xs (m ∷ ms) r.0 r.1) in
    let top : top_copy (held_of trail xs (m ∷ ms)) ≡ copy_of trail xs last = top-copy trail xs m ms in
    let long : needed (held_of trail xs (m ∷ ms)) ≡ last.top = ap length top ∙ length-copy trail xs last r.2 in
    record {
      now = ap (λ n. take n ys) long ∙ (ap (take last.top) q ∙ sym top);
      held = back;
      sound = record { wide = w; stamped = st; old = old; rises = up; idle = λ z. absurd (omega (arith, z)) };
    }

pub record Cuts {T : Type 0} (h : ℕ) (ms all : List Mark) (trail after : List (Note T)) (xs : List T) (stamps : List ℕ) (counter : ℕ) : Type
    0 where
  pub held : held_of after xs ms ≡ take h (held_of trail xs all)
  pub sound : IsSound ms after xs stamps counter

pub cuts : {T : Type 0} (h : ℕ) (ms all : List Mark) (trail after : List (Note T)) (xs : List T) (stamps : List ℕ) (counter : ℕ)
    → ms ≡ take h all → after ≡ trail_for ms trail →
    IsSound all trail xs stamps counter → Cuts h ms all trail after xs stamps counter
cuts h ms all trail after xs stamps counter p a s =
    let up : Rises 0 0 ms (length trail) (length xs) = rw p (rises-take h 0 0 all (length trail) (length xs) s.rises) in
    let f = sound-fewer ms all trail xs stamps counter (sub-take h ms all p) s.stamped s.old in
    let settled : Settles ms trail after xs stamps counter = settles ms trail after xs stamps counter a s.wide f.0 f.1 up in
    record {
      held = settled.held ∙ (ap (held_of trail xs) p ∙ sym (take-map (copy_of trail xs) h all));
      sound = settled.sound;
    }

-- ---- the sweep: a note whose place an earlier note of the same part holds may be dropped
pub note-dropped : {T : Type 0} (ms ns : List (Note T)) (n : Note T) (xs : List T) (i : ℕ) → i < length ms → at_of ms i ≡ n.at
    → before (ms ++ n ∷ ns) xs ≡ before (ms ++ ns) xs
note-dropped ms ns n xs i l e =
    before-append ms (n ∷ ns) xs ∙ (free-before ms (before ns xs) n.at i n.old l e ∙ sym (before-append ms ns xs))

-- and a note of a place that the copy does not reach
pub note-above : {T : Type 0} (ms ns : List (Note T)) (n : Note T) (xs : List T) (top : ℕ) → top ≤ n.at
    → take top (before (ms ++ n ∷ ns) xs) ≡ take top (before (ms ++ ns) xs)
note-above ms ns n xs top l =
    ap (take top) (before-append ms (n ∷ ns) xs)
    ∙ (before-agree ms top (set (before ns xs) n.at n.old) (before ns xs) (take-set-le top (before ns xs) n.at n.old l)
    ∙ sym (ap (take top) (before-append ms ns xs)))
