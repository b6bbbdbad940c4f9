-- What the first note of each place holds is what stood there before the notes.
use Rattle.std.proofs.Common.{Result, Ok, Err, ◌≡◌, ℕ, suc, zero, ◌≤◌, ◌<◌, Bool, true, false, List, [], ◌∷◌, length, take, drop, set, refl}
use Rattle.std.proofs.Common.{sym, ap, ◌∙◌, arith}
use Rattle.std.specs.Prelude.{IfOk, Option, Some, None, slice_get, nat_eq, if◌then◌else◌}
use Rattle.std.proofs.lemmas.Bool.{eqb-true, false≢true}
use Rattle.std.proofs.lemmas.Bool.Decides.{nat_tests}
use Rattle.alma_memory_rewind.specs.declared.rewind.Note.{Note}
use Rattle.alma_memory_rewind.specs.declared.rewind.Mark.{Mark}
use Rattle.alma_memory_rewind.specs.PlainRewind.{top_copy, needed, first_or, IsOlds}
use Rattle.alma_memory_rewind.specs.Trail.{before, copy_of, held_of, last_mark, first_of}
use Rattle.alma_memory_rewind.specs.Sound.{Rises}
use Rattle.alma_memory_rewind.proofs.Trails.{length-before, length-copy, top-copy, rises-last}

get-same : {T : Type 0} (xs : List T) (k : ℕ) (x : T) → k < length xs → slice_get (set xs k x) k ≡ Some x
get-same [] k x l = absurd (omega (arith, l))
get-same (y ∷ xs) zero x l = refl
get-same (y ∷ xs) (suc k) x l = get-same xs k x (omega (arith, l))

get-other : {T : Type 0} (xs : List T) (k : ℕ) (x : T) (at : ℕ) → (k ≡ at → ⊥) → slice_get (set xs k x) at ≡ slice_get xs at
get-other [] k x at d = refl
get-other (y ∷ xs) zero x zero d = absurd (d refl)
get-other (y ∷ xs) zero x (suc at) d = refl
get-other (y ∷ xs) (suc k) x zero d = refl
get-other (y ∷ xs) (suc k) x (suc at) d = get-other xs k x at (λ e. d (ap suc e))

eq-test : (k at : ℕ) → k ≡ at → nat_eq k at ≡ true
eq-test k at e = grind (arith, nat_tests)

get-set : {T : Type 0} (xs : List T) (k : ℕ) (x : T) (at : ℕ) (b : Bool) → b ≡ nat_eq k at → at < length xs
    → slice_get (set xs k x) at ≡ first_or (if b then Some x else None) (slice_get xs at)
get-set xs k x at true e l = let q : k ≡ at = eqb-true k at (sym e) in ap (λ j. slice_get (set xs j x) at) q ∙ get-same xs at x l
get-set xs k x at false e l = get-other xs k x at (λ q. false≢true (e ∙ eq-test k at q))

first-step : {T : Type 0} (b : Bool) (x : T) (o other : Option T)
    → first_or (if b then Some x else None) (first_or o other) ≡ first_or (if b then Some x else o) other
first-step true x o other = refl
first-step false x o other = refl

pub first-before : {T : Type 0} (ns : List (Note T)) (xs : List T) (at : ℕ) → at < length xs
    → slice_get (before ns xs) at ≡ first_or (first_of ns at) (slice_get xs at)
first-before [] xs at l = refl
first-before (n ∷ ns) xs at l =
    get-set (before ns xs) n.at n.old at (nat_eq n.at at) refl (rw (length-before ns xs) l)
    ∙ (ap (λ o. first_or (if nat_eq n.at at then Some n.old else None) o) (first-before ns xs at l)
    ∙ first-step (nat_eq n.at at) n.old (first_of ns at) (slice_get xs at))

get-take : {T : Type 0} (n : ℕ) (xs : List T) (at : ℕ) → at < n → slice_get (take n xs) at ≡ slice_get xs at
get-take zero xs at l = absurd (omega (arith, l))
get-take (suc n) [] at l = refl
get-take (suc n) (x ∷ xs) zero l = refl
get-take (suc n) (x ∷ xs) (suc at) l = get-take n xs at (omega (arith, l))

pub olds-are : {T : Type 0} (ms : List Mark) (trail : List (Note T)) (xs : List T) (olds : ℕ → Option T) → 1 ≤ length ms
    → Rises 0 0 ms (length trail) (length xs) →
    ((at : ℕ) → olds at ≡ first_of (drop (last_mark ms).mark trail) at) → IsOlds xs (held_of trail xs ms) olds
olds-are [] trail xs olds some r h = absurd (omega (arith, some))
olds-are {T} (m ∷ ms) trail xs olds some r h = record { within = deep; is = by_place }
  where
    deep : needed (held_of trail xs (m ∷ ms)) ≤ length xs
    deep =
        let s = rises-last 0 0 m ms (length trail) (length xs) r in
        let top = ap length (top-copy trail xs m ms) in
        let long = length-copy trail xs (last_mark (m ∷ ms)) s.2 in
        omega (arith, top, long, s.2)

    by_place : (at : ℕ) → at < needed (held_of trail xs (m ∷ ms))
        → slice_get (top_copy (held_of trail xs (m ∷ ms))) at ≡ first_or (olds at) (slice_get xs at)
    by_place at l =
        let last : Mark = last_mark (m ∷ ms) in
        let s = rises-last 0 0 m ms (length trail) (length xs) r in
        let top : top_copy (held_of trail xs (m ∷ ms)) ≡ copy_of trail xs last = top-copy trail xs m ms in
        let long : needed (held_of trail xs (m ∷ ms)) ≡ last.top = ap length top ∙ length-copy trail xs last s.2 in
        let low : at < last.top = omega (arith, l, long) in
        let wide : at < length xs = omega (arith, low, s.2) in
        ap (λ c. slice_get c at) top ∙ (get-take last.top (before (drop last.mark trail) xs) at low
        ∙ (first-before (drop last.mark trail) xs at wide ∙ ap (λ o. first_or o (slice_get xs at)) (sym (h at))))

pub if-ok : {V E : Type 0} (r : Result V E) (P Q : V → Type 0) → ((v : V) → P v → Q v) → IfOk r P → IfOk r Q
if-ok (Ok v) P Q f h = f v h
if-ok (Err e) P Q f h = h
