-- The declared cells of regions.
use Rattle.std.proofs.Common.{◌≡◌, ◌⊎◌, inl, inr, ℕ, ◌≤◌, ◌<◌, ◌+◌, ◌-◌, List, [], ◌∷◌, ◌++◌, length, map, sum, take, drop, get_or, refl}
use Rattle.std.proofs.Common.{sym, ap, ◌∙◌, arith}
use Rattle.std.proofs.lemmas.List.{length_push, length-take, take_all, take-take, take-append-le, take-append-drop, get_or-take}
use Rattle.std.proofs.lemmas.List.{get_or_push, get_or_append_left}
use Rattle.std.proofs.lemmas.List.Sums.{sum-map, sum_by_push, sum_by-append}
use Rattle.std.proofs.lemmas.Bool.{cases_eq}
use Rattle.std.specs.List.{sum_by}
use Rattle.alma_code.specs.Picture.{PlainFrame, live_cells}
use Rattle.alma_memory_store.specs.declared.store.Region.{Region}
use Rattle.alma_memory_store.specs.declared.store.Slot.{Slot}
use Rattle.alma_memory_store.specs.Regions.{frames_of, no_region, declared_in, AreTotaled}

pub declared-push : (rs : List Region) (r : Region) → declared_in (rs ++ r ∷ []) ≡ declared_in rs + r.declared
declared-push rs r =
    sum-map (λ (x : Region). x.declared) (rs ++ r ∷ [])
    ∙ (sum_by_push (λ (x : Region). x.declared) rs r ∙ ap (λ n. n + r.declared) (sym (sum-map (λ (x : Region). x.declared) rs)))

pub declared-take : (n : ℕ) (rs : List Region) → declared_in (take n rs) ≤ declared_in rs
declared-take n rs =
    let d : Region → ℕ = (λ r. r.declared) in
    let part : declared_in (take n rs) ≡ sum_by d (take n rs) = sum-map d (take n rs) in
    let all : declared_in rs ≡ sum_by d rs = sum-map d rs in
    let whole : sum_by d (take n rs ++ drop n rs) ≡ sum_by d rs = ap (sum_by d) (take-append-drop n rs) in
    let split : sum_by d (take n rs ++ drop n rs) ≡ sum_by d (take n rs) + sum_by d (drop n rs) = sum_by-append d (take n rs) (drop n rs) in
    omega (arith, part, all, whole, split)

declared-list : (xs : List Slot) (rs : List Region)
    → map (λ (f : PlainFrame). f.declared) (frames_of xs rs) ≡ map (λ (r : Region). r.declared) rs
declared-list xs [] = refl
declared-list xs (r ∷ rs) = ap (λ v. r.declared ∷ v) (declared-list xs rs)

pub declared-frames : (xs : List Slot) (rs : List Region) → live_cells (frames_of xs rs) ≡ declared_in rs
declared-frames xs rs = ap sum (declared-list xs rs)

pub totaled-take : (n : ℕ) (rs : List Region) → AreTotaled rs → AreTotaled (take n rs)
totaled-take n rs t = record { total = at }
  where
    at : (k : ℕ) → k < length (take n rs) → (get_or (take n rs) k no_region).total ≡ declared_in (take (k + 1) (take n rs))
    at k l =
        let w = length-take n rs in
        let low : k < n = omega (arith, l, w) in
        let lt : k < length rs = omega (arith, l, w) in
        ap (λ (r : Region). r.total) (get_or-take n rs k no_region low)
        ∙ (t.total k lt ∙ ap declared_in (sym (take-take (k + 1) n rs (omega (arith, low)))))

pub totaled-push : (rs : List Region) (r : Region) → AreTotaled rs → r.total ≡ declared_in rs + r.declared → AreTotaled (rs ++ r ∷ [])
totaled-push rs r t e = record { total = λ k l. at k (rw (length_push rs r) at l) (cases_eq k (length rs)) }
  where
    at : (k : ℕ) → k < length rs + 1 → (k ≡ length rs) ⊎ (k ≡ length rs → ⊥)
        → (get_or (rs ++ r ∷ []) k no_region).total ≡ declared_in (take (k + 1) (rs ++ r ∷ []))
    at k l (inl q) =
        let all : length (rs ++ r ∷ []) ≤ k + 1 = rw (length_push rs r) (omega (arith, q)) in
        ap (λ (x : Region). x.total) (get_or_push rs r no_region k (sym q))
        ∙ (e ∙ (sym (declared-push rs r) ∙ ap declared_in (sym (take_all (k + 1) (rs ++ r ∷ []) all))))
    at k l (inr d) =
        let lt : k < length rs = omega (arith, l, d) in
        ap (λ (x : Region). x.total) (get_or_append_left rs (r ∷ []) no_region k lt)
        ∙ (t.total k lt ∙ ap declared_in (sym (take-append-le (k + 1) rs (r ∷ []) (omega (arith, lt)))))

pub total-last : (rs : List Region) → AreTotaled rs → 1 ≤ length rs → (get_or rs (length rs - 1) no_region).total ≡ declared_in rs
total-last rs t l = t.total (length rs - 1) (omega (arith, l)) ∙ ap declared_in (take_all (length rs - 1 + 1) rs (omega arith))
