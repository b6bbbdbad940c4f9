-- The kind of a slot, found by the run that covers it.
use Rattle.std.proofs.Common.{◌≡◌, ℕ, zero, suc, ◌+◌, ◌-◌, ◌<◌, ◌≤◌, List, [], ◌∷◌, ◌++◌, length, get_or, drop, replicate, refl, sym, ap}
use Rattle.std.proofs.Common.{◌∙◌, arith, subst, Some, None}
use Rattle.std.specs.Prelude.{true, slice_get, ◌&&◌, nat_lt}
use Rattle.std.proofs.lemmas.List.{length-replicate}
use Rattle.alma_code.specs.declared.cell.SlotKind.{SlotKind}
use Rattle.alma_code.specs.declared.cell.SlotKind.TheVariants as slot
use Rattle.alma_code.specs.declared.head.CodeParam.{CodeParam}
use Rattle.alma_code.specs.declared.head.Run.{Run}
use Rattle.alma_code.specs.Layout.{RunsRise, kinds_of}
use Rattle.alma_code.specs.Kinds.{numbers_from, is_number}
use Rattle.alma_code.specs.Rules.{last_end}
use Rattle.alma_verify.specs.Runs.{begin_from, no_run, Covers, Passes, takes, fit_slots}

slice_get-left : (xs ys : List SlotKind) (i : ℕ) → i < length xs → slice_get (xs ++ ys) i ≡ slice_get xs i
slice_get-left [] ys i lt = absurd (omega arith)
slice_get-left (x ∷ xs) ys zero lt = refl
slice_get-left (x ∷ xs) ys (suc i) lt = slice_get-left xs ys i (omega arith)

slice_get-right : (xs ys : List SlotKind) (i : ℕ) → slice_get (xs ++ ys) (length xs + i) ≡ slice_get ys i
slice_get-right [] ys i = let z : 0 + i ≡ i = omega arith in ap (slice_get ys) z
slice_get-right (x ∷ xs) ys i = let z : length (x ∷ xs) + i ≡ suc (length xs + i) = omega arith in ap (slice_get (x ∷ (xs ++ ys))) z
    ∙ slice_get-right xs ys i

slice_get-replicate : (n i : ℕ) (k : SlotKind) → i < n → slice_get (replicate n k) i ≡ Some k
slice_get-replicate zero i k lt = absurd (omega arith)
slice_get-replicate (suc n) zero k lt = refl
slice_get-replicate (suc n) (suc i) k lt = slice_get-replicate n i k (omega arith)

-- where a run begins is not below where the first does
begin_above : (low top : ℕ) (rs : List Run) (i : ℕ) → RunsRise low rs top → i ≤ length rs → low ≤ begin_from low rs i
begin_above low top rs zero h le = omega arith
begin_above low top [] (suc i) h le = absurd (omega arith)
begin_above low top (r ∷ rs) (suc i) h le =
    let rest : r.end ≤ begin_from r.end rs i = begin_above r.end top rs i h.1 (omega arith) in
    omega (arith, h.0)

after_first : (low slot : ℕ) (r : Run) (rs : List Run) → low < r.end → r.end ≤ slot
    → slice_get (kinds_of low (r ∷ rs)) (slot - low) ≡ slice_get (kinds_of r.end rs) (slot - r.end)
after_first low slot r rs lt le =
    let first = replicate (r.end - low) r.kind in
    let len : slot - low ≡ length first + (slot - r.end) = omega (arith, length-replicate (r.end - low) r.kind) in
    ap (slice_get (kinds_of low (r ∷ rs))) len ∙ slice_get-right first (kinds_of r.end rs) (slot - r.end)

pub kind_found : (low top : ℕ) (rs : List Run) (i slot : ℕ) → RunsRise low rs top → i < length rs → begin_from low rs i ≤ slot
    → slot < (get_or rs i no_run).end →
    slice_get (kinds_of low rs) (slot - low) ≡ Some (get_or rs i no_run).kind
kind_found low top [] i slot h lt from below = absurd (omega arith)
kind_found low top (r ∷ rs) zero slot h lt from below =
    let first = replicate (r.end - low) r.kind in
    let n : slot - low < r.end - low = omega (arith, h.0) in
    slice_get-left first (kinds_of r.end rs) (slot - low) (omega (arith, length-replicate (r.end - low) r.kind))
    ∙ slice_get-replicate (r.end - low) (slot - low) r.kind n
kind_found low top (r ∷ rs) (suc i) slot h lt from below =
    let above : r.end ≤ begin_from r.end rs i = begin_above r.end top rs i h.1 (omega arith) in
    after_first low slot r rs h.0 (omega arith) ∙ kind_found r.end top rs i slot h.1 (omega arith) from below

pub kind_past : (low top : ℕ) (rs : List Run) (slot : ℕ) → RunsRise low rs top → begin_from low rs (length rs) ≤ slot
    → slice_get (kinds_of low rs) (slot - low) ≡ None
kind_past low top [] slot h from = refl
kind_past low top (r ∷ rs) slot h from =
    let above : r.end ≤ begin_from r.end rs (length rs) = begin_above r.end top rs (length rs) h.1 (omega arith) in
    after_first low slot r rs h.0 (omega arith) ∙ kind_past r.end top rs slot h.1 from

pub begin_next : (low : ℕ) (rs : List Run) (i : ℕ) → i < length rs → begin_from low rs (suc i) ≡ (get_or rs i no_run).end
begin_next low [] i lt = absurd (omega arith)
begin_next low (r ∷ rs) zero lt = refl
begin_next low (r ∷ rs) (suc i) lt = begin_next r.end rs i (omega arith)

-- number slots are gone through many at a time
pub numbers_skip : (m n : ℕ) (kinds : List SlotKind) (i : ℕ) → ((k : ℕ) → i ≤ k → k < i + m → slice_get kinds k ≡ Some slot.Number)
    → numbers_from n kinds i ≡ numbers_from (n - m) kinds (i + m)
numbers_skip zero n kinds i h =
    let a : n - 0 ≡ n = omega arith in
    let b : i + 0 ≡ i = omega arith in
    sym (ap (λ k. numbers_from k kinds (i + 0)) a ∙ ap (λ k. numbers_from n kinds k) b)
numbers_skip (suc m) zero kinds i h = let a : 0 - suc m ≡ 0 = omega arith in sym (ap (λ k. numbers_from k kinds (i + suc m)) a)
numbers_skip (suc m) (suc n) kinds i h =
    let a : n - m ≡ suc n - suc m = omega arith in
    let b : suc i + m ≡ i + suc m = omega arith in
    ap (λ o. is_number o && numbers_from n kinds (suc i)) (h i (omega arith) (omega arith))
    ∙ numbers_skip m n kinds (suc i) (λ k le lt. h k (omega arith) (omega arith))
    ∙ ap (λ k. numbers_from k kinds (suc i + m)) a ∙ ap (λ k. numbers_from (suc n - suc m) kinds k) b

-- a run that was read
pub read_is : (rs : List Run) (i : ℕ) (r : Run) → slice_get rs i ≡ Some r → r ≡ get_or rs i no_run
read_is [] i r e = absurd cc
read_is (q ∷ rs) zero r e = cc
read_is (q ∷ rs) (suc i) r e = read_is rs i r e

-- each run has a slot of its own, and the runs end where the last one does
begin_room : (low top : ℕ) (rs : List Run) (i : ℕ) → RunsRise low rs top → i ≤ length rs → begin_from low rs i + (length rs - i) ≤ top
begin_room low top [] zero h le = omega (arith, h)
begin_room low top [] (suc i) h le = absurd (omega arith)
begin_room low top (r ∷ rs) zero h le =
    let rest : r.end + (length rs - 0) ≤ top = begin_room r.end top rs zero h.1 (omega arith) in
    omega (arith, h.0)
begin_room low top (r ∷ rs) (suc i) h le =
    let rest : begin_from r.end rs i + (length rs - i) ≤ top = begin_room r.end top rs i h.1 (omega arith) in
    omega arith

end_room : (low top : ℕ) (rs : List Run) (i : ℕ) → RunsRise low rs top → i < length rs → low + i < (get_or rs i no_run).end
end_room low top [] i h lt = absurd (omega arith)
end_room low top (r ∷ rs) zero h lt = omega (arith, h.0)
end_room low top (r ∷ rs) (suc i) h lt =
    let rest : r.end + i < (get_or rs i no_run).end = end_room r.end top rs i h.1 (omega arith) in
    omega (arith, h.0)

end_rises : (low top : ℕ) (rs : List Run) (i : ℕ) → RunsRise low rs top → suc i < length rs
    → (get_or rs i no_run).end < (get_or rs (suc i) no_run).end
end_rises low top [] i h lt = absurd (omega arith)
end_rises low top (r ∷ []) i h lt = absurd (omega arith)
end_rises low top (r ∷ (q ∷ rs)) zero h lt = h.1.0
end_rises low top (r ∷ (q ∷ rs)) (suc i) h lt = end_rises r.end top (q ∷ rs) i h.1 (omega arith)

end_last : (low : ℕ) (rs : List Run) → 0 < length rs → last_end low rs ≡ (get_or rs (length rs - 1) no_run).end
end_last low [] lt = absurd (omega arith)
end_last low (r ∷ []) lt = refl
end_last low (r ∷ (q ∷ rs)) lt =
    let n : suc (length (q ∷ rs) - 1) ≡ length (r ∷ (q ∷ rs)) - 1 = omega arith in
    end_last r.end (q ∷ rs) (omega arith) ∙ ap (λ (k : ℕ). (get_or (r ∷ (q ∷ rs)) k no_run).end) n

begin_last : (low : ℕ) (rs : List Run) → begin_from low rs (length rs) ≡ last_end low rs
begin_last low [] = refl
begin_last low (r ∷ rs) = begin_last r.end rs

-- the end of the last run, as it is read
pub end_read : (rs : List Run) (n : ℕ) (x : Run) → 0 < length rs → n ≡ length rs → slice_get rs (n - 1) ≡ Some x → x.end ≡ last_end 0 rs
end_read rs n x lt e h =
    ap (λ (r : Run). r.end) (read_is rs (n - 1) x h) ∙ ap (λ (k : ℕ). (get_or rs (k - 1) no_run).end) e ∙ sym (end_last 0 rs lt)

pub end_none : (rs : List Run) → length rs ≤ 0 → last_end 0 rs ≡ 0
end_none [] le = refl
end_none (r ∷ rs) le = absurd (omega arith)

-- behind the last run, and where the halving may begin
pub passes_all : (rs : List Run) (slot n : ℕ) → n ≡ length rs → last_end 0 rs ≤ slot → Passes rs slot n
passes_all rs slot n e le =
    let from : begin_from 0 rs (length rs) ≤ slot = omega (arith, begin_last 0 rs) in
    record {
      most = omega (arith, e);
      before = subst (λ k. begin_from 0 rs k ≤ slot) (sym e) from;
      behind =
          λ lt. absurd (omega (arith, lt, e));
    }

pub few_runs : (rs : List Run) → RunsRise 0 rs (last_end 0 rs) → length rs ≤ last_end 0 rs
few_runs rs h =
    let whole : begin_from 0 rs 0 + (length rs - 0) ≤ last_end 0 rs = begin_room 0 (last_end 0 rs) rs 0 h (omega arith) in
    let none : begin_from 0 rs 0 ≡ 0 = refl in
    omega (arith, whole)

pub early_begin : (rs : List Run) (slot low : ℕ) → RunsRise 0 rs (last_end 0 rs) → slot < last_end 0 rs
    → low ≡ (slot + length rs) - last_end 0 rs → begin_from 0 rs low ≤ slot
early_begin rs slot zero h lt e = omega arith
early_begin rs slot (suc low) h lt e =
    let few : length rs ≤ last_end 0 rs = few_runs rs h in
    let room : begin_from 0 rs (suc low) + (length rs - suc low) ≤ last_end 0 rs =
    begin_room 0 (last_end 0 rs) rs (suc low) h (omega (arith, few, lt, e)) in
    omega (arith, room, few, lt, e)

pub late_end : (rs : List Run) (slot high : ℕ) → RunsRise 0 rs (last_end 0 rs) → slot ≤ high → high < length rs
    → slot < (get_or rs high no_run).end
late_end rs slot high h le lt = omega (arith, le, end_room 0 (last_end 0 rs) rs high h lt)

-- another slot
pub passes_at : (rs : List Run) (s t n : ℕ) → Passes rs s n → s ≡ t → Passes rs t n
passes_at rs s t n p e = subst (λ k. Passes rs k n) e p

pub passes_past : (rs : List Run) (s t n : ℕ) → Passes rs s n → length rs ≤ n → s ≤ t → Passes rs t n
passes_past rs s t n p past le = record {
  most = p.most;
  before = omega (arith, p.before, le);
  behind =
      λ lt. absurd (omega (arith, lt, past));
}

pub passes_same : (rs : List Run) (s t n : ℕ) → Passes rs s n → s ≤ t → t < (get_or rs n no_run).end → Passes rs t n
passes_same rs s t n p le far = record { most = p.most; before = omega (arith, p.before, le); behind = λ lt. far }

pub passes_more : (rs : List Run) (t n m : ℕ) → RunsRise 0 rs (last_end 0 rs) → n < length rs → t ≡ (get_or rs n no_run).end → m ≡ suc n
    → Passes rs t m
passes_more rs t n m h lt e is = subst (λ k. Passes rs t k) (sym is) (record {
  most = omega (arith, lt);
  before = omega (arith, begin_next 0 rs n lt, e);
  behind = λ more. omega (arith, end_rises 0 (last_end 0 rs) rs n h more, e);
})

-- the kind of the slot
kind_passed : (rs : List Run) (slot n k : ℕ) → RunsRise 0 rs (last_end 0 rs) → Passes rs slot n → n < length rs → slot ≤ k
    → k < (get_or rs n no_run).end
    → slice_get (kinds_of 0 rs) k ≡ Some (get_or rs n no_run).kind
kind_passed rs slot n k h p lt le below =
    let z : k - 0 ≡ k = omega arith in
    sym (ap (λ q. slice_get (kinds_of 0 rs) q) z) ∙ kind_found 0 (last_end 0 rs) rs n k h lt (omega (arith, p.before, le)) below

pub covers_passed : (rs : List Run) (slot n : ℕ) (x : Run) → RunsRise 0 rs (last_end 0 rs) → n < length rs → slice_get rs n ≡ Some x
    → Passes rs slot n → Covers (kinds_of 0 rs) slot x
covers_passed rs slot n x h lt e p =
    let is : x ≡ get_or rs n no_run = read_is rs n x e in
    subst (λ r. Covers (kinds_of 0 rs) slot r) (sym is)
    (record { within = p.behind lt; kind = λ k le below. kind_passed rs slot n k h p lt le below })

pub kind_read : (rs : List Run) (slot n : ℕ) (x : Run) → RunsRise 0 rs (last_end 0 rs) → n < length rs → slice_get rs n ≡ Some x
    → Passes rs slot n → Some x.kind ≡ slice_get (kinds_of 0 rs) slot
kind_read rs slot n x h lt e p =
    ap (λ (r : Run). Some r.kind) (read_is rs n x e) ∙ sym (kind_passed rs slot n slot h p lt (omega arith) (p.behind lt))

pub none_passed : (rs : List Run) (slot n : ℕ) → RunsRise 0 rs (last_end 0 rs) → length rs ≤ n → Passes rs slot n
    → slice_get (kinds_of 0 rs) slot ≡ None
none_passed rs slot n h le p =
    let z : slot - 0 ≡ slot = omega arith in
    let all : n ≡ length rs = omega (arith, p.most, le) in
    let from : begin_from 0 rs (length rs) ≤ slot = subst (λ k. begin_from 0 rs k ≤ slot) all p.before in
    sym (ap (λ k. slice_get (kinds_of 0 rs) k) z) ∙ kind_past 0 (last_end 0 rs) rs slot h from

-- one argument of a call
slots_at : (r : ℕ) (kinds : List SlotKind) (ps : List CodeParam) (k i : ℕ) (p : CodeParam) → slice_get ps k ≡ Some p →
    fit_slots r kinds (drop k ps) i ≡ ((nat_lt 0 (r + i) && takes p.kind p.cells (slice_get kinds i))
    && fit_slots r kinds (drop (suc k) ps) (suc i))
slots_at r kinds [] k i p e = absurd cc
slots_at r kinds (q ∷ ps) zero i p e =
    let same : q ≡ p = cc in
    ap (λ (o : CodeParam). (nat_lt 0 (r + i) && takes o.kind o.cells (slice_get kinds i)) && fit_slots r kinds ps (suc i)) same
slots_at r kinds (q ∷ ps) (suc k) i p e = slots_at r kinds ps k i p e

pub slots_more : (r : ℕ) (kinds : List SlotKind) (ps : List CodeParam) (k first : ℕ) (p : CodeParam) → slice_get ps k ≡ Some p →
    fit_slots r kinds (drop k ps) (first + k)
    ≡ ((nat_lt 0 (r + (first + k)) && takes p.kind p.cells (slice_get kinds (first + k)))
    && fit_slots r kinds (drop (k + 1) ps) (first + (k + 1)))
slots_more r kinds ps k first p e =
    let a : suc k ≡ k + 1 = omega arith in
    let b : suc (first + k) ≡ first + (k + 1) = omega arith in
    slots_at r kinds ps k (first + k) p e
    ∙ ap (λ q. (nat_lt 0 (r + (first + k)) && takes p.kind p.cells (slice_get kinds (first + k)))
    && fit_slots r kinds (drop q ps) (suc (first + k))) a
    ∙ ap (λ q. (nat_lt 0 (r + (first + k)) && takes p.kind p.cells (slice_get kinds (first + k))) && fit_slots r kinds (drop (k + 1) ps) q)
    b

pub slots_none : (r : ℕ) (kinds : List SlotKind) (ps : List CodeParam) (k i : ℕ) → length ps ≤ k → fit_slots r kinds (drop k ps) i ≡ true
slots_none r kinds [] zero i le = refl
slots_none r kinds [] (suc k) i le = refl
slots_none r kinds (p ∷ ps) zero i le = absurd (omega arith)
slots_none r kinds (p ∷ ps) (suc k) i le = slots_none r kinds ps k i (omega arith)
