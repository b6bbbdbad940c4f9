-- The first fault of several tests, one test further and at the end.
use Rattle.std.proofs.Common.{◌≡◌, ℕ, zero, suc, ◌+◌, ◌-◌, ◌<◌, ◌≤◌, Option, None, refl, ap, ◌∙◌, arith}
use Rattle.alma_object_format.specs.declared.fault.ObjectFault.{ObjectFault}
use Rattle.alma_base.specs.FirstFault.{or_else}
use Rattle.alma_object_format.specs.Fault.{first_fault}

pub first_more : (of : ℕ → Option ObjectFault) (i n : ℕ) → 0 < n → first_fault of i n ≡ or_else (of i) (first_fault of (i + 1) (n - 1))
unfolding first_fault
first_more of i zero lt = absurd (omega arith)
first_more of i (suc n) lt =
    let a : n ≡ suc n - 1 = omega arith in
    let b : suc i ≡ i + 1 = omega arith in
    ap (λ k. or_else (of i) (first_fault of (suc i) k)) a ∙ ap (λ k. or_else (of i) (first_fault of k (suc n - 1))) b

pub first_done : (of : ℕ → Option ObjectFault) (i n : ℕ) → n ≤ 0 → first_fault of i n ≡ None
unfolding first_fault
first_done of i zero le = refl
first_done of i (suc n) le = absurd (omega arith)

-- from the item i of n on
pub first_at : (of : ℕ → Option ObjectFault) (i n : ℕ) → i < n
    → first_fault of i (n - i) ≡ or_else (of i) (first_fault of (i + 1) (n - (i + 1)))
first_at of i n lt =
    let e : (n - i) - 1 ≡ n - (i + 1) = omega arith in
    first_more of i (n - i) (omega arith) ∙ ap (λ k. or_else (of i) (first_fault of (i + 1) k)) e

pub first_past : (of : ℕ → Option ObjectFault) (i n : ℕ) → n ≤ i → first_fault of i (n - i) ≡ None
first_past of i n le = first_done of i (n - i) (omega arith)

pub first_all : (of : ℕ → Option ObjectFault) (n : ℕ) → first_fault of 0 n ≡ first_fault of 0 (n - 0)
first_all of n = let e : n ≡ n - 0 = omega arith in ap (first_fault of 0) e

pub ruleset fault_steps = (first_at, first_past, first_all)
