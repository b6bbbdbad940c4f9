-- Where the part of an item begins.
use Rattle.std.proofs.Common.{◌≡◌, ℕ, zero, suc, ◌+◌, ◌-◌, ◌<◌, refl, ap, arith}
use Rattle.alma_object_format.specs.Walk.{start_of}

pub start_first : (end : ℕ → ℕ) (k : ℕ) → k ≡ 0 → start_of end k ≡ 0
start_first end zero e = refl
start_first end (suc k) e = absurd (omega arith)

pub start_later : (end : ℕ → ℕ) (k : ℕ) → 0 < k → end (k - 1) ≡ start_of end k
start_later end zero lt = absurd (omega arith)
start_later end (suc k) lt = let z : suc k - 1 ≡ k = omega arith in ap end z

pub start_next : (end : ℕ → ℕ) (k : ℕ) → start_of end (k + 1) ≡ end k
start_next end k = let z : k + 1 ≡ suc k = omega arith in ap (start_of end) z

pub ruleset next_starts = (start_next)

pub ruleset starts = (start_first, start_later)
