use Rattle.std.proofs.Common.{◌≡◌, ℕ, ◌+◌, ◌<◌}
use Rattle.alma_lower_slots.specs.Stretches.{stretch_at}
use Rattle.alma_lower_slots.proofs.instrs.follow.Given as goal

abbrev pub invariant-loop-k : goal.invariant-loop-k
invariant-loop-k l =
    (k : ℕ) → k < l.k → (stretch_at l.stretches (l.first + k)).slot ≡ (stretch_at l.stretches l.first).slot + k
