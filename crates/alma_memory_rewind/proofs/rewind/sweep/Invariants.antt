use Rattle.std.proofs.Common.{◌≡◌, ◌≤◌, ◌++◌, length, take, drop, vec_capacity}
use Rattle.alma_memory_rewind.specs.Sound.{Sweeps}
use Rattle.alma_memory_rewind.proofs.rewind.sweep.Given as goal

abbrev pub invariant-loop-at : goal.invariant-loop-at
invariant-loop-at g l =
    Sweeps l.marks l.fn.trail.items (take l.to l.trail.items ++ drop l.at l.trail.items) × (l.from ≤ l.to) × (l.to ≤ l.at)
    × (length l.trail.items ≡ length l.fn.trail.items)
    × (vec_capacity l.trail ≡ vec_capacity l.fn.trail)
