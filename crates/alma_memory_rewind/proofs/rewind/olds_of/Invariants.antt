use Rattle.std.proofs.Common.{◌≡◌, ◌≤◌, ℕ, length, drop}
use Rattle.std.specs.BTreeMap.{get}
use Rattle.std.specs.Ordering.{nat_cmp}
use Rattle.alma_memory_rewind.specs.Trail.{first_of}
use Rattle.alma_memory_rewind.proofs.rewind.olds_of.Given as goal

abbrev pub invariant-loop-left : goal.invariant-loop-left
invariant-loop-left g l =
    ((at : ℕ) → get nat_cmp l.olds at ≡ first_of (drop l.left l.trail) at) × (l.left ≤ length l.trail) × (l.mark ≤ l.left)

abbrev pub decreases-loop-left : goal.decreases-loop-left
decreases-loop-left g l = l.left
