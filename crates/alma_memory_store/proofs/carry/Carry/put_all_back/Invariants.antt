use Rattle.std.proofs.Common.{◌≡◌, ◌≤◌, length, vec_len}
use Rattle.alma_memory_store.specs.Carries.{all_put_back}
use Rattle.alma_memory_store.proofs.carry.Carry.put_all_back.Given as goal

abbrev pub invariant-loop-cell : goal.invariant-loop-cell
invariant-loop-cell l =
    (all_put_back l.changes l.had.items l.self ≡ all_put_back l.changes l.fn.had.items l.fn.self) × (vec_len l.had ≤ length l.changes)

abbrev pub decreases-loop-cell : goal.decreases-loop-cell
decreases-loop-cell l = goal.left-loop-cell l
