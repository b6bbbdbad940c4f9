use Rattle.std.proofs.Common.{◌≡◌, ◌++◌, ◌-◌, length, replicate, vec_capacity}
use Rattle.alma_memory_store.proofs.layout.push_run.Given as goal

abbrev pub invariant-loop-slot : goal.invariant-loop-slot
invariant-loop-slot l =
    (l.slots.items ++ replicate (l.end - length l.slots.items) l.slot ≡ l.initial.slots.items
    ++ replicate (l.end - length l.initial.slots.items) l.slot)
    × (vec_capacity l.slots ≡ vec_capacity l.initial.slots)

abbrev pub decreases-loop-slot : goal.decreases-loop-slot
decreases-loop-slot l = l.end - length l.slots.items
