use Rattle.std.proofs.Common.{◌≡◌, length, vec_capacity}
use Rattle.alma_memory_rewind.proofs.Changes.{Unwinds}
use Rattle.alma_memory_rewind.proofs.rewind.unwind_to.Given as goal

abbrev pub invariant-loop-trail : goal.invariant-loop-trail
invariant-loop-trail g l =
    Unwinds l.marks l.counter l.mark l.initial.trail.items l.initial.items.items (length l.initial.stamps.items) l.trail.items l.items.items
    l.stamps.items × (vec_capacity l.trail ≡ vec_capacity l.initial.trail)

abbrev pub decreases-loop-trail : goal.decreases-loop-trail
decreases-loop-trail g l = length l.trail.items
