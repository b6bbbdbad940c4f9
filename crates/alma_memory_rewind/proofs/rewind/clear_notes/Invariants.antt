use Rattle.std.proofs.Common.{◌≡◌, length, vec_len, vec_capacity}
use Rattle.alma_memory_rewind.specs.Restart.{with_zero_stamps}
use Rattle.alma_memory_rewind.proofs.rewind.clear_notes.Given as goal

abbrev pub invariant-loop-at : goal.invariant-loop-at
invariant-loop-at g l =
    (l.trail.items ≡ with_zero_stamps l.at l.fn.trail.items) × (length l.trail.items ≡ length l.fn.trail.items)
    × (vec_len l.trail ≡ vec_len l.fn.trail) × (vec_capacity l.trail ≡ vec_capacity l.fn.trail)
