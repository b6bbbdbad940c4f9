use Rattle.std.proofs.Common.{◌≡◌, length, vec_len, vec_capacity}
use Rattle.alma_memory_rewind.specs.Restart.{with_serials}
use Rattle.alma_memory_rewind.proofs.rewind.number.Given as goal

abbrev pub invariant-loop-at : goal.invariant-loop-at
invariant-loop-at l =
    (l.marks.items ≡ with_serials l.at 1 l.fn.marks.items) × (length l.marks.items ≡ length l.fn.marks.items)
    × (vec_len l.marks ≡ vec_len l.fn.marks) × (vec_capacity l.marks ≡ vec_capacity l.fn.marks)
