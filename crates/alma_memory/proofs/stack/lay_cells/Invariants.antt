use Rattle.std.proofs.Common.{◌≡◌, ◌+◌, ◌≤◌, length}
use Rattle.alma_code.specs.Carries.{frames_with_carry}
use Rattle.alma_memory_store.specs.Carries.{carry_of_entries}
use Rattle.alma_memory.proofs.stack.lay_cells.Given as goal

abbrev pub invariant-loop-place : goal.invariant-loop-place
invariant-loop-place l =
    (goal.iterator-loop-place).can_next l.place-iterator
    × (goal.iterator-loop-place).is_finite l.place-iterator
    × (frames_with_carry l.store.now (carry_of_entries l.place-iterator) ≡ frames_with_carry l.fn.store.now l.carry)
    × (l.store.held ≡ l.fn.store.held)
    × (l.fn.store.choice_room ≤ l.store.choice_room)
    × (l.fn.store.trail_room + length l.place-iterator ≤ l.store.trail_room + length l.carry)
    × (length l.place-iterator ≤ l.store.trail_room)
