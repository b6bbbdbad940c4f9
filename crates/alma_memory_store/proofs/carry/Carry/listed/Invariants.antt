use Rattle.std.proofs.Common.{◌≡◌, ◌++◌}
use Rattle.alma_memory_store.specs.Carries.{carry_of_entries}
use Rattle.alma_memory_store.proofs.carry.Carry.listed.Given as goal

abbrev pub invariant-loop-place : goal.invariant-loop-place
invariant-loop-place l =
    (goal.iterator-loop-place).can_next l.place-iterator
    × (goal.iterator-loop-place).is_finite l.place-iterator
    × (carry_of_entries l.found.items ++ carry_of_entries l.place-iterator ≡ l.self)
