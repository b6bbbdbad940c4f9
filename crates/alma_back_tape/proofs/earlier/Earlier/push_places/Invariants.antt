use Rattle.std.proofs.Common.{◌≡◌, ◌++◌}
use Rattle.alma_memory_store.specs.Carries.{carry_of_entries}
use Rattle.alma_back_tape.specs.Inner.Earlier.{diffs_at}
use Rattle.alma_back_tape.proofs.earlier.Earlier.push_places.Given as goal

abbrev pub invariant-loop-place : goal.invariant-loop-place
invariant-loop-place l =
    (goal.iterator-loop-place).can_next l.place-iterator
    × (goal.iterator-loop-place).is_finite l.place-iterator
    × (carry_of_entries l.found.items ++ diffs_at l.self.before l.self.now (carry_of_entries l.place-iterator)
    ≡ carry_of_entries l.fn.found.items ++ diffs_at l.self.before l.self.now l.places)
