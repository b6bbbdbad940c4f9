use Rattle.alma_memory_store.specs.Carries.{carry_of_entries}
use Rattle.alma_memory_store.specs.Past.{Gains, IsKept}
use Rattle.alma_memory_store.proofs.past.Past.push_written.Given as goal

abbrev pub invariant-loop-at : goal.invariant-loop-at
invariant-loop-at l =
    (goal.iterator-loop-at).can_next l.at-iterator
    × (goal.iterator-loop-at).is_finite l.at-iterator
    × Gains l.self.before l.self.now (IsKept l.self.regions l.self.old_slots) (IsKept l.self.regions l.at-iterator)
    (carry_of_entries l.fn.found.items) (carry_of_entries l.found.items)
