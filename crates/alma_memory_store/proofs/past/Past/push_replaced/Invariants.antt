use Rattle.alma_memory_store.specs.Carries.{carry_of_entries}
use Rattle.alma_memory_store.specs.Past.{Gains, IsReplaced}
use Rattle.alma_memory_store.proofs.past.Past.push_replaced.Given as goal

abbrev pub invariant-loop-frame : goal.invariant-loop-frame
invariant-loop-frame l =
    (goal.iterator-loop-frame).can_next l.frame-iterator
    × (goal.iterator-loop-frame).is_finite l.frame-iterator
    × Gains l.self.before l.self.now (IsReplaced l.self.old_regions) (IsReplaced l.frame-iterator) (carry_of_entries l.fn.found.items)
    (carry_of_entries l.found.items)
