use Rattle.std.proofs.Common.{◌≡◌, ◌++◌}
use Rattle.alma_code.specs.Carries.{slot_diffs}
use Rattle.alma_memory_store.specs.Carries.{carry_of_entries}
use Rattle.alma_memory_store.proofs.past.Past.push_slots.Given as goal

abbrev pub invariant-loop-slot : goal.invariant-loop-slot
invariant-loop-slot l = carry_of_entries l.found.items ≡ carry_of_entries l.fn.found.items
    ++ slot_diffs l.self.before l.self.now l.frame l.slot
