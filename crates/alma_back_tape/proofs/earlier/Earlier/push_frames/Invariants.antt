use Rattle.std.proofs.Common.{◌≡◌, ◌++◌}
use Rattle.alma_memory_store.specs.Carries.{carry_of_entries}
use Rattle.alma_back_tape.specs.Inner.Earlier.{diffs_between}
use Rattle.alma_back_tape.proofs.earlier.Earlier.push_frames.Given as goal

abbrev pub invariant-loop-at : goal.invariant-loop-at
invariant-loop-at l = carry_of_entries l.found.items ≡ carry_of_entries l.fn.found.items ++ diffs_between l.self.before l.self.now l.low
    l.at
