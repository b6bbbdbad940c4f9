use Rattle.std.proofs.Common.{◌≡◌, map}
use Rattle.alma_lower_tables.specs.Numbers.{range_of}
use Rattle.alma_lower_tables.proofs.numbers.Numbers.all_ranges.Given as goal

abbrev pub invariant-loop-ends : goal.invariant-loop-ends
invariant-loop-ends l = l.ranges.items ≡ map range_of (map (λ x. x.now) l.yielded)
