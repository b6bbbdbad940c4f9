use Rattle.std.proofs.Common.{◌≡◌, ◌+◌, ◌-◌, ◌*◌, ◌≤◌, length}
use Rattle.alma_object_format.specs.Fault.{first_fault}
use Rattle.alma_object_format.specs.Header.{ranges_at}
use Rattle.alma_object_format.specs.Walk.{range_fault, ranges_fault}
use Rattle.alma_object_format.proofs.walk.ranges_fault.Given as goal

abbrev pub invariant-loop-range : goal.invariant-loop-range
invariant-loop-range l = record {
  rest : ranges_fault l.bytes l.header ≡ first_fault (range_fault l.bytes l.header) l.range (l.header.ranges - l.range);
  whole : ranges_at l.header + 16 * l.range ≤ length l.bytes;
}
