use Rattle.std.proofs.Common.{◌≡◌, ◌+◌, ◌-◌, ◌*◌, ◌≤◌, length}
use Rattle.alma_object_format.specs.Fault.{first_fault}
use Rattle.alma_object_format.specs.Header.{routines_at}
use Rattle.alma_object_format.specs.Walk.{routine_fault, routines_fault}
use Rattle.alma_object_format.proofs.walk.routines_fault.Given as goal

abbrev pub invariant-loop-routine : goal.invariant-loop-routine
invariant-loop-routine l = record {
  rest : routines_fault l.bytes l.header ≡ first_fault (routine_fault l.bytes l.header) l.routine (l.header.routines - l.routine);
  whole : routines_at l.header + 28 * l.routine ≤ length l.bytes;
}
