use Rattle.std.proofs.Common.{◌≡◌, ◌+◌, ◌-◌, ◌*◌, ◌≤◌, length}
use Rattle.alma_object_format.specs.Fault.{first_fault}
use Rattle.alma_object_format.specs.Header.{runs_at}
use Rattle.alma_object_format.specs.Walk.{start_of, runs_end, routine_runs_fault, runs_fault}
use Rattle.alma_object_format.proofs.walk.runs_fault.Given as goal

abbrev pub invariant-loop-routine : goal.invariant-loop-routine
invariant-loop-routine l = record {
  rest : runs_fault l.bytes l.header ≡ first_fault (routine_runs_fault l.bytes l.header) l.routine (l.header.routines - l.routine);
  whole : runs_at l.header + 12 * start_of (runs_end l.bytes l.header) l.routine ≤ length l.bytes;
}
