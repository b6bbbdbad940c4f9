use Rattle.std.proofs.Common.{◌≡◌, ◌+◌, ◌-◌, ◌*◌, ◌≤◌, length}
use Rattle.std.specs.Prelude.{nat_eq}
use Rattle.alma_object_format.specs.Fault.{first_fault}
use Rattle.alma_object_format.specs.Header.{runs_at}
use Rattle.alma_object_format.specs.Walk.{run_fault, routine_runs_fault}
use Rattle.alma_object_format.proofs.walk.routine_runs_fault.Given as goal

abbrev pub invariant-loop-run : goal.invariant-loop-run
invariant-loop-run l = record {
  rest : routine_runs_fault l.bytes l.header l.fn.routine ≡ first_fault (λ run. run_fault l.bytes l.header (nat_eq run l.start) run) l.run
      (l.end - l.run);
  whole : runs_at l.header + 12 * l.run ≤ length l.bytes;
}
