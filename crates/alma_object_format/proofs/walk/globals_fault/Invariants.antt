use Rattle.std.proofs.Common.{◌≡◌, ◌+◌, ◌-◌, ◌*◌, ◌≤◌, length}
use Rattle.alma_object_format.specs.Fault.{first_fault}
use Rattle.alma_object_format.specs.Header.{globals_at}
use Rattle.alma_object_format.specs.Walk.{global_fault, globals_fault}
use Rattle.alma_object_format.proofs.walk.globals_fault.Given as goal

abbrev pub invariant-loop-global : goal.invariant-loop-global
invariant-loop-global l = record {
  rest : globals_fault l.bytes l.header ≡ first_fault (global_fault l.bytes l.header) l.global (l.header.globals - l.global);
  whole : globals_at l.header + 12 * l.global ≤ length l.bytes;
}
