use Rattle.std.proofs.Common.{◌≡◌, ◌+◌, ◌-◌, ◌*◌, ◌≤◌, length}
use Rattle.alma_object_format.specs.Fault.{first_fault}
use Rattle.alma_object_format.specs.Header.{params_at}
use Rattle.alma_object_format.specs.Walk.{param_fault, params_fault}
use Rattle.alma_object_format.proofs.walk.params_fault.Given as goal

abbrev pub invariant-loop-param : goal.invariant-loop-param
invariant-loop-param l = record {
  rest : params_fault l.bytes l.header ≡ first_fault (param_fault l.bytes l.header) l.param (l.header.params - l.param);
  whole : params_at l.header + 8 * l.param ≤ length l.bytes;
}
