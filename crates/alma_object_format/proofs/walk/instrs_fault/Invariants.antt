use Rattle.std.proofs.Common.{◌≡◌, ◌+◌, ◌-◌, ◌*◌, ◌≤◌, length}
use Rattle.alma_object_format.specs.Fault.{first_fault}
use Rattle.alma_object_format.specs.Header.{instrs_at}
use Rattle.alma_object_format.specs.Walk.{instr_fault, instrs_fault}
use Rattle.alma_object_format.proofs.walk.instrs_fault.Given as goal

abbrev pub invariant-loop-instr : goal.invariant-loop-instr
invariant-loop-instr l = record {
  rest : instrs_fault l.bytes l.header ≡ first_fault (instr_fault l.bytes l.header) l.instr (l.header.instrs - l.instr);
  whole : instrs_at l.header + 17 * l.instr ≤ length l.bytes;
}
