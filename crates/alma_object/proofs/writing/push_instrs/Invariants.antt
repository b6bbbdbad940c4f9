use Rattle.std.proofs.Common.{◌≡◌, ◌++◌, take}
use Rattle.std.specs.List.{flat_map}
use Rattle.alma_object_format.specs.Instrs.{instr_bytes}
use Rattle.alma_object.proofs.writing.push_instrs.Given as goal

abbrev pub invariant-loop-instr : goal.invariant-loop-instr
invariant-loop-instr l = l.out.items ≡ l.initial.out.items ++ flat_map instr_bytes (take l.instr-index l.instrs)
