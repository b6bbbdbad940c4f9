use Rattle.std.proofs.Common.{take}
use Rattle.std.specs.Prelude.{All}
use Rattle.alma_object.specs.Fields.{FitsInstr}
use Rattle.alma_verify.proofs.fields.fits_instrs.Given as goal

abbrev pub invariant-loop-instr : goal.invariant-loop-instr
invariant-loop-instr l = All FitsInstr (take l.instr-index l.instrs)
