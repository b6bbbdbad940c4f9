use Rattle.alma_copy.specs.Numbers.{moves_of}
use Rattle.alma_ir.specs.View.{program_of}
use Rattle.alma_join.proofs.Copies.{ProceduresCopied}
use Rattle.alma_join.proofs.part.add_procedures.Given as goal

abbrev pub invariant-loop-r : goal.invariant-loop-r
invariant-loop-r l = ProceduresCopied (moves_of l.moves) (program_of l.program) l.fn.procedures.items l.procedures.items l.r
