use Rattle.alma_ir.specs.View.{program_of}
use Rattle.alma_join.proofs.Marks.{BareFirst}
use Rattle.alma_join.proofs.bare.mark_bare.Given as goal

abbrev pub invariant-loop-r : goal.invariant-loop-r
invariant-loop-r l = BareFirst (program_of l.program) l.r l.marks.items
