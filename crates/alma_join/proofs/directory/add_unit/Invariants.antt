use Rattle.alma_ir.specs.View.{program_of}
use Rattle.alma_join.proofs.Going.{UnitGoes}
use Rattle.alma_join.proofs.directory.add_unit.Given as goal

abbrev pub invariant-loop-r : goal.invariant-loop-r
invariant-loop-r l = UnitGoes l.fn.directory l.directory l.unit (program_of l.program) l.r
