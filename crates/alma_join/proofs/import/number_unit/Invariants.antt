use Rattle.alma_ir.specs.View.{program_of}
use Rattle.alma_join.proofs.Numbering.{Numbered}
use Rattle.alma_join.proofs.import.number_unit.Given as goal

abbrev pub invariant-loop-r : goal.invariant-loop-r
invariant-loop-r l = Numbered l.directory l.unit (program_of l.program) l.fn.next l.r l.next l.table.items
