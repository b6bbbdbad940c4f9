-- The routines so far.
use Rattle.std.specs.Prelude.{map}
use Rattle.alma_code.specs.Plain as code
use Rattle.alma_ir.specs.View.{program_of}
use Rattle.alma_lower_work.specs.Front.{front}
use Rattle.alma_lower_tables.specs.Numbers.{tables_of}
use Rattle.alma_lower.proofs.Making.{Makes}
use Rattle.alma_lower.proofs.routines.lower_routines.Given as goal

abbrev pub invariant-loop-i : goal.invariant-loop-i
invariant-loop-i l = Makes (program_of l.program) (tables_of l.numbers) l.i (front l.work).code (map code.routine_of l.heads.items)
