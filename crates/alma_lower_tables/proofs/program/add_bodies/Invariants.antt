-- The bodies that were passed.
use Rattle.std.proofs.Common.{take}
use Rattle.std.specs.Prelude.{map}
use Rattle.alma_ir.specs.View.{routine_of}
use Rattle.alma_ir.specs.Phrases.{stmts_phrases}
use Rattle.alma_lower_sound.specs.Entries.{of_each}
use Rattle.alma_lower_tables.specs.Numbers.{tables_of}
use Rattle.alma_lower_tables.specs.AddsPhrases.{AddsPhrases}
use Rattle.alma_lower_tables.proofs.program.add_bodies.Given as goal

abbrev pub invariant-loop-routine : goal.invariant-loop-routine
invariant-loop-routine l = AddsPhrases (tables_of l.fn.numbers) (tables_of l.numbers)
    (of_each (λ r. stmts_phrases r.body) (map routine_of (take l.routine-index l.routine-items)))
