-- The results that were passed.
use Rattle.std.proofs.Common.{take, []}
use Rattle.std.specs.Prelude.{map}
use Rattle.alma_ir.specs.View.{routine_of}
use Rattle.alma_lower_sound.specs.Entries.{of_each}
use Rattle.alma_lower_tables.specs.Numbers.{tables_of}
use Rattle.alma_lower_tables.specs.AddsPhrases.{Names, checked_result}
use Rattle.alma_lower_tables.proofs.program.add_results.Given as goal

abbrev pub invariant-loop-routine : goal.invariant-loop-routine
invariant-loop-routine l = Names (tables_of l.fn.numbers) (tables_of l.numbers)
    (of_each (λ r. checked_result r.result) (map routine_of (take l.routine-index l.routine-items))) []
