use Rattle.std.proofs.Common.{◌≡◌, take}
use Rattle.std.specs.Prelude.{sum_by}
use Rattle.alma_ir.specs.Count.{saturate}
use Rattle.alma_join.proofs.Counting.{of_texts}
use Rattle.alma_join.proofs.size.count_texts.Given as goal

abbrev pub invariant-loop-routine : goal.invariant-loop-routine
invariant-loop-routine l = l.total ≡ saturate (sum_by of_texts (take l.routine-index l.routines))
