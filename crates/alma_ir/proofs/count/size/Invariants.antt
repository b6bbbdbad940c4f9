use Rattle.std.proofs.Common.{◌≡◌, take}
use Rattle.std.specs.Prelude.{sum_by}
use Rattle.alma_ir.specs.Count.{saturate}
use Rattle.alma_ir.proofs.Counts.{of_routine}
use Rattle.alma_ir.proofs.count.size.Given as goal

abbrev pub invariant-loop-routine : goal.invariant-loop-routine
invariant-loop-routine l = l.total ≡ saturate (sum_by of_routine (take l.routine-index l.routine-items))
