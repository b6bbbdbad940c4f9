use Rattle.std.proofs.Common.{◌≡◌, take}
use Rattle.std.specs.Prelude.{sum_by}
use Rattle.alma_ir.specs.Count.{saturate}
use Rattle.alma_join.proofs.Counting.{of_params}
use Rattle.alma_join.proofs.size.count_params.Given as goal

abbrev pub invariant-loop-routine : goal.invariant-loop-routine
invariant-loop-routine l = l.total ≡ saturate (sum_by of_params (take l.routine-index l.routines))
