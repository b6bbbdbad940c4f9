use Rattle.std.proofs.Common.{◌≡◌, take}
use Rattle.std.specs.Prelude.{sum_by}
use Rattle.alma_ir.specs.Count.{saturate}
use Rattle.alma_join.proofs.Counting.{of_global}
use Rattle.alma_join.proofs.size.count_global_names.Given as goal

abbrev pub invariant-loop-global : goal.invariant-loop-global
invariant-loop-global l = l.total ≡ saturate (sum_by of_global (take l.global-index l.globals))
