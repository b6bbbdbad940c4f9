-- The arms that were looked at have labels.
use Rattle.std.proofs.Common.{◌≡◌, drop}
use Rattle.alma_ir.specs.View.{cases_list}
use Rattle.alma_lower_templates.specs.Pieces.{has_dead}
use Rattle.alma_lower_parts.proofs.case.has_dead.Given as goal

abbrev pub invariant-loop-arm : goal.invariant-loop-arm
invariant-loop-arm l = has_dead (cases_list (drop l.arm-index l.arms)) ≡ has_dead (cases_list l.arms)
