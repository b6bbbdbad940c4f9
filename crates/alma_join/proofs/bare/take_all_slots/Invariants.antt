use Rattle.std.proofs.Common.{◌≡◌, ◌+◌, drop}
use Rattle.std.specs.Prelude.{sum_by}
use Rattle.alma_ir.specs.Checked.{param_slots}
use Rattle.alma_join.proofs.bare.take_all_slots.Given as goal

abbrev pub invariant-loop-param : goal.invariant-loop-param
invariant-loop-param l = l.slots + sum_by param_slots (drop l.param-index l.params) ≡ l.left + sum_by param_slots l.params
