use Rattle.std.proofs.Common.{◌≡◌, ◌++◌, take}
use Rattle.alma_lower_templates.specs.Slots.{params_kinds}
use Rattle.alma_lower_tables.proofs.kinds.push_params.Given as goal

abbrev pub invariant-loop-param : goal.invariant-loop-param
invariant-loop-param l = l.kinds.items ≡ l.fn.kinds.items ++ params_kinds (take l.param-index l.params)
