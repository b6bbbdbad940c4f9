use Rattle.std.proofs.Common.{◌≡◌, take}
use Rattle.std.specs.Prelude.{map}
use Rattle.alma_lower_templates.specs.Compiled.{param_named}
use Rattle.alma_lower_tables.proofs.tables.named_params.Given as goal

abbrev pub invariant-loop-param : goal.invariant-loop-param
invariant-loop-param l = l.named.items ≡ map param_named (take l.param-index l.params)
