use Rattle.std.proofs.Common.{◌≡◌, take}
use Rattle.std.specs.Prelude.{map}
use Rattle.alma_code.specs.Plain as code
use Rattle.alma_ir.specs.View as view
use Rattle.alma_lower_templates.specs.Compiled.{global_named}
use Rattle.alma_lower_tables.proofs.tables.globals_of.Given as goal

abbrev pub invariant-loop-global : goal.invariant-loop-global
invariant-loop-global l = map code.global_of l.named.items ≡ map global_named (map view.global_of (take l.global-index l.globals))
