use Rattle.std.proofs.Common.{◌≡◌}
use Rattle.alma_ir.specs.View.{links_list}
use Rattle.alma_rules.specs.Parts as parts
use Rattle.alma_check_rules.specs.Views.{operands_view}
use Rattle.alma_check_build_expr.proofs.chain.links.Given as goal

abbrev pub invariant-loop-behind : goal.invariant-loop-behind
invariant-loop-behind l = links_list l.links.items ≡ parts.links_of (operands_view l.yielded)
