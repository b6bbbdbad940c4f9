use Rattle.std.proofs.Common.{◌≡◌, drop}
use Rattle.alma_rules.specs.View.{factors_of}
use Rattle.alma_rules.specs.Nodes as nodes
use Rattle.alma_check_build_expr.proofs.chain.any_and.Given as goal

abbrev pub invariant-loop-link : goal.invariant-loop-link
invariant-loop-link l = nodes.any_and (factors_of (drop l.link-index l.more)) ≡ nodes.any_and (factors_of l.more)
