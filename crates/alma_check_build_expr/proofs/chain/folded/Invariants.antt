use Rattle.std.proofs.Common.{◌≡◌, drop}
use Rattle.alma_rules.specs.Parts as parts
use Rattle.alma_check_rules.specs.Views.{typing_of, operands_view}
use Rattle.alma_check_build_expr.proofs.chain.folded.Given as goal

abbrev pub invariant-loop-behind : goal.invariant-loop-behind
invariant-loop-behind l = parts.folded_from l.value (operands_view (drop l.behind-index l.rest)) ≡ parts.chain_value l.fn.sign
    (typing_of l.first, operands_view l.rest)
