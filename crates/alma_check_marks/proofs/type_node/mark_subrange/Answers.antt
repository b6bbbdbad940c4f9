use Rattle.alma_rules.specs.Places as places
use Rattle.alma_check_marks.proofs.Steps.{◌▹◌, ends}
use Rattle.alma_check_marks.proofs.type_node.mark_subrange.Goals as goal

pub returns : goal.returns
unfolding places.mark_type
returns c = ends c.node.result _ _ (c.in_ok-token.ensures ▹ c.in_ok-mark_expr.ensures ▹ c.in_ok-token-2.ensures
    ▹ c.in_ok-mark_expr-2.ensures ▹ c.in_ok-token-3.ensures) c.node.ensures
