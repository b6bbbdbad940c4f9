use Rattle.std.proofs.Common.{sym, ap, ◌∙◌}
use Rattle.alma_rules.specs.Judgement.{of_value, both, at_node}
use Rattle.alma_rules.specs.Parts as parts
use Rattle.alma_rules.specs.ExprRules as rules
use Rattle.alma_check_rules.specs.Views.{scene_of, typing_in, typing_of}
use Rattle.alma_rules.proofs.Judging.{stops_more, passed, no_memory, node_stops, node_fine, both_fine, with_fine}
use Rattle.alma_check_join_expr.proofs.expression.join_relation.Goals as goal

pub returns-in_err-right : goal.returns-in_err-right
returns-in_err-right c = λ j n m a. passed _ typing_of m _ _ c.from_residual.ensures.1
    (stops_more j.faults _ _ (rw c.in_err-right.was at a))

pub returns-in_err-pass_relation : goal.returns-in_err-pass_relation
returns-in_err-pass_relation c = λ j n m a. passed _ typing_of m _ _ c.from_residual-in_err-pass_relation.ensures.1
    (node_stops c.args.node (rules.relation_rules (scene_of c.args.env.now c.args.place) c.args.relation)
    (both (of_value n (typing_in c.args.left)) j) _ m _ (both_fine n m (typing_in c.args.left) j _ (rw c.in_ok-right.was at a))
    c.in_err-pass_relation.ensures)

pub returns-in_err-whole : goal.returns-in_err-whole
returns-in_err-whole c = λ j n m a. no_memory _ typing_of m _ c.from_residual-in_err-whole.ensures.1

pub returns : goal.returns
returns c = λ j n m a. with_fine (parts.relation_typing (scene_of c.args.env.now c.args.place) c.args.relation)
    (at_node c.args.node (rules.relation_rules (scene_of c.args.env.now c.args.place) c.args.relation)
    (both (of_value n (typing_in c.args.left)) j)) m _
    (node_fine c.args.node (rules.relation_rules (scene_of c.args.env.now c.args.place) c.args.relation)
    (both (of_value n (typing_in c.args.left)) j) m _ (both_fine n m (typing_in c.args.left) j _ (rw c.in_ok-right.was at a))
    c.in_ok-pass_relation.ensures) ∙ ap (of_value m) (sym c.in_ok-whole.ensures)
