use Rattle.std.proofs.Common.{sym, ap, ◌∙◌}
use Rattle.alma_rules.specs.Judgement.{of_value, at_node, with_some}
use Rattle.alma_rules.specs.Parts as parts
use Rattle.alma_rules.specs.ExprRules as rules
use Rattle.alma_rules.specs.Nodes as nodes
use Rattle.alma_check_rules.specs.Views.{scene_of, typing_of}
use Rattle.alma_rules.proofs.Judging.{stops_more, passed, node_stops, node_fine, with_fine, with_some_fine}
use Rattle.alma_check_join_expr.proofs.expression.join_known.Goals as goal

pub returns-in_err-found : goal.returns-in_err-found
returns-in_err-found c = λ j m a. passed _ typing_of m _ _ c.from_residual.ensures.1 (stops_more j.faults _ _ (rw c.in_err-found.was at a))

pub returns-in_err-pass_known : goal.returns-in_err-pass_known
returns-in_err-pass_known c = λ j m a. passed _ typing_of m _ _ c.from_residual-in_err-pass_known.ensures.1
    (node_stops c.args.node (rules.known_rules (scene_of c.args.env.now c.args.place)) (with_some parts.located_in j) _ m _
    (with_some_fine parts.located_in j m _ (rw c.in_ok-found.was at a) ∙ ap (of_value m) (sym c.as_located-located.ensures))
    c.in_err-pass_known.ensures)

pub returns : goal.returns
returns c = λ j m a. with_fine nodes.known_typing
    (at_node c.args.node (rules.known_rules (scene_of c.args.env.now c.args.place)) (with_some parts.located_in j)) m _
    (node_fine c.args.node (rules.known_rules (scene_of c.args.env.now c.args.place)) (with_some parts.located_in j) m _
    (with_some_fine parts.located_in j m _ (rw c.in_ok-found.was at a) ∙ ap (of_value m) (sym c.as_located-located.ensures))
    c.in_ok-pass_known.ensures) ∙ ap (of_value m) (sym c.known.ensures)
