use Rattle.std.proofs.Common.{sym, ap, ◌∙◌}
use Rattle.alma_rules.specs.Judgement.{of_value, at_node}
use Rattle.alma_rules.specs.ExprRules as rules
use Rattle.alma_rules.specs.Nodes as nodes
use Rattle.alma_check_rules.specs.Views.{scene_of, somewhere, typing_of}
use Rattle.alma_rules.proofs.Judging.{stops_more, passed, no_memory, node_stops, node_fine, with_fine}
use Rattle.alma_check_join_expr.proofs.expression.join_ord.Goals as goal

pub returns-in_err-typed : goal.returns-in_err-typed
returns-in_err-typed c = λ j m a. passed _ typing_of m _ _ c.from_residual.ensures.1 (stops_more j.faults _ _ (rw c.in_err-typed.was at a))

pub returns-in_err-pass_simple : goal.returns-in_err-pass_simple
returns-in_err-pass_simple c = λ j m a. passed _ typing_of m _ _ c.from_residual-in_err-pass_simple.ensures.1
    (node_stops c.args.node (rules.simple_rules (scene_of c.args.env.now somewhere)) (j) _ m _ ((rw c.in_ok-typed.was at a))
    c.in_err-pass_simple.ensures)

pub returns-in_err-whole : goal.returns-in_err-whole
returns-in_err-whole c = λ j m a. no_memory _ typing_of m _ c.from_residual-in_err-whole.ensures.1

pub returns : goal.returns
returns c = λ j m a. with_fine nodes.ord_typing (at_node c.args.node (rules.simple_rules (scene_of c.args.env.now somewhere)) (j)) m _
    (node_fine c.args.node (rules.simple_rules (scene_of c.args.env.now somewhere)) (j) m _ ((rw c.in_ok-typed.was at a))
    c.in_ok-pass_simple.ensures) ∙ ap (of_value m) (sym c.in_ok-whole.ensures)
