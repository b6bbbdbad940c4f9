use Rattle.std.proofs.Common.{sym, ap, ◌∙◌}
use Rattle.alma_rules.specs.Judgement.{of_value, at_node, with}
use Rattle.alma_rules.specs.ExprRules as rules
use Rattle.alma_rules.specs.Nodes as nodes
use Rattle.alma_check_rules.specs.Views.{scene_of, somewhere, operand_view, typing_of}
use Rattle.alma_rules.proofs.Judging.{stops_more, passed, no_memory, node_stops, node_fine, with_fine}
use Rattle.alma_check_join_expr.proofs.expression.join_not.Goals as goal

pub returns-in_err-typed : goal.returns-in_err-typed
returns-in_err-typed c = λ j m a. passed _ typing_of m _ _ c.from_residual.ensures.1
    (stops_more _ _ _ (stops_more j.faults _ _ (rw c.in_err-typed.was at a)))

pub returns-in_err-pass_test : goal.returns-in_err-pass_test
returns-in_err-pass_test c = λ j m a. passed _ typing_of m _ _ c.from_residual-in_err-pass_test.ensures.1
    (stops_more (with nodes.not_typing (at_node c.args.inner (rules.test_rules (scene_of c.args.env.now somewhere)) j)).faults _ _
    (node_stops c.args.inner (rules.test_rules (scene_of c.args.env.now somewhere)) j _ m _ (rw c.in_ok-typed.was at a)
    c.in_err-pass_test.ensures))

pub returns-in_err-whole : goal.returns-in_err-whole
returns-in_err-whole c = λ j m a. no_memory _ typing_of m _ c.from_residual-in_err-whole.ensures.1

pub returns-in_err-pass_not : goal.returns-in_err-pass_not
returns-in_err-pass_not c = λ j m a. passed _ typing_of m _ _ c.from_residual-in_err-pass_not.ensures.1
    (node_stops c.args.node (rules.not_rules (scene_of c.args.env.now c.args.place) (operand_view c.args.operand))
    (with nodes.not_typing (at_node c.args.inner (rules.test_rules (scene_of c.args.env.now somewhere)) j)) _ m _
    (with_fine nodes.not_typing (at_node c.args.inner (rules.test_rules (scene_of c.args.env.now somewhere)) j) m _
    (node_fine c.args.inner (rules.test_rules (scene_of c.args.env.now somewhere)) j m _ (rw c.in_ok-typed.was at a)
    c.in_ok-pass_test.ensures) ∙ ap (of_value m) (sym c.in_ok-whole.ensures)) c.in_err-pass_not.ensures)

pub returns : goal.returns
returns c = λ j m a. node_fine c.args.node (rules.not_rules (scene_of c.args.env.now c.args.place) (operand_view c.args.operand))
    (with nodes.not_typing (at_node c.args.inner (rules.test_rules (scene_of c.args.env.now somewhere)) j)) m _
    (with_fine nodes.not_typing (at_node c.args.inner (rules.test_rules (scene_of c.args.env.now somewhere)) j) m _
    (node_fine c.args.inner (rules.test_rules (scene_of c.args.env.now somewhere)) j m _ (rw c.in_ok-typed.was at a)
    c.in_ok-pass_test.ensures) ∙ ap (of_value m) (sym c.in_ok-whole.ensures)) c.in_ok-pass_not.ensures
