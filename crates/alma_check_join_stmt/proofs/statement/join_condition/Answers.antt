use Rattle.std.proofs.Common.{sym, ap, ◌∙◌}
use Rattle.alma_ir.specs.View.{test_of}
use Rattle.alma_rules.specs.Judgement.{of_value, at_node}
use Rattle.alma_rules.specs.Parts as parts
use Rattle.alma_rules.specs.ExprRules as rules
use Rattle.alma_check_rules.specs.Views.{scene_of, somewhere}
use Rattle.alma_rules.proofs.Judging.{stops_more, passed, node_stops, node_fine, with_fine}
use Rattle.alma_check_join_stmt.proofs.statement.join_condition.Goals as goal

pub returns-in_err-typed : goal.returns-in_err-typed
returns-in_err-typed c = λ j m a. passed _ test_of m _ _ c.from_residual.ensures.1 (stops_more j.faults _ _ (rw c.in_err-typed.was at a))

pub returns-in_err-pass_test : goal.returns-in_err-pass_test
returns-in_err-pass_test c = λ j m a. passed _ test_of m _ _ c.from_residual-in_err-pass_test.ensures.1
    (node_stops c.args.node (rules.test_rules (scene_of c.args.env.now somewhere)) (j) _ m _ ((rw c.in_ok-typed.was at a))
    c.in_err-pass_test.ensures)

pub returns : goal.returns
returns c = λ j m a. with_fine (λ (t : parts.Typing). parts.test_of t.meaning)
    (at_node c.args.node (rules.test_rules (scene_of c.args.env.now somewhere)) (j)) m _
    (node_fine c.args.node (rules.test_rules (scene_of c.args.env.now somewhere)) (j) m _ ((rw c.in_ok-typed.was at a))
    c.in_ok-pass_test.ensures) ∙ ap (of_value m) (sym c.condition.ensures)
