use Rattle.std.proofs.Common.{sym, ap, ◌∙◌}
use Rattle.alma_ir.specs.Tree as ir
use Rattle.alma_rules.specs.Judgement.{of_value, at_node}
use Rattle.alma_rules.specs.Parts as parts
use Rattle.alma_rules.specs.ExprRules as rules
use Rattle.alma_check_rules.specs.Views.{scene_of, typing_of}
use Rattle.alma_rules.proofs.Judging.{stops_more, passed, node_stops, node_fine, with_fine}
use Rattle.alma_check_join_expr.proofs.expression.join_sequence.Goals as goal

pub returns-in_err-body : goal.returns-in_err-body
returns-in_err-body c = λ j m a. passed _ typing_of m _ _ c.from_residual.ensures.1 (stops_more j.faults _ _ (rw c.in_err-body.was at a))

pub returns-in_err-pass_constant : goal.returns-in_err-pass_constant
returns-in_err-pass_constant c = λ j m a. passed _ typing_of m _ _ c.from_residual-in_err-pass_constant.ensures.1
    (node_stops c.args.node (rules.sequence_rules (scene_of c.args.env.now c.args.place)) (j) _ m _ ((rw c.in_ok-body.was at a))
    c.in_err-pass_constant.ensures)

pub returns : goal.returns
returns c = λ j m a. with_fine (λ (b : ir.Stmts). parts.boolean_typing (parts.a_test (ir.Seq b)))
    (at_node c.args.node (rules.sequence_rules (scene_of c.args.env.now c.args.place)) (j)) m _
    (node_fine c.args.node (rules.sequence_rules (scene_of c.args.env.now c.args.place)) (j) m _ ((rw c.in_ok-body.was at a))
    c.in_ok-pass_constant.ensures) ∙ ap (of_value m) (sym c.sequence.ensures)
