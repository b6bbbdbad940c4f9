use Rattle.alma_rules.specs.ExprRules as rules
use Rattle.alma_check_rules.specs.Views.{scene_of, somewhere, operand_view, typing_of}
use Rattle.alma_rules.proofs.Judging.{stops_more, passed, node_stops, node_fine}
use Rattle.alma_check_join_expr.proofs.expression.join_factor.Goals as goal

pub returns-in_err-typed : goal.returns-in_err-typed
returns-in_err-typed c = λ j m a. passed _ typing_of m _ _ c.from_residual.ensures.1 (stops_more j.faults _ _ (rw c.in_err-typed.was at a))

pub returns-in_err-pass_operand : goal.returns-in_err-pass_operand
returns-in_err-pass_operand c = λ j m a. passed _ typing_of m _ _ c.from_residual-in_err-pass_operand.ensures.1
    (node_stops c.args.node (rules.operand_rules (scene_of c.args.env.now somewhere) (operand_view c.args.operand)) (j) _ m _
    ((rw c.in_ok-typed.was at a)) c.in_err-pass_operand.ensures)

pub returns : goal.returns
returns c = λ j m a. node_fine c.args.node (rules.operand_rules (scene_of c.args.env.now somewhere) (operand_view c.args.operand)) (j) m _
    ((rw c.in_ok-typed.was at a)) c.in_ok-pass_operand.ensures
