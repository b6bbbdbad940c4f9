use Rattle.std.proofs.Common.{sym, ap, ◌∙◌}
use Rattle.alma_rules.specs.Judgement.{of_value, at_node}
use Rattle.alma_rules.specs.StmtRules as stmt_rules
use Rattle.alma_rules.specs.Nodes as nodes
use Rattle.alma_check_rules.specs.Views.{scene_of, somewhere}
use Rattle.alma_rules.proofs.Judging.{stops_more, passed, node_stops, node_fine, with_some_fine}
use Rattle.alma_check_join_stmt.proofs.Passed.{same_value}
use Rattle.alma_check_join_stmt.proofs.turns.join_step.Goals as goal

pub returns-in_err-typed : goal.returns-in_err-typed
returns-in_err-typed c = λ j m a. passed _ (λ v. v) m _ _ c.from_residual.ensures.1 (stops_more j.faults _ _ (rw c.in_err-typed.was at a))

pub returns-in_err-pass_by : goal.returns-in_err-pass_by
returns-in_err-pass_by c = λ j m a. passed _ (λ v. v) m _ _ c.from_residual-in_err-pass_by.ensures.1
    (node_stops c.args.node (stmt_rules.by_rules (scene_of c.args.env.now somewhere)) (j) _ m _ ((rw c.in_ok-typed.was at a))
    c.in_err-pass_by.ensures)

pub returns : goal.returns
returns c = λ j m a. with_some_fine nodes.constant_in (at_node c.args.node (stmt_rules.by_rules (scene_of c.args.env.now somewhere)) (j)) m
    _ (node_fine c.args.node (stmt_rules.by_rules (scene_of c.args.env.now somewhere)) (j) m _ ((rw c.in_ok-typed.was at a))
    c.in_ok-pass_by.ensures) ∙ ap (of_value m) (sym (same_value _ ∙ c.constant.ensures))
