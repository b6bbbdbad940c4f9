use Rattle.std.proofs.Common.{sym, ap, ◌∙◌}
use Rattle.alma_rules.specs.Judgement.{of_value, both, at_node}
use Rattle.alma_rules.specs.Parts as parts
use Rattle.alma_rules.specs.StmtRules as stmt_rules
use Rattle.alma_check_rules.specs.Views.{scene_of, somewhere, located_in, stmts_of}
use Rattle.alma_rules.proofs.Judging.{stops_more, passed, no_memory, node_stops, node_fine, both_fine, with_fine}
use Rattle.alma_check_join_stmt.proofs.statement.join_assign.Goals as goal

pub returns-in_err-typed : goal.returns-in_err-typed
returns-in_err-typed c = λ j n m a. passed _ stmts_of m _ _ c.from_residual.ensures.1 (stops_more j.faults _ _ (rw c.in_err-typed.was at a))

pub returns-in_err-pass_assign : goal.returns-in_err-pass_assign
returns-in_err-pass_assign c = λ j n m a. passed _ stmts_of m _ _ c.from_residual-in_err-pass_assign.ensures.1
    (node_stops c.args.node (stmt_rules.assign_rules (scene_of c.args.env.now somewhere)) (both (of_value n (located_in c.args.located)) j)
    _ m _ (both_fine n m (located_in c.args.located) j _ (rw c.in_ok-typed.was at a)) c.in_err-pass_assign.ensures)

pub returns-in_err-whole : goal.returns-in_err-whole
returns-in_err-whole c = λ j n m a. no_memory _ stmts_of m _ c.from_residual-in_err-whole.ensures.1

pub returns : goal.returns
returns c = λ j n m a. with_fine (parts.assignment_stmts (scene_of c.args.env.now somewhere))
    (at_node c.args.node (stmt_rules.assign_rules (scene_of c.args.env.now somewhere)) (both (of_value n (located_in c.args.located)) j)) m
    _ (node_fine c.args.node (stmt_rules.assign_rules (scene_of c.args.env.now somewhere)) (both (of_value n (located_in c.args.located)) j)
    m _ (both_fine n m (located_in c.args.located) j _ (rw c.in_ok-typed.was at a)) c.in_ok-pass_assign.ensures)
    ∙ ap (of_value m) (sym c.in_ok-whole.ensures)
