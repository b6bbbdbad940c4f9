use Rattle.std.proofs.Common.{sym, ap, ◌∙◌}
use Rattle.alma_rules.specs.Judgement.{of_value, at_node}
use Rattle.alma_rules.specs.Parts as parts
use Rattle.alma_rules.specs.StmtRules as stmt_rules
use Rattle.alma_check_rules.specs.Views.{scene_of, somewhere, stmts_of}
use Rattle.alma_rules.proofs.Judging.{stops_more, passed, no_memory, node_stops, node_fine, with_fine}
use Rattle.alma_check_join_stmt.proofs.statement.join_read.Goals as goal

pub returns-in_err-located : goal.returns-in_err-located
returns-in_err-located c = λ j m a. passed _ stmts_of m _ _ c.from_residual.ensures.1
    (stops_more j.faults _ _ (rw c.in_err-located.was at a))

pub returns-in_err-pass_read : goal.returns-in_err-pass_read
returns-in_err-pass_read c = λ j m a. passed _ stmts_of m _ _ c.from_residual-in_err-pass_read.ensures.1
    (node_stops c.args.node (stmt_rules.read_rules (scene_of c.args.env.now somewhere)) (j) _ m _ ((rw c.in_ok-located.was at a))
    c.in_err-pass_read.ensures)

pub returns-in_err-whole : goal.returns-in_err-whole
returns-in_err-whole c = λ j m a. no_memory _ stmts_of m _ c.from_residual-in_err-whole.ensures.1

pub returns : goal.returns
returns c = λ j m a. with_fine (parts.read_stmts (scene_of c.args.env.now somewhere))
    (at_node c.args.node (stmt_rules.read_rules (scene_of c.args.env.now somewhere)) (j)) m _
    (node_fine c.args.node (stmt_rules.read_rules (scene_of c.args.env.now somewhere)) (j) m _ ((rw c.in_ok-located.was at a))
    c.in_ok-pass_read.ensures) ∙ ap (of_value m) (sym c.in_ok-whole.ensures)
