use Rattle.std.proofs.Common.{sym, ap, ◌∙◌}
use Rattle.alma_rules.specs.Judgement.{of_value}
use Rattle.alma_rules.specs.Nodes as nodes
use Rattle.alma_check_rules.specs.Views.{stmts_of}
use Rattle.alma_rules.proofs.Judging.{passed, no_memory, with_fine}
use Rattle.alma_check_join_stmt.proofs.statement.join_line.Goals as goal

pub returns-in_err-items : goal.returns-in_err-items
returns-in_err-items c = λ j m a. passed _ stmts_of m _ _ c.from_residual.ensures.1 (rw c.in_err-items.was at a)

pub returns-in_err-whole : goal.returns-in_err-whole
returns-in_err-whole c = λ j m a. no_memory _ stmts_of m _ c.from_residual-in_err-whole.ensures.1

pub returns : goal.returns
returns c = λ j m a. with_fine nodes.with_line (j) m _ ((rw c.in_ok-items.was at a)) ∙ ap (of_value m) (sym c.in_ok-whole.ensures)
