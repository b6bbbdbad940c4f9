use Rattle.std.proofs.Common.{sym, ap, ◌∙◌}
use Rattle.alma_ir.specs.Tree as ir
use Rattle.alma_rules.specs.Judgement.{of_value, with}
use Rattle.alma_rules.specs.Parts as parts
use Rattle.alma_check_rules.specs.Views.{stmts_of}
use Rattle.alma_rules.proofs.Judging.{passed, no_memory, with_fine}
use Rattle.alma_check_join_stmt.proofs.statement.join_either.Goals as goal

pub returns-in_err-branches : goal.returns-in_err-branches
returns-in_err-branches c = λ j m a. passed _ stmts_of m _ _ c.from_residual.ensures.1 (rw c.in_err-branches.was at a)

pub returns-in_err-whole : goal.returns-in_err-whole
returns-in_err-whole c = λ j m a. no_memory _ stmts_of m _ c.from_residual-in_err-whole.ensures.1

pub returns : goal.returns
returns c = λ j m a. with_fine parts.one_stmt (with ir.Either (j)) m _ (with_fine ir.Either (j) m _ ((rw c.in_ok-branches.was at a)))
    ∙ ap (of_value m) (sym c.in_ok-whole.ensures)
