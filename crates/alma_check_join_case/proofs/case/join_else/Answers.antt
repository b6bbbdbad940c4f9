use Rattle.std.proofs.Common.{sym, ap, ◌∙◌}
use Rattle.alma_ir.specs.Tree as ir
use Rattle.alma_ir.specs.View.{else_option}
use Rattle.alma_rules.specs.Judgement.{of_value}
use Rattle.alma_rules.proofs.Judging.{passed, with_fine}
use Rattle.alma_check_join_case.proofs.case.join_else.Goals as goal

pub returns-in_err-body : goal.returns-in_err-body
returns-in_err-body c = λ j m a. passed _ else_option m _ _ c.from_residual.ensures.1 (rw c.in_err-body.was at a)

pub returns : goal.returns
returns c = λ j m a. with_fine ir.else_part (j) m _ ((rw c.in_ok-body.was at a)) ∙ ap (of_value m) (sym c.else_part.ensures)
