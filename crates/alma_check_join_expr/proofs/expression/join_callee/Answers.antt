use Rattle.std.proofs.Common.{sym, ap, ◌∙◌}
use Rattle.alma_rules.specs.Judgement.{of_value}
use Rattle.alma_rules.specs.Parts as parts
use Rattle.alma_check_rules.specs.Views.{headings_in, callee_of}
use Rattle.alma_rules.proofs.Judging.{passed, with_some_fine}
use Rattle.alma_check_join_expr.proofs.expression.join_callee.Goals as goal

pub returns-in_err-found : goal.returns-in_err-found
returns-in_err-found c = λ j m a. passed _ (callee_of (headings_in c.args.env.now)) m _ _ c.from_residual.ensures.1
    (rw c.in_err-found.was at a)

pub returns : goal.returns
returns c = λ j m a. with_some_fine parts.callee_in (j) m _ ((rw c.in_ok-found.was at a)) ∙ ap (of_value m) (sym c.as_callee.ensures)
