use Rattle.std.proofs.Common.{sym, ap, ◌∙◌}
use Rattle.alma_rules.specs.Judgement.{of_value}
use Rattle.alma_check_build_expr.specs.Lists.{test_in, guarded_of}
use Rattle.alma_rules.proofs.Judging.{passed, both_fine}
use Rattle.alma_check_join_stmt.proofs.statement.join_guarded.Goals as goal

pub returns-in_err-body : goal.returns-in_err-body
returns-in_err-body c = λ j n m a. passed _ guarded_of m _ _ c.from_residual.ensures.1 (rw c.in_err-body.was at a)

pub returns : goal.returns
returns c = λ j n m a. both_fine n m (test_in c.args.test) j _ (rw c.in_ok-body.was at a) ∙ ap (of_value m) (sym c.guarded_arm.ensures)
