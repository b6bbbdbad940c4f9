use Rattle.std.proofs.Common.{refl, ap, ◌∙◌}
use Rattle.alma_rules.specs.Judgement.{of_value}
use Rattle.alma_check_join_stmt.proofs.Passed.{turned_passed, same_value}
use Rattle.alma_check_join_stmt.proofs.turns.join_by.Goals as goal

pub returns-in_err-by : goal.returns-in_err-by
returns-in_err-by c = λ j m a. turned_passed _ j m _ _ c.from_residual.ensures.1 (rw c.in_err-by.was at a)

pub returns : goal.returns
returns c = λ j m a. (refl, refl, (rw c.in_ok-by.was at a) ∙ ap (of_value m) (same_value _))
