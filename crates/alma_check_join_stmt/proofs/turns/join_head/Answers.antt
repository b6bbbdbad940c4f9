use Rattle.std.proofs.Common.{refl}
use Rattle.alma_check_join_stmt.proofs.Passed.{head_passed}
use Rattle.alma_check_join_stmt.proofs.turns.join_head.Goals as goal

pub returns-in_err-high : goal.returns-in_err-high
returns-in_err-high c = λ j m a. head_passed _ _ j m _ _ c.from_residual.ensures.1 (rw c.in_err-high.was at a)

pub returns : goal.returns
returns c = λ j m a. (refl, refl, refl, rw c.in_ok-high.was at a)
