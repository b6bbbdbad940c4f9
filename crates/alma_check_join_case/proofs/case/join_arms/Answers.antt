use Rattle.std.proofs.Common.{refl}
use Rattle.alma_check_join_case.proofs.Passed.{armed_passed}
use Rattle.alma_check_join_case.proofs.case.join_arms.Goals as goal

pub returns-in_err-arms : goal.returns-in_err-arms
returns-in_err-arms c = λ j m a. armed_passed _ j m _ _ c.from_residual.ensures.1 (rw c.in_err-arms.was at a)

pub returns : goal.returns
returns c = λ j m a. (refl, rw c.in_ok-arms.was at a)
