use Rattle.alma_check_marks.proofs.Steps.{stays, ends_in}
use Rattle.alma_check_marks.proofs.declaration.mark_params.Goals as goal

pub returns-in-None : goal.returns-in-None
returns-in-None c = rw c.in-None.is (stays _)

pub returns-in_ok-mark_formals-in-Some : goal.returns-in_ok-mark_formals-in-Some
returns-in_ok-mark_formals-in-Some c = rw c.in-Some.is
    (ends_in c.token-in-Some.result _ _ c.in_ok-token-in-Some.ensures
    (ends_in c.token-in-Some.result _ _ c.in_ok-mark_formals-in-Some.ensures c.token-in-Some.ensures))
