use Rattle.alma_check_marks.proofs.Steps.{◌▹◌, stays, ends}
use Rattle.alma_check_marks.proofs.declaration.mark_formals.Goals as goal

pub returns-in-None : goal.returns-in-None
returns-in-None c = rw c.in-None.is (stays _)

pub returns-in_ok-mark_more_formals-in-Some : goal.returns-in_ok-mark_more_formals-in-Some
returns-in_ok-mark_more_formals-in-Some c =
    rw c.in-Some.is (ends c.node.result _ _ (c.in_ok-mark_formal-in-Some.ensures
    ▹ (rw c.deref.ensures.value at c.in_ok-mark_more_formals-in-Some.ensures)) c.node.ensures)
