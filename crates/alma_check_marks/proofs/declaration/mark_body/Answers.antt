use Rattle.alma_check_marks.proofs.Steps.{stays, ends_in}
use Rattle.alma_check_marks.proofs.declaration.mark_body.Goals as goal

pub returns-in-None : goal.returns-in-None
returns-in-None c = rw c.in-None.is (stays _)

pub returns-in_ok-token-in-Some : goal.returns-in_ok-token-in-Some
returns-in_ok-token-in-Some c = rw c.in-Some.is (ends_in c.mark_stmts.result _ _ c.in_ok-token-in-Some.ensures c.mark_stmts.ensures)
