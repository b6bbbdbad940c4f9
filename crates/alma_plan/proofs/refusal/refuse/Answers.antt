use Rattle.alma_plan.proofs.refusal.refuse.Goals as goal

pub returns-in-BadWord : goal.returns-in-BadWord
returns-in-BadWord g c = rw c.in-BadWord.is c.tell_number.ensures

pub returns-in-BadCode : goal.returns-in-BadCode
returns-in-BadCode g c = rw c.in-BadCode.is c.refuse_code.ensures

pub returns-in-Stopped : goal.returns-in-Stopped
returns-in-Stopped g c = rw c.in-Stopped.is (rw (c.status.ensures, c.text.ensures) at c.tell_line.ensures)
