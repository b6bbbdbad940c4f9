use Rattle.alma_check_marks.proofs.Steps.{noted_in}
use Rattle.alma_check_marks.proofs.mark.closed.Goals as goal

pub returns-clause-noted : goal.returns-clause-noted
returns-clause-noted c = noted_in c.in_ok-token.ensures c.in_ok-node.ensures
