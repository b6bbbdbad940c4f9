use Rattle.alma_parse_cursor.proofs.Steps as steps
use Rattle.alma_parse_expr.proofs.Stopped.{stopped}
use Rattle.alma_parse_expr.proofs.step.open_after.Goals as goal

pub returns-in_err-at : goal.returns-in_err-at
returns-in_err-at c = record { opened = stopped _ _ _ _ c.from_residual.ensures.1 (steps.first (c.in_err-at.ensures.passes _)) }
