use Rattle.alma_parse_cursor.proofs.Steps as steps
use Rattle.alma_parse_cursor.proofs.Turns.{want}
use Rattle.alma_parse_expr.proofs.Stopped.{stopped}
use Rattle.alma_parse_stmt.proofs.node.nothing.Goals as goal

pub returns-in_err-node : goal.returns-in_err-node
returns-in_err-node c = record { read = stopped _ _ _ _ c.from_residual.ensures.1 (λ d. want c.in_err-node.ensures.counted) }

pub returns : goal.returns
returns c = record { read = λ d. steps.counted c.in_ok-node.ensures.counted }
