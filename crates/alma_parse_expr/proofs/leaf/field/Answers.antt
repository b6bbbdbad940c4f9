use Rattle.std.proofs.Common.{refl}
use Rattle.alma_parse_cursor.proofs.Steps as steps
use Rattle.alma_parse_cursor.proofs.Turns.{want}
use Rattle.alma_parse_expr.proofs.Stopped.{stopped}
use Rattle.alma_parse_expr.proofs.leaf.field.Goals as goal

pub returns-in_err-at-clause-read : goal.returns-in_err-at-clause-read
returns-in_err-at-clause-read c = stopped _ _ _ _ c.from_residual.ensures.1 (λ d. steps.first (c.in_err-at.ensures.passes d))

pub returns-in_err-name-clause-read : goal.returns-in_err-name-clause-read
returns-in_err-name-clause-read c = stopped _ _ _ _ c.from_residual-in_err-name.ensures.1
    (λ d. steps.after (steps.passed refl refl c.in_ok-at.ensures.passes) (c.in_err-name.ensures.read d))

pub returns-in_err-node-clause-read : goal.returns-in_err-node-clause-read
returns-in_err-node-clause-read c = stopped _ _ _ _ c.from_residual-in_err-node.ensures.1 (λ d. want c.in_err-node.ensures.counted)

pub returns-clause-read : goal.returns-clause-read
returns-clause-read c = λ d.
    steps.then (steps.passed refl refl c.in_ok-at.ensures.passes)
    (steps.then (c.in_ok-name.ensures.read d) (steps.counted c.in_ok-node.ensures.counted))

pub returns-clause-shorter : goal.returns-clause-shorter
returns-clause-shorter c =
    steps.strictly c.in_ok-at.ensures.passes (steps.then (c.in_ok-name.ensures.read 0) (steps.counted c.in_ok-node.ensures.counted))
