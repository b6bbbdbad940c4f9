use Rattle.alma_parse_cursor.proofs.Steps as steps
use Rattle.alma_parse_expr.proofs.Stopped.{stopped}
use Rattle.alma_parse_stmt.proofs.head.loop_head.Goals as goal

pub returns-in_err-at : goal.returns-in_err-at
returns-in_err-at c = record { begins = stopped _ _ _ _ c.from_residual.ensures.1 (steps.first c.in_err-at.ensures.opened) }

pub returns-in_err-variable : goal.returns-in_err-variable
returns-in_err-variable c = record {
  begins = stopped _ _ _ _ c.from_residual-in_err-variable.ensures.1
      (steps.after (steps.opened c.requires.opening c.in_ok-at.ensures.opened) (steps.first (c.in_err-variable.ensures.read _)));
}

pub returns-in_err-at-2 : goal.returns-in_err-at-2
returns-in_err-at-2 c = record {
  begins = stopped _ _ _ _ c.from_residual-in_err-at-2.ensures.1
      (steps.after (steps.opened c.requires.opening c.in_ok-at.ensures.opened)
      (steps.after (c.in_ok-variable.ensures.read _) (c.in_err-at-2.ensures.passes _)));
}

pub returns : goal.returns
returns c = record {
  begins = record {
    first = _;
    second = _;
    opens_first = c.in_ok-at.ensures.opened;
    named = c.in_ok-variable.ensures.read _;
    assigned = c.in_ok-at-2.ensures.passes;
  };
}
