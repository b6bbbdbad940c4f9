use Rattle.alma_lower_work.proofs.Joins.{on_ok_map}
use Rattle.alma_lower_parts.proofs.choice.end_both.Goals as goal

pub returns-clause-ends : goal.returns-clause-ends
returns-clause-ends c = on_ok_map c.end_forall.result (λ h. record { b = _; each = c.in_ok-end_each.ensures; whole = h })
    c.end_forall.ensures
