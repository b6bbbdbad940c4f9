use Rattle.alma_lower_work.proofs.Joins.{on_ok_map}
use Rattle.alma_lower_parts.proofs.loops.end_for.Goals as goal

pub returns-clause-ends : goal.returns-clause-ends
returns-clause-ends c = on_ok_map c.aim_behind.result
    (λ h. record { b = _; out = _; out_at = c.in_ok-out.ensures; codes = c.in_ok-put_step.ensures; aims = h }) c.aim_behind.ensures
