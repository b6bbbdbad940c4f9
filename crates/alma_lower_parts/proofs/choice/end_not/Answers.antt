use Rattle.alma_lower_work.proofs.Joins.{code_code, on_ok_map}
use Rattle.alma_lower_parts.proofs.choice.end_not.Goals as goal

pub returns-clause-ends : goal.returns-clause-ends
returns-clause-ends c = on_ok_map c.aim_behind.result
    (λ h. record { b = _; codes = code_code _ _ _ _ _ c.in_ok-put.ensures.codes c.in_ok-put-2.ensures.codes; aims = h })
    c.aim_behind.ensures
