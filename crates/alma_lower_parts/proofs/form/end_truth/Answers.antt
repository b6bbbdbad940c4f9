use Rattle.alma_lower_parts.proofs.form.end_truth.Goals as goal

pub returns-clause-ends : goal.returns-clause-ends
returns-clause-ends c = record { b = _; aims = c.in_ok-aim_behind.ensures; codes = c.in_ok-put_truth.ensures }
