use Rattle.alma_lower_parts.proofs.choice.begin_commit.Goals as goal

pub returns-clause-puts : goal.returns-clause-puts
returns-clause-puts c = record { b = _; takes = c.in_ok-mark.ensures.takes; codes = c.in_ok-put.ensures.codes }
