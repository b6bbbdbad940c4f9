use Rattle.alma_lower_parts.proofs.form.begin_while.Goals as goal

pub returns : goal.returns
returns c = record { top_at = c.in_ok-top.ensures; codes = c.in_ok-put.ensures.codes }
