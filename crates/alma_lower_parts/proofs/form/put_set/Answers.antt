use Rattle.alma_lower_parts.proofs.Putting.{codes_is}
use Rattle.alma_lower_work.proofs.Joins.{on_ok_map}
use Rattle.alma_lower_parts.proofs.form.put_set.Goals as goal

pub returns : goal.returns
returns c = on_ok_map c.add.result (λ h.
    record { b = _; first = c.in_ok-put_fit.ensures; second = codes_is _ _ c.args.line _ _ c.set.ensures h }) c.add.ensures
