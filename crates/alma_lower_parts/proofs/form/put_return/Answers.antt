use Rattle.alma_lower_work.proofs.Joins.{on_ok_map}
use Rattle.alma_lower_parts.proofs.form.put_return.Goals as goal

pub returns : goal.returns
returns c = on_ok_map c.add.result (λ h. record { b = _; first = c.in_ok-put_result_fit.ensures; second = h }) c.add.ensures
