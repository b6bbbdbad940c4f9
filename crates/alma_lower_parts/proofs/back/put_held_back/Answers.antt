use Rattle.alma_lower_work.proofs.Joins.{on_ok_map}
use Rattle.alma_lower_parts.proofs.back.put_held_back.Goals as goal

pub returns : goal.returns
returns c = on_ok_map c.put_back.result (λ h. record { b = _; takes = c.in_ok-slot.ensures.takes; codes = h }) c.put_back.ensures
