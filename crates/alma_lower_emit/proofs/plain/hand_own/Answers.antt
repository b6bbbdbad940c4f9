use Rattle.alma_lower_work.proofs.Joins.{on_ok_map}
use Rattle.alma_lower_emit.proofs.plain.hand_own.Goals as goal

pub returns : goal.returns
returns c = on_ok_map c.add.result (λ h. record { b = _; takes = c.in_ok-slot.ensures.takes; codes = h }) c.add.ensures
