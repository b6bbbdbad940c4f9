-- The runs so far.
use Rattle.std.proofs.Common.{◌≡◌, ◌≤◌, length, map, take}
use Rattle.std.specs.Prelude.{sum_by}
use Rattle.alma_base.specs.Limits.{slot_limit}
use Rattle.alma_code.specs.Plain.{routine_of}
use Rattle.alma_lower_slots.proofs.routines.runs_fit.Given as goal

abbrev pub invariant-loop-head : goal.invariant-loop-head
invariant-loop-head l = (l.count ≡ sum_by (λ r. length r.head.runs) (map routine_of (take l.head-index l.heads))) × (l.count ≤ slot_limit)
