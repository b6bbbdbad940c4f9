-- The ends of a call, as they are due.
use Rattle.alma_plan.specs.Plan.{Ending}
use Rattle.alma_plan.specs.Refusals.{refusal_end}
use Rattle.alma_back.specs.declared.stop.BackStop.{BackStop}
use Rattle.alma_back.specs.declared.stop.BackStop.TheVariants.{BadLine, Refused}
use Rattle.alma_back.specs.Due.{program, bad_line}

-- how a call ends that was stopped
abbrev pub back_end : BackStop → Ending
back_end (BadLine line) = bad_line line
back_end (Refused refusal) = refusal_end program refusal
