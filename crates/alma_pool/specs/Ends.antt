-- The ends of a call, as they are due.
use Rattle.alma_plan.specs.Plan.{Ending}
use Rattle.alma_plan.specs.Refusals.{refusal_end}
use Rattle.alma_pool.specs.declared.stop.PoolStop.{PoolStop}
use Rattle.alma_pool.specs.declared.stop.PoolStop.TheVariants.{BadTurn, Refused}
use Rattle.alma_pool.specs.Due.{program, bad_turn}

-- the end of a call that stopped
abbrev pub pool_end : PoolStop → Ending
pool_end (BadTurn turn) = bad_turn turn
pool_end (Refused refusal) = refusal_end program refusal
