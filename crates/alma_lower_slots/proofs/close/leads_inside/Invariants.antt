use Rattle.std.proofs.Common.{ℕ, ◌-◌, ◌<◌, ◌≤◌, get_or}
use Rattle.alma_lower_slots.specs.Inner.Checks.{Encloses, no_sources}
use Rattle.alma_lower_slots.proofs.close.leads_inside.Given as goal

abbrev pub invariant-loop-before : goal.invariant-loop-before
invariant-loop-before l = (t : ℕ) → l.low < t → t ≤ l.before → Encloses (get_or l.sources (t - l.start) no_sources) l.low l.high
