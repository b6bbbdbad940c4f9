use Rattle.std.proofs.Common.{◌<◌, ◌≤◌, ◌-◌, ℕ, take}
use Rattle.alma_memory_store.specs.Past.{IsAt}
use Rattle.alma_memory_store.proofs.past.find.Given as goal

abbrev pub invariant-loop-high : goal.invariant-loop-high
invariant-loop-high l =
    (l.low < l.high) × (l.high ≤ l.live) × ((f s : ℕ) → IsAt (take l.live l.regions.now) l.at f s → (l.low ≤ f) × (f < l.high))

abbrev pub decreases-loop-high : goal.decreases-loop-high
decreases-loop-high l = l.high - l.low
