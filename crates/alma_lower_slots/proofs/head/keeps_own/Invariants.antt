use Rattle.std.proofs.Common.{ℕ, ◌<◌}
use Rattle.alma_lower_slots.specs.Inner.Checks.{KeepsNumber}
use Rattle.alma_lower_slots.specs.Stretches.{stretch_at}
use Rattle.alma_lower_slots.proofs.head.keeps_own.Given as goal

abbrev pub invariant-loop-slot : goal.invariant-loop-slot
invariant-loop-slot l = (n : ℕ) → n < l.slot → KeepsNumber l.own n (stretch_at l.stretches n)
