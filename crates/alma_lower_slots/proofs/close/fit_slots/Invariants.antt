use Rattle.std.proofs.Common.{ℕ, ◌<◌}
use Rattle.std.specs.Prelude.{slice_get}
use Rattle.alma_code.specs.Plain.{code_of}
use Rattle.alma_lower_slots.specs.Inner.Checks.{FitsSlot, HasStretch}
use Rattle.alma_lower_slots.specs.Stretches.{stretch_at}
use Rattle.alma_lower_slots.proofs.close.fit_slots.Given as goal

abbrev pub invariant-loop-slot : goal.invariant-loop-slot
invariant-loop-slot l =
    (n : ℕ) → n < l.slot → HasStretch (stretch_at l.stretches n)
    → FitsSlot (code_of l.code) l.routine (slice_get l.kinds n) n (stretch_at l.stretches n)
