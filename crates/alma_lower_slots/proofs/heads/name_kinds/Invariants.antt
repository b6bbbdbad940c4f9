-- The slots so far.
use Rattle.alma_lower_slots.specs.Inner.Shared.{NamesSoFar}
use Rattle.alma_lower_slots.proofs.heads.name_kinds.Given as goal

abbrev pub invariant-loop-i : goal.invariant-loop-i
invariant-loop-i l = NamesSoFar l.kinds l.stretches l.i l.named l.count
