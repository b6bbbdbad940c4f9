use Rattle.alma_lower_slots.specs.Inner.Checks.{Rise}
use Rattle.alma_lower_slots.proofs.apart.are_apart.Given as goal

abbrev pub invariant-loop-stretch : goal.invariant-loop-stretch
invariant-loop-stretch l = Rise l.stretches l.stretch-index l.ends.items
