use Rattle.alma_memory.specs.Slots.{KeepsSlots}
use Rattle.alma_tests_machine.proofs.memory.choose_and_write.Given as goal

abbrev pub invariant-loop-i : goal.invariant-loop-i
invariant-loop-i l = KeepsSlots l.slots l.memory
