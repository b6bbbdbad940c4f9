use Rattle.std.proofs.Common.{ℕ}
use Rattle.alma_memory.specs.Slots.{KeepsSlots}
use Rattle.alma_tests_machine.proofs.memory.fail_often.Given as goal

abbrev pub invariant-loop : goal.invariant-loop
invariant-loop l = (slots : ℕ) → KeepsSlots slots l.fn.memory → KeepsSlots slots l.memory
