use Rattle.std.proofs.Common.{◌≡◌}
use Rattle.alma_machine_acts.specs.Copies.{cells_from}
use Rattle.alma_machine_acts.proofs.copies.cells.Given as goal

abbrev pub invariant-loop-k : goal.invariant-loop-k
invariant-loop-k g l = l.cells.items ≡ cells_from (g.M.MachineMemory.picture l.registers.memory).now l.from.frame l.from.slot l.k
