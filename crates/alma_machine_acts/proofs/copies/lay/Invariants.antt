use Rattle.std.proofs.Common.{◌≡◌, ◌≤◌, ◌+◌, length}
use Rattle.alma_machine_acts.specs.Rows.{state_of}
use Rattle.alma_machine_acts.proofs.Copying.{Laid}
use Rattle.alma_machine_acts.proofs.copies.lay.Given as goal

abbrev pub invariant-loop-k : goal.invariant-loop-k
invariant-loop-k g l = let picture = g.M.MachineMemory.picture in record {
  laid : Laid l.cells (state_of picture l.fn.registers) (state_of picture l.registers) l.to.frame l.to.slot l.k;
  room : length l.cells ≤ (picture l.registers.memory).trail_room + l.k;
  past : (picture l.registers.memory).past ≡ (picture l.fn.registers.memory).past;
}
