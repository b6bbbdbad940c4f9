use Rattle.std.proofs.Common.{◌≡◌, ◌≤◌, ◌+◌}
use Rattle.alma_machine_acts.specs.Rows.{state_of}
use Rattle.alma_machine_acts.proofs.Meetings.{Equated}
use Rattle.alma_machine_acts.proofs.registers.Registers.equate_all.Given as goal

abbrev pub invariant-loop-k : goal.invariant-loop-k
invariant-loop-k g l = let picture = g.M.MachineMemory.picture in record {
  equation_of_contents : Equated l.count (state_of picture l.fn.self) (state_of picture l.self) l.left.frame l.left.slot l.right.frame
      l.right.slot l.k;
  room : l.count ≤ (picture l.self.memory).trail_room + l.k;
  past : (picture l.self.memory).past ≡ (picture l.fn.self.memory).past;
}
