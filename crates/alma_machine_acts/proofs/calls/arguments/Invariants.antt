use Rattle.alma_machine_acts.proofs.Given.{ReadSo}
use Rattle.alma_machine_acts.proofs.calls.arguments.Given as goal

abbrev pub invariant-loop-i : goal.invariant-loop-i
invariant-loop-i g l = ReadSo (g.M.MachineMemory.picture l.memory).now (g.H.Head.head l.head).params l.first l.i l.args.items
