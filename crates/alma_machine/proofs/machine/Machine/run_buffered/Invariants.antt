use Rattle.std.proofs.Common.{◌≡◌, ◌≤◌, ◌-◌, ◌++◌, true}
use Rattle.alma_code.specs.Machine.{prints}
use Rattle.alma_io.specs.Buffer.{GainsAllBut}
use Rattle.alma_machine.proofs.Budget.{Progress}
use Rattle.alma_machine.proofs.machine.Machine.run_buffered.Given as goal

-- so many steps were made, their prints are out but for what the buffer holds, nothing has failed and the machine is running
abbrev pub invariant-loop-made : goal.invariant-loop-made
invariant-loop-made g l = record {
  within : l.made ≤ l.budget;
  progress : Progress l.fn.self l.self l.made;
  out : GainsAllBut (g.K.Sink.side l.fn.out) (g.K.Sink.side l.out)
      (l.fn.buffer ++ prints l.fn.self.code l.fn.self.input l.made l.fn.self.state) l.buffer;
  running : l.self.running ≡ true;
}

abbrev pub decreases-loop-made : goal.decreases-loop-made
decreases-loop-made g l = l.budget - l.made
