use Rattle.std.proofs.Common.{◌≡◌, ◌≤◌, ◌-◌, true}
use Rattle.std.specs.Io.KnownBytes.{Appends}
use Rattle.alma_machine.proofs.Budget.{Progress}
use Rattle.alma_trace.proofs.Telling.{IsFront, text_of}
use Rattle.alma_trace.proofs.tracer.trace.Given as goal

-- so many steps were made and none ended the run, their lines are out, nothing has failed and the machine is running
abbrev pub invariant-loop-made : goal.invariant-loop-made
invariant-loop-made g l = record {
  within : l.made ≤ l.budget;
  progress : Progress l.fn.machine l.machine l.made;
  front : IsFront l.fn.machine l.watches l.made;
  out : Appends (g.K.Sink.side l.fn.out).written (g.K.Sink.side l.out).written (text_of l.fn.machine l.watches l.made);
  quiet : (g.K.Sink.side l.out).faults ≡ (g.K.Sink.side l.fn.out).faults;
  running : l.machine.running ≡ true;
}

abbrev pub decreases-loop-made : goal.decreases-loop-made
decreases-loop-made g l = l.budget - l.made
