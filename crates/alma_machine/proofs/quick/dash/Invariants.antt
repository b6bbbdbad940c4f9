use Rattle.std.proofs.Common.{◌≤◌, ◌-◌}
use Rattle.alma_machine.specs.View.{run_state}
use Rattle.alma_machine.proofs.Dashing.{Dashed}
use Rattle.alma_machine.proofs.quick.dash.Given as goal

-- so many steps were made
abbrev pub invariant-loop-made : goal.invariant-loop-made
invariant-loop-made g l = record {
  within : l.made ≤ l.most;
  dashed : Dashed (g.V.CodeView.code l.view) l.input l.made (run_state l.fn.registers) (run_state l.registers);
}

abbrev pub decreases-loop-made : goal.decreases-loop-made
decreases-loop-made g l = l.most - l.made
