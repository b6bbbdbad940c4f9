-- The routine so many links up.
use Rattle.std.proofs.Common.{◌≡◌}
use Rattle.alma_ir.specs.Checked.{outer_at}
use Rattle.alma_lower_work.specs.Front.{around}
use Rattle.alma_lower_work.proofs.scene.Scene.outermost.Given as goal

abbrev pub invariant-loop : goal.invariant-loop
invariant-loop l = l.routine ≡ outer_at (around l.self).program (around l.self).routine l.counter
