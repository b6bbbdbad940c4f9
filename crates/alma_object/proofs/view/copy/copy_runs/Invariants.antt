use Rattle.std.proofs.Common.{◌≡◌, take}
use Rattle.alma_object.specs.View.{head_of_view}
use Rattle.alma_object.proofs.view.copy.copy_runs.Given as goal

abbrev pub invariant-loop-i : goal.invariant-loop-i
invariant-loop-i l = l.runs.items ≡ take l.i (head_of_view l.routine).runs
