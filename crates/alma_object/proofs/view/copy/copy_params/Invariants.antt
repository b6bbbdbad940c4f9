use Rattle.std.proofs.Common.{◌≡◌, take}
use Rattle.alma_object.specs.View.{head_of_view}
use Rattle.alma_object.proofs.view.copy.copy_params.Given as goal

abbrev pub invariant-loop-i : goal.invariant-loop-i
invariant-loop-i l = l.params.items ≡ take l.i (head_of_view l.routine).params
