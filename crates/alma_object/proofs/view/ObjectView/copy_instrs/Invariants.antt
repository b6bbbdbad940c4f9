use Rattle.std.proofs.Common.{◌≡◌, take}
use Rattle.alma_object.specs.View.{code_of_view}
use Rattle.alma_object.proofs.view.ObjectView.copy_instrs.Given as goal

abbrev pub invariant-loop-at : goal.invariant-loop-at
invariant-loop-at l = l.instrs.items ≡ take l.at (code_of_view l.self).instrs
