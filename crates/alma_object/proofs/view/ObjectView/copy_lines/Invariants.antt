use Rattle.std.proofs.Common.{◌≡◌, take}
use Rattle.alma_object.specs.View.{code_of_view}
use Rattle.alma_object.proofs.view.ObjectView.copy_lines.Given as goal

abbrev pub invariant-loop-i : goal.invariant-loop-i
invariant-loop-i l = l.lines.items ≡ take l.i (code_of_view l.self).lines
