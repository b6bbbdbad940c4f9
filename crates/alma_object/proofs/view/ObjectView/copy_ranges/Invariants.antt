use Rattle.std.proofs.Common.{◌≡◌, take}
use Rattle.alma_object.specs.View.{code_of_view}
use Rattle.alma_object.proofs.view.ObjectView.copy_ranges.Given as goal

abbrev pub invariant-loop-i : goal.invariant-loop-i
invariant-loop-i l = l.ranges.items ≡ take l.i (code_of_view l.self).ranges
