use Rattle.std.proofs.Common.{◌≡◌, take, map}
use Rattle.alma_code.specs.Plain.{routine_of}
use Rattle.alma_object.specs.View.{code_of_view}
use Rattle.alma_object.proofs.view.ObjectView.copy_routines.Given as goal

abbrev pub invariant-loop-i : goal.invariant-loop-i
invariant-loop-i l = map routine_of l.routines.items ≡ take l.i (code_of_view l.self).routines
