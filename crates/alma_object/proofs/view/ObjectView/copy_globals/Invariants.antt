use Rattle.std.proofs.Common.{◌≡◌, take, map}
use Rattle.alma_code.specs.Plain.{global_of}
use Rattle.alma_object.specs.View.{code_of_view}
use Rattle.alma_object.proofs.view.ObjectView.copy_globals.Given as goal

abbrev pub invariant-loop-i : goal.invariant-loop-i
invariant-loop-i l = map global_of l.globals.items ≡ take l.i (code_of_view l.self).globals
