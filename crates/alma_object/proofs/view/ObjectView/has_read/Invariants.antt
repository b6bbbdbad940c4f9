use Rattle.std.proofs.Common.{◌≡◌, take, false}
use Rattle.std.specs.List.{list_any}
use Rattle.alma_code.specs.Reads.{is_read}
use Rattle.alma_object.specs.View.{code_of_view}
use Rattle.alma_object.proofs.view.ObjectView.has_read.Given as goal

abbrev pub invariant-loop-at : goal.invariant-loop-at
invariant-loop-at l = list_any is_read (take l.at (code_of_view l.self).instrs) ≡ false
