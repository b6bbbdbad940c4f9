use Rattle.std.proofs.Common.{◌≡◌, take, map}
use Rattle.alma_object.specs.View.{code_of_view}
use Rattle.alma_object.proofs.view.ObjectView.copy_texts.Given as goal

abbrev pub invariant-loop-i : goal.invariant-loop-i
invariant-loop-i l = map (λ t. t.items) l.texts.items ≡ take l.i (code_of_view l.self).texts
