use Rattle.std.proofs.Common.{drop}
use Rattle.alma_rules.specs.Places as places
use Rattle.alma_rules.specs.View as view
use Rattle.alma_check_marks.specs.Marking.{marks_of}
use Rattle.alma_check_marks.proofs.Steps.{Rests}
use Rattle.alma_check_marks.proofs.declaration.mark_consts.Given as goal

abbrev pub invariant-loop-entry : goal.invariant-loop-entry
invariant-loop-entry l =
    Rests (marks_of l.fn.marks) (marks_of l.marks) (places.mark_consts (view.consts_of l.entries))
    (places.mark_consts (view.consts_of (drop l.entry-index l.entries)))
