use Rattle.std.proofs.Common.{drop}
use Rattle.alma_rules.specs.Places as places
use Rattle.alma_rules.specs.View as view
use Rattle.alma_check_marks.specs.Marking.{marks_of}
use Rattle.alma_check_marks.proofs.Steps.{Rests}
use Rattle.alma_check_marks.proofs.declaration.mark_more_formals.Given as goal

abbrev pub invariant-loop-formal : goal.invariant-loop-formal
invariant-loop-formal l =
    Rests (marks_of l.fn.marks) (marks_of l.marks) (places.mark_more_formals (view.more_formals_of l.more))
    (places.mark_more_formals (view.more_formals_of (drop l.formal-index l.more)))
