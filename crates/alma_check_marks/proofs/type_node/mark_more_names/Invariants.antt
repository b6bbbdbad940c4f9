use Rattle.std.proofs.Common.{drop}
use Rattle.alma_rules.specs.Places as places
use Rattle.alma_rules.specs.View as view
use Rattle.alma_check_marks.specs.Marking.{marks_of}
use Rattle.alma_check_marks.proofs.Steps.{Rests}
use Rattle.alma_check_marks.proofs.type_node.mark_more_names.Given as goal

abbrev pub invariant-loop-name : goal.invariant-loop-name
invariant-loop-name l =
    Rests (marks_of l.fn.marks) (marks_of l.marks) (places.mark_more_names (view.names_of l.more))
    (places.mark_more_names (view.names_of (drop l.name-index l.more)))
