use Rattle.std.proofs.Common.{drop}
use Rattle.alma_rules.specs.Places as places
use Rattle.alma_rules.specs.View as view
use Rattle.alma_check_marks.specs.Marking.{marks_of}
use Rattle.alma_check_marks.proofs.Steps.{Rests}
use Rattle.alma_check_marks.proofs.type_node.+types.Given as goal

abbrev pub invariant-mark_dimension_tail-loop-dimensions : goal.invariant-mark_dimension_tail-loop-dimensions
invariant-mark_dimension_tail-loop-dimensions l =
    Rests (marks_of l.fn.marks) (marks_of l.marks) (places.mark_dimension_tail (view.dimensions_of l.more))
    (places.mark_dimension_tail (view.dimensions_of (drop l.dimensions-index l.more)))

abbrev pub invariant-mark_plains-loop-plain : goal.invariant-mark_plains-loop-plain
invariant-mark_plains-loop-plain l =
    Rests (marks_of l.fn.marks) (marks_of l.marks) (places.mark_plains (view.plains_of l.more))
    (places.mark_plains (view.plains_of (drop l.plain-index l.more)))

abbrev pub invariant-mark_field_tail-loop-list : goal.invariant-mark_field_tail-loop-list
invariant-mark_field_tail-loop-list l =
    Rests (marks_of l.fn.marks) (marks_of l.marks) (places.mark_field_tail (view.field_lists_of l.more))
    (places.mark_field_tail (view.field_lists_of (drop l.list-index l.more)))
