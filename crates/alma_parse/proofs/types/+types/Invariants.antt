use Rattle.std.proofs.Common.{◌+◌, ◌*◌, length}
use Rattle.alma_tree.specs.Spelling.{spell_array_tail, spell_plain_tail, spell_field_list_tail}
use Rattle.alma_tree.specs.View.{dimensions_of, plains_of, field_lists_of}
use Rattle.alma_tree.specs.Numbers.{numbers_of_dimensions, numbers_of_plains, numbers_of_field_lists}
use Rattle.alma_grammar.specs.Parts.{array_tail, plain_tail, field_list_tail}
use Rattle.alma_parse_cursor.specs.Parsing.{position_of}
use Rattle.alma_parse_cursor.proofs.Loops.{Loops}
use Rattle.alma_parse.proofs.types.+types.Given as goal

-- Each call reads fewer tokens, or as many and comes before in the order of the numbers here.

abbrev pub decreases-dimensions : goal.decreases-dimensions
decreases-dimensions l = 8 * length (position_of l.at).kinds + 1

abbrev pub decreases-record_type : goal.decreases-record_type
decreases-record_type l = 8 * length (position_of l.at).kinds + 1

abbrev pub decreases-plain_list : goal.decreases-plain_list
decreases-plain_list l = 8 * length (position_of l.at).kinds + 1

abbrev pub decreases-fields : goal.decreases-fields
decreases-fields l = 8 * length (position_of l.at).kinds + 1

abbrev pub decreases-field_lists : goal.decreases-field_lists
decreases-field_lists l = 8 * length (position_of l.at).kinds + 1

abbrev pub decreases-dimensions_list : goal.decreases-dimensions_list
decreases-dimensions_list l = 8 * length (position_of l.at).kinds + 2

abbrev pub decreases-plain_type : goal.decreases-plain_type
decreases-plain_type l = 8 * length (position_of l.at).kinds + 2

abbrev pub decreases-field_list : goal.decreases-field_list
decreases-field_list l = 8 * length (position_of l.at).kinds + 2

abbrev pub decreases-arrays : goal.decreases-arrays
decreases-arrays l = 8 * length (position_of l.at).kinds + 3

abbrev pub decreases-type_node : goal.decreases-type_node
decreases-type_node l = 8 * length (position_of l.at).kinds + 4

abbrev pub invariant-dimensions_list-loop-alloc : goal.invariant-dimensions_list-loop-alloc
invariant-dimensions_list-loop-alloc l =
    Loops (spell_array_tail (dimensions_of l.more.items)) (numbers_of_dimensions l.more.items) array_tail l.depth
    (position_of l.fn.at) (position_of l.at)

abbrev pub decreases-dimensions_list-loop-alloc : goal.decreases-dimensions_list-loop-alloc
decreases-dimensions_list-loop-alloc l = length (position_of l.at).kinds

abbrev pub invariant-plain_list-loop-after : goal.invariant-plain_list-loop-after
invariant-plain_list-loop-after l = Loops (spell_plain_tail (plains_of l.more.items)) (numbers_of_plains l.more.items) plain_tail l.depth
    (position_of l.fn.at) (position_of l.at)

abbrev pub decreases-plain_list-loop-after : goal.decreases-plain_list-loop-after
decreases-plain_list-loop-after l = length (position_of l.at).kinds

abbrev pub invariant-field_lists-loop-after : goal.invariant-field_lists-loop-after
invariant-field_lists-loop-after l = Loops (spell_field_list_tail (field_lists_of l.more.items))
    (numbers_of_field_lists l.more.items) field_list_tail l.depth (position_of l.fn.at) (position_of l.at)

abbrev pub decreases-field_lists-loop-after : goal.decreases-field_lists-loop-after
decreases-field_lists-loop-after l = length (position_of l.at).kinds
