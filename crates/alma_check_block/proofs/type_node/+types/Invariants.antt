use Rattle.std.proofs.Common.{◌≡◌, List, drop}
use Rattle.alma_rules.specs.Numbered as tree
use Rattle.alma_rules.specs.Types as types
use Rattle.alma_rules.specs.View as view
use Rattle.alma_check_type.specs.Told.{told, onward, fault_of, items_in}
use Rattle.alma_check_type.specs.Inner.Fields as spec
use Rattle.alma_check_block.proofs.TypeSteps.{Follows}
use Rattle.alma_check_block.proofs.type_node.+types.Given as goal

abbrev pub invariant-read_dimension_tail-loop-dimensions : goal.invariant-read_dimension_tail-loop-dimensions
invariant-read_dimension_tail-loop-dimensions l =
    onward (fault_of l.fn.before.fault) (items_in l.fn.before.value)
    (told (types.read_dimension_tail l.fn.reader (view.dimensions_of l.more)))
    ≡ onward (fault_of l.rows.fault) (items_in l.rows.value)
    (told (types.read_dimension_tail l.reader (view.dimensions_of (drop l.dimensions-index l.more))))

abbrev pub invariant-read_plains-loop-plain : goal.invariant-read_plains-loop-plain
invariant-read_plains-loop-plain l =
    onward (fault_of l.fn.before.fault) (items_in l.fn.before.value) (told (types.read_plains l.fn.reader (view.plains_of l.more)))
    ≡ onward (fault_of l.rows.fault) (items_in l.rows.value)
    (told (types.read_plains l.reader (view.plains_of (drop l.plain-index l.more))))

abbrev pub invariant-read_field_tail-loop-list : goal.invariant-read_field_tail-loop-list
invariant-read_field_tail-loop-list l =
    (before : List tree.Name) → spec.Knows l.fn.reader.tokens l.fn.begun.names.entries before
    → Follows l.fn.reader l.reader before (view.field_lists_of l.more) (view.field_lists_of (drop l.list-index l.more))
    (spec.told_fields l.fn.begun) (spec.told_fields l.fields) l.fields.names.entries
