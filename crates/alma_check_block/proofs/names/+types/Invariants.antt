use Rattle.std.proofs.Common.{◌≡◌, drop}
use Rattle.alma_rules.specs.View as view
use Rattle.alma_rules.specs.Types as types
use Rattle.alma_rules.specs.Decls as rules
use Rattle.alma_check_rules.specs.Views.{declares_view}
use Rattle.alma_check_block.proofs.names.+types.Given as goal

abbrev pub invariant-add_dimension_tail-loop-dimensions : goal.invariant-add_dimension_tail-loop-dimensions
invariant-add_dimension_tail-loop-dimensions l =
    rules.texts_behind l.reader (declares_view l.names) (types.dimension_tail_names (view.dimensions_of (drop l.dimensions-index l.more)))
    ≡ rules.texts_behind l.reader (declares_view l.fn.names) (types.dimension_tail_names (view.dimensions_of l.more))

abbrev pub invariant-add_plains-loop-plain : goal.invariant-add_plains-loop-plain
invariant-add_plains-loop-plain l =
    rules.texts_behind l.reader (declares_view l.names) (types.plains_names (view.plains_of (drop l.plain-index l.more)))
    ≡ rules.texts_behind l.reader (declares_view l.fn.names) (types.plains_names (view.plains_of l.more))

abbrev pub invariant-add_field_tail-loop-list : goal.invariant-add_field_tail-loop-list
invariant-add_field_tail-loop-list l =
    rules.texts_behind l.reader (declares_view l.names) (types.field_tail_names (view.field_lists_of (drop l.list-index l.more)))
    ≡ rules.texts_behind l.reader (declares_view l.fn.names) (types.field_tail_names (view.field_lists_of l.more))
