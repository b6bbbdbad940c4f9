use Rattle.std.proofs.Common.{◌+◌, ap, drop, ◌∙◌}
use Rattle.std.proofs.lemmas.List.{drop_all}
use Rattle.alma_rules.proofs.Exprs.{next_of}
use Rattle.alma_tree.specs.declared.type_node.TypeNode as dy
use Rattle.alma_tree.specs.declared.type_node.Arrays as dz
use Rattle.alma_rules.specs.View as view
use Rattle.alma_rules.specs.Types as types
use Rattle.alma_rules.specs.Decls as rules
use Rattle.alma_check_rules.specs.Views.{declares_view}
use Rattle.alma_check_block.proofs.Texts as steps
use Rattle.alma_check_block.proofs.Texts.{names_on, names_end, two_parts, same_names}
use Rattle.alma_check_block.proofs.names.+types.Goals as goal

pub add_type-returns : goal.add_type-returns
add_type-returns t c =
    two_parts _ c.args.reader.now (declares_view c.args.names.now) _ _
    (types.arrays_names (view.arrays_of (dy.out-TypeNode c.args.tree.now).arrays))
    (types.plain_names (view.view_plain_type (dy.out-TypeNode c.args.tree.now).element)) _ c.in_ok-add_arrays.ensures
    (steps.type_parts c.args.tree.now) c.add_plain.ensures

pub add_arrays-returns-in-None : goal.add_arrays-returns-in-None
add_arrays-returns-in-None t c = rw c.in-None.is
    (ap (rules.texts_behind c.args.reader.now (declares_view c.args.names.now)) steps.no_arrays)

pub add_arrays-returns-in_ok-add_dimensions-in-Some : goal.add_arrays-returns-in_ok-add_dimensions-in-Some
add_arrays-returns-in_ok-add_dimensions-in-Some t c =
    rw c.in-Some.is (two_parts _ c.args.reader.now (declares_view c.args.names.now) _ _
    (types.dimensions_names (view.view_dimension (dz.out-Arrays c.in-Some.arrays).first))
    (types.dimension_tail_names (view.dimensions_of (dz.out-Arrays c.in-Some.arrays).more.items)) _ c.in_ok-add_dimensions-in-Some.ensures
    (steps.arrays_parts c.in-Some.arrays)
    (rw c.deref.ensures.value at c.add_dimension_tail.ensures))

pub add_dimensions-returns : goal.add_dimensions-returns
add_dimensions-returns t c =
    two_parts _ c.args.reader.now (declares_view c.args.names.now) _ _
    (types.plain_names (view.view_plain_type c.args.dimensions.now.first))
    (types.plains_names (view.plains_of c.args.dimensions.now.more.items)) _ c.in_ok-add_plain.ensures
    (steps.dimensions_parts c.args.dimensions.now) (rw c.deref.ensures.value at c.add_plains.ensures)

pub add_plain-returns-in-Named : goal.add_plain-returns-in-Named
add_plain-returns-in-Named t c = rw c.in-Named.is
    (ap (rules.texts_behind c.args.reader.now (declares_view c.args.names.now)) (steps.named_plain c.in-Named.node c.in-Named.name))

pub add_plain-returns-in-Listed : goal.add_plain-returns-in-Listed
add_plain-returns-in-Listed t c = rw c.in-Listed.is
    (same_names _ c.args.reader.now (declares_view c.args.names.now) _ (types.all_names (view.view_names c.in-Listed.all)) _
    (steps.listed_plain c.in-Listed.node c.in-Listed.all) c.add_names.ensures)

pub add_plain-returns-in-Subrange : goal.add_plain-returns-in-Subrange
add_plain-returns-in-Subrange t c =
    rw c.in-Subrange.is (ap (rules.texts_behind c.args.reader.now (declares_view c.args.names.now))
    (steps.subrange_plain c.in-Subrange.node c.in-Subrange.low c.in-Subrange.high))

pub add_plain-returns-in_ok-add_fields-in-Record : goal.add_plain-returns-in_ok-add_fields-in-Record
add_plain-returns-in_ok-add_fields-in-Record t c =
    rw c.in-Record.is (two_parts _ c.args.reader.now (declares_view c.args.names.now) _ _
    (types.fields_names (view.view_field_list c.in-Record.first.value))
    (types.field_tail_names (view.field_lists_of c.in-Record.more.items)) _ (rw c.deref.ensures at c.in_ok-add_fields-in-Record.ensures)
    (steps.record_parts c.in-Record.node c.in-Record.first c.in-Record.more)
    (rw c.deref-in-Record.ensures.value at c.add_field_tail.ensures))

pub add_fields-returns-in-Empty : goal.add_fields-returns-in-Empty
add_fields-returns-in-Empty t c = rw c.in-Empty.is
    (ap (rules.texts_behind c.args.reader.now (declares_view c.args.names.now)) (steps.empty_list c.in-Empty.node))

pub add_fields-returns-in-Fields : goal.add_fields-returns-in-Fields
add_fields-returns-in-Fields t c =
    rw c.in-Fields.is (same_names _ c.args.reader.now (declares_view c.args.names.now) _
    (types.type_names (view.view_type_node c.in-Fields.type_node)) _
    (steps.fields_list c.in-Fields.node c.in-Fields.names c.in-Fields.type_node) c.add_type.ensures)

pub add_dimension_tail-loop-dimensions-preserved : goal.add_dimension_tail-loop-dimensions-preserved
add_dimension_tail-loop-dimensions-preserved t c =
    names_on c.args.reader.now (declares_view c.loop-dimensions.names) _ _
    (types.dimensions_names (view.view_dimension c.dimensions-item.result))
    (types.dimension_tail_names (view.dimensions_of (drop (c.loop-dimensions.dimensions-index + 1) c.args.more.now))) _
    c.in_ok-add_dimensions.ensures
    (ap (λ xs. types.dimension_tail_names (view.dimensions_of xs))
    (next_of c.args.more.now c.loop-dimensions.dimensions-index c.dimensions-item.result c.loop-dimensions-test.true
    c.dimensions-item.is)
    ∙ steps.dimension_tail_parts c.dimensions-item.result (drop (c.loop-dimensions.dimensions-index + 1) c.args.more.now))
    c.loop-dimensions.invariant

pub add_dimension_tail-returns : goal.add_dimension_tail-returns
add_dimension_tail-returns t c =
    names_end c.args.reader.now _ _ _ (ap (λ xs. types.dimension_tail_names (view.dimensions_of xs))
    (drop_all c.loop-dimensions.dimensions-index c.args.more.now c.loop-dimensions-test.false) ∙ steps.no_dimensions)
    c.loop-dimensions.invariant

pub add_plains-loop-plain-preserved : goal.add_plains-loop-plain-preserved
add_plains-loop-plain-preserved t c =
    names_on c.args.reader.now (declares_view c.loop-plain.names) _ _ (types.plain_names (view.view_plain_type c.plain-item.result))
    (types.plains_names (view.plains_of (drop (c.loop-plain.plain-index + 1) c.args.more.now))) _
    c.in_ok-add_plain.ensures
    (ap (λ xs. types.plains_names (view.plains_of xs))
    (next_of c.args.more.now c.loop-plain.plain-index c.plain-item.result c.loop-plain-test.true c.plain-item.is)
    ∙ steps.plains_parts c.plain-item.result (drop (c.loop-plain.plain-index + 1) c.args.more.now)) c.loop-plain.invariant

pub add_plains-returns : goal.add_plains-returns
add_plains-returns t c =
    names_end c.args.reader.now _ _ _ (ap (λ xs. types.plains_names (view.plains_of xs))
    (drop_all c.loop-plain.plain-index c.args.more.now c.loop-plain-test.false) ∙ steps.no_plains) c.loop-plain.invariant

pub add_field_tail-loop-list-preserved : goal.add_field_tail-loop-list-preserved
add_field_tail-loop-list-preserved t c =
    names_on c.args.reader.now (declares_view c.loop-list.names) _ _ (types.fields_names (view.view_field_list c.list-item.result))
    (types.field_tail_names (view.field_lists_of (drop (c.loop-list.list-index + 1) c.args.more.now))) _
    c.in_ok-add_fields.ensures
    (ap (λ xs. types.field_tail_names (view.field_lists_of xs))
    (next_of c.args.more.now c.loop-list.list-index c.list-item.result c.loop-list-test.true c.list-item.is)
    ∙ steps.field_tail_parts c.list-item.result (drop (c.loop-list.list-index + 1) c.args.more.now)) c.loop-list.invariant

pub add_field_tail-returns : goal.add_field_tail-returns
add_field_tail-returns t c =
    names_end c.args.reader.now _ _ _ (ap (λ xs. types.field_tail_names (view.field_lists_of xs))
    (drop_all c.loop-list.list-index c.args.more.now c.loop-list-test.false) ∙ steps.no_field_tail) c.loop-list.invariant
