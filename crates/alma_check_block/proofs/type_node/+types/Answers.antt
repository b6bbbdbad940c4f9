use Rattle.std.proofs.Common.{ap, sym, subst, ◌∙◌}
use Rattle.alma_rules.specs.Types as types
use Rattle.alma_rules.specs.View as view
use Rattle.alma_check_rules.specs.Views.{scene_of, somewhere}
use Rattle.alma_check_type.specs.Told.{told, fault_of, items_in, tells_of, formed_of}
use Rattle.alma_check_type.specs.Inner.Fields.{Knows, told_fields}
use Rattle.alma_check_block.proofs.Constants.{ok_as}
use Rattle.alma_check_block.proofs.TypeSteps as steps
use Rattle.alma_check_block.proofs.TypeTokens.{type_tokens}
use Rattle.alma_check_block.proofs.type_node.+types.Goals as goal

pub read_type-returns : goal.read_type-returns
read_type-returns t c = ok_as _ _ _ _ (steps.type_by c.args.reader.now c.args.tree.now _ c.in_ok-rows.ensures)
    (c.join_type.ensures _ c.read_plain-element.ensures)

pub read_arrays-returns-in-None : goal.read_arrays-returns-in-None
read_arrays-returns-in-None t c = rw c.in-None.is (steps.no_arrays_by c.args.reader.now c.new.result.items c.new.ensures.items)

pub read_arrays-returns-in_ok-rows-in-Some : goal.read_arrays-returns-in_ok-rows-in-Some
read_arrays-returns-in_ok-rows-in-Some t c =
    rw c.in-Some.is (ok_as _ _ _ _ (steps.arrays_by c.args.reader.now c.in-Some.arrays c.new.result.items _ _ _ c.new.ensures.items
    c.in_ok-rows-in-Some.ensures)
    (rw c.deref.ensures.value at c.read_dimension_tail.ensures))

pub read_dimension_tail-loop-dimensions-preserved : goal.read_dimension_tail-loop-dimensions-preserved
read_dimension_tail-loop-dimensions-preserved t c =
    c.loop-dimensions.invariant
    ∙ steps.dimensions_next c.loop-dimensions.reader (fault_of c.loop-dimensions.rows.fault) (items_in c.loop-dimensions.rows.value)
    c.loop-dimensions.dimensions-index c.args.more.now c.dimensions-item.result _ _ _
    c.loop-dimensions-test.true c.dimensions-item.is c.in_ok-rows.ensures

pub read_dimension_tail-returns : goal.read_dimension_tail-returns
read_dimension_tail-returns t c =
    c.loop-dimensions.invariant
    ∙ steps.dimensions_end c.loop-dimensions.reader (fault_of c.loop-dimensions.rows.fault) (items_in c.loop-dimensions.rows.value)
    c.loop-dimensions.dimensions-index c.args.more.now c.loop-dimensions-test.false

pub read_dimensions-returns : goal.read_dimensions-returns
read_dimensions-returns t c =
    ok_as _ _ _ _ (steps.dimensions_at c.args.reader.now (fault_of c.args.rows.fault) (items_in c.args.rows.value)
    (view.view_plain_type c.args.dimensions.now.first) (view.plains_of c.args.dimensions.now.more.items) _ _ _
    (rw c.plain_node.ensures at (c.in_ok-rows.ensures _ c.read_plain-index.ensures)))
    (rw c.deref.ensures.value at c.read_plains.ensures)

pub read_plains-loop-plain-preserved : goal.read_plains-loop-plain-preserved
read_plains-loop-plain-preserved t c =
    c.loop-plain.invariant
    ∙ steps.plains_next c.loop-plain.reader (fault_of c.loop-plain.rows.fault) (items_in c.loop-plain.rows.value) c.loop-plain.plain-index
    c.args.more.now c.plain-item.result _ _ _
    c.loop-plain-test.true c.plain-item.is (rw c.plain_node.ensures at (c.in_ok-rows.ensures _ c.read_plain-index.ensures))

pub read_plains-returns : goal.read_plains-returns
read_plains-returns t c =
    c.loop-plain.invariant
    ∙ steps.plains_end c.loop-plain.reader (fault_of c.loop-plain.rows.fault) (items_in c.loop-plain.rows.value) c.loop-plain.plain-index
    c.args.more.now c.loop-plain-test.false

pub read_plain-returns-in-Named : goal.read_plain-returns-in-Named
read_plain-returns-in-Named t c =
    rw c.in-Named.is (steps.name_by (scene_of c.env.result.now somewhere) c.args.reader.now c.in-Named.node (view.view_name c.in-Named.name)
    (λ x s. tells_of formed_of x s) c.read_named.result c.env.ensures c.read_named.ensures)

pub read_plain-returns-in-Listed : goal.read_plain-returns-in-Listed
read_plain-returns-in-Listed t c = rw c.in-Listed.is
    (ok_as _ _ _ _ (steps.listed_at c.args.reader.now c.in-Listed.node (view.view_names c.in-Listed.names)) c.read_listed.ensures)

pub read_plain-returns-in-Subrange : goal.read_plain-returns-in-Subrange
read_plain-returns-in-Subrange t c =
    rw c.in-Subrange.is (ok_as _ _ _ _
    (ap told (steps.subrange_eq c.args.reader.now c.in-Subrange.node (view.view_expr c.in-Subrange.low)
    (view.view_expr c.in-Subrange.high))) c.read_subrange.ensures)

pub read_plain-returns-in_ok-fields-in-Record : goal.read_plain-returns-in_ok-fields-in-Record
read_plain-returns-in_ok-fields-in-Record t c =
    let known = c.in_ok-fields-in-Record.ensures _ (c.no_fields.ensures.names c.args.reader.now.tokens) in
    rw c.in-Record.is (ok_as _ _ _ _
    (steps.record_by c.args.reader.now c.in-Record.node c.in-Record.first c.in-Record.more (told_fields c.no_fields.result) _ _
    c.no_fields.ensures.told (rw c.deref.ensures at known.0))
    (c.join_record.ensures _ (rw (c.deref.ensures, c.deref-in-Record.ensures.value) at (c.read_field_tail-fields.ensures _ known.1))))

pub read_fields-returns-in-Empty : goal.read_fields-returns-in-Empty
read_fields-returns-in-Empty t c before k =
    steps.empty_by c.args.reader.now c.args.list.now c.in-Empty.node (told_fields c.args.fields) before c.args.fields.names.entries
    c.in-Empty.is k

pub read_fields-returns-in-Fields : goal.read_fields-returns-in-Fields
read_fields-returns-in-Fields t c before k =
    rw c.in-Fields.is (steps.fields_on c.args.reader.now _ before c.in-Fields.node c.in-Fields.names c.in-Fields.type_node
    (told_fields c.args.fields) (λ x. told_fields x) (λ x. x.names.entries) c.join_fields.result
    (c.join_fields.ensures before (told (types.read_type c.args.reader.now (view.view_type_node c.in-Fields.type_node)))
    (subst (λ ts. Knows ts c.args.fields.names.entries before)
    (sym (type_tokens c.args.reader.now (view.view_type_node c.in-Fields.type_node))) k) c.read_type-shape.ensures))

pub read_field_tail-loop-list-init : goal.read_field_tail-loop-list-init
read_field_tail-loop-list-init t c before k =
    steps.follows_begin c.args.reader.now before (view.field_lists_of c.args.more.now) (told_fields c.args.begun) c.args.begun.names.entries
    k

pub read_field_tail-loop-list-preserved : goal.read_field_tail-loop-list-preserved
read_field_tail-loop-list-preserved t c before k =
    steps.follows_more c.args.reader.now c.loop-list.reader _ before (view.field_lists_of c.args.more.now) (told_fields c.args.begun)
    (told_fields c.loop-list.fields) _ c.loop-list.fields.names.entries _ c.loop-list.list-index c.args.more.now c.list-item.result
    c.loop-list-test.true c.list-item.is (c.loop-list.invariant before k) (λ done known. c.in_ok-fields.ensures done known)

pub read_field_tail-returns : goal.read_field_tail-returns
read_field_tail-returns t c before k =
    steps.follows_end c.args.reader.now c.loop-list.reader before (view.field_lists_of c.args.more.now) (told_fields c.args.begun)
    (told_fields c.loop-list.fields) c.loop-list.fields.names.entries c.loop-list.list-index c.args.more.now
    c.loop-list-test.false (c.loop-list.invariant before k)
