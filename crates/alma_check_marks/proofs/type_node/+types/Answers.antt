use Rattle.std.proofs.Common.{refl, ap, ◌∙◌}
use Rattle.alma_rules.specs.Places as places
use Rattle.alma_rules.specs.View as view
use Rattle.alma_rules.proofs.TypeRows as types
use Rattle.alma_check_marks.proofs.Steps.{◌▹◌, ◌▸◌, stays, ends, ends_in, next, finish}
use Rattle.alma_check_marks.proofs.type_node.+types.Goals as goal

pub mark_type-returns : goal.mark_type-returns
unfolding places.mark_type
mark_type-returns t c = rw (types.type_is c.args.tree.now)
    (ends c.node.result _ _ (c.in_ok-mark_arrays.ensures ▹ c.in_ok-mark_plain.ensures) c.node.ensures)

pub mark_arrays-returns-in-None : goal.mark_arrays-returns-in-None
unfolding places.mark_type
mark_arrays-returns-in-None t c = rw c.in-None.is (stays _)

pub mark_arrays-returns-in_ok-mark_dimension_tail-in-Some : goal.mark_arrays-returns-in_ok-mark_dimension_tail-in-Some
unfolding places.mark_type
mark_arrays-returns-in_ok-mark_dimension_tail-in-Some t c =
    rw c.in-Some.is (ends c.node.result _ _ (c.in_ok-mark_dimensions-in-Some.ensures
    ▹ (rw c.deref.ensures.value at c.in_ok-mark_dimension_tail-in-Some.ensures)) c.node.ensures)

pub mark_dimension_tail-loop-dimensions-preserved : goal.mark_dimension_tail-loop-dimensions-preserved
unfolding places.mark_type
mark_dimension_tail-loop-dimensions-preserved t c =
    next (λ xs. places.mark_dimension_tail (view.dimensions_of xs)) c.loop-dimensions.dimensions-index c.args.more.now
    c.dimensions-item.result c.loop-dimensions-test.true c.dimensions-item.is c.loop-dimensions.invariant ▸ c.in_ok-mark_dimensions.ensures

pub mark_dimension_tail-returns : goal.mark_dimension_tail-returns
unfolding places.mark_type
mark_dimension_tail-returns t c = finish (λ xs. places.mark_dimension_tail (view.dimensions_of xs)) c.loop-dimensions.dimensions-index
    c.args.more.now c.loop-dimensions-test.false refl c.loop-dimensions.invariant

pub mark_dimensions-returns : goal.mark_dimensions-returns
unfolding places.mark_type
mark_dimensions-returns t c = ends_in c.token-2.result _ _ c.in_ok-token.ensures
    (ends_in c.token-2.result _ _ c.in_ok-mark_plain.ensures
    (ends_in c.token-2.result _ _ (rw c.deref.ensures.value at c.in_ok-mark_plains.ensures) c.token-2.ensures))

pub mark_plains-loop-plain-preserved : goal.mark_plains-loop-plain-preserved
unfolding places.mark_type
mark_plains-loop-plain-preserved t c = next (λ xs. places.mark_plains (view.plains_of xs)) c.loop-plain.plain-index c.args.more.now
    c.plain-item.result c.loop-plain-test.true c.plain-item.is c.loop-plain.invariant ▸ c.in_ok-token.ensures ▸ c.in_ok-mark_plain.ensures

pub mark_plains-returns : goal.mark_plains-returns
unfolding places.mark_type
mark_plains-returns t c = finish (λ xs. places.mark_plains (view.plains_of xs)) c.loop-plain.plain-index c.args.more.now
    c.loop-plain-test.false refl c.loop-plain.invariant

pub mark_plain-returns-in-Named : goal.mark_plain-returns-in-Named
unfolding places.mark_type
mark_plain-returns-in-Named t c = rw c.in-Named.is c.mark_type_name.ensures

pub mark_plain-returns-in-Listed : goal.mark_plain-returns-in-Listed
unfolding places.mark_type
mark_plain-returns-in-Listed t c = rw c.in-Listed.is c.mark_listed.ensures

pub mark_plain-returns-in-Subrange : goal.mark_plain-returns-in-Subrange
unfolding places.mark_type
mark_plain-returns-in-Subrange t c = rw c.in-Subrange.is c.mark_subrange.ensures

pub mark_plain-returns-in_ok-token-in-Record-2 : goal.mark_plain-returns-in_ok-token-in-Record-2
unfolding places.mark_type
mark_plain-returns-in_ok-token-in-Record-2 t c =
    rw (ap view.view_plain_type c.in-Record.is ∙ types.record_is c.in-Record.node c.in-Record.first c.in-Record.more)
    (ends c.node.result _ _ (c.in_ok-token-in-Record.ensures ▹ (rw c.deref.ensures at c.in_ok-mark_fields-in-Record.ensures)
    ▹ (rw c.deref-in-Record.ensures.value at c.in_ok-mark_field_tail-in-Record.ensures) ▹ c.in_ok-token-in-Record-2.ensures) c.node.ensures)

pub mark_fields-returns-in-Empty : goal.mark_fields-returns-in-Empty
unfolding places.mark_type
mark_fields-returns-in-Empty t c = rw c.in-Empty.is c.empty.ensures

pub mark_fields-returns-in_ok-mark_type-in-Fields : goal.mark_fields-returns-in_ok-mark_type-in-Fields
unfolding places.mark_type
mark_fields-returns-in_ok-mark_type-in-Fields t c =
    rw c.in-Fields.is (ends c.node.result _ _
    (c.in_ok-mark_names-in-Fields.ensures ▹ c.in_ok-token-in-Fields.ensures ▹ c.in_ok-mark_type-in-Fields.ensures) c.node.ensures)

pub mark_field_tail-loop-list-preserved : goal.mark_field_tail-loop-list-preserved
unfolding places.mark_type
mark_field_tail-loop-list-preserved t c =
    next (λ xs. places.mark_field_tail (view.field_lists_of xs)) c.loop-list.list-index c.args.more.now c.list-item.result
    c.loop-list-test.true c.list-item.is c.loop-list.invariant ▸ c.in_ok-token.ensures ▸ c.in_ok-mark_fields.ensures

pub mark_field_tail-returns : goal.mark_field_tail-returns
unfolding places.mark_type
mark_field_tail-returns t c = finish (λ xs. places.mark_field_tail (view.field_lists_of xs)) c.loop-list.list-index c.args.more.now
    c.loop-list-test.false refl c.loop-list.invariant
