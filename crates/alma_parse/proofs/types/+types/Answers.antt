use Rattle.std.proofs.Common.{refl, arith, sym}
use Rattle.std.proofs.lemmas.Result.{err_from_is_err_and}
use Rattle.alma_tree.specs.declared.type_node.Arrays as dz
use Rattle.alma_tree.specs.Numbers.{token, node, number_plain, numbers_of_plains, numbers_of_dimensions, ◌>>◌}
use Rattle.alma_tree.proofs.Rows as rows
use Rattle.alma_tree.proofs.NumberRows as numbered
use Rattle.alma_parse_cursor.proofs.Loops.{ended, broken}
use Rattle.alma_parse_cursor.proofs.Steps.{after, first, passed, opened, closed, counted, then, becoming, becoming_fails}
use Rattle.alma_parse_cursor.proofs.Turns.{begun, grown, where_passed, where_started, numbered_alike, match_instead, match_instead_any}
use Rattle.alma_parse_cursor.proofs.Turns.{want, four_and}
use Rattle.alma_parse.proofs.TypeItems.{dimensions_listed, plains_listed, field_lists_listed}
use Rattle.alma_parse.proofs.TypesLeftOut.{no_array_tail, a_array_tail, no_plain_tail, a_plain_tail, a_field_list_part}
use Rattle.alma_parse.proofs.TypesLeftOut.{no_field_list_tail, a_field_list_tail}
use Rattle.alma_parse.proofs.types.+types.Goals as goal

pub type_node-returns-in_err-arrays : goal.type_node-returns-in_err-arrays
type_node-returns-in_err-arrays t c =
    let p = err_from_is_err_and c.from_residual.result c.from_residual.ensures.1 in
    record { read = rw (p.1, p.2) (first c.in_err-arrays.ensures.read) }

pub type_node-returns-in_err-element : goal.type_node-returns-in_err-element
type_node-returns-in_err-element t c =
    let p = err_from_is_err_and c.from_residual-in_err-element.result c.from_residual-in_err-element.ensures.1 in
    record { read = rw (p.1, p.2) (after (c.in_ok-arrays.ensures.read) (first c.in_err-element.ensures.read)) }

pub type_node-returns-in_err-node : goal.type_node-returns-in_err-node
type_node-returns-in_err-node t c =
    let p = err_from_is_err_and c.from_residual-in_err-node.result c.from_residual-in_err-node.ensures.1 in
    record { read = rw (p.1, p.2) (want c.in_err-node.ensures.counted) }

pub type_node-returns : goal.type_node-returns
type_node-returns t c = record {
  read = rw (rows.type_rolled _, numbered.type_rolled _) (then (c.in_ok-arrays.ensures.read) (then
      (c.in_ok-element.ensures.read) (counted c.in_ok-node.ensures.counted)));
}

pub dimensions-returns-in_err-at-clause-read : goal.dimensions-returns-in_err-at-clause-read
dimensions-returns-in_err-at-clause-read t c =
    let p = err_from_is_err_and c.from_residual.result c.from_residual.ensures.1 in
    rw (p.1, p.2) (first (c.in_err-at.ensures.passes _))

pub dimensions-returns-in_err-at-clause-shorter : goal.dimensions-returns-in_err-at-clause-shorter
dimensions-returns-in_err-at-clause-shorter t c =
    let p = err_from_is_err_and c.from_residual.result c.from_residual.ensures.1 in
    rw p.1 tt

pub dimensions-returns-in_err-first-clause-read : goal.dimensions-returns-in_err-first-clause-read
dimensions-returns-in_err-first-clause-read t c =
    let p = err_from_is_err_and c.from_residual-in_err-first.result c.from_residual-in_err-first.ensures.1 in
    rw (p.1, p.2) (after (passed refl refl c.in_ok-at.ensures.passes) (first c.in_err-first.ensures.read))

pub dimensions-returns-in_err-first-clause-shorter : goal.dimensions-returns-in_err-first-clause-shorter
dimensions-returns-in_err-first-clause-shorter t c =
    let p = err_from_is_err_and c.from_residual-in_err-first.result c.from_residual-in_err-first.ensures.1 in
    rw p.1 tt

pub dimensions-returns-in_err-more-clause-read : goal.dimensions-returns-in_err-more-clause-read
dimensions-returns-in_err-more-clause-read t c =
    let p = err_from_is_err_and c.from_residual-in_err-more.result c.from_residual-in_err-more.ensures.1 in
    rw (p.1, p.2) (after (passed refl refl c.in_ok-at.ensures.passes)
    (after (c.in_ok-first.ensures.read) (first c.in_err-more.ensures.read)))

pub dimensions-returns-in_err-more-clause-shorter : goal.dimensions-returns-in_err-more-clause-shorter
dimensions-returns-in_err-more-clause-shorter t c =
    let p = err_from_is_err_and c.from_residual-in_err-more.result c.from_residual-in_err-more.ensures.1 in
    rw p.1 tt

pub dimensions-returns-in_err-at-2-clause-read : goal.dimensions-returns-in_err-at-2-clause-read
dimensions-returns-in_err-at-2-clause-read t c =
    let p = err_from_is_err_and c.from_residual-in_err-at-2.result c.from_residual-in_err-at-2.ensures.1 in
    rw (p.1, p.2) (after (passed refl refl c.in_ok-at.ensures.passes)
    (after (c.in_ok-first.ensures.read) (after (c.in_ok-more.ensures.read) (first
    (c.in_err-at-2.ensures.passes _)))))

pub dimensions-returns-in_err-at-2-clause-shorter : goal.dimensions-returns-in_err-at-2-clause-shorter
dimensions-returns-in_err-at-2-clause-shorter t c =
    let p = err_from_is_err_and c.from_residual-in_err-at-2.result c.from_residual-in_err-at-2.ensures.1 in
    rw p.1 tt

pub dimensions-returns-clause-read : goal.dimensions-returns-clause-read
dimensions-returns-clause-read t c = then (passed refl refl c.in_ok-at.ensures.passes) (then (c.in_ok-first.ensures.read) (then
    (c.in_ok-more.ensures.read) (passed refl refl c.in_ok-at-2.ensures.passes)))

pub dimensions-returns-clause-shorter : goal.dimensions-returns-clause-shorter
dimensions-returns-clause-shorter t c = omega (
  arith,
  c.in_ok-at.ensures.passes.shorter,
  c.in_ok-first.ensures.read.shorter,
  c.in_ok-more.ensures.read.shorter,
  c.in_ok-at-2.ensures.passes.shorter,
)

pub record_type-returns-in_err-at : goal.record_type-returns-in_err-at
record_type-returns-in_err-at t c =
    let p = err_from_is_err_and c.from_residual.result c.from_residual.ensures.1 in
    record { read = rw (p.1, p.2) (first c.in_err-at.ensures.opened) }

pub record_type-returns-in_err-first : goal.record_type-returns-in_err-first
record_type-returns-in_err-first t c =
    let p = err_from_is_err_and c.from_residual-in_err-first.result c.from_residual-in_err-first.ensures.1 in
    record { read = rw (p.1, p.2) (after (opened refl c.in_ok-at.ensures.opened) (first c.in_err-first.ensures.read)) }

pub record_type-returns-in_err-more : goal.record_type-returns-in_err-more
record_type-returns-in_err-more t c =
    let p = err_from_is_err_and c.from_residual-in_err-more.result c.from_residual-in_err-more.ensures.1 in
    record {
      read = rw (p.1, p.2) (after (opened refl c.in_ok-at.ensures.opened)
          (after (c.in_ok-first.ensures.read) (first c.in_err-more.ensures.read)));
    }

pub record_type-returns-in_err-at-2 : goal.record_type-returns-in_err-at-2
record_type-returns-in_err-at-2 t c =
    let p = err_from_is_err_and c.from_residual-in_err-at-2.result c.from_residual-in_err-at-2.ensures.1 in
    record {
      read = rw (p.1, p.2) (after (opened refl c.in_ok-at.ensures.opened) (after (c.in_ok-first.ensures.read) (after
          (c.in_ok-more.ensures.read) (first (c.in_err-at-2.ensures.passes _)))));
    }

pub record_type-returns-in_err-node : goal.record_type-returns-in_err-node
record_type-returns-in_err-node t c =
    let p = err_from_is_err_and c.from_residual-in_err-node.result c.from_residual-in_err-node.ensures.1 in
    record { read = rw (p.1, p.2) (want c.in_err-node.ensures.counted) }

pub record_type-returns : goal.record_type-returns
record_type-returns t c = record {
  read = rw (
    rows.record_laid c.in_ok-node.node c.in_ok-first-2.first c.in_ok-more.more,
    numbered.record_laid c.in_ok-node.node c.in_ok-first-2.first c.in_ok-more.more,
    c.in_ok-first-2.ensures.ok,
  ) (then
      (opened refl c.in_ok-at.ensures.opened) (then (c.in_ok-first.ensures.read) (then (c.in_ok-more.ensures.read) (then
      (closed refl refl c.in_ok-at.ensures.opened c.in_ok-at-2.ensures.passes) (counted c.in_ok-node.ensures.counted)))));
}

pub fields-returns-in_err-names : goal.fields-returns-in_err-names
fields-returns-in_err-names t c =
    let p = err_from_is_err_and c.from_residual.result c.from_residual.ensures.1 in
    record { read = rw (p.1, p.2) (first (c.in_err-names.ensures.read _)) }

pub fields-returns-in_err-at : goal.fields-returns-in_err-at
fields-returns-in_err-at t c =
    let p = err_from_is_err_and c.from_residual-in_err-at.result c.from_residual-in_err-at.ensures.1 in
    record { read = rw (p.1, p.2) (after (c.in_ok-names.ensures.read _) (first (c.in_err-at.ensures.passes _))) }

pub fields-returns-in_err-type_node : goal.fields-returns-in_err-type_node
fields-returns-in_err-type_node t c =
    let p = err_from_is_err_and c.from_residual-in_err-type_node.result c.from_residual-in_err-type_node.ensures.1 in
    record {
      read = rw (p.1, p.2) (after (c.in_ok-names.ensures.read _) (after (passed refl refl c.in_ok-at.ensures.passes)
          (first c.in_err-type_node.ensures.read)));
    }

pub fields-returns-in_err-node : goal.fields-returns-in_err-node
fields-returns-in_err-node t c =
    let p = err_from_is_err_and c.from_residual-in_err-node.result c.from_residual-in_err-node.ensures.1 in
    record { read = rw (p.1, p.2) (want c.in_err-node.ensures.counted) }

pub fields-returns : goal.fields-returns
fields-returns t c = record {
  read = then (c.in_ok-names.ensures.read _) (then (passed refl refl c.in_ok-at.ensures.passes) (then
      (c.in_ok-type_node.ensures.read) (counted c.in_ok-node.ensures.counted)));
}

pub arrays-returns-in_err-first : goal.arrays-returns-in_err-first
arrays-returns-in_err-first t c =
    let p = err_from_is_err_and c.from_residual.result c.from_residual.ensures.1 in
    record {
      read = rw (p.1, p.2) (becoming_fails (where_started (sym c.if-not-is_at.ensures.starts) a_array_tail)
          (first c.in_err-first.ensures.read));
    }

pub arrays-returns-in_err-more : goal.arrays-returns-in_err-more
arrays-returns-in_err-more t c =
    let p = err_from_is_err_and c.from_residual-in_err-more.result c.from_residual-in_err-more.ensures.1 in
    record {
      read = rw (p.1, p.2) (becoming_fails (where_started (sym c.if-not-is_at.ensures.starts) a_array_tail)
          (after c.in_ok-first.ensures.read c.in_err-more.ensures.read));
    }

pub arrays-returns-in_err-node : goal.arrays-returns-in_err-node
arrays-returns-in_err-node t c =
    let p = err_from_is_err_and c.from_residual-in_err-node.result c.from_residual-in_err-node.ensures.1 in
    record { read = rw (p.1, p.2) (want c.in_err-node.ensures.counted) }

pub arrays-returns : goal.arrays-returns
arrays-returns t c = record {
  read = rw (dz.out-roll-Arrays _) (numbered_alike (four_and token (number_plain c.in_ok-first.first.first)
      (numbers_of_plains c.in_ok-first.first.more.items) token
      (numbers_of_dimensions c.in_ok-more.more.items >> node c.in_ok-node.node))
      (becoming (where_started (sym c.if-not-is_at.ensures.starts) a_array_tail)
      (then c.in_ok-first.ensures.read (then c.in_ok-more.ensures.read
      (counted c.in_ok-node.ensures.counted)))));
}

pub plain_list-loop-after-init : goal.plain_list-loop-after-init
plain_list-loop-after-init t c = rw c.new-more.ensures.items (begun plains_listed)

pub plain_list-loop-after-preserved : goal.plain_list-loop-after-preserved
plain_list-loop-after-preserved t c = rw c.in_ok-push.ensures.items
    (grown plains_listed c.loop-after.invariant (where_passed c.in-Some.ensures.passes a_plain_tail)
    (then (passed refl refl c.in-Some.ensures.passes) c.in_ok-next.ensures.read))

pub plain_list-returns-in_err-next : goal.plain_list-returns-in_err-next
plain_list-returns-in_err-next t c =
    let p = err_from_is_err_and c.from_residual.result c.from_residual.ensures.1 in
    record {
      read = rw (p.1, p.2) (broken c.loop-after.invariant (where_passed c.in-Some.ensures.passes a_plain_tail) (after
          (passed refl refl c.in-Some.ensures.passes) c.in_err-next.ensures.read));
    }

pub plain_list-returns : goal.plain_list-returns
plain_list-returns t c = record { read = ended c.loop-after.invariant (no_plain_tail _ c.in_default.ensures.passes) }

pub field_lists-loop-after-init : goal.field_lists-loop-after-init
field_lists-loop-after-init t c = rw c.new-more.ensures.items (begun field_lists_listed)

pub field_lists-loop-after-preserved : goal.field_lists-loop-after-preserved
field_lists-loop-after-preserved t c = rw c.in_ok-push.ensures.items
    (grown field_lists_listed c.loop-after.invariant (where_passed c.in-Some.ensures.passes a_field_list_tail)
    (then (passed refl refl c.in-Some.ensures.passes) c.in_ok-next.ensures.read))

pub field_lists-returns-in_err-next : goal.field_lists-returns-in_err-next
field_lists-returns-in_err-next t c =
    let p = err_from_is_err_and c.from_residual.result c.from_residual.ensures.1 in
    record {
      read = rw (p.1, p.2) (broken c.loop-after.invariant (where_passed c.in-Some.ensures.passes a_field_list_tail) (after
          (passed refl refl c.in-Some.ensures.passes) c.in_err-next.ensures.read));
    }

pub field_lists-returns : goal.field_lists-returns
field_lists-returns t c = record { read = ended c.loop-after.invariant (no_field_list_tail _ c.in_default.ensures.passes) }

pub dimensions_list-loop-alloc-init : goal.dimensions_list-loop-alloc-init
dimensions_list-loop-alloc-init t c = rw c.new-more.ensures.items (begun dimensions_listed)

pub dimensions_list-loop-alloc-preserved : goal.dimensions_list-loop-alloc-preserved
dimensions_list-loop-alloc-preserved t c = rw c.in_ok-push.ensures.items
    (grown dimensions_listed c.loop-alloc.invariant (where_started (sym c.loop-alloc-test.ensures.starts) a_array_tail)
    (c.in_ok-next.ensures.read))

pub dimensions_list-returns-in_err-next : goal.dimensions_list-returns-in_err-next
dimensions_list-returns-in_err-next t c =
    let p = err_from_is_err_and c.from_residual.result c.from_residual.ensures.1 in
    record {
      read = rw (p.1, p.2) (broken c.loop-alloc.invariant (where_started (sym c.loop-alloc-test.ensures.starts) a_array_tail)
          (c.in_err-next.ensures.read));
    }

pub dimensions_list-returns : goal.dimensions_list-returns
dimensions_list-returns t c = record { read = ended c.loop-alloc.invariant (no_array_tail _ (sym c.loop-alloc-test.ensures.starts)) }

pub fields-type_node-requires : goal.fields-type_node-requires
fields-type_node-requires t c =
    let x = (c.in_ok-names.ensures.read 0).shorter in
    let y = c.in_ok-at.ensures.passes.shorter in (omega arith, tt)

pub field_list-returns-then-is_at : goal.field_list-returns-then-is_at
field_list-returns-then-is_at t c = record {
  read = match_instead _ _ _ _ _ _ _ _ _ (where_started (sym c.if-is_at.ensures.starts) a_field_list_part) c.fields.ensures.read;
}

pub plain_type-returns-in-Named : goal.plain_type-returns-in-Named
plain_type-returns-in-Named t c = record {
  read = match_instead_any _ _ _ _ _ _ _ _ (rw c.in-Named.is at c.in_ok-plain_form.ensures.becomes) c.named_type.ensures.read;
}

pub plain_type-returns-in-Subrange : goal.plain_type-returns-in-Subrange
plain_type-returns-in-Subrange t c = record {
  read = match_instead _ _ _ _ _ _ _ _ _ (rw c.in-Subrange.is at c.in_ok-plain_form.ensures.becomes) c.subrange.ensures.read;
}
