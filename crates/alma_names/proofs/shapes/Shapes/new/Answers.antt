use Rattle.alma_names.proofs.Fields.{first_indexed_table}
use Rattle.alma_names.proofs.shapes.Shapes.new.Goals as goal

pub invariant_of-result : goal.invariant_of-result
invariant_of-result c =
    rw (
      c.in_ok-push-3.ensures.items,
      c.in_ok-push-2.ensures.items,
      c.in_ok-push.ensures.items,
      c.new-shapes.ensures.items,
      c.in_ok-push-6.ensures.items,
      c.in_ok-push-5.ensures.items,
      c.in_ok-push-4.ensures.items,
      c.new-cells.ensures.items,
      c.in_ok-push-9.ensures.items,
      c.in_ok-push-8.ensures.items,
      c.in_ok-push-7.ensures.items,
      c.new-indexes.ensures.items,
      c.new.ensures,
      c.new-2.ensures,
      c.new-3.ensures,
    )
    first_indexed_table
