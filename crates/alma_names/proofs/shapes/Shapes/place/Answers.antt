use Rattle.std.proofs.Common.{◌≡◌, ◌+◌, take, get_or, arith, ◌∙◌}
use Rattle.std.proofs.lemmas.List.{length-set}
use Rattle.alma_names.specs.Shapes.{fields_of, cell_counts, sum_of_cells}
use Rattle.alma_names.proofs.Placing.{place_front, place_rest, place_sum, place_tail, place_below}
use Rattle.alma_names.proofs.shapes.Shapes.place.Goals as goal

pub loop-field-preserved : goal.loop-field-preserved
loop-field-preserved c =
    let v = c.loop-field.invariant in
    let k = c.loop-field.field-index in
    let cs = cell_counts c.args.self.now in
    let d = c.field-item.result in
    let sum : c.loop-field.offset + get_or cs (get_or c.loop-field.fields k d).shape.0 0 ≡ sum_of_cells cs
    (fields_of (take (k + 1) c.args.fields.now)) =
    place_sum cs c.args.fields.now c.loop-field.fields k c.loop-field.offset d c.loop-field-test.true v.len v.rest v.front v.sum in
    let tail = place_tail cs c.args.fields.now c.loop-field.fields k c.loop-field.offset d c.loop-field-test.true v.len v.rest v.front
    v.sum in
    record {
      front = place_front cs c.args.fields.now c.loop-field.fields k c.loop-field.offset d c.loop-field-test.true v.len v.rest v.front
          v.sum;
      rest = place_rest cs c.args.fields.now c.loop-field.fields k c.loop-field.offset d c.loop-field-test.true v.len v.rest v.front v.sum
          _;
      len = length-set c.loop-field.fields k _ ∙ v.len;
      sum = rw c.cells-cells.ensures.cells sum;
      left = omega (arith, c.cells-cells.ensures.cells, tail, v.left);
      below = place_below cs c.args.fields.now c.loop-field.fields k c.loop-field.offset d c.loop-field-test.true v.len v.rest v.front v.sum
          _ v.below;
    }
