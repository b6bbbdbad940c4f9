use Rattle.std.proofs.Common.{◌≡◌, ◌+◌, ◌≤◌, length, drop}
use Rattle.alma_base.specs.Limits.{cell_limit}
use Rattle.alma_names.specs.Shapes.{fields_of, cell_counts, sum_of_cells, AllBelow}
use Rattle.alma_names.proofs.shapes.Shapes.sum.Given as goal

abbrev pub invariant-loop-field : goal.invariant-loop-field
invariant-loop-field l = record {
  left : l.total + sum_of_cells (cell_counts l.self) (fields_of (drop l.field-index l.fields)) ≡ sum_of_cells (cell_counts l.self)
      (fields_of l.fields);
  small : l.total ≤ cell_limit;
  below : AllBelow (length l.self) (fields_of (drop l.field-index l.fields));
}
