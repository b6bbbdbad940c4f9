use Rattle.std.proofs.Common.{◌≡◌, ◌+◌, length, take, drop}
use Rattle.alma_names.specs.Shapes.{fields_of, cell_counts, place_fields, sum_of_cells, AllBelow}
use Rattle.alma_names.proofs.shapes.Shapes.place.Given as goal

abbrev pub invariant-loop-field : goal.invariant-loop-field
invariant-loop-field l = record {
  front : fields_of (take l.field-index l.fields) ≡ place_fields (cell_counts l.self) 0 (fields_of (take l.field-index l.initial.fields));
  rest : drop l.field-index l.fields ≡ drop l.field-index l.initial.fields;
  len : length l.fields ≡ length l.initial.fields;
  sum : l.offset ≡ sum_of_cells (cell_counts l.self) (fields_of (take l.field-index l.initial.fields));
  left : l.offset + sum_of_cells (cell_counts l.self) (fields_of (drop l.field-index l.initial.fields)) ≡ sum_of_cells (cell_counts l.self)
      (fields_of l.initial.fields);
  below : AllBelow (length l.self) (fields_of (drop l.field-index l.initial.fields));
}
