use Rattle.std.proofs.Common.{◌≡◌, take}
use Rattle.alma_names.specs.Shapes.{fields_of}
use Rattle.alma_names.proofs.index.index_of_fields.Given as goal

abbrev pub invariant-loop-field : goal.invariant-loop-field
invariant-loop-field l = l.index ≡ fields_of (take l.field-index l.fields)
