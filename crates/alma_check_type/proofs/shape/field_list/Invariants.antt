use Rattle.std.proofs.Common.{length}
use Rattle.alma_check_type.proofs.ShapeSteps.{IsListed}
use Rattle.alma_check_type.proofs.shape.field_list.Given as goal

abbrev pub invariant-loop-place : goal.invariant-loop-place
invariant-loop-place l = IsListed (length l.env.shapes) l.place l.fields.entries l.list.items
