use Rattle.std.proofs.Common.{arith}
use Rattle.std.proofs.lemmas.Grind.{common_steps}
use Rattle.alma_names.proofs.Tables.{shape_there, tables}
use Rattle.alma_names.proofs.shapes.Shapes.get.Goals as goal

pub returns-clause-sound : goal.returns-clause-sound
returns-clause-sound c = shape_there c.args.self.now _ _ c.args.id.0 _ c.self.invariant.table c.self.view_is
    (grind (arith, tables, common_steps))
