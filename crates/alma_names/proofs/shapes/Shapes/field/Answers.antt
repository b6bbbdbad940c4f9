use Rattle.std.proofs.Common.{◌∙◌, ap}
use Rattle.alma_names.specs.Shapes.{field_named}
use Rattle.alma_names.proofs.Fields.{field_within}
use Rattle.alma_names.proofs.shapes.Shapes.field.Goals as goal

pub returns-clause-within : goal.returns-clause-within
returns-clause-within c =
    field_within c.args.self.now _ _ _ c.self.invariant c.self.view_is c.args.id.0 c.index.result.now c.requires c.args.name.now
    c.find.result
    (c.find.ensures ∙ ap (field_named c.args.name.now) c.index.ensures)
