use Rattle.std.proofs.Common.{None, Some}
use Rattle.alma_names.proofs.Fields.{look_up}
use Rattle.alma_names.proofs.index.FieldIndex.find.Goals as goal

pub returns-in-Some : goal.returns-in-Some
returns-in-Some c = look_up c.args.name.now c.self.inside.fields.entries _ c.self.view_is (Some c.in-Some.field-0.now)
    c.in-Some.ensures.value

pub returns-in-None : goal.returns-in-None
returns-in-None c = look_up c.args.name.now c.self.inside.fields.entries _ c.self.view_is None c.in-None.ensures.value
