use Rattle.std.proofs.Common.{◌∙◌}
use Rattle.alma_names.proofs.Fields.{pushed}
use Rattle.alma_names.proofs.index.FieldIndex.push.Goals as goal

pub returns-clause-ok : goal.returns-clause-ok
returns-clause-ok c =
    pushed c.args.field.now.name.items c.self.inside.fields.entries _ c.self.view_is c.in_ok-name.name
    (c.args.field.now.offset, c.args.field.now.shape) c.requires
    (c.in_ok-name.ensures.items_if_clones_equal (λ x y e. e) ∙ c.as_slice.ensures.value) _ c.in_ok-insert.ensures.entries
