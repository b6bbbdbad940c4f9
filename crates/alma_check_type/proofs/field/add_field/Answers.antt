use Rattle.std.proofs.Common.{[], ◌∷◌, ◌++◌, sym, ◌∙◌}
use Rattle.alma_rules.specs.View.{view_name}
use Rattle.alma_check_type.specs.Inner.Fields.{Knows, told_fields}
use Rattle.alma_check_type.proofs.FieldSteps.{field_by_twice, field_by_once}
use Rattle.alma_check_type.proofs.field.add_field.Goals as goal

pub returns-then-is_field : goal.returns-then-is_field
returns-then-is_field c before k =
    field_by_twice c.args.reader.now.tokens c.args.fields.names.entries _ before (view_name c.args.name.now) c.args.shape
    (told_fields c.args.fields) _ k
    (sym (c.is_field.ensures before k) ∙ c.if-is_field.true) (c.twice.ensures.told c.args.reader.now.tokens c.args.shape)
    c.twice.ensures.names

pub returns : goal.returns
returns c before k =
    field_by_once (λ y. told_fields y) (λ y. Knows c.args.reader.now.tokens y.names.entries (before ++ view_name c.args.name.now ∷ []))
    c.args.reader.now.tokens before (view_name c.args.name.now) c.args.shape (told_fields c.args.fields) _
    (sym (c.is_field.ensures before k) ∙ c.if-is_field.false)
    (c.once.ensures before k (sym (c.is_field.ensures before k) ∙ c.if-is_field.false))
