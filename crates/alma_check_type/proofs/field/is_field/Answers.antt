use Rattle.std.proofs.Common.{ap, ◌∙◌}
use Rattle.alma_rules.specs.Scene.{Scene, text_at}
use Rattle.alma_check_type.proofs.FieldSteps.{known_some, known_none}
use Rattle.alma_check_type.proofs.field.is_field.Goals as goal

pub returns-in-Some : goal.returns-in-Some
returns-in-Some c before k =
    known_some c.args.reader.now.tokens c.args.fields.now.names.entries before c.args.name.now.token c.text.result.now _ k
    (c.text.ensures ∙ ap (λ (s : Scene). text_at s c.args.name.now.token) c.env.ensures) c.in-Some.ensures.value

pub returns-in-None : goal.returns-in-None
returns-in-None c before k =
    known_none c.args.reader.now.tokens c.args.fields.now.names.entries before c.args.name.now.token c.text.result.now k
    (c.text.ensures ∙ ap (λ (s : Scene). text_at s c.args.name.now.token) c.env.ensures) c.in-None.ensures.value
