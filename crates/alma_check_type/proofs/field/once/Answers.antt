use Rattle.std.proofs.Common.{ap, ◌∙◌}
use Rattle.alma_rules.specs.Scene.{Scene, text_at}
use Rattle.alma_rules.specs.View.{view_name}
use Rattle.alma_check_type.specs.Told.{fault_of}
use Rattle.alma_check_type.proofs.FieldSteps.{entered}
use Rattle.alma_check_type.proofs.field.once.Goals as goal

pub returns : goal.returns
returns c before k none =
    entered c.args.reader.now.tokens c.args.fields.names.entries _ before (view_name c.args.name.now) c.in_ok-text.text c.args.shape
    (fault_of c.args.fields.fault) c.args.fields.is_bad k none
    (c.in_ok-text.ensures.items_if_clones_equal (λ x y e. e) ∙ c.text.ensures
    ∙ ap (λ (s : Scene). text_at s c.args.name.now.token) c.env.ensures)
    c.in_ok-insert.ensures.entries
