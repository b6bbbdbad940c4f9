use Rattle.std.proofs.Common.{ap, ◌∙◌}
use Rattle.alma_rules.specs.Scene.{Scene, text_at}
use Rattle.alma_rules.specs.View.{view_name}
use Rattle.alma_check_type.proofs.BlockSteps.{found_first, absent_first}
use Rattle.alma_check_type.proofs.reader.Reader.is_first.Goals as goal

pub returns-in-Some : goal.returns-in-Some
returns-in-Some c =
    found_first c.args.self.now (view_name c.args.name.now) c.self.inside.env.declares.entries c.text.result.now
    (ap (λ (s : Scene). s.declares) c.self.view_is)
    (c.text.ensures ∙ ap (λ (s : Scene). text_at s c.args.name.now.token) c.self.view_is) c.in-Some.token.now c.in-Some.ensures.value

pub returns-in-None : goal.returns-in-None
returns-in-None c =
    absent_first c.args.self.now (view_name c.args.name.now) c.self.inside.env.declares.entries c.text.result.now
    (ap (λ (s : Scene). s.declares) c.self.view_is)
    (c.text.ensures ∙ ap (λ (s : Scene). text_at s c.args.name.now.token) c.self.view_is) c.in-None.ensures.value
