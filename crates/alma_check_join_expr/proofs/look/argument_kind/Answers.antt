use Rattle.std.proofs.Common.{ap, ◌∙◌}
use Rattle.alma_rules.specs.ExprRules as rules
use Rattle.alma_check_rules.specs.Views.{scene_of, somewhere}
use Rattle.alma_check_join_expr.proofs.look.argument_kind.Goals as goal

pub returns-in-None : goal.returns-in-None
returns-in-None c = ap (rules.argument_kind_of (scene_of c.args.env.now somewhere)) c.in-None.ensures

pub returns-in_ok-found-in-Some : goal.returns-in_ok-found-in-Some
returns-in_ok-found-in-Some c =
    c.found_kind.ensures ∙ ap (rules.argument_found (scene_of c.args.env.now somewhere)) c.in_ok-found-in-Some.ensures
    ∙ ap (rules.argument_kind_of (scene_of c.args.env.now somewhere)) c.in-Some.ensures
