use Rattle.std.proofs.Common.{sym, ap}
use Rattle.alma_rules.specs.View as view
use Rattle.alma_rules.specs.Judgement.{of_value}
use Rattle.alma_check_rules.specs.Views.{scene_of}
use Rattle.alma_rules.proofs.Stmts as stmts
use Rattle.alma_check_phrases.proofs.branch.check_else.Goals as goal

pub returns-in-None : goal.returns-in-None
returns-in-None g c =
    rw (c.in-None.is, stmts.else_none (scene_of c.args.env.now c.args.place) c.args.slot.now)
    (ap (of_value c.args.slot.now) (sym c.nothing.ensures))

pub returns-in-Some : goal.returns-in-Some
returns-in-Some g c =
    rw (c.in-Some.is, stmts.else_some (scene_of c.args.env.now c.args.place) c.args.slot.now (view.view_stmts c.in-Some.body))
    c.nested.ensures
