use Rattle.alma_rules.specs.View as view
use Rattle.alma_check_rules.specs.Views.{scene_of}
use Rattle.alma_rules.proofs.Stmts as stmts
use Rattle.alma_check_phrases.proofs.input.check_return.Goals as goal

pub returns-in-None : goal.returns-in-None
returns-in-None g c =
    rw (c.in-None.is, stmts.bare_return_is (scene_of c.args.env.now c.args.place) c.args.slot.now c.args.node)
    (c.check_bare_return.ensures c.args.slot.now)

pub returns-in-Some : goal.returns-in-Some
returns-in-Some g c =
    rw (c.in-Some.is, stmts.return_is (scene_of c.args.env.now c.args.place) c.args.slot.now c.args.node (view.view_expr c.in-Some.value))
    (c.join_return.ensures _ _ c.check_expr-typed.ensures)
