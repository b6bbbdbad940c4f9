use Rattle.alma_rules.specs.View as view
use Rattle.alma_check_rules.specs.Views.{scene_of}
use Rattle.alma_rules.proofs.Stmts as stmts
use Rattle.alma_check_phrases.proofs.assign.check_value.Goals as goal

pub returns : goal.returns
returns g c =
    rw (stmts.value_at (scene_of c.args.env.now c.args.place) c.args.slot.now c.args.node (view.view_expr c.args.value.now))
    (c.join_test.ensures _ _ c.check_condition-test.ensures)
