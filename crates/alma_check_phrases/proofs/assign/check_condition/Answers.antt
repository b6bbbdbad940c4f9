use Rattle.alma_check_phrases.proofs.Begins.{node_is}
use Rattle.alma_rules.specs.View as view
use Rattle.alma_rules.specs.Walk as walk
use Rattle.alma_check_rules.specs.Views.{scene_of}
use Rattle.alma_check_phrases.proofs.assign.check_condition.Goals as goal

pub returns : goal.returns
returns g c =
    rw (node_is c.args.test.now) (c.join_condition.ensures
    (walk.judge_expr (scene_of c.args.env.now c.args.place) c.args.slot.now (view.view_expr c.args.test.now)) _
    c.check_expr-typed.ensures)
