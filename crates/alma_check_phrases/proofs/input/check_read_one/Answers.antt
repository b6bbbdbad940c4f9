use Rattle.alma_rules.specs.View as view
use Rattle.alma_rules.specs.ExprRules as rules
use Rattle.alma_rules.specs.Walk as walk
use Rattle.alma_check_rules.specs.Views.{scene_of}
use Rattle.alma_check_phrases.proofs.input.check_read_one.Goals as goal

pub returns : goal.returns
returns g c =
    c.join_read.ensures _ _ (c.join_place-located.ensures
    (walk.judge_desig (scene_of c.args.env.now c.args.place) c.args.slot.now rules.as_variable (view.view_desig c.args.desig.now)) _
    c.check_desig-found.ensures)
