use Rattle.alma_rules.specs.View as view
use Rattle.alma_rules.specs.ExprRules as rules
use Rattle.alma_rules.specs.Walk as walk
use Rattle.alma_check_rules.specs.Views.{scene_of, stmts_of}
use Rattle.alma_rules.proofs.Judging.{passed}
use Rattle.alma_rules.proofs.Stmts as stmts
use Rattle.alma_check_phrases.proofs.assign.check_assign.Goals as goal

pub returns-in_err-located : goal.returns-in_err-located
returns-in_err-located g c =
    passed _ stmts_of _ _ _ c.from_residual.ensures.1
    (stmts.assign_stops (scene_of c.args.env.now c.args.place) c.args.slot.now c.args.node (view.view_desig c.args.target.now)
    (view.view_expr c.args.value.now) _ (c.in_err-located.ensures
    (walk.judge_desig (scene_of c.args.env.now c.args.place) c.args.slot.now rules.as_variable (view.view_desig c.args.target.now)) _
    c.check_desig-found.ensures))

pub returns : goal.returns
returns g c =
    stmts.assign_fine (scene_of c.args.env.now c.args.place) c.args.slot.now c.args.node (view.view_desig c.args.target.now)
    (view.view_expr c.args.value.now) stmts_of _ _ _ _
    (c.in_ok-located.ensures (walk.judge_desig (scene_of c.args.env.now c.args.place) c.args.slot.now rules.as_variable
    (view.view_desig c.args.target.now)) _ c.check_desig-found.ensures)
    (c.join_assign.ensures _ c.check_desig-found.new.slot _ c.check_expr-typed.ensures)
