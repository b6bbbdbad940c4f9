use Rattle.alma_rules.specs.View as view
use Rattle.alma_check_rules.specs.Views.{scene_of, stmts_of}
use Rattle.alma_rules.proofs.Judging.{passed}
use Rattle.alma_rules.proofs.Stmts as stmts
use Rattle.alma_check_phrases.proofs.branch.check_repeat.Goals as goal

pub returns-in_err-body : goal.returns-in_err-body
returns-in_err-body g c =
    passed _ stmts_of _ _ _ c.from_residual.ensures.1
    (stmts.repeat_stops (scene_of c.args.env.now c.args.place) c.args.slot.now c.args.node (view.view_stmts c.args.body.now)
    (view.view_expr c.args.test.now) _ c.in_err-body.ensures)

pub returns : goal.returns
returns g c =
    stmts.repeat_fine (scene_of c.args.env.now c.args.place) c.args.slot.now c.args.node (view.view_stmts c.args.body.now)
    (view.view_expr c.args.test.now) stmts_of _ _ _ _ c.in_ok-body.ensures
    (c.join_repeat.ensures _ c.nested.new.slot _ c.check_condition-test.ensures)
