use Rattle.alma_rules.specs.View as view
use Rattle.alma_check_rules.specs.Views.{scene_of, stmts_of}
use Rattle.alma_rules.proofs.Judging.{passed}
use Rattle.alma_rules.proofs.Stmts as stmts
use Rattle.alma_check_phrases.proofs.branch.check_while.Goals as goal

pub returns-in_err-test : goal.returns-in_err-test
returns-in_err-test g c =
    passed _ stmts_of _ _ _ c.from_residual.ensures.1
    (stmts.while_stops (scene_of c.args.env.now c.args.place) c.args.slot.now c.args.node (view.view_expr c.args.test.now)
    (view.view_stmts c.args.body.now) _ c.in_err-test.ensures)

pub returns : goal.returns
returns g c =
    stmts.while_fine (scene_of c.args.env.now c.args.place) c.args.slot.now c.args.node (view.view_expr c.args.test.now)
    (view.view_stmts c.args.body.now) stmts_of _ _ _ _ c.in_ok-test.ensures
    (c.join_while.ensures _ c.check_condition.new.slot _ c.nested-body.ensures)
