use Rattle.alma_rules.specs.View as view
use Rattle.alma_check_rules.specs.Views.{scene_of, stmts_of}
use Rattle.alma_rules.proofs.Judging.{passed}
use Rattle.alma_rules.proofs.Stmts as stmts
use Rattle.alma_check_phrases.proofs.choice.check_forall.Goals as goal

pub returns-in_err-choice : goal.returns-in_err-choice
returns-in_err-choice g c =
    passed _ stmts_of _ _ _ c.from_residual.ensures.1
    (stmts.forall_stops (scene_of c.args.env.now c.args.place) c.args.slot.now c.args.node (view.view_stmts c.args.choice.now)
    (view.view_stmts c.args.body.now) _ c.in_err-choice.ensures)

pub returns : goal.returns
returns g c =
    stmts.forall_fine (scene_of c.args.env.now c.args.place) c.args.slot.now c.args.node (view.view_stmts c.args.choice.now)
    (view.view_stmts c.args.body.now) stmts_of _ _ _ _ c.in_ok-choice.ensures
    (c.join_forall.ensures _ c.nested.new.slot _ c.nested-body.ensures)
