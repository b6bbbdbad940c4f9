use Rattle.std.proofs.Common.{Some, ap}
use Rattle.alma_check_phrases.proofs.Begins.{from_nothing}
use Rattle.alma_ir.specs.Tree as ir
use Rattle.alma_ir.specs.View.{branches_list}
use Rattle.alma_rules.specs.View as view
use Rattle.alma_rules.specs.Walk as walk
use Rattle.alma_check_rules.specs.Views.{scene_of, stmts_of}
use Rattle.alma_check_build_expr.specs.Lists.{branches_of, branches_in}
use Rattle.alma_rules.proofs.Judging.{passed, answers_as}
use Rattle.alma_rules.proofs.Stmts as stmts
use Rattle.alma_rules.specs.Appends.{append_branches}
use Rattle.alma_check_phrases.proofs.choice.check_either.Goals as goal

pub returns-in_err-branches : goal.returns-in_err-branches
returns-in_err-branches g c =
    passed _ stmts_of _ _ _ c.from_residual.ensures.1
    (stmts.either_stops (scene_of c.args.env.now c.args.place) c.args.slot.now c.args.node (view.view_stmts c.args.first.now)
    (view.orelses_of c.args.more.now) _ (c.in_err-branches.ensures
    (walk.judge_stmts (scene_of c.args.env.now c.args.place) c.args.slot.now (view.view_stmts c.args.first.now)) _
    (λ m. walk.judge_orelses (scene_of c.args.env.now c.args.place) m (view.orelses_of c.args.more.now)) c.nested-first.ensures))

pub returns : goal.returns
returns g c =
    rw (stmts.either_whole (scene_of c.args.env.now c.args.place) c.args.slot.now c.args.node (view.view_stmts c.args.first.now)
    (view.orelses_of c.args.more.now)) (c.join_either.ensures _ _
    (answers_as _ _ branches_of _ _ (from_nothing append_branches ir.no_branches (branches_in (Some c.new.result)) _ _
    (ap (λ l. Some (branches_list l)) c.new.ensures.items)
    (c.in_ok-branches.ensures (walk.judge_stmts (scene_of c.args.env.now c.args.place) c.args.slot.now (view.view_stmts c.args.first.now)) _
    (λ m. walk.judge_orelses (scene_of c.args.env.now c.args.place) m (view.orelses_of c.args.more.now)) c.nested-first.ensures))
    c.check_orelses-branches.ensures))
