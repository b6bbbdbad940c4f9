use Rattle.std.proofs.Common.{Some, ap}
use Rattle.alma_check_phrases.proofs.Begins.{from_nothing}
use Rattle.alma_ir.specs.Tree as ir
use Rattle.alma_ir.specs.View.{arms_list}
use Rattle.alma_rules.specs.View as view
use Rattle.alma_rules.specs.Walk as walk
use Rattle.alma_check_rules.specs.Views.{scene_of, stmts_of}
use Rattle.alma_check_build_expr.specs.Lists.{arms_in}
use Rattle.alma_rules.proofs.Judging.{passed}
use Rattle.alma_rules.proofs.Stmts as stmts
use Rattle.alma_rules.specs.Appends.{append_arms}
use Rattle.alma_check_phrases.proofs.branch.check_if.Goals as goal

pub returns-in_err-arms : goal.returns-in_err-arms
returns-in_err-arms g c =
    passed _ stmts_of _ _ _ c.from_residual.ensures.1
    (stmts.if_stops (scene_of c.args.env.now c.args.place) c.args.slot.now c.args.node (view.view_expr c.args.test.now)
    (view.view_stmts c.args.then.now) (view.elsifs_of c.args.elsifs.now) (view.else_of c.args.otherwise.now) _
    (c.in_err-arms.ensures (stmts.guarded (scene_of c.args.env.now c.args.place) c.args.slot.now (view.view_expr c.args.test.now)
    (view.view_stmts c.args.then.now)) _ (λ m. walk.judge_elsifs (scene_of c.args.env.now c.args.place) m
    (view.elsifs_of c.args.elsifs.now)) c.check_guarded-first.ensures))

pub returns-in_err-arms-2 : goal.returns-in_err-arms-2
returns-in_err-arms-2 g c =
    passed _ stmts_of _ _ _ c.from_residual-in_err-arms-2.ensures.1
    (stmts.if_arms_stops (scene_of c.args.env.now c.args.place) c.args.slot.now c.args.node (view.view_expr c.args.test.now)
    (view.view_stmts c.args.then.now) (view.elsifs_of c.args.elsifs.now) (view.else_of c.args.otherwise.now) _
    (arms_in c.in_ok-arms.arms) _ (from_nothing append_arms ir.no_arms (arms_in (Some c.new.result)) _ _
    (ap (λ l. Some (arms_list l)) c.new.ensures.items)
    (c.in_ok-arms.ensures (stmts.guarded (scene_of c.args.env.now c.args.place) c.args.slot.now (view.view_expr c.args.test.now)
    (view.view_stmts c.args.then.now)) _ (λ m. walk.judge_elsifs (scene_of c.args.env.now c.args.place) m
    (view.elsifs_of c.args.elsifs.now)) c.check_guarded-first.ensures)) c.in_err-arms-2.ensures)

pub returns : goal.returns
returns g c =
    stmts.if_fine (scene_of c.args.env.now c.args.place) c.args.slot.now c.args.node (view.view_expr c.args.test.now)
    (view.view_stmts c.args.then.now) (view.elsifs_of c.args.elsifs.now) (view.else_of c.args.otherwise.now) _ _ _
    (arms_in c.in_ok-arms.arms) (arms_in c.in_ok-arms-2.arms) stmts_of _
    (from_nothing append_arms ir.no_arms (arms_in (Some c.new.result)) _ _ (ap (λ l. Some (arms_list l)) c.new.ensures.items)
    (c.in_ok-arms.ensures (stmts.guarded (scene_of c.args.env.now c.args.place) c.args.slot.now (view.view_expr c.args.test.now)
    (view.view_stmts c.args.then.now)) _ (λ m. walk.judge_elsifs (scene_of c.args.env.now c.args.place) m
    (view.elsifs_of c.args.elsifs.now)) c.check_guarded-first.ensures)) c.in_ok-arms-2.ensures
    (c.join_if.ensures _ c.check_elsifs.new.slot _ c.check_else-other.ensures)
