use Rattle.alma_rules.specs.Arms.{arms_judged}
use Rattle.alma_rules.proofs.Cases as cases
use Rattle.alma_rules.specs.View as view
use Rattle.alma_rules.specs.Walk as walk
use Rattle.alma_check_rules.specs.Views.{scene_of, stmts_of, typing_in}
use Rattle.alma_check_build_expr.specs.Lists.{cases_in}
use Rattle.alma_rules.proofs.Judging.{passed}
use Rattle.alma_check_phrases.proofs.case.check_case.Goals as goal

pub returns-in_err-typed : goal.returns-in_err-typed
returns-in_err-typed g c =
    passed _ stmts_of _ _ _ c.from_residual.ensures.1
    (cases.case_stops (scene_of c.args.env.now c.args.place) c.args.slot.now c.args.node (view.view_expr c.args.value.now)
    (view.view_arm c.args.first.now) (view.arms_of c.args.more.now) (view.else_of c.args.otherwise.now) _ c.in_err-typed.ensures)

pub returns-in_err-case : goal.returns-in_err-case
returns-in_err-case g c =
    passed _ stmts_of _ _ _ c.from_residual-in_err-case.ensures.1
    (cases.case_arms_stops (scene_of c.args.env.now c.args.place) c.args.slot.now c.args.node (view.view_expr c.args.value.now)
    (view.view_arm c.args.first.now) (view.arms_of c.args.more.now) (view.else_of c.args.otherwise.now) _ _ _ c.in_ok-typed.ensures
    (c.in_err-case.ensures (arms_judged (scene_of c.args.env.now c.args.place) c.check_expr.new.slot (typing_in c.in_ok-typed.typed)
    (view.view_arm c.args.first.now) (view.arms_of c.args.more.now)) _ c.check_arms-arms.ensures))

pub returns : goal.returns
returns g c =
    let a = c.in_ok-case.ensures (arms_judged (scene_of c.args.env.now c.args.place) c.check_expr.new.slot (typing_in c.in_ok-typed.typed)
    (view.view_arm c.args.first.now) (view.arms_of c.args.more.now)) c.check_arms-arms.new.slot c.check_arms-arms.ensures in
    cases.case_fine (scene_of c.args.env.now c.args.place) c.args.slot.now c.args.node (view.view_expr c.args.value.now)
    (view.view_arm c.args.first.now) (view.arms_of c.args.more.now) (view.else_of c.args.otherwise.now)
    c.check_expr.new.slot c.check_arms-arms.new.slot _ (typing_in c.in_ok-typed.typed) (cases_in c.in_ok-case.case.arms) stmts_of _
    c.in_ok-typed.ensures a.1
    (rw a.0 at (c.join_case.ensures (walk.judge_case_else (scene_of c.args.env.now c.args.place) c.check_arms-arms.new.slot
    (view.else_of c.args.otherwise.now)) c.check_expr.new.slot c.check_arms-arms.new.slot _ c.check_case_else-other.ensures))
