use Rattle.std.proofs.Common.{◌+◌}
use Rattle.alma_check_phrases.proofs.Loops as loops
use Rattle.alma_rules.specs.View as view
use Rattle.alma_rules.specs.Walk as walk
use Rattle.alma_check_rules.specs.Views.{scene_of, stmts_of}
use Rattle.alma_rules.proofs.Judging.{passed}
use Rattle.alma_check_phrases.proofs.turns.check_for.Goals as goal

pub join_for-requires : goal.join_for-requires
join_for-requires g c = record { limit = c.in_ok-head.ensures.limit }

pub returns-in_err-head : goal.returns-in_err-head
returns-in_err-head g c =
    passed _ stmts_of _ _ _ c.from_residual.ensures.1
    (loops.for_head_stops c.args.env.now c.args.place c.args.slot.now c.args.node c.args.variable.now (view.view_expr c.args.from.now)
    (view.view_expr c.args.to.now) (view.by_of c.args.by.now) (view.view_stmts c.args.body.now) _ c.in_err-head.ensures.judged)

pub returns-in_err-turns : goal.returns-in_err-turns
returns-in_err-turns g c =
    passed _ stmts_of _ _ _ c.from_residual-in_err-turns.ensures.1
    (loops.for_by_stops c.args.env.now c.args.place c.args.slot.now c.args.node c.args.variable.now (view.view_expr c.args.from.now)
    (view.view_expr c.args.to.now) (view.by_of c.args.by.now) (view.view_stmts c.args.body.now) _ c.in_ok-head.head
    c.in_ok-head.ensures.judged _ (c.in_err-turns.ensures
    (walk.judge_by (scene_of c.args.env.now c.args.place) c.check_head.new.slot (view.by_of c.args.by.now)) _ c.check_by-step.ensures))

pub returns : goal.returns
returns g c =
    let y = c.in_ok-turns.ensures (walk.judge_by (scene_of c.args.env.now c.args.place) c.check_head.new.slot (view.by_of c.args.by.now))
    c.check_by-step.new.slot c.check_by-step.ensures in
    loops.for_joined c.args.env.now c.args.place c.args.slot.now c.args.node c.args.variable.now (view.view_expr c.args.from.now)
    (view.view_expr c.args.to.now) (view.by_of c.args.by.now) (view.view_stmts c.args.body.now) c.check_head.new.slot c.in_ok-head.head
    c.in_ok-head.ensures.judged c.in_ok-turns.turns c.check_by-step.new.slot _ _ y.0 y.1 y.2
    (c.join_for.ensures (walk.judge_stmts (scene_of c.args.env.now c.args.place) c.check_by-step.new.slot (view.view_stmts c.args.body.now))
    c.args.slot.now (walk.judge_expr (scene_of c.args.env.now c.args.place) (c.args.slot.now + 2) (view.view_expr c.args.from.now)).next
    c.check_head.new.slot c.check_by-step.new.slot _ c.nested-body.ensures)
