use Rattle.std.proofs.Common.{◌+◌}
use Rattle.alma_check_phrases.proofs.Loops as loops
use Rattle.alma_rules.specs.View as view
use Rattle.alma_rules.specs.Walk as walk
use Rattle.alma_check_rules.specs.Views.{scene_of, stmts_of}
use Rattle.alma_rules.proofs.Judging.{passed}
use Rattle.alma_check_phrases.proofs.turns.check_some.Goals as goal

pub join_some-requires : goal.join_some-requires
join_some-requires g c = record { limit = c.in_ok-head.ensures.limit }

pub returns-in_err-head : goal.returns-in_err-head
returns-in_err-head g c =
    passed _ stmts_of _ _ _ c.from_residual.ensures.1
    (loops.some_head_stops c.args.env.now c.args.place c.args.slot.now c.args.node c.args.variable.now (view.view_expr c.args.from.now)
    (view.view_expr c.args.to.now) (view.view_stmts c.args.body.now) _ c.in_err-head.ensures.judged)

pub returns : goal.returns
returns g c =
    loops.some_joined c.args.env.now c.args.place c.args.slot.now c.args.node c.args.variable.now (view.view_expr c.args.from.now)
    (view.view_expr c.args.to.now) (view.view_stmts c.args.body.now) c.check_head.new.slot _ c.in_ok-head.head _
    c.in_ok-head.ensures.judged
    (c.join_some.ensures (walk.judge_stmts (scene_of c.args.env.now c.args.place) c.check_head.new.slot (view.view_stmts c.args.body.now))
    c.args.slot.now (walk.judge_expr (scene_of c.args.env.now c.args.place) (c.args.slot.now + 2) (view.view_expr c.args.from.now)).next
    c.check_head.new.slot _ c.nested-body.ensures)
