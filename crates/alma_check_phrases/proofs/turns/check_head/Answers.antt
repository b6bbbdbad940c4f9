use Rattle.alma_check_phrases.proofs.Loops as loops
use Rattle.alma_rules.specs.View as view
use Rattle.alma_rules.specs.Walk as walk
use Rattle.alma_check_rules.specs.Views.{scene_of}
use Rattle.alma_check_phrases.proofs.turns.check_head.Goals as goal

pub returns-in_err-start-clause-judged : goal.returns-in_err-start-clause-judged
returns-in_err-start-clause-judged g c =
    loops.head_passed c.args.env.now c.args.place c.args.slot.now c.args.variable.now (view.view_expr c.args.from.now)
    (view.view_expr c.args.to.now) _ _ _ c.from_residual.ensures.1
    (loops.start_stops c.args.env.now c.args.place c.args.slot.now c.args.variable.now (view.view_expr c.args.from.now)
    (view.view_expr c.args.to.now) _ c.in_err-start.ensures.started)

pub returns-in_err-low-clause-judged : goal.returns-in_err-low-clause-judged
returns-in_err-low-clause-judged g c =
    loops.head_passed c.args.env.now c.args.place c.args.slot.now c.args.variable.now (view.view_expr c.args.from.now)
    (view.view_expr c.args.to.now) _ _ _ c.from_residual-in_err-low.ensures.1
    (loops.low_stops c.args.env.now c.args.place c.args.slot.now c.args.variable.now (view.view_expr c.args.from.now)
    (view.view_expr c.args.to.now) c.in_ok-start.start _ c.in_ok-start.ensures.started _ c.in_err-low.ensures)

pub returns : goal.returns
returns g c =
    let head = c.join_head.ensures (walk.judge_expr (scene_of c.args.env.now c.args.place) c.check_expr.new.slot
    (view.view_expr c.args.to.now)) _ c.check_expr-high.ensures in
    record {
      judged = loops.headed c.args.env.now c.args.place c.args.slot.now c.args.variable.now (view.view_expr c.args.from.now)
          (view.view_expr c.args.to.now) c.in_ok-start.start _ c.in_ok-start.ensures.started c.check_expr.new.slot _ _ _ c.in_ok-low.ensures
          head;
      limit = loops.head_limit c.in_ok-start.start _
          (walk.judge_expr (scene_of c.args.env.now c.args.place) c.check_expr.new.slot (view.view_expr c.args.to.now)) _ _ head
          c.in_ok-start.ensures.limit;
    }
