use Rattle.std.proofs.Common.{◌≡◌, ◌+◌, ◌++◌, drop, refl, ap, ◌∙◌}
use Rattle.alma_rules.proofs.Cases as cases
use Rattle.alma_check_phrases.proofs.Begins.{stops_as}
use Rattle.alma_check_phrases.proofs.Labels.{arms_turn, of_ok}
use Rattle.alma_ir.specs.Tree as ir
use Rattle.alma_rules.specs.View as view
use Rattle.alma_rules.specs.Parts as parts
use Rattle.alma_rules.specs.Walk as walk
use Rattle.alma_check_rules.specs.Views.{scene_of, typing_in, spans_view}
use Rattle.alma_check_build_expr.specs.Lists.{cases_of, cases_in}
use Rattle.alma_rules.proofs.Judging.{passed}
use Rattle.alma_rules.proofs.Onwards.{onward_end}
use Rattle.alma_check_join_stmt.specs.Onward.{onward_cases}
use Rattle.alma_check_phrases.proofs.case.check_arms.Goals as goal

pub returns-in_err-arms : goal.returns-in_err-arms
returns-in_err-arms g c =
    passed _ cases_of _ _ _ c.from_residual.ensures.1
    (cases.arms_stops (scene_of c.args.env.now c.args.place) c.args.slot.now (typing_in c.args.case.now) (view.view_arm c.args.first.now)
    (view.arms_of c.args.more.now) _ (rw c.new-spans.ensures at c.in_err-arms.ensures.judged))

pub loop-arm-init : goal.loop-arm-init
loop-arm-init g c =
    cases.arms_fine (scene_of c.args.env.now c.args.place) c.args.slot.now (typing_in c.args.case.now) (view.view_arm c.args.first.now)
    (view.arms_of c.args.more.now) c.check_arm.new.slot (cases_in c.in_ok-arms.arms) (spans_view c.check_arm.new.spans)
    (rw c.new-spans.ensures at c.in_ok-arms.ensures.judged) (rw c.new-spans.ensures at c.in_ok-arms.ensures.spans)

pub loop-arm-preserved : goal.loop-arm-preserved
loop-arm-preserved g c =
    let new = of_ok c.check_arm-next.result (spans_view c.check_arm-next.new.spans ≡ spans_view c.loop-arm.spans
    ++ (walk.judge_arm (scene_of c.args.env.now c.args.place) c.loop-arm.slot (typing_in c.args.case.now) (spans_view c.loop-arm.spans)
    (view.view_arm c.arm-item.result)).spans) c.in_ok-arms-2.ensures.all_judged c.check_arm-next.ensures.spans in
    c.loop-arm.invariant ∙ ap (onward_cases (cases_in c.loop-arm.arms))
    (arms_turn (scene_of c.args.env.now c.args.place) c.loop-arm.slot c.loop-arm.arm-index (typing_in c.args.case.now)
    (spans_view c.loop-arm.spans) (spans_view c.check_arm-next.new.spans) c.args.more.now c.arm-item.result c.loop-arm-test.true
    c.arm-item.is new)
    ∙ c.in_ok-arms-2.ensures.judged (walk.judge_arm (scene_of c.args.env.now c.args.place) c.loop-arm.slot (typing_in c.args.case.now)
    (spans_view c.loop-arm.spans) (view.view_arm c.arm-item.result)).arm _
    (λ m. walk.judge_arm_tail (scene_of c.args.env.now c.args.place) m (typing_in c.args.case.now) (spans_view c.check_arm-next.new.spans)
    (view.arms_of (drop (c.loop-arm.arm-index + 1) c.args.more.now))) c.check_arm-next.ensures.judged

pub returns-in_err-arms-2 : goal.returns-in_err-arms-2
returns-in_err-arms-2 g c =
    passed _ cases_of _ _ _ c.from_residual-in_err-arms-2.ensures.1
    (stops_as _ _ _ (c.loop-arm.invariant ∙ ap (onward_cases (cases_in c.loop-arm.arms))
    (arms_turn (scene_of c.args.env.now c.args.place) c.loop-arm.slot c.loop-arm.arm-index (typing_in c.args.case.now)
    (spans_view c.loop-arm.spans) _ c.args.more.now c.arm-item.result c.loop-arm-test.true c.arm-item.is refl))
    (c.in_err-arms-2.ensures.judged (walk.judge_arm (scene_of c.args.env.now c.args.place) c.loop-arm.slot (typing_in c.args.case.now)
    (spans_view c.loop-arm.spans) (view.view_arm c.arm-item.result)).arm _
    (λ m. walk.judge_arm_tail (scene_of c.args.env.now c.args.place) m (typing_in c.args.case.now)
    (spans_view c.loop-arm.spans ++ (walk.judge_arm (scene_of c.args.env.now c.args.place) c.loop-arm.slot (typing_in c.args.case.now)
    (spans_view c.loop-arm.spans) (view.view_arm c.arm-item.result)).spans)
    (view.arms_of (drop (c.loop-arm.arm-index + 1) c.args.more.now))) c.check_arm-next.ensures.judged))

pub returns : goal.returns
returns g c =
    c.loop-arm.invariant ∙ ap (onward_cases (cases_in c.loop-arm.arms))
    (cases.arms_end (scene_of c.args.env.now c.args.place) c.loop-arm.slot c.loop-arm.arm-index (typing_in c.args.case.now)
    (spans_view c.loop-arm.spans) c.args.more.now c.loop-arm-test.false)
    ∙ onward_end parts.append_cases ir.no_cases (cases_in c.loop-arm.arms) c.loop-arm.slot cases.cases_last
