use Rattle.std.proofs.Common.{◌≡◌, drop}
use Rattle.alma_rules.specs.View as view
use Rattle.alma_rules.specs.Walk as walk
use Rattle.alma_rules.specs.Arms.{arms_judged}
use Rattle.alma_check_rules.specs.Views.{scene_of, typing_in, spans_view}
use Rattle.alma_check_build_expr.specs.Lists.{cases_in}
use Rattle.alma_check_join_stmt.specs.Onward.{onward_cases}
use Rattle.alma_check_phrases.proofs.case.check_arms.Given as goal

abbrev pub invariant-loop-arm : goal.invariant-loop-arm
invariant-loop-arm g l =
    arms_judged (scene_of l.env l.place) l.fn.slot (typing_in l.case) (view.view_arm l.first) (view.arms_of l.more)
    ≡ onward_cases (cases_in l.arms) (walk.judge_arm_tail (scene_of l.env l.place) l.slot (typing_in l.case) (spans_view l.spans)
    (view.arms_of (drop l.arm-index l.more)))
