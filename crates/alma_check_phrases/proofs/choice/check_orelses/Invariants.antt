use Rattle.std.proofs.Common.{◌≡◌, drop}
use Rattle.alma_rules.specs.View as view
use Rattle.alma_rules.specs.Walk as walk
use Rattle.alma_check_rules.specs.Views.{scene_of}
use Rattle.alma_check_build_expr.specs.Lists.{branches_in}
use Rattle.alma_check_join_stmt.specs.Onward.{onward_branches}
use Rattle.alma_check_phrases.proofs.choice.check_orelses.Given as goal

abbrev pub invariant-loop-body : goal.invariant-loop-body
invariant-loop-body g l =
    onward_branches (branches_in l.fn.kept) (walk.judge_orelses (scene_of l.env l.place) l.fn.slot (view.orelses_of l.more))
    ≡ onward_branches (branches_in l.kept) (walk.judge_orelses (scene_of l.env l.place) l.slot
    (view.orelses_of (drop l.body-index l.more)))
