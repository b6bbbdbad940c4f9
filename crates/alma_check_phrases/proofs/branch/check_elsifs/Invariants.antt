use Rattle.std.proofs.Common.{◌≡◌, drop}
use Rattle.alma_rules.specs.View as view
use Rattle.alma_rules.specs.Walk as walk
use Rattle.alma_check_rules.specs.Views.{scene_of}
use Rattle.alma_check_build_expr.specs.Lists.{arms_in}
use Rattle.alma_check_join_stmt.specs.Onward.{onward_arms}
use Rattle.alma_check_phrases.proofs.branch.check_elsifs.Given as goal

abbrev pub invariant-loop-elsif : goal.invariant-loop-elsif
invariant-loop-elsif g l =
    onward_arms (arms_in l.fn.kept) (walk.judge_elsifs (scene_of l.env l.place) l.fn.slot (view.elsifs_of l.elsifs)) ≡ onward_arms
    (arms_in l.kept) (walk.judge_elsifs (scene_of l.env l.place) l.slot (view.elsifs_of (drop l.elsif-index l.elsifs)))
