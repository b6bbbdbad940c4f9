use Rattle.std.proofs.Common.{◌≡◌, drop}
use Rattle.alma_rules.specs.View as view
use Rattle.alma_rules.specs.Walk as walk
use Rattle.alma_check_rules.specs.Views.{scene_of, stmts_in}
use Rattle.alma_check_join_stmt.specs.Onward.{onward_stmts}
use Rattle.alma_check_phrases.proofs.sequence.statements.Given as goal

abbrev pub invariant-loop-stmt : goal.invariant-loop-stmt
invariant-loop-stmt g l =
    walk.judge_stmts (scene_of l.env l.place) l.fn.slot (view.view_stmts l.stmts)
    ≡ onward_stmts (stmts_in l.kept) (walk.judge_stmt_tail (scene_of l.env l.place) l.slot
    (view.stmts_of (drop l.stmt-index l.stmts.more.items)))
