use Rattle.std.proofs.Common.{◌≡◌, drop}
use Rattle.alma_rules.specs.Numbered as tree
use Rattle.alma_rules.specs.View as view
use Rattle.alma_rules.specs.Walk as walk
use Rattle.alma_check_rules.specs.Views.{scene_of, stmts_in}
use Rattle.alma_check_join_stmt.specs.Onward.{onward_stmts}
use Rattle.alma_check_phrases.proofs.input.check_read.Given as goal

abbrev pub invariant-loop-desig : goal.invariant-loop-desig
invariant-loop-desig g l =
    walk.judge_stmt (scene_of l.env l.place) l.fn.slot (tree.read_stmt l.node (view.view_desig l.first) (view.desigs_of l.more))
    ≡ onward_stmts (stmts_in l.kept) (walk.judge_reads (scene_of l.env l.place) l.slot (view.desigs_of (drop l.desig-index l.more)))
