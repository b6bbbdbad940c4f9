use Rattle.std.proofs.Common.{◌≡◌, drop}
use Rattle.alma_tree.specs.declared.phrase.Exprs as dx
use Rattle.alma_rules.specs.View as view
use Rattle.alma_rules.specs.Walk as walk
use Rattle.alma_check_rules.specs.Views.{scene_of, stmts_in}
use Rattle.alma_check_join_stmt.specs.Onward.{onward_stmts}
use Rattle.alma_check_phrases.proofs.input.check_items.Given as goal

abbrev pub invariant-loop-item : goal.invariant-loop-item
invariant-loop-item g l =
    walk.judge_items (scene_of l.env l.place) l.fn.slot (view.view_exprs l.items)
    ≡ onward_stmts (stmts_in l.kept) (walk.judge_item_tail (scene_of l.env l.place) l.slot
    (view.exprs_of (drop l.item-index (dx.out-Exprs l.items).more.items)))
