use Rattle.std.proofs.Common.{◌+◌, drop, ap, ◌∙◌}
use Rattle.alma_check_phrases.proofs.Begins.{stops_as}
use Rattle.alma_tree.specs.declared.phrase.Exprs as dx
use Rattle.alma_ir.specs.Tree as ir
use Rattle.alma_rules.specs.View as view
use Rattle.alma_rules.specs.Parts as parts
use Rattle.alma_rules.specs.Walk as walk
use Rattle.alma_check_rules.specs.Views.{scene_of, stmts_of, stmts_in}
use Rattle.alma_rules.proofs.Judging.{passed}
use Rattle.alma_rules.proofs.Onwards.{onward_end}
use Rattle.alma_rules.proofs.Stmts as stmts
use Rattle.alma_check_join_stmt.specs.Onward.{onward_stmts}
use Rattle.alma_check_phrases.proofs.input.check_items.Goals as goal

pub loop-item-preserved : goal.loop-item-preserved
loop-item-preserved g c =
    c.loop-item.invariant ∙ ap (onward_stmts (stmts_in c.loop-item.kept))
    (stmts.items_next (scene_of c.args.env.now c.args.place) c.loop-item.slot c.loop-item.item-index
    (dx.out-Exprs c.args.items.now).more.items c.item-item.result (rw c.deref-item-items.ensures.value at c.loop-item-test.true)
    (rw c.deref-item-items.ensures.value at c.item-item.is))
    ∙ c.in_ok-kept-2.ensures _ _ (λ m. walk.judge_item_tail (scene_of c.args.env.now c.args.place) m
    (view.exprs_of (drop (c.loop-item.item-index + 1) (dx.out-Exprs c.args.items.now).more.items))) c.check_item-next.ensures

pub returns-in_err-kept-2 : goal.returns-in_err-kept-2
returns-in_err-kept-2 g c =
    passed _ stmts_of _ _ _ c.from_residual-in_err-kept-2.ensures.1
    (stops_as _ _ _ (c.loop-item.invariant ∙ ap (onward_stmts (stmts_in c.loop-item.kept))
    (stmts.items_next (scene_of c.args.env.now c.args.place) c.loop-item.slot c.loop-item.item-index
    (dx.out-Exprs c.args.items.now).more.items c.item-item.result (rw c.deref-item-items.ensures.value at c.loop-item-test.true)
    (rw c.deref-item-items.ensures.value at c.item-item.is)))
    (c.in_err-kept-2.ensures _ _ (λ m. walk.judge_item_tail (scene_of c.args.env.now c.args.place) m
    (view.exprs_of (drop (c.loop-item.item-index + 1) (dx.out-Exprs c.args.items.now).more.items))) c.check_item-next.ensures))

pub returns : goal.returns
returns g c =
    c.loop-item.invariant ∙ ap (onward_stmts (stmts_in c.loop-item.kept))
    (stmts.items_end (scene_of c.args.env.now c.args.place) c.loop-item.slot c.loop-item.item-index
    (dx.out-Exprs c.args.items.now).more.items (rw c.deref-item-items.ensures.value at c.loop-item-test.false))
    ∙ onward_end parts.append_stmts ir.no_stmts (stmts_in c.loop-item.kept) c.loop-item.slot stmts.stmts_last

pub returns-in_err-kept : goal.returns-in_err-kept
returns-in_err-kept g c =
    passed _ stmts_of _ _ _ c.from_residual.ensures.1
    (stmts.items_stops (scene_of c.args.env.now c.args.place) c.args.slot.now c.args.items.now _
    (rw c.deref.ensures at c.in_err-kept.ensures))

pub loop-item-init : goal.loop-item-init
loop-item-init g c =
    stmts.items_fine (scene_of c.args.env.now c.args.place) c.args.slot.now c.args.items.now _ _
    (rw c.deref.ensures at c.in_ok-kept.ensures)
