use Rattle.std.proofs.Common.{◌+◌, drop, ap, ◌∙◌}
use Rattle.alma_check_phrases.proofs.Begins.{stops_as}
use Rattle.alma_ir.specs.Tree as ir
use Rattle.alma_rules.specs.View as view
use Rattle.alma_rules.specs.Parts as parts
use Rattle.alma_rules.specs.Walk as walk
use Rattle.alma_check_rules.specs.Views.{scene_of, stmts_of, stmts_in}
use Rattle.alma_rules.proofs.Judging.{passed}
use Rattle.alma_rules.proofs.Onwards.{onward_end}
use Rattle.alma_rules.proofs.Stmts as stmts
use Rattle.alma_check_join_stmt.specs.Onward.{onward_stmts}
use Rattle.alma_check_phrases.proofs.sequence.statements.Goals as goal

pub returns-in_err-kept : goal.returns-in_err-kept
returns-in_err-kept g c =
    passed _ stmts_of _ _ _ c.from_residual.ensures.1
    (stmts.stmts_stops (scene_of c.args.env.now c.args.place) c.args.slot.now c.args.stmts.now _
    (rw c.deref.ensures at c.in_err-kept.ensures))

pub loop-stmt-init : goal.loop-stmt-init
loop-stmt-init g c =
    stmts.stmts_fine (scene_of c.args.env.now c.args.place) c.args.slot.now c.args.stmts.now _ _
    (rw c.deref.ensures at c.in_ok-kept.ensures)

pub loop-stmt-preserved : goal.loop-stmt-preserved
loop-stmt-preserved g c =
    c.loop-stmt.invariant ∙ ap (onward_stmts (stmts_in c.loop-stmt.kept))
    (stmts.stmts_next (scene_of c.args.env.now c.args.place) c.loop-stmt.slot c.loop-stmt.stmt-index c.args.stmts.now.more.items
    c.stmt-item.result (rw c.deref-stmt-items.ensures.value at c.loop-stmt-test.true)
    (rw c.deref-stmt-items.ensures.value at c.stmt-item.is))
    ∙ c.in_ok-kept-2.ensures _ _ (λ m. walk.judge_stmt_tail (scene_of c.args.env.now c.args.place) m
    (view.stmts_of (drop (c.loop-stmt.stmt-index + 1) c.args.stmts.now.more.items))) c.check_stmt-next.ensures

pub returns-in_err-kept-2 : goal.returns-in_err-kept-2
returns-in_err-kept-2 g c =
    passed _ stmts_of _ _ _ c.from_residual-in_err-kept-2.ensures.1
    (stops_as _ _ _ (c.loop-stmt.invariant ∙ ap (onward_stmts (stmts_in c.loop-stmt.kept))
    (stmts.stmts_next (scene_of c.args.env.now c.args.place) c.loop-stmt.slot c.loop-stmt.stmt-index c.args.stmts.now.more.items
    c.stmt-item.result (rw c.deref-stmt-items.ensures.value at c.loop-stmt-test.true)
    (rw c.deref-stmt-items.ensures.value at c.stmt-item.is)))
    (c.in_err-kept-2.ensures _ _ (λ m. walk.judge_stmt_tail (scene_of c.args.env.now c.args.place) m
    (view.stmts_of (drop (c.loop-stmt.stmt-index + 1) c.args.stmts.now.more.items))) c.check_stmt-next.ensures))

pub returns : goal.returns
returns g c =
    c.loop-stmt.invariant ∙ ap (onward_stmts (stmts_in c.loop-stmt.kept))
    (stmts.stmts_end (scene_of c.args.env.now c.args.place) c.loop-stmt.slot c.loop-stmt.stmt-index c.args.stmts.now.more.items
    (rw c.deref-stmt-items.ensures.value at c.loop-stmt-test.false))
    ∙ onward_end parts.append_stmts ir.no_stmts (stmts_in c.loop-stmt.kept) c.loop-stmt.slot stmts.stmts_last
