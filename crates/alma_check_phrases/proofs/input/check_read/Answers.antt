use Rattle.std.proofs.Common.{◌+◌, drop, ap, ◌∙◌}
use Rattle.alma_check_phrases.proofs.Begins.{stops_as}
use Rattle.alma_ir.specs.Tree as ir
use Rattle.alma_rules.specs.View as view
use Rattle.alma_rules.specs.Parts as parts
use Rattle.alma_rules.specs.Walk as walk
use Rattle.alma_check_rules.specs.Views.{scene_of, stmts_of, stmts_in}
use Rattle.alma_rules.proofs.Judging.{passed}
use Rattle.alma_rules.proofs.Onwards.{onward_end}
use Rattle.alma_rules.proofs.Stmts as stmts
use Rattle.alma_check_join_stmt.specs.Onward.{onward_stmts}
use Rattle.alma_check_phrases.proofs.input.check_read.Goals as goal

pub loop-desig-preserved : goal.loop-desig-preserved
loop-desig-preserved g c =
    c.loop-desig.invariant ∙ ap (onward_stmts (stmts_in c.loop-desig.kept))
    (stmts.reads_next (scene_of c.args.env.now c.args.place) c.loop-desig.slot c.loop-desig.desig-index c.args.more.now
    c.desig-item.result c.loop-desig-test.true c.desig-item.is)
    ∙ c.in_ok-kept-2.ensures _ _ (λ m. walk.judge_reads (scene_of c.args.env.now c.args.place) m
    (view.desigs_of (drop (c.loop-desig.desig-index + 1) c.args.more.now))) c.check_read_one-next.ensures

pub returns-in_err-kept-2 : goal.returns-in_err-kept-2
returns-in_err-kept-2 g c =
    passed _ stmts_of _ _ _ c.from_residual-in_err-kept-2.ensures.1
    (stops_as _ _ _ (c.loop-desig.invariant ∙ ap (onward_stmts (stmts_in c.loop-desig.kept))
    (stmts.reads_next (scene_of c.args.env.now c.args.place) c.loop-desig.slot c.loop-desig.desig-index c.args.more.now
    c.desig-item.result c.loop-desig-test.true c.desig-item.is))
    (c.in_err-kept-2.ensures _ _ (λ m. walk.judge_reads (scene_of c.args.env.now c.args.place) m
    (view.desigs_of (drop (c.loop-desig.desig-index + 1) c.args.more.now))) c.check_read_one-next.ensures))

pub returns : goal.returns
returns g c =
    c.loop-desig.invariant ∙ ap (onward_stmts (stmts_in c.loop-desig.kept))
    (stmts.reads_end (scene_of c.args.env.now c.args.place) c.loop-desig.slot c.loop-desig.desig-index c.args.more.now
    c.loop-desig-test.false)
    ∙ onward_end parts.append_stmts ir.no_stmts (stmts_in c.loop-desig.kept) c.loop-desig.slot stmts.stmts_last

pub returns-in_err-kept : goal.returns-in_err-kept
returns-in_err-kept g c =
    passed _ stmts_of _ _ _ c.from_residual.ensures.1
    (stmts.read_stops (scene_of c.args.env.now c.args.place) c.args.slot.now c.args.node (view.view_desig c.args.first.now)
    (view.desigs_of c.args.more.now) _ c.in_err-kept.ensures)

pub loop-desig-init : goal.loop-desig-init
loop-desig-init g c =
    stmts.read_fine (scene_of c.args.env.now c.args.place) c.args.slot.now c.args.node (view.view_desig c.args.first.now)
    (view.desigs_of c.args.more.now) _ _ c.in_ok-kept.ensures
