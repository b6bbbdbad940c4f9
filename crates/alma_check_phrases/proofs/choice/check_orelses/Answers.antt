use Rattle.std.proofs.Common.{◌+◌, drop, ap, ◌∙◌}
use Rattle.alma_check_phrases.proofs.Begins.{stops_as}
use Rattle.alma_ir.specs.Tree as ir
use Rattle.alma_rules.specs.View as view
use Rattle.alma_rules.specs.Walk as walk
use Rattle.alma_check_rules.specs.Views.{scene_of}
use Rattle.alma_check_build_expr.specs.Lists.{branches_of, branches_in}
use Rattle.alma_rules.proofs.Judging.{passed}
use Rattle.alma_rules.proofs.Onwards.{onward_end}
use Rattle.alma_rules.proofs.Stmts as stmts
use Rattle.alma_rules.specs.Appends.{append_branches}
use Rattle.alma_check_join_stmt.specs.Onward.{onward_branches}
use Rattle.alma_check_phrases.proofs.choice.check_orelses.Goals as goal

pub loop-body-preserved : goal.loop-body-preserved
loop-body-preserved g c =
    c.loop-body.invariant ∙ ap (onward_branches (branches_in c.loop-body.kept))
    (stmts.orelses_next (scene_of c.args.env.now c.args.place) c.loop-body.slot c.loop-body.body-index c.args.more.now
    c.body-item.result c.loop-body-test.true c.body-item.is)
    ∙ c.in_ok-kept.ensures _ _ (λ m. walk.judge_orelses (scene_of c.args.env.now c.args.place) m
    (view.orelses_of (drop (c.loop-body.body-index + 1) c.args.more.now))) c.nested-stmts.ensures

pub returns-in_err-kept : goal.returns-in_err-kept
returns-in_err-kept g c =
    passed _ branches_of _ _ _ c.from_residual.ensures.1
    (stops_as _ _ _ (c.loop-body.invariant ∙ ap (onward_branches (branches_in c.loop-body.kept))
    (stmts.orelses_next (scene_of c.args.env.now c.args.place) c.loop-body.slot c.loop-body.body-index c.args.more.now
    c.body-item.result c.loop-body-test.true c.body-item.is))
    (c.in_err-kept.ensures _ _ (λ m. walk.judge_orelses (scene_of c.args.env.now c.args.place) m
    (view.orelses_of (drop (c.loop-body.body-index + 1) c.args.more.now))) c.nested-stmts.ensures))

pub returns : goal.returns
returns g c =
    c.loop-body.invariant ∙ ap (onward_branches (branches_in c.loop-body.kept))
    (stmts.orelses_end (scene_of c.args.env.now c.args.place) c.loop-body.slot c.loop-body.body-index c.args.more.now
    c.loop-body-test.false)
    ∙ onward_end append_branches ir.no_branches (branches_in c.loop-body.kept) c.loop-body.slot
    (stmts.branches_last (scene_of c.args.env.now c.args.place))
