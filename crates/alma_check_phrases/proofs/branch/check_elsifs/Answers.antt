use Rattle.std.proofs.Common.{◌+◌, drop, ap, ◌∙◌}
use Rattle.alma_check_phrases.proofs.Begins.{stops_as}
use Rattle.alma_ir.specs.Tree as ir
use Rattle.alma_rules.specs.View as view
use Rattle.alma_rules.specs.Walk as walk
use Rattle.alma_check_rules.specs.Views.{scene_of}
use Rattle.alma_check_build_expr.specs.Lists.{arms_of, arms_in}
use Rattle.alma_rules.proofs.Judging.{passed}
use Rattle.alma_rules.proofs.Onwards.{onward_end}
use Rattle.alma_rules.proofs.Stmts as stmts
use Rattle.alma_rules.specs.Appends.{append_arms}
use Rattle.alma_check_join_stmt.specs.Onward.{onward_arms}
use Rattle.alma_check_phrases.proofs.branch.check_elsifs.Goals as goal

pub loop-elsif-preserved : goal.loop-elsif-preserved
loop-elsif-preserved g c =
    c.loop-elsif.invariant ∙ ap (onward_arms (arms_in c.loop-elsif.kept))
    (stmts.elsifs_next (scene_of c.args.env.now c.args.place) c.loop-elsif.slot c.loop-elsif.elsif-index c.args.elsifs.now
    c.elsif-item.result c.loop-elsif-test.true c.elsif-item.is)
    ∙ c.in_ok-kept.ensures _ _ (λ m. walk.judge_elsifs (scene_of c.args.env.now c.args.place) m
    (view.elsifs_of (drop (c.loop-elsif.elsif-index + 1) c.args.elsifs.now))) c.check_guarded-arm.ensures

pub returns-in_err-kept : goal.returns-in_err-kept
returns-in_err-kept g c =
    passed _ arms_of _ _ _ c.from_residual.ensures.1
    (stops_as _ _ _ (c.loop-elsif.invariant ∙ ap (onward_arms (arms_in c.loop-elsif.kept))
    (stmts.elsifs_next (scene_of c.args.env.now c.args.place) c.loop-elsif.slot c.loop-elsif.elsif-index c.args.elsifs.now
    c.elsif-item.result c.loop-elsif-test.true c.elsif-item.is))
    (c.in_err-kept.ensures _ _ (λ m. walk.judge_elsifs (scene_of c.args.env.now c.args.place) m
    (view.elsifs_of (drop (c.loop-elsif.elsif-index + 1) c.args.elsifs.now))) c.check_guarded-arm.ensures))

pub returns : goal.returns
returns g c =
    c.loop-elsif.invariant ∙ ap (onward_arms (arms_in c.loop-elsif.kept))
    (stmts.elsifs_end (scene_of c.args.env.now c.args.place) c.loop-elsif.slot c.loop-elsif.elsif-index c.args.elsifs.now
    c.loop-elsif-test.false)
    ∙ onward_end append_arms ir.no_arms (arms_in c.loop-elsif.kept) c.loop-elsif.slot
    (stmts.arms_last (scene_of c.args.env.now c.args.place))
