use Rattle.std.proofs.Common.{refl}
use Rattle.alma_ir.specs.Tree as ir
use Rattle.alma_rules.specs.View as view
use Rattle.alma_rules.specs.Judgement.{Judgement}
use Rattle.alma_rules.specs.Nodes as nodes
use Rattle.alma_rules.specs.Walk as walk
use Rattle.alma_check_rules.specs.Views.{scene_of}
use Rattle.alma_check_build_expr.specs.Lists.{guarded_of}
use Rattle.alma_rules.proofs.Judging.{stops_more, passed}
use Rattle.alma_rules.proofs.Onwards.{first_fine}
use Rattle.alma_check_phrases.proofs.branch.check_guarded.Goals as goal

pub returns-in_err-test : goal.returns-in_err-test
returns-in_err-test g c =
    passed _ guarded_of _ _ _ c.from_residual.ensures.1
    (stops_more (nodes.condition_at (scene_of c.args.env.now c.args.place) (view.view_expr c.args.test.now)
    (walk.judge_expr (scene_of c.args.env.now c.args.place) c.args.slot.now (view.view_expr c.args.test.now))).faults _ _
    c.in_err-test.ensures)

pub returns : goal.returns
returns g c =
    first_fine (λ (j : Judgement (ir.Test × ir.Stmts)). j) _
    (nodes.condition_at (scene_of c.args.env.now c.args.place) (view.view_expr c.args.test.now)
    (walk.judge_expr (scene_of c.args.env.now c.args.place) c.args.slot.now (view.view_expr c.args.test.now)))
    (λ m. walk.judge_stmts (scene_of c.args.env.now c.args.place) m (view.view_stmts c.args.then.now)) guarded_of _ _ _ _ refl
    c.in_ok-test.ensures (c.join_guarded.ensures _ c.check_condition.new.slot _ c.nested-body.ensures)
