use Rattle.alma_tree.specs.declared.phrase.Label as dl
use Rattle.alma_rules.proofs.Cases as cases
use Rattle.alma_rules.specs.View as view
use Rattle.alma_rules.specs.Scene.{in_constant}
use Rattle.alma_rules.specs.Walk as walk
use Rattle.alma_check_rules.specs.Views.{scene_of, typing_in, span_view, spans_view}
use Rattle.alma_rules.proofs.Judging.{passed}
use Rattle.alma_check_phrases.proofs.case.check_label.Goals as goal

pub returns-in-None : goal.returns-in-None
returns-in-None g c =
    rw (cases.label_one (scene_of c.args.env.now c.args.place) c.args.slot.now (typing_in c.args.case.now) (spans_view c.args.spans.now)
    c.args.label.now c.in-None.is)
    (c.join_single.ensures (walk.judge_expr (in_constant (scene_of c.args.env.now c.args.place)) c.args.slot.now
    (view.view_expr (dl.out-Label c.args.label.now).low)) _ c.check_expr-low.ensures)

pub returns-in_err-low-in-Some : goal.returns-in_err-low-in-Some
returns-in_err-low-in-Some g c =
    passed _ span_view _ _ _ c.from_residual.ensures.1
    (cases.label_two_stops (scene_of c.args.env.now c.args.place) c.args.slot.now (typing_in c.args.case.now) (spans_view c.args.spans.now)
    c.args.label.now c.in-Some.high _ c.in-Some.is c.in_err-low-in-Some.ensures)

pub returns-in_ok-low-in-Some : goal.returns-in_ok-low-in-Some
returns-in_ok-low-in-Some g c =
    rw (cases.label_two (scene_of c.args.env.now c.args.place) c.args.slot.now (typing_in c.args.case.now) (spans_view c.args.spans.now)
    c.args.label.now c.in-Some.high _ _ c.in-Some.is c.in_ok-low-in-Some.ensures)
    (c.join_label.ensures (walk.judge_expr (in_constant (scene_of c.args.env.now c.args.place)) c.check_expr.new.slot
    (view.view_expr c.in-Some.high)) c.check_expr.new.slot _ c.check_expr-high.ensures)
