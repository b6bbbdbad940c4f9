use Rattle.std.proofs.Common.{◌+◌, List, [], ◌++◌, Some, drop, refl, ap, ◌∙◌}
use Rattle.std.specs.Prelude.{option_to_list}
use Rattle.alma_rules.proofs.Cases as cases
use Rattle.alma_check_phrases.proofs.Begins.{stops_as}
use Rattle.alma_check_phrases.proofs.Labels.{labels_begin, labels_turn, grown_begin}
use Rattle.alma_rules.specs.View as view
use Rattle.alma_rules.specs.Parts as parts
use Rattle.alma_rules.specs.Walk as walk
use Rattle.alma_check_rules.specs.Views.{scene_of, typing_in, spans_view, spans_of, spans_in}
use Rattle.alma_rules.proofs.Judging.{passed}
use Rattle.alma_rules.proofs.Onwards.{onward_end, nothing_behind}
use Rattle.alma_check_join_stmt.specs.Onward.{onward_spans}
use Rattle.alma_check_phrases.proofs.case.check_labels.Goals as goal

pub returns-in_err-labels-clause-judged : goal.returns-in_err-labels-clause-judged
returns-in_err-labels-clause-judged g c =
    passed _ spans_of _ _ _ c.from_residual.ensures.1
    (stops_as _ _ _ (labels_begin (scene_of c.args.env.now c.args.place) c.args.slot.now (typing_in c.args.case.now)
    (spans_view c.args.spans.now) _ (view.view_label c.args.first.now) (view.labels_of c.args.more.now) (spans_in (Some c.new.result))
    (ap (λ l. Some (spans_view l)) c.new.ensures.items) refl)
    (c.in_err-labels.ensures.judged (walk.judge_label (scene_of c.args.env.now c.args.place) c.args.slot.now (typing_in c.args.case.now)
    (spans_view c.args.spans.now) (view.view_label c.args.first.now)) _
    (λ m. walk.judge_labels (scene_of c.args.env.now c.args.place) m (typing_in c.args.case.now)
    ((spans_view c.args.spans.now) ++ option_to_list
    (walk.judge_label (scene_of c.args.env.now c.args.place) c.args.slot.now (typing_in c.args.case.now) (spans_view c.args.spans.now)
    (view.view_label c.args.first.now)).value) (view.labels_of c.args.more.now)) c.check_label-span.ensures))

pub loop-label-init : goal.loop-label-init
loop-label-init g c =
    let new = c.in_ok-labels.ensures.earlier
    (walk.judge_label (scene_of c.args.env.now c.args.place) c.args.slot.now (typing_in c.args.case.now) (spans_view c.args.spans.now)
    (view.view_label c.args.first.now)) c.check_label-span.new.slot c.check_label-span.ensures in (
      labels_begin (scene_of c.args.env.now c.args.place) c.args.slot.now (typing_in c.args.case.now) (spans_view c.args.spans.now)
          (spans_view c.add_label.new.earlier) (view.view_label c.args.first.now) (view.labels_of c.args.more.now)
          (spans_in (Some c.new.result)) (ap (λ l. Some (spans_view l)) c.new.ensures.items) new
          ∙ c.in_ok-labels.ensures.judged (walk.judge_label (scene_of c.args.env.now c.args.place) c.args.slot.now
          (typing_in c.args.case.now) (spans_view c.args.spans.now) (view.view_label c.args.first.now)) c.check_label-span.new.slot
          (λ m. walk.judge_labels (scene_of c.args.env.now c.args.place) m (typing_in c.args.case.now)
          (spans_view c.add_label.new.earlier) (view.labels_of c.args.more.now)) c.check_label-span.ensures,
      c.in_ok-labels.ensures.grown (spans_view c.args.spans.now)
          (grown_begin (spans_view c.args.spans.now) (spans_in (Some c.new.result)) (ap (λ l. Some (spans_view l)) c.new.ensures.items)),
    )

pub loop-label-preserved : goal.loop-label-preserved
loop-label-preserved g c =
    let new = c.in_ok-labels-2.ensures.earlier
    (walk.judge_label (scene_of c.args.env.now c.args.place) c.loop-label.slot (typing_in c.args.case.now)
    (spans_view c.loop-label.spans) (view.view_label c.label-item.result)) c.check_label-span-in-loop-label.new.slot
    c.check_label-span-in-loop-label.ensures in (
      c.loop-label.invariant.0 ∙ ap (onward_spans (spans_in c.loop-label.labels))
          (labels_turn (scene_of c.args.env.now c.args.place) c.loop-label.slot c.loop-label.label-index (typing_in c.args.case.now)
          (spans_view c.loop-label.spans) (spans_view c.add_label-in-loop-label.new.earlier) c.args.more.now c.label-item.result
          c.loop-label-test.true c.label-item.is new)
          ∙ c.in_ok-labels-2.ensures.judged (walk.judge_label (scene_of c.args.env.now c.args.place) c.loop-label.slot
          (typing_in c.args.case.now) (spans_view c.loop-label.spans) (view.view_label c.label-item.result))
          c.check_label-span-in-loop-label.new.slot
          (λ m. walk.judge_labels (scene_of c.args.env.now c.args.place) m (typing_in c.args.case.now)
          (spans_view c.add_label-in-loop-label.new.earlier) (view.labels_of (drop (c.loop-label.label-index + 1) c.args.more.now)))
          c.check_label-span-in-loop-label.ensures,
      c.in_ok-labels-2.ensures.grown (spans_view c.args.spans.now) c.loop-label.invariant.1,
    )

pub returns-in_err-labels-2-clause-judged : goal.returns-in_err-labels-2-clause-judged
returns-in_err-labels-2-clause-judged g c =
    passed _ spans_of _ _ _ c.from_residual-in_err-labels-2.ensures.1
    (stops_as _ _ _ (c.loop-label.invariant.0
    ∙ ap (onward_spans (spans_in c.loop-label.labels))
    (labels_turn (scene_of c.args.env.now c.args.place) c.loop-label.slot c.loop-label.label-index (typing_in c.args.case.now)
    (spans_view c.loop-label.spans) _ c.args.more.now c.label-item.result c.loop-label-test.true c.label-item.is refl))
    (c.in_err-labels-2.ensures.judged (walk.judge_label (scene_of c.args.env.now c.args.place) c.loop-label.slot (typing_in c.args.case.now)
    (spans_view c.loop-label.spans) (view.view_label c.label-item.result)) _
    (λ m. walk.judge_labels (scene_of c.args.env.now c.args.place) m (typing_in c.args.case.now)
    ((spans_view c.loop-label.spans) ++ option_to_list
    (walk.judge_label (scene_of c.args.env.now c.args.place) c.loop-label.slot (typing_in c.args.case.now)
    (spans_view c.loop-label.spans) (view.view_label c.label-item.result)).value)
    (view.labels_of (drop (c.loop-label.label-index + 1) c.args.more.now))) c.check_label-span-in-loop-label.ensures))

pub returns : goal.returns
returns g c = record {
  judged = c.loop-label.invariant.0 ∙ ap (onward_spans (spans_in c.loop-label.labels))
      (cases.labels_end (scene_of c.args.env.now c.args.place) c.loop-label.slot c.loop-label.label-index (typing_in c.args.case.now)
      (spans_view c.loop-label.spans) c.args.more.now c.loop-label-test.false)
      ∙ onward_end (λ (x y : List parts.Span). x ++ y) [] (spans_in c.loop-label.labels) c.loop-label.slot nothing_behind;
  spans = c.loop-label.invariant.1;
}
