use Rattle.std.proofs.Common.{◌≡◌, ◌++◌, Some, sym, ap, arith}
use Rattle.alma_ir.specs.View.{cases_list}
use Rattle.alma_rules.proofs.Cases as cases
use Rattle.alma_check_phrases.proofs.Begins.{on_ok}
use Rattle.alma_check_phrases.proofs.Labels.{settled, spans_count}
use Rattle.alma_rules.specs.View as view
use Rattle.alma_rules.specs.Judgement.{of_value}
use Rattle.alma_rules.specs.Walk as walk
use Rattle.alma_check_rules.specs.Views.{scene_of, typing_in, spans_view, spans_in}
use Rattle.alma_check_build_expr.specs.Lists.{cases_of}
use Rattle.alma_rules.proofs.Judging.{passed}
use Rattle.alma_rules.proofs.Onwards.{nothing_behind}
use Rattle.alma_rules.proofs.Rows as rows
use Rattle.alma_check_phrases.proofs.case.check_arm.Goals as goal

pub returns-in-Empty : goal.returns-in-Empty
returns-in-Empty g c = record {
  judged = rw (
    c.in-Empty.is,
    cases.empty_arm_is (scene_of c.args.env.now c.args.place) c.args.slot.now _ (typing_in c.args.case.now)
        (spans_view c.args.spans.now),
  ) (ap (λ l. of_value c.args.slot.now (Some (cases_list l))) (sym c.new.ensures.items));
  spans = rw (
    c.in-Empty.is,
    cases.empty_spans (scene_of c.args.env.now c.args.place) c.args.slot.now _ (typing_in c.args.case.now)
        (spans_view c.args.spans.now),
  ) (sym (nothing_behind (spans_view c.args.spans.now)));
}

pub returns-in_err-labels-in-Labelled-clause-judged : goal.returns-in_err-labels-in-Labelled-clause-judged
returns-in_err-labels-in-Labelled-clause-judged g c =
    passed _ cases_of _ _ _ c.from_residual.ensures.1
    (rw (c.in-Labelled.is, rows.labelled_is _ c.in-Labelled.first c.in-Labelled.more c.in-Labelled.body)
    (cases.arm_stops (scene_of c.args.env.now c.args.place) c.args.slot.now _ (typing_in c.args.case.now) (spans_view c.args.spans.now)
    (view.view_label c.in-Labelled.first) (view.labels_of c.in-Labelled.more.items) (view.view_stmts c.in-Labelled.body) _
    (rw c.deref.ensures.value at c.in_err-labels-in-Labelled.ensures.judged)))

pub returns-in_ok-labels-in-Labelled-clause-judged : goal.returns-in_ok-labels-in-Labelled-clause-judged
returns-in_ok-labels-in-Labelled-clause-judged g c =
    rw (c.in-Labelled.is, rows.labelled_is _ c.in-Labelled.first c.in-Labelled.more c.in-Labelled.body)
    (rw (cases.arm_fine (scene_of c.args.env.now c.args.place) c.args.slot.now _ (typing_in c.args.case.now) (spans_view c.args.spans.now)
    (view.view_label c.in-Labelled.first) (view.labels_of c.in-Labelled.more.items) (view.view_stmts c.in-Labelled.body)
    c.check_labels.new.slot (spans_in c.in_ok-labels-in-Labelled.labels)
    (rw c.deref.ensures.value at c.in_ok-labels-in-Labelled.ensures.judged))
    (c.join_arm.ensures (walk.judge_stmts (scene_of c.args.env.now c.args.place) c.check_labels.new.slot
    (view.view_stmts c.in-Labelled.body)) c.check_labels.new.slot _ c.nested-body.ensures))

pub returns-in_ok-labels-in-Labelled-clause-spans : goal.returns-in_ok-labels-in-Labelled-clause-spans
returns-in_ok-labels-in-Labelled-clause-spans g c =
    on_ok (spans_view c.settle.new.spans ≡ spans_view c.args.spans.now
    ++ (walk.judge_arm (scene_of c.args.env.now c.args.place) c.args.slot.now (typing_in c.args.case.now) (spans_view c.args.spans.now)
    (view.view_arm c.args.arm.now)).spans) c.join_arm.result
    (rw (c.in-Labelled.is, rows.labelled_is _ c.in-Labelled.first c.in-Labelled.more c.in-Labelled.body)
    (rw (cases.arm_spans (scene_of c.args.env.now c.args.place) c.args.slot.now _ (typing_in c.args.case.now) (spans_view c.args.spans.now)
    (view.view_label c.in-Labelled.first) (view.labels_of c.in-Labelled.more.items) (view.view_stmts c.in-Labelled.body)
    c.check_labels.new.slot (spans_in c.in_ok-labels-in-Labelled.labels)
    (rw c.deref.ensures.value at c.in_ok-labels-in-Labelled.ensures.judged))
    (settled (spans_view c.args.spans.now) (spans_view c.check_labels.new.spans) (spans_view c.settle.new.spans) c.len-before.result
    c.in_ok-labels-in-Labelled.labels (omega (arith, c.len-before.ensures, spans_count c.args.spans.now))
    c.in_ok-labels-in-Labelled.ensures.spans c.settle.ensures)))
