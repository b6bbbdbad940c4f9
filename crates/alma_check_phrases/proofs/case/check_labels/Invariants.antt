use Rattle.std.proofs.Common.{◌≡◌, drop}
use Rattle.alma_rules.specs.View as view
use Rattle.alma_rules.specs.Walk as walk
use Rattle.alma_rules.specs.Arms.{labels_judged}
use Rattle.alma_check_rules.specs.Views.{scene_of, typing_in, spans_in, spans_view}
use Rattle.alma_check_join_stmt.specs.Noted.{GrowsBy}
use Rattle.alma_check_join_stmt.specs.Onward.{onward_spans}
use Rattle.alma_check_phrases.proofs.case.check_labels.Given as goal

abbrev pub invariant-loop-label : goal.invariant-loop-label
invariant-loop-label g l =
    (labels_judged (scene_of l.env l.place) l.fn.slot (typing_in l.case) (spans_view l.fn.spans) (view.view_label l.first)
    (view.labels_of l.more)
    ≡ onward_spans (spans_in l.labels) (walk.judge_labels (scene_of l.env l.place) l.slot (typing_in l.case) (spans_view l.spans)
    (view.labels_of (drop l.label-index l.more))))
    × GrowsBy (spans_view l.fn.spans) (spans_in l.labels) (spans_view l.spans)
