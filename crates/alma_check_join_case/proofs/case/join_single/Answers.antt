use Rattle.std.proofs.Common.{refl, sym, ap, ◌∙◌}
use Rattle.alma_rules.specs.Judgement.{of_value, both, at_node}
use Rattle.alma_rules.specs.Parts as parts
use Rattle.alma_rules.specs.StmtRules as stmt_rules
use Rattle.alma_check_rules.specs.Views.{scene_of, somewhere, typing_in, span_view, spans_view}
use Rattle.alma_rules.proofs.Judging.{stops_more, passed, node_fine, with_some_fine}
use Rattle.alma_check_join_case.proofs.case.join_single.Goals as goal

pub returns-in_err-low : goal.returns-in_err-low
returns-in_err-low c = λ j m a. passed _ span_view m _ _ c.from_residual.ensures.1
    (stops_more _ _ _ (stops_more j.faults _ _ (rw c.in_err-low.was at a)))

pub returns-in_err-pass_label : goal.returns-in_err-pass_label
returns-in_err-pass_label c = λ j m a. rw (rw c.in_ok-low.was at a)
    (passed _ span_view m _ _ c.from_residual-in_err-pass_label.ensures.1 c.in_err-pass_label.ensures)

pub returns : goal.returns
returns c = λ j m a. rw (rw c.in_ok-low.was at a)
    (with_some_fine (parts.span_of (scene_of c.args.env.now somewhere))
    (at_node c.args.node (stmt_rules.label_rules (scene_of c.args.env.now somewhere) (typing_in c.args.case.now)
    (spans_view c.args.earlier.now) (parts.span_of (scene_of c.args.env.now somewhere)) (typing_in c.in_ok-low.low)
    (typing_in c.in_ok-low.low)) (both (of_value m (typing_in c.in_ok-low.low)) (of_value m (typing_in c.in_ok-low.low)))) m _
    (node_fine c.args.node (stmt_rules.label_rules (scene_of c.args.env.now somewhere) (typing_in c.args.case.now)
    (spans_view c.args.earlier.now) (parts.span_of (scene_of c.args.env.now somewhere)) (typing_in c.in_ok-low.low)
    (typing_in c.in_ok-low.low)) (both (of_value m (typing_in c.in_ok-low.low)) (of_value m (typing_in c.in_ok-low.low))) m _ refl
    c.in_ok-pass_label.ensures) ∙ ap (of_value m) (sym c.span_in.ensures))
