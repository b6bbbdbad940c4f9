use Rattle.std.proofs.Common.{sym, ap, ◌∙◌}
use Rattle.alma_rules.specs.Judgement.{of_value, both, at_node}
use Rattle.alma_rules.specs.Parts as parts
use Rattle.alma_rules.specs.ExprRules as rules
use Rattle.alma_check_rules.specs.Views.{scene_of, headings_in, typing_of, callee_in}
use Rattle.alma_rules.proofs.Judging.{stops_more, passed, node_stops, node_fine, both_fine, with_fine}
use Rattle.alma_check_join_expr.proofs.expression.join_call.Goals as goal

pub returns-in_err-args : goal.returns-in_err-args
returns-in_err-args c = λ j n m a. passed _ typing_of m _ _ c.from_residual.ensures.1 (stops_more j.faults _ _ (rw c.in_err-args.was at a))

pub returns-in_err-pass_call : goal.returns-in_err-pass_call
returns-in_err-pass_call c = λ j n m a. passed _ typing_of m _ _ c.from_residual-in_err-pass_call.ensures.1
    (node_stops c.args.node (rules.call_rules (scene_of c.args.env.now c.args.place) (callee_in (headings_in c.args.env.now) c.args.callee)
    c.args.count) (both (of_value n (callee_in (headings_in c.args.env.now) c.args.callee)) j) _ m _
    (both_fine n m (callee_in (headings_in c.args.env.now) c.args.callee) j _ (rw c.in_ok-args.was at a)) c.in_err-pass_call.ensures)

pub returns : goal.returns
returns c = λ j n m a. with_fine parts.typing_of_call
    (at_node c.args.node (rules.call_rules (scene_of c.args.env.now c.args.place) (callee_in (headings_in c.args.env.now) c.args.callee)
    c.args.count) (both (of_value n (callee_in (headings_in c.args.env.now) c.args.callee)) j)) m _
    (node_fine c.args.node (rules.call_rules (scene_of c.args.env.now c.args.place) (callee_in (headings_in c.args.env.now) c.args.callee)
    c.args.count) (both (of_value n (callee_in (headings_in c.args.env.now) c.args.callee)) j) m _
    (both_fine n m (callee_in (headings_in c.args.env.now) c.args.callee) j _ (rw c.in_ok-args.was at a)) c.in_ok-pass_call.ensures)
    ∙ ap (of_value m) (sym c.call.ensures)
