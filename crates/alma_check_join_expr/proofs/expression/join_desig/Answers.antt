use Rattle.alma_rules.specs.ExprRules as rules
use Rattle.alma_check_rules.specs.Views.{scene_of, headings_in, found_view, use_view, denoted_of}
use Rattle.alma_rules.proofs.Judging.{stops_more, passed, node_stops, node_fine}
use Rattle.alma_check_join_expr.proofs.expression.join_desig.Goals as goal

pub returns-in_err-part : goal.returns-in_err-part
returns-in_err-part c = λ j m a. passed _ (denoted_of (headings_in c.args.env.now)) m _ _ c.from_residual.ensures.1
    (stops_more j.faults _ _ (rw c.in_err-part.was at a))

pub returns-in_err-pass_desig : goal.returns-in_err-pass_desig
returns-in_err-pass_desig c = λ j m a. passed _ (denoted_of (headings_in c.args.env.now)) m _ _ c.from_residual-in_err-pass_desig.ensures.1
    (node_stops c.args.node (rules.desig_rules (scene_of c.args.env.now c.args.place) (use_view c.args.wanted) c.args.selected
    (found_view (headings_in c.args.env.now) c.args.found)) (j) _ m _ ((rw c.in_ok-part.was at a)) c.in_err-pass_desig.ensures)

pub returns : goal.returns
returns c = λ j m a. node_fine c.args.node
    (rules.desig_rules (scene_of c.args.env.now c.args.place) (use_view c.args.wanted) c.args.selected
    (found_view (headings_in c.args.env.now) c.args.found)) (j) m _ ((rw c.in_ok-part.was at a)) c.in_ok-pass_desig.ensures
