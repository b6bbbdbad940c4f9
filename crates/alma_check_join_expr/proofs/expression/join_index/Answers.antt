use Rattle.std.proofs.Common.{sym, ap, ◌∙◌}
use Rattle.alma_rules.specs.Judgement.{of_value}
use Rattle.alma_rules.specs.ExprRules as rules
use Rattle.alma_check_rules.specs.Views.{scene_of, somewhere, headings_in, denoted_in, denoted_of}
use Rattle.alma_rules.proofs.Judging.{stops_more, passed, no_memory, node_stops, node_fine}
use Rattle.alma_check_join_expr.proofs.Indexed.{indexed_fine}
use Rattle.alma_check_join_expr.proofs.expression.join_index.Goals as goal

pub returns-in_err-typed : goal.returns-in_err-typed
returns-in_err-typed c = λ j n m a. passed _ (denoted_of (headings_in c.args.env.now)) m _ _ c.from_residual.ensures.1
    (stops_more j.faults _ _ (rw c.in_err-typed.was at a))

pub returns-in_err-pass_index : goal.returns-in_err-pass_index
returns-in_err-pass_index c = λ j n m a. passed _ (denoted_of (headings_in c.args.env.now)) m _ _
    c.from_residual-in_err-pass_index.ensures.1
    (node_stops c.args.node (rules.index_rules (scene_of c.args.env.now somewhere) (denoted_in (headings_in c.args.env.now) c.args.found)) j
    _ m _ (rw c.in_ok-typed.was at a) c.in_err-pass_index.ensures)

pub returns-in_err-part : goal.returns-in_err-part
returns-in_err-part c = λ j n m a. no_memory _ (denoted_of (headings_in c.args.env.now)) m _ c.from_residual-in_err-part.ensures.1

pub returns : goal.returns
returns c = λ j n m a. indexed_fine (scene_of c.args.env.now somewhere) n c.args.node m
    (denoted_in (headings_in c.args.env.now) c.args.found) j _
    (node_fine c.args.node (rules.index_rules (scene_of c.args.env.now somewhere) (denoted_in (headings_in c.args.env.now) c.args.found)) j
    m _ (rw c.in_ok-typed.was at a) c.in_ok-pass_index.ensures) ∙ ap (of_value m) (sym c.in_ok-part.ensures)
