use Rattle.std.proofs.Common.{sym, ap, ◌∙◌}
use Rattle.alma_ir.specs.Tree as ir
use Rattle.alma_rules.specs.Judgement.{of_value, both, at_node, with}
use Rattle.alma_rules.specs.Parts as parts
use Rattle.alma_rules.specs.StmtRules as stmt_rules
use Rattle.alma_check_rules.specs.Views.{scene_of, somewhere, typing_in, stmts_of}
use Rattle.alma_check_build_expr.specs.Lists.{cases_in}
use Rattle.alma_rules.proofs.Judging.{stops_more, passed, no_memory, node_stops, node_fine, both_fine, with_fine}
use Rattle.alma_check_join_case.proofs.case.join_case.Goals as goal

pub returns-in_err-other : goal.returns-in_err-other
returns-in_err-other c = λ j n a0 m a. passed _ stmts_of m _ _ c.from_residual.ensures.1
    (stops_more j.faults _ _ (rw c.in_err-other.was at a))

pub returns-in_err-pass_case : goal.returns-in_err-pass_case
returns-in_err-pass_case c = λ j n a0 m a. passed _ stmts_of m _ _ c.from_residual-in_err-pass_case.ensures.1
    (node_stops c.args.node (stmt_rules.case_rules (scene_of c.args.env.now somewhere) (typing_in c.args.case.typed))
    (both (of_value n (typing_in c.args.case.typed)) (both (of_value a0 (cases_in c.args.case.arms)) j)) _ m _
    (both_fine n m (typing_in c.args.case.typed) (both (of_value a0 (cases_in c.args.case.arms)) j) _
    (both_fine a0 m (cases_in c.args.case.arms) j _ (rw c.in_ok-other.was at a))) c.in_err-pass_case.ensures)

pub returns-in_err-whole : goal.returns-in_err-whole
returns-in_err-whole c = λ j n a0 m a. no_memory _ stmts_of m _ c.from_residual-in_err-whole.ensures.1

pub returns : goal.returns
returns c = λ j n a0 m a. with_fine parts.one_stmt
    (with (λ (p : parts.Typing × (ir.CaseArms × ir.Else)). ir.Case (parts.value_of p.0.meaning) p.1.0 p.1.1)
    (at_node c.args.node (stmt_rules.case_rules (scene_of c.args.env.now somewhere) (typing_in c.args.case.typed))
    (both (of_value n (typing_in c.args.case.typed)) (both (of_value a0 (cases_in c.args.case.arms)) j)))) m _
    (with_fine (λ (p : parts.Typing × (ir.CaseArms × ir.Else)). ir.Case (parts.value_of p.0.meaning) p.1.0 p.1.1)
    (at_node c.args.node (stmt_rules.case_rules (scene_of c.args.env.now somewhere) (typing_in c.args.case.typed))
    (both (of_value n (typing_in c.args.case.typed)) (both (of_value a0 (cases_in c.args.case.arms)) j))) m _
    (node_fine c.args.node (stmt_rules.case_rules (scene_of c.args.env.now somewhere) (typing_in c.args.case.typed))
    (both (of_value n (typing_in c.args.case.typed)) (both (of_value a0 (cases_in c.args.case.arms)) j)) m _
    (both_fine n m (typing_in c.args.case.typed) (both (of_value a0 (cases_in c.args.case.arms)) j) _
    (both_fine a0 m (cases_in c.args.case.arms) j _ (rw c.in_ok-other.was at a))) c.in_ok-pass_case.ensures))
    ∙ ap (of_value m) (sym c.in_ok-whole.ensures)
