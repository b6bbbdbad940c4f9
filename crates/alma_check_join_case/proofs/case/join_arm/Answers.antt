use Rattle.std.proofs.Common.{sym, ap, ◌∙◌}
use Rattle.alma_rules.specs.Judgement.{of_value, both}
use Rattle.alma_rules.specs.Nodes as nodes
use Rattle.alma_check_rules.specs.Views.{spans_in}
use Rattle.alma_check_build_expr.specs.Lists.{cases_of}
use Rattle.alma_rules.proofs.Judging.{passed, no_memory, both_fine, with_fine}
use Rattle.alma_check_join_case.proofs.case.join_arm.Goals as goal

pub returns-in_err-body : goal.returns-in_err-body
returns-in_err-body c = λ j n m a. passed _ cases_of m _ _ c.from_residual.ensures.1 (rw c.in_err-body.was at a)

pub returns-in_err-whole : goal.returns-in_err-whole
returns-in_err-whole c = λ j n m a. no_memory _ cases_of m _ c.from_residual-in_err-whole.ensures.1

pub returns : goal.returns
returns c = λ j n m a. with_fine nodes.arm_of (both (of_value n (spans_in c.args.labels)) j) m _
    (both_fine n m (spans_in c.args.labels) j _ (rw c.in_ok-body.was at a)) ∙ ap (of_value m) (sym c.in_ok-whole.ensures)
