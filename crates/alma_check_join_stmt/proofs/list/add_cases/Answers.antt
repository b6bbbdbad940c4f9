use Rattle.std.proofs.Common.{sym, ap, ◌∙◌}
use Rattle.alma_ir.specs.View.{cases_list}
use Rattle.alma_rules.specs.Parts as parts
use Rattle.alma_rules.specs.Nodes as nodes
use Rattle.alma_check_build_expr.specs.Lists.{cases_in}
use Rattle.alma_rules.proofs.Onwards.{onward_stops, passed_on, no_memory_on}
use Rattle.alma_check_join_stmt.specs.Onward.{onward_cases}
use Rattle.alma_check_join_stmt.proofs.Steps as steps
use Rattle.alma_check_join_stmt.proofs.list.add_cases.Goals as goal

pub returns-in_err-more-clause-judged : goal.returns-in_err-more-clause-judged
returns-in_err-more-clause-judged c = λ j m rest a. passed_on _ _ _ _ c.from_residual.ensures.1
    (onward_stops parts.append_cases nodes.joined_cases (cases_in c.args.kept) j rest _ (rw c.in_err-more.was at a))

pub returns-in_err-whole-clause-judged : goal.returns-in_err-whole-clause-judged
returns-in_err-whole-clause-judged c = λ j m rest a. no_memory_on _ _ _ c.from_residual-in_err-whole.ensures.1

pub returns-clause-judged : goal.returns-clause-judged
returns-clause-judged c = λ j m rest a. steps.cases_added (cases_in c.args.kept) _ j m rest (rw c.in_ok-more.was at a)
    ∙ ap (λ k. onward_cases k (rest m)) (sym (steps.whole_is cases_list nodes.joined_cases steps.cases_append _ _ _ c.in_ok-whole.ensures))
