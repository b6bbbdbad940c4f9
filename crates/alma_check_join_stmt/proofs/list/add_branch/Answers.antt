use Rattle.std.proofs.Common.{sym, ap, ◌∙◌}
use Rattle.alma_ir.specs.Tree as ir
use Rattle.alma_rules.specs.Judgement.{of_value}
use Rattle.alma_check_build_expr.specs.Lists.{branches_in}
use Rattle.alma_rules.proofs.Onwards.{onward_stops, passed_on, no_memory_on}
use Rattle.alma_rules.specs.Appends.{append_branches}
use Rattle.alma_check_join_stmt.proofs.Steps as steps
use Rattle.alma_check_join_stmt.proofs.list.add_branch.Goals as goal

pub returns-in_err-body : goal.returns-in_err-body
returns-in_err-body c = λ j m rest a. passed_on _ _ _ _ c.from_residual.ensures.1
    (onward_stops append_branches (λ (p : ir.Stmts × ir.Branches). ir.more_branches p.0 p.1) (branches_in c.args.kept) j rest _
    (rw c.in_err-body.was at a))

pub returns-in_err-whole : goal.returns-in_err-whole
returns-in_err-whole c = λ j m rest a. no_memory_on _ _ _ c.from_residual-in_err-whole.ensures.1

pub returns : goal.returns
returns c = λ j m rest a. steps.branch_added _ c.args.kept _ j m rest
    ((rw c.in_ok-body.was at a) ∙ ap (of_value m) (sym c.branch-body-2.ensures)) c.in_ok-whole.ensures
