use Rattle.alma_ir.specs.Tree as ir
use Rattle.alma_check_build_expr.specs.Lists.{arms_in}
use Rattle.alma_rules.proofs.Onwards.{onward_stops, passed_on, no_memory_on}
use Rattle.alma_rules.specs.Appends.{append_arms}
use Rattle.alma_check_join_stmt.proofs.Steps as steps
use Rattle.alma_check_join_stmt.proofs.list.add_guarded.Goals as goal

pub returns-in_err-arm : goal.returns-in_err-arm
returns-in_err-arm c = λ j m rest a. passed_on _ _ _ _ c.from_residual.ensures.1
    (onward_stops append_arms (λ (p : (ir.Test × ir.Stmts) × ir.Arms). ir.more_arms p.0.0 p.0.1 p.1) (arms_in c.args.kept) j rest _
    (rw c.in_err-arm.was at a))

pub returns-in_err-whole : goal.returns-in_err-whole
returns-in_err-whole c = λ j m rest a. no_memory_on _ _ _ c.from_residual-in_err-whole.ensures.1

pub returns : goal.returns
returns c = λ j m rest a. steps.arm_added _ c.args.kept _ j m rest (rw c.in_ok-arm.was at a) c.in_ok-whole.ensures
