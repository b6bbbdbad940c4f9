use Rattle.std.proofs.Common.{sym, ap, ◌∙◌}
use Rattle.alma_ir.specs.View.{stmts_list}
use Rattle.alma_rules.specs.Parts as parts
use Rattle.alma_check_rules.specs.Views.{stmts_in}
use Rattle.alma_rules.proofs.Onwards.{onward_stops, passed_on, no_memory_on}
use Rattle.alma_check_build_expr.proofs.Steps.{stmts_append}
use Rattle.alma_check_join_stmt.specs.Onward.{onward_stmts}
use Rattle.alma_check_join_stmt.proofs.Steps as steps
use Rattle.alma_check_join_stmt.proofs.list.add_stmts.Goals as goal

pub returns-in_err-more : goal.returns-in_err-more
returns-in_err-more c = λ j m rest a. passed_on _ _ _ _ c.from_residual.ensures.1
    (onward_stops parts.append_stmts parts.joined_stmts (stmts_in c.args.kept) j rest _ (rw c.in_err-more.was at a))

pub returns-in_err-whole : goal.returns-in_err-whole
returns-in_err-whole c = λ j m rest a. no_memory_on _ _ _ c.from_residual-in_err-whole.ensures.1

pub returns : goal.returns
returns c = λ j m rest a. steps.stmts_added (stmts_in c.args.kept) _ j m rest (rw c.in_ok-more.was at a)
    ∙ ap (λ k. onward_stmts k (rest m)) (sym (steps.whole_is stmts_list parts.joined_stmts stmts_append _ _ _ c.in_ok-whole.ensures))
