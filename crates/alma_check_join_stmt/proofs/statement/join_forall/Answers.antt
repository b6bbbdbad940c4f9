use Rattle.std.proofs.Common.{sym, ap, ◌∙◌}
use Rattle.alma_ir.specs.Tree as ir
use Rattle.alma_rules.specs.Judgement.{of_value, both, with}
use Rattle.alma_rules.specs.Parts as parts
use Rattle.alma_check_rules.specs.Views.{stmts_in, stmts_of}
use Rattle.alma_rules.proofs.Judging.{passed, no_memory, both_fine, with_fine}
use Rattle.alma_check_join_stmt.proofs.statement.join_forall.Goals as goal

pub returns-in_err-body : goal.returns-in_err-body
returns-in_err-body c = λ j n m a. passed _ stmts_of m _ _ c.from_residual.ensures.1 (rw c.in_err-body.was at a)

pub returns-in_err-whole : goal.returns-in_err-whole
returns-in_err-whole c = λ j n m a. no_memory _ stmts_of m _ c.from_residual-in_err-whole.ensures.1

pub returns : goal.returns
returns c = λ j n m a. with_fine parts.one_stmt
    (with (λ (p : ir.Stmts × ir.Stmts). ir.Forall p.0 p.1) (both (of_value n (stmts_in c.args.choice)) j)) m _
    (with_fine (λ (p : ir.Stmts × ir.Stmts). ir.Forall p.0 p.1) (both (of_value n (stmts_in c.args.choice)) j) m _
    (both_fine n m (stmts_in c.args.choice) j _ (rw c.in_ok-body.was at a))) ∙ ap (of_value m) (sym c.in_ok-whole.ensures)
