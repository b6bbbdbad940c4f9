use Rattle.std.proofs.Common.{sym, ◌∙◌}
use Rattle.alma_check_join_expr.proofs.Alone.{expr_related, expr_unrelated}
use Rattle.alma_check_join_expr.proofs.look.primary_of.Goals as goal

pub returns-in-Some : goal.returns-in-Some
returns-in-Some c = sym (expr_related c.args.expr.now c.in-Some._compared c.in-Some.is)

pub returns-in-None : goal.returns-in-None
returns-in-None c = c.primary_of_sum.ensures ∙ sym (expr_unrelated c.args.expr.now c.in-None.is)
