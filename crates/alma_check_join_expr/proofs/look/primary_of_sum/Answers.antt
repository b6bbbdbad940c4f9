use Rattle.std.proofs.Common.{sym, ◌∙◌}
use Rattle.alma_check_join_expr.proofs.Alone.{simple_one, simple_more}
use Rattle.alma_check_join_expr.proofs.look.primary_of_sum.Goals as goal

pub returns-then-is_one_term : goal.returns-then-is_one_term
returns-then-is_one_term c = rw c.deref-then-is_one_term.ensures at c.primary_of_term.ensures
    ∙ sym (simple_one c.args.sum.now (sym (rw c.deref.ensures.value at c.is_one_term.ensures) ∙ c.if-is_one_term.true))

pub returns-else-is_one_term : goal.returns-else-is_one_term
returns-else-is_one_term c = sym (simple_more c.args.sum.now
    (sym (rw c.deref.ensures.value at c.is_one_term.ensures) ∙ c.if-is_one_term.false))
