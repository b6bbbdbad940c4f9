use Rattle.std.proofs.Common.{sym, ◌∙◌}
use Rattle.alma_check_join_expr.proofs.Alone.{term_more, term_plain, term_not}
use Rattle.alma_check_join_expr.proofs.look.primary_of_term.Goals as goal

pub returns-then-not-is_one_factor : goal.returns-then-not-is_one_factor
returns-then-not-is_one_factor c = sym (term_more c.args.term.now
    (sym (rw c.deref.ensures.value at c.is_one_factor.ensures) ∙ c.if-not-is_one_factor.true))

pub returns-in-Plain : goal.returns-in-Plain
returns-in-Plain c = sym (term_plain c.args.term.now _ c.in-Plain.primary
    (sym (rw c.deref.ensures.value at c.is_one_factor.ensures) ∙ c.if-not-is_one_factor.false) c.in-Plain.is)

pub returns-in-Not : goal.returns-in-Not
returns-in-Not c = sym (term_not c.args.term.now _ _
    (sym (rw c.deref.ensures.value at c.is_one_factor.ensures) ∙ c.if-not-is_one_factor.false) c.in-Not.is)
