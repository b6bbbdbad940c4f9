use Rattle.std.proofs.Common.{refl, ap, sym, arith, ◌∙◌}
use denote.Param.Weighed.{at_most}
use Rattle.alma_tree.specs.declared.phrase.Stmts as ds
use Rattle.alma_tree.specs.declared.phrase.Stmt as dt
use Rattle.alma_tree.specs.declared.phrase.Arm as da
use Rattle.alma_tree.specs.declared.phrase.Label as dl
use Rattle.alma_tree.specs.declared.phrase.Expr as de
use Rattle.alma_tree.specs.declared.phrase.Desig as dd
use Rattle.alma_tree.specs.declared.phrase.Selector as dz
use Rattle.alma_rules.specs.Places as places
use Rattle.alma_rules.specs.Places.{◌>>◌}
use Rattle.alma_rules.specs.View as view
use Rattle.alma_rules.proofs.Rows as rows
use Rattle.alma_check_marks.proofs.Steps.{◌▹◌, ◌▸◌, stays, went, ends_in, closes, closes_in, passes, words, opens, stated, begins, here}
use Rattle.alma_check_marks.proofs.Steps.{rests_all, item, next, finish}
use Rattle.alma_check_marks.proofs.Inside.{inside_more, inside_value, inside_other}
use Rattle.alma_check_marks.proofs.+marks.Goals as goal

pub expression::mark_expr-returns : goal.expression::mark_expr-returns
unfolding places.mark_expr
expression::mark_expr-returns t c =
    rw (rows.expr_is c.args.expr.now) (closes c.node_behind.result c.mark_compared.result _ _ c.mark_compared.ensures
    c.node_behind.ensures.done c.node_behind.ensures.noted
    (λ last. c.in_ok-mark_simple.ensures ▹ last))

pub expression::mark_compared-returns-in-None : goal.expression::mark_compared-returns-in-None
unfolding places.mark_expr
expression::mark_compared-returns-in-None t c = rw c.in-None.is (stays _)

pub expression::mark_compared-returns-in_ok-token-in-Some : goal.expression::mark_compared-returns-in_ok-token-in-Some
unfolding places.mark_expr
expression::mark_compared-returns-in_ok-token-in-Some t c =
    rw c.in-Some.is (ends_in c.mark_simple.result _ _ c.in_ok-token-in-Some.ensures (rw c.deref.ensures at c.mark_simple.ensures))

pub expression::mark_simple-returns : goal.expression::mark_simple-returns
unfolding places.mark_expr
expression::mark_simple-returns t c =
    rw (rows.simple_is c.args.simple.now) (closes c.node_behind.result c.mark_terms.result _ _
    (rw c.deref-2.ensures.value at c.mark_terms.ensures) c.node_behind.ensures.done c.node_behind.ensures.noted
    (λ last. c.in_ok-mark_sign.ensures ▹ (rw c.deref.ensures at c.in_ok-mark_term.ensures) ▹ last))

pub expression::mark_terms-loop-link-preserved : goal.expression::mark_terms-loop-link-preserved
unfolding places.mark_expr
expression::mark_terms-loop-link-preserved t c =
    next (λ xs. places.mark_terms (view.terms_of xs)) c.loop-link.link-index c.args.more.now c.link-item.result c.loop-link-test.true
    c.link-item.is c.loop-link.invariant ▸ c.in_ok-token.ensures ▸ c.in_ok-mark_term.ensures

pub expression::mark_terms-returns : goal.expression::mark_terms-returns
unfolding places.mark_expr
expression::mark_terms-returns t c = finish (λ xs. places.mark_terms (view.terms_of xs)) c.loop-link.link-index c.args.more.now
    c.loop-link-test.false refl c.loop-link.invariant

pub expression::mark_term-returns : goal.expression::mark_term-returns
unfolding places.mark_expr
expression::mark_term-returns t c =
    rw (rows.term_is c.args.term.now) (closes c.node_behind.result c.mark_factors.result _ _
    (rw c.deref.ensures.value at c.mark_factors.ensures) c.node_behind.ensures.done c.node_behind.ensures.noted
    (λ last. c.in_ok-mark_factor.ensures ▹ last))

pub expression::mark_factors-loop-link-preserved : goal.expression::mark_factors-loop-link-preserved
unfolding places.mark_expr
expression::mark_factors-loop-link-preserved t c =
    next (λ xs. places.mark_factors (view.factors_of xs)) c.loop-link.link-index c.args.more.now c.link-item.result c.loop-link-test.true
    c.link-item.is c.loop-link.invariant ▸ c.in_ok-token.ensures ▸ c.in_ok-mark_factor.ensures

pub expression::mark_factors-returns : goal.expression::mark_factors-returns
unfolding places.mark_expr
expression::mark_factors-returns t c = finish (λ xs. places.mark_factors (view.factors_of xs)) c.loop-link.link-index c.args.more.now
    c.loop-link-test.false refl c.loop-link.invariant

pub expression::mark_factor-returns-in_ok-token-in-Not : goal.expression::mark_factor-returns-in_ok-token-in-Not
unfolding places.mark_expr
expression::mark_factor-returns-in_ok-token-in-Not t c =
    rw c.in-Not.is (closes c.node_behind.result c.mark_primary.result _ _ c.mark_primary.ensures c.node_behind.ensures.done
    c.node_behind.ensures.noted
    (λ last. c.in_ok-token-in-Not.ensures ▹ last))

pub expression::mark_factor-returns-in-Plain : goal.expression::mark_factor-returns-in-Plain
unfolding places.mark_expr
expression::mark_factor-returns-in-Plain t c =
    rw c.in-Plain.is (closes c.node_behind-in-Plain.result c.mark_primary-in-Plain.result _ _ c.mark_primary-in-Plain.ensures
    c.node_behind-in-Plain.ensures.done c.node_behind-in-Plain.ensures.noted
    (λ last. last))

pub expression::mark_primary-returns-in-Number : goal.expression::mark_primary-returns-in-Number
unfolding places.mark_expr
expression::mark_primary-returns-in-Number t c = rw c.in-Number.is c.leaf.ensures

pub expression::mark_primary-returns-in-Literal : goal.expression::mark_primary-returns-in-Literal
unfolding places.mark_expr
expression::mark_primary-returns-in-Literal t c = rw c.in-Literal.is c.leaf-in-Literal.ensures

pub expression::mark_primary-returns-in-Desig : goal.expression::mark_primary-returns-in-Desig
unfolding places.mark_expr
expression::mark_primary-returns-in-Desig t c =
    rw (ap view.view_primary c.in-Desig.is ∙ rows.named_is c.in-Desig.node c.in-Desig.desig c.in-Desig.args) c.mark_named.ensures

pub expression::mark_primary-returns-in-Paren : goal.expression::mark_primary-returns-in-Paren
unfolding places.mark_expr
expression::mark_primary-returns-in-Paren t c =
    rw (ap view.view_primary c.in-Paren.is ∙ rows.paren_is c.in-Paren.node c.in-Paren.body) (rw c.deref.ensures at c.mark_paren.ensures)

pub expression::mark_primary-returns-in-Known : goal.expression::mark_primary-returns-in-Known
unfolding places.mark_expr
expression::mark_primary-returns-in-Known t c =
    rw (ap view.view_primary c.in-Known.is ∙ rows.known_is c.in-Known.node c.in-Known.desig) c.mark_known.ensures

pub expression::mark_primary-returns-in-Ord : goal.expression::mark_primary-returns-in-Ord
unfolding places.mark_expr
expression::mark_primary-returns-in-Ord t c = rw c.in-Ord.is (rw c.deref-in-Ord.ensures at c.mark_converted.ensures)

pub expression::mark_primary-returns-in-Chr : goal.expression::mark_primary-returns-in-Chr
unfolding places.mark_expr
expression::mark_primary-returns-in-Chr t c = rw c.in-Chr.is (rw c.deref-in-Chr.ensures at c.mark_converted-in-Chr.ensures)

pub expression::mark_named-returns : goal.expression::mark_named-returns
unfolding places.mark_expr
expression::mark_named-returns t c =
    closes c.node_behind.result c.mark_args.result _ _ c.mark_args.ensures c.node_behind.ensures.done c.node_behind.ensures.noted
    (λ last. c.in_ok-mark_desig.ensures ▹ last)

pub expression::mark_only-returns : goal.expression::mark_only-returns
unfolding places.mark_expr
expression::mark_only-returns t c = closes c.node_behind.result c.node_behind-inner.result _ _
    (closes c.node_behind-inner.result c.mark_expr.result _ _
    c.mark_expr.ensures c.node_behind-inner.ensures.done c.node_behind-inner.ensures.noted (λ last. last)) c.node_behind.ensures.done
    c.node_behind.ensures.noted (λ last. last)

pub expression::mark_known-returns : goal.expression::mark_known-returns
unfolding places.mark_expr
expression::mark_known-returns t c =
    closes_in c.closed.result c.mark_desig.result _ _ _ _ c.mark_desig.ensures c.closed.ensures.done c.closed.ensures.noted
    (λ last. words c.in_ok-tokens.ensures last)

pub expression::mark_converted-returns : goal.expression::mark_converted-returns
unfolding places.mark_expr
expression::mark_converted-returns t c =
    closes_in c.closed.result c.mark_expr.result _ _ _ _ c.mark_expr.ensures c.closed.ensures.done c.closed.ensures.noted
    (λ last. words c.in_ok-tokens.ensures last)

pub expression::mark_args-returns-in-None : goal.expression::mark_args-returns-in-None
unfolding places.mark_expr
expression::mark_args-returns-in-None t c = rw c.in-None.is (stays _)

pub expression::mark_args-returns-in-Some : goal.expression::mark_args-returns-in-Some
unfolding places.mark_expr
expression::mark_args-returns-in-Some t c = rw c.in-Some.is c.mark_values.ensures

pub expression::mark_values-returns-in-None : goal.expression::mark_values-returns-in-None
unfolding places.mark_expr
expression::mark_values-returns-in-None t c =
    rw c.in-None.is (ends_in c.token-in-None.result _ _ c.in_ok-token.ensures c.token-in-None.ensures)

pub expression::mark_values-returns-in-Some : goal.expression::mark_values-returns-in-Some
unfolding places.mark_expr
expression::mark_values-returns-in-Some t c =
    rw c.in-Some.is (ends_in c.token_behind.result _ _ c.in_ok-token.ensures
    (passes c.token_behind.result c.mark_exprs.result _ _ _ _ c.mark_exprs.ensures c.token_behind.ensures.done
    c.token_behind.ensures.walks))

pub expression::mark_exprs-returns : goal.expression::mark_exprs-returns
unfolding places.mark_expr
expression::mark_exprs-returns t c = rw (rows.exprs_is c.args.exprs.now)
    (ends_in c.mark_expr_tail.result _ _ (rw c.deref.ensures at c.in_ok-mark_expr.ensures)
    (rw c.deref-2.ensures.value at c.mark_expr_tail.ensures))

pub expression::mark_expr_tail-loop-expr-preserved : goal.expression::mark_expr_tail-loop-expr-preserved
unfolding places.mark_expr
expression::mark_expr_tail-loop-expr-preserved t c =
    next (λ xs. places.mark_expr_tail (view.exprs_of xs)) c.loop-expr.expr-index c.args.more.now c.expr-item.result c.loop-expr-test.true
    c.expr-item.is c.loop-expr.invariant ▸ c.in_ok-token.ensures ▸ c.in_ok-mark_expr.ensures

pub expression::mark_expr_tail-returns : goal.expression::mark_expr_tail-returns
unfolding places.mark_expr
expression::mark_expr_tail-returns t c =
    finish (λ xs. places.mark_expr_tail (view.exprs_of xs)) c.loop-expr.expr-index c.args.more.now c.loop-expr-test.false refl
    c.loop-expr.invariant

pub expression::mark_desig-returns : goal.expression::mark_desig-returns
unfolding places.mark_expr
expression::mark_desig-returns t c =
    closes c.node_behind.result c.mark_selectors.result _ _ (rw c.deref.ensures.value at c.mark_selectors.ensures)
    c.node_behind.ensures.done c.node_behind.ensures.noted
    (λ last. c.in_ok-leaf.ensures ▹ last)

pub expression::mark_selectors-loop-selector-preserved : goal.expression::mark_selectors-loop-selector-preserved
unfolding places.mark_expr
expression::mark_selectors-loop-selector-preserved t c =
    next (λ xs. places.mark_selectors (view.selectors_of xs)) c.loop-selector.selector-index c.args.more.now c.selector-item.result
    c.loop-selector-test.true c.selector-item.is c.loop-selector.invariant ▸ c.in_ok-mark_selector.ensures

pub expression::mark_selectors-returns : goal.expression::mark_selectors-returns
unfolding places.mark_expr
expression::mark_selectors-returns t c =
    finish (λ xs. places.mark_selectors (view.selectors_of xs)) c.loop-selector.selector-index c.args.more.now c.loop-selector-test.false
    refl c.loop-selector.invariant

pub expression::mark_selector-returns-in-Field : goal.expression::mark_selector-returns-in-Field
unfolding places.mark_expr
expression::mark_selector-returns-in-Field t c =
    rw c.in-Field.is (closes c.node_behind.result c.leaf.result _ _ c.leaf.ensures c.node_behind.ensures.done c.node_behind.ensures.noted
    (λ last. c.in_ok-token.ensures ▹ last))

pub expression::mark_selector-returns-in-Index : goal.expression::mark_selector-returns-in-Index
unfolding places.mark_expr
expression::mark_selector-returns-in-Index t c =
    rw c.in-Index.is (closes_in c.closed.result c.mark_exprs.result _ _ _ _ c.mark_exprs.ensures c.closed.ensures.done
    c.closed.ensures.noted
    (λ last. c.in_ok-token.ensures ▹ last))

pub expression::mark_inside-returns-then-not-is_empty : goal.expression::mark_inside-returns-then-not-is_empty
unfolding places.mark_expr
expression::mark_inside-returns-then-not-is_empty t c =
    rw (inside_more c.args.body.now (places.mark_stmts (view.view_stmts c.args.body.now)) (sym c.is_empty.ensures ∙ c.if-not-is_empty.true))
    c.mark_stmts.ensures

pub expression::mark_inside-returns-in-Value : goal.expression::mark_inside-returns-in-Value
unfolding places.mark_expr
expression::mark_inside-returns-in-Value t c =
    rw (inside_value c.args.body.now (places.mark_stmts (view.view_stmts c.args.body.now)) c.in-Value.node c.in-Value.value
    (sym c.is_empty.ensures ∙ c.if-not-is_empty.false) (sym c.deref.ensures ∙ c.in-Value.is)) c.mark_only.ensures

pub expression::mark_inside-returns-in_default : goal.expression::mark_inside-returns-in_default
unfolding places.mark_expr
expression::mark_inside-returns-in_default t c =
    rw (inside_other c.args.body.now (places.mark_stmts (view.view_stmts c.args.body.now))
    (λ m e h. c.in_default.not-Value m e (c.deref.ensures ∙ h))) c.mark_stmts-in_default.ensures

pub statement::mark_stmts-returns : goal.statement::mark_stmts-returns
unfolding places.mark_expr
statement::mark_stmts-returns t c =
    closes c.node_behind.result c.mark_stmt_tail.result _ _ (rw c.deref-2.ensures.value at c.mark_stmt_tail.ensures)
    c.node_behind.ensures.done c.node_behind.ensures.noted
    (λ last. (rw c.deref.ensures at c.in_ok-mark_stmt.ensures) ▹ last)

pub statement::mark_stmt_tail-loop-stmt-preserved : goal.statement::mark_stmt_tail-loop-stmt-preserved
unfolding places.mark_expr
statement::mark_stmt_tail-loop-stmt-preserved t c =
    next (λ xs. places.mark_stmt_tail (view.stmts_of xs)) c.loop-stmt.stmt-index c.args.more.now c.stmt-item.result c.loop-stmt-test.true
    c.stmt-item.is c.loop-stmt.invariant ▸ c.in_ok-token.ensures ▸ c.in_ok-mark_stmt.ensures

pub statement::mark_stmt_tail-returns : goal.statement::mark_stmt_tail-returns
unfolding places.mark_expr
statement::mark_stmt_tail-returns t c = finish (λ xs. places.mark_stmt_tail (view.stmts_of xs)) c.loop-stmt.stmt-index c.args.more.now
    c.loop-stmt-test.false refl c.loop-stmt.invariant

pub statement::mark_stmt-returns-in-Nothing : goal.statement::mark_stmt-returns-in-Nothing
unfolding places.mark_expr
statement::mark_stmt-returns-in-Nothing t c = rw c.in-Nothing.is c.empty.ensures

pub statement::mark_stmt-returns-in-Value : goal.statement::mark_stmt-returns-in-Value
unfolding places.mark_expr
statement::mark_stmt-returns-in-Value t c = rw c.in-Value.is c.mark_value.ensures

pub statement::mark_stmt-returns-in-Write : goal.statement::mark_stmt-returns-in-Write
unfolding places.mark_expr
statement::mark_stmt-returns-in-Write t c = rw c.in-Write.is c.mark_write.ensures

pub statement::mark_stmt-returns-in-Assign : goal.statement::mark_stmt-returns-in-Assign
unfolding places.mark_expr
statement::mark_stmt-returns-in-Assign t c =
    rw (ap view.view_stmt c.in-Assign.is ∙ rows.assign_is c.in-Assign.node c.in-Assign.target c.in-Assign.value) c.mark_assign.ensures

pub statement::mark_stmt-returns-in-If : goal.statement::mark_stmt-returns-in-If
unfolding places.mark_expr
statement::mark_stmt-returns-in-If t c =
    rw (ap view.view_stmt c.in-If.is ∙ rows.if_is c.in-If.node c.in-If.test c.in-If.then c.in-If.elsifs c.in-If.otherwise)
    (rw c.deref.ensures.value at c.mark_if.ensures)

pub statement::mark_stmt-returns-in-While : goal.statement::mark_stmt-returns-in-While
unfolding places.mark_expr
statement::mark_stmt-returns-in-While t c =
    rw (ap view.view_stmt c.in-While.is ∙ rows.while_is c.in-While.node c.in-While.test c.in-While.body) c.mark_while.ensures

pub statement::mark_stmt-returns-in-Repeat : goal.statement::mark_stmt-returns-in-Repeat
unfolding places.mark_expr
statement::mark_stmt-returns-in-Repeat t c =
    rw (ap view.view_stmt c.in-Repeat.is ∙ rows.repeat_is c.in-Repeat.node c.in-Repeat.body c.in-Repeat.test) c.mark_repeat.ensures

pub statement::mark_stmt-returns-in-For : goal.statement::mark_stmt-returns-in-For
unfolding places.mark_expr
statement::mark_stmt-returns-in-For t c =
    rw (ap view.view_stmt c.in-For.is ∙ rows.for_is c.in-For.node c.in-For.variable c.in-For.from c.in-For.to c.in-For.by c.in-For.body)
    c.mark_for.ensures

pub statement::mark_stmt-returns-in-Some : goal.statement::mark_stmt-returns-in-Some
unfolding places.mark_expr
statement::mark_stmt-returns-in-Some t c =
    rw (ap view.view_stmt c.in-Some.is ∙ rows.some_is c.in-Some.node c.in-Some.variable c.in-Some.from c.in-Some.to c.in-Some.body)
    c.mark_some.ensures

pub statement::mark_stmt-returns-in-Forall : goal.statement::mark_stmt-returns-in-Forall
unfolding places.mark_expr
statement::mark_stmt-returns-in-Forall t c =
    rw (ap view.view_stmt c.in-Forall.is ∙ rows.forall_is c.in-Forall.node c.in-Forall.choice c.in-Forall.body) c.mark_forall.ensures

pub statement::mark_stmt-returns-in-Commit : goal.statement::mark_stmt-returns-in-Commit
unfolding places.mark_expr
statement::mark_stmt-returns-in-Commit t c =
    rw (ap view.view_stmt c.in-Commit.is ∙ rows.commit_is c.in-Commit.node c.in-Commit.body) c.mark_commit.ensures

pub statement::mark_stmt-returns-in-Return : goal.statement::mark_stmt-returns-in-Return
unfolding places.mark_expr
statement::mark_stmt-returns-in-Return t c =
    rw (ap view.view_stmt c.in-Return.is ∙ rows.return_is c.in-Return.node c.in-Return.value) c.mark_return.ensures

pub statement::mark_stmt-returns-in-Writeln : goal.statement::mark_stmt-returns-in-Writeln
unfolding places.mark_expr
statement::mark_stmt-returns-in-Writeln t c =
    rw (ap view.view_stmt c.in-Writeln.is ∙ rows.writeln_is c.in-Writeln.node c.in-Writeln.items) c.mark_writeln.ensures

pub statement::mark_stmt-returns-in-Case : goal.statement::mark_stmt-returns-in-Case
unfolding places.mark_expr
statement::mark_stmt-returns-in-Case t c =
    rw (ap view.view_stmt c.in-Case.is ∙ rows.case_is c.in-Case.node c.in-Case.value c.in-Case.first c.in-Case.more c.in-Case.otherwise)
    (rw (c.deref-in-Case.ensures, c.deref-in-Case-2.ensures.value) at c.mark_case.ensures)

pub statement::mark_stmt-returns-in-Either : goal.statement::mark_stmt-returns-in-Either
unfolding places.mark_expr
statement::mark_stmt-returns-in-Either t c =
    rw (ap view.view_stmt c.in-Either.is ∙ rows.either_is c.in-Either.node c.in-Either.first c.in-Either.more)
    (rw c.deref-in-Either.ensures.value at c.mark_either.ensures)

pub statement::mark_stmt-returns-in-Read : goal.statement::mark_stmt-returns-in-Read
unfolding places.mark_expr
statement::mark_stmt-returns-in-Read t c =
    rw (ap view.view_stmt c.in-Read.is ∙ rows.read_is c.in-Read.node c.in-Read.first c.in-Read.more)
    (rw c.deref-in-Read.ensures.value at c.mark_read.ensures)

pub statement::mark_assign-returns : goal.statement::mark_assign-returns
unfolding places.mark_expr
statement::mark_assign-returns t c =
    closes c.node_behind.result c.mark_expr.result _ _ c.mark_expr.ensures c.node_behind.ensures.done c.node_behind.ensures.noted
    (λ last. (stated c.in_ok-statement.ensures) ▹ went c.mark_desig.result c.in_ok-token_behind.ensures.done c.mark_desig.ensures
    ▹ c.in_ok-token_behind.ensures.walks ▹ last)

pub statement::mark_value-returns : goal.statement::mark_value-returns
unfolding places.mark_expr
statement::mark_value-returns t c =
    closes c.node_behind.result c.mark_expr.result _ _ c.mark_expr.ensures c.node_behind.ensures.done c.node_behind.ensures.noted
    (λ last. (stated c.in_ok-statement.ensures) ▹ last)

pub statement::mark_return-returns : goal.statement::mark_return-returns
unfolding places.mark_expr
statement::mark_return-returns t c =
    closes c.node_behind.result c.mark_returned.result _ _ c.mark_returned.ensures c.node_behind.ensures.done c.node_behind.ensures.noted
    (λ last. begins c.in_ok-begin.ensures last)

pub statement::mark_returned-returns-in-None : goal.statement::mark_returned-returns-in-None
unfolding places.mark_expr
statement::mark_returned-returns-in-None t c = rw c.in-None.is (stays _)

pub statement::mark_returned-returns-in-Some : goal.statement::mark_returned-returns-in-Some
unfolding places.mark_expr
statement::mark_returned-returns-in-Some t c = rw c.in-Some.is c.mark_expr.ensures

pub statement::mark_read-returns : goal.statement::mark_read-returns
unfolding places.mark_expr
statement::mark_read-returns t c =
    closes_in c.closed.result c.mark_desigs.result _ _ _ _ c.mark_desigs.ensures c.closed.ensures.done c.closed.ensures.noted
    (λ last. here (λ at. places.token >> places.token >> places.statement_of at >> places.mark_desig (view.view_desig c.args.first.now) >>
    places.mark_desigs at (view.desigs_of c.args.more.now) >> places.token)
    (words c.in_ok-tokens.ensures (c.in_ok-statement.ensures ▹ c.in_ok-mark_desig.ensures ▹ last)))

pub statement::mark_desigs-loop-desig-preserved : goal.statement::mark_desigs-loop-desig-preserved
unfolding places.mark_expr
statement::mark_desigs-loop-desig-preserved t c =
    item c.args.at (next (λ xs. places.mark_desigs c.args.at (view.desigs_of xs)) c.loop-desig.desig-index c.args.more.now
    c.desig-item.result c.loop-desig-test.true c.desig-item.is c.loop-desig.invariant) c.in_ok-item.ensures ▸ c.in_ok-mark_desig.ensures

pub statement::mark_desigs-returns : goal.statement::mark_desigs-returns
unfolding places.mark_expr
statement::mark_desigs-returns t c = finish (λ xs. places.mark_desigs c.args.at (view.desigs_of xs)) c.loop-desig.desig-index
    c.args.more.now c.loop-desig-test.false refl c.loop-desig.invariant

pub statement::mark_write-returns : goal.statement::mark_write-returns
unfolding places.mark_expr
statement::mark_write-returns t c =
    closes_in c.closed.result c.mark_items.result _ _ _ _ c.mark_items.ensures c.closed.ensures.done c.closed.ensures.noted
    (λ last. here (λ at. places.token >> places.token >> places.mark_items at (view.view_exprs c.args.items.now) >> places.token)
    (words c.in_ok-tokens.ensures last))

pub statement::mark_writeln-returns : goal.statement::mark_writeln-returns
unfolding places.mark_expr
statement::mark_writeln-returns t c =
    closes c.node_behind.result c.statement.result _ _ c.statement.ensures c.node_behind.ensures.done c.node_behind.ensures.noted
    (λ last. here (λ at. places.token >> places.mark_line_items at (view.args_of c.args.items.now) >> places.statement_of at)
    (c.in_ok-token.ensures ▹ c.in_ok-mark_line_items.ensures ▹ last))

pub statement::mark_line_items-returns-in-None : goal.statement::mark_line_items-returns-in-None
unfolding places.mark_expr
statement::mark_line_items-returns-in-None t c = rw c.in-None.is (stays _)

pub statement::mark_line_items-returns-in-Some : goal.statement::mark_line_items-returns-in-Some
unfolding places.mark_expr
statement::mark_line_items-returns-in-Some t c = rw c.in-Some.is c.mark_line_values.ensures

pub statement::mark_line_values-returns-in-None : goal.statement::mark_line_values-returns-in-None
unfolding places.mark_expr
statement::mark_line_values-returns-in-None t c =
    rw c.in-None.is (ends_in c.token-in-None.result _ _ c.in_ok-token.ensures c.token-in-None.ensures)

pub statement::mark_line_values-returns-in-Some : goal.statement::mark_line_values-returns-in-Some
unfolding places.mark_expr
statement::mark_line_values-returns-in-Some t c =
    rw c.in-Some.is (ends_in c.token_behind.result _ _ c.in_ok-token.ensures
    (passes c.token_behind.result c.mark_items.result _ _ _ _ c.mark_items.ensures c.token_behind.ensures.done
    c.token_behind.ensures.walks))

pub statement::mark_items-returns : goal.statement::mark_items-returns
unfolding places.mark_expr
statement::mark_items-returns t c = rw (rows.exprs_is c.args.items.now)
    (ends_in c.mark_item_tail.result _ _ c.in_ok-statement.ensures
    (ends_in c.mark_item_tail.result _ _ (rw c.deref.ensures at c.in_ok-mark_expr.ensures)
    (rw c.deref-2.ensures.value at c.mark_item_tail.ensures)))

pub statement::mark_item_tail-loop-item-preserved : goal.statement::mark_item_tail-loop-item-preserved
unfolding places.mark_expr
statement::mark_item_tail-loop-item-preserved t c =
    item c.args.at (next (λ xs. places.mark_item_tail c.args.at (view.exprs_of xs)) c.loop-item.item-index c.args.more.now
    c.item-item.result c.loop-item-test.true c.item-item.is c.loop-item.invariant) c.in_ok-item.ensures ▸ c.in_ok-mark_expr.ensures

pub statement::mark_item_tail-returns : goal.statement::mark_item_tail-returns
unfolding places.mark_expr
statement::mark_item_tail-returns t c = finish (λ xs. places.mark_item_tail c.args.at (view.exprs_of xs)) c.loop-item.item-index
    c.args.more.now c.loop-item-test.false refl c.loop-item.invariant

pub form::mark_if-returns : goal.form::mark_if-returns
unfolding places.mark_expr
form::mark_if-returns t c =
    closes_in c.closed.result c.mark_else.result _ _ _ _ c.mark_else.ensures c.closed.ensures.done c.closed.ensures.noted
    (λ last. begins c.in_ok-begin.ensures (went c.mark_expr.result c.in_ok-token_behind.ensures.done c.mark_expr.ensures
    ▹ c.in_ok-token_behind.ensures.walks ▹ c.in_ok-mark_stmts.ensures ▹ c.in_ok-mark_elsifs.ensures ▹ last))

pub form::mark_elsifs-loop-elsif-preserved : goal.form::mark_elsifs-loop-elsif-preserved
unfolding places.mark_expr
form::mark_elsifs-loop-elsif-preserved t c =
    next (λ xs. places.mark_elsifs (view.elsifs_of xs)) c.loop-elsif.elsif-index c.args.elsifs.now c.elsif-item.result
    c.loop-elsif-test.true c.elsif-item.is c.loop-elsif.invariant ▸ c.in_ok-token.ensures
    ▸ went c.mark_expr.result c.in_ok-token_behind.ensures.done c.mark_expr.ensures ▸ c.in_ok-token_behind.ensures.walks ▸
    c.in_ok-mark_stmts.ensures

pub form::mark_elsifs-returns : goal.form::mark_elsifs-returns
unfolding places.mark_expr
form::mark_elsifs-returns t c = finish (λ xs. places.mark_elsifs (view.elsifs_of xs)) c.loop-elsif.elsif-index c.args.elsifs.now
    c.loop-elsif-test.false refl c.loop-elsif.invariant

pub form::mark_else-returns-in-None : goal.form::mark_else-returns-in-None
unfolding places.mark_expr
form::mark_else-returns-in-None t c = rw c.in-None.is (stays _)

pub form::mark_else-returns-in_ok-token-in-Some : goal.form::mark_else-returns-in_ok-token-in-Some
unfolding places.mark_expr
form::mark_else-returns-in_ok-token-in-Some t c =
    rw c.in-Some.is (ends_in c.mark_stmts.result _ _ c.in_ok-token-in-Some.ensures c.mark_stmts.ensures)

pub form::mark_while-returns : goal.form::mark_while-returns
unfolding places.mark_expr
form::mark_while-returns t c =
    closes_in c.closed.result c.mark_stmts.result _ _ _ _ c.mark_stmts.ensures c.closed.ensures.done c.closed.ensures.noted
    (λ last. begins c.in_ok-begin.ensures (went c.mark_expr.result c.in_ok-token_behind.ensures.done c.mark_expr.ensures
    ▹ c.in_ok-token_behind.ensures.walks ▹ last))

pub form::mark_repeat-returns : goal.form::mark_repeat-returns
unfolding places.mark_expr
form::mark_repeat-returns t c =
    closes c.node_behind.result c.mark_expr.result _ _ c.mark_expr.ensures c.node_behind.ensures.done c.node_behind.ensures.noted
    (λ last. begins c.in_ok-begin.ensures (went c.mark_stmts.result c.in_ok-token_behind.ensures.done c.mark_stmts.ensures
    ▹ c.in_ok-token_behind.ensures.walks ▹ last))

pub form::mark_for-returns : goal.form::mark_for-returns
unfolding places.mark_expr
form::mark_for-returns t c =
    closes_in c.closed.result c.mark_stmts.result _ _ _ _ c.mark_stmts.ensures c.closed.ensures.done c.closed.ensures.noted
    (λ last. opens _ c.in_ok-opening.ensures
    (went c.mark_expr.result c.in_ok-token_behind.ensures.done c.mark_expr.ensures ▹ c.in_ok-token_behind.ensures.walks
    ▹ c.in_ok-mark_expr.ensures ▹ went c.mark_by.result c.in_ok-token_behind-2.ensures.done c.mark_by.ensures
    ▹ c.in_ok-token_behind-2.ensures.walks ▹ last))

pub form::mark_by-returns-in-None : goal.form::mark_by-returns-in-None
unfolding places.mark_expr
form::mark_by-returns-in-None t c = rw c.in-None.is (stays _)

pub form::mark_by-returns-in_ok-token-in-Some : goal.form::mark_by-returns-in_ok-token-in-Some
unfolding places.mark_expr
form::mark_by-returns-in_ok-token-in-Some t c =
    rw c.in-Some.is (ends_in c.mark_expr.result _ _ c.in_ok-token-in-Some.ensures c.mark_expr.ensures)

pub form::mark_some-returns : goal.form::mark_some-returns
unfolding places.mark_expr
form::mark_some-returns t c =
    closes_in c.closed.result c.mark_stmts.result _ _ _ _ c.mark_stmts.ensures c.closed.ensures.done c.closed.ensures.noted
    (λ last. opens _ c.in_ok-opening.ensures
    (went c.mark_expr.result c.in_ok-token_behind.ensures.done c.mark_expr.ensures ▹ c.in_ok-token_behind.ensures.walks
    ▹ went c.mark_expr-2.result c.in_ok-token_behind-2.ensures.done c.mark_expr-2.ensures ▹ c.in_ok-token_behind-2.ensures.walks
    ▹ last))

pub form::mark_case-returns : goal.form::mark_case-returns
unfolding places.mark_expr
form::mark_case-returns t c =
    closes_in c.closed.result c.mark_else.result _ _ _ _ c.mark_else.ensures c.closed.ensures.done c.closed.ensures.noted
    (λ last. begins c.in_ok-begin.ensures (went c.mark_expr.result c.in_ok-token_behind.ensures.done c.mark_expr.ensures
    ▹ c.in_ok-token_behind.ensures.walks ▹ c.in_ok-mark_arm.ensures ▹ c.in_ok-mark_arms.ensures ▹ last))

pub form::mark_arms-loop-arm-preserved : goal.form::mark_arms-loop-arm-preserved
unfolding places.mark_expr
form::mark_arms-loop-arm-preserved t c =
    next (λ xs. places.mark_arms (view.arms_of xs)) c.loop-arm.arm-index c.args.more.now c.arm-item.result c.loop-arm-test.true
    c.arm-item.is c.loop-arm.invariant ▸ c.in_ok-token.ensures ▸ c.in_ok-mark_arm.ensures

pub form::mark_arms-returns : goal.form::mark_arms-returns
unfolding places.mark_expr
form::mark_arms-returns t c = finish (λ xs. places.mark_arms (view.arms_of xs)) c.loop-arm.arm-index c.args.more.now c.loop-arm-test.false
    refl c.loop-arm.invariant

pub form::mark_arm-returns-in-Empty : goal.form::mark_arm-returns-in-Empty
unfolding places.mark_expr
form::mark_arm-returns-in-Empty t c = rw c.in-Empty.is c.empty.ensures

pub form::mark_arm-returns-in-Labelled : goal.form::mark_arm-returns-in-Labelled
unfolding places.mark_expr
form::mark_arm-returns-in-Labelled t c =
    rw (ap view.view_arm c.in-Labelled.is ∙ rows.labelled_is c.in-Labelled.node c.in-Labelled.first c.in-Labelled.more c.in-Labelled.body)
    (rw c.deref.ensures.value at c.mark_labelled.ensures)

pub form::mark_labelled-returns : goal.form::mark_labelled-returns
unfolding places.mark_expr
form::mark_labelled-returns t c =
    closes c.node_behind.result c.mark_stmts.result _ _ c.mark_stmts.ensures c.node_behind.ensures.done c.node_behind.ensures.noted
    (λ last. c.in_ok-mark_label.ensures ▹ went c.mark_labels.result c.in_ok-token_behind.ensures.done c.mark_labels.ensures
    ▹ c.in_ok-token_behind.ensures.walks ▹ last)

pub form::mark_labels-loop-label-preserved : goal.form::mark_labels-loop-label-preserved
unfolding places.mark_expr
form::mark_labels-loop-label-preserved t c =
    next (λ xs. places.mark_labels (view.labels_of xs)) c.loop-label.label-index c.args.more.now c.label-item.result c.loop-label-test.true
    c.label-item.is c.loop-label.invariant ▸ c.in_ok-token.ensures ▸ c.in_ok-mark_label.ensures

pub form::mark_labels-returns : goal.form::mark_labels-returns
unfolding places.mark_expr
form::mark_labels-returns t c = finish (λ xs. places.mark_labels (view.labels_of xs)) c.loop-label.label-index c.args.more.now
    c.loop-label-test.false refl c.loop-label.invariant

pub form::mark_label-returns : goal.form::mark_label-returns
unfolding places.mark_expr
form::mark_label-returns t c =
    rw (rows.label_is c.args.label.now) (closes c.node_behind.result c.mark_high.result _ _ c.mark_high.ensures c.node_behind.ensures.done
    c.node_behind.ensures.noted
    (λ last. c.in_ok-mark_expr.ensures ▹ last))

pub form::mark_high-returns-in-None : goal.form::mark_high-returns-in-None
unfolding places.mark_expr
form::mark_high-returns-in-None t c = rw c.in-None.is (stays _)

pub form::mark_high-returns-in_ok-token-in-Some : goal.form::mark_high-returns-in_ok-token-in-Some
unfolding places.mark_expr
form::mark_high-returns-in_ok-token-in-Some t c =
    rw c.in-Some.is (ends_in c.mark_expr.result _ _ c.in_ok-token-in-Some.ensures c.mark_expr.ensures)

pub form::mark_either-returns : goal.form::mark_either-returns
unfolding places.mark_expr
form::mark_either-returns t c =
    closes_in c.closed.result c.mark_orelses.result _ _ _ _ c.mark_orelses.ensures c.closed.ensures.done c.closed.ensures.noted
    (λ last. begins c.in_ok-begin.ensures (c.in_ok-mark_stmts.ensures ▹ last))

pub form::mark_orelses-loop-body-preserved : goal.form::mark_orelses-loop-body-preserved
unfolding places.mark_expr
form::mark_orelses-loop-body-preserved t c =
    next (λ xs. places.mark_orelses (view.orelses_of xs)) c.loop-body.body-index c.args.more.now c.body-item.result c.loop-body-test.true
    c.body-item.is c.loop-body.invariant ▸ c.in_ok-token.ensures ▸ c.in_ok-mark_stmts.ensures

pub form::mark_orelses-returns : goal.form::mark_orelses-returns
unfolding places.mark_expr
form::mark_orelses-returns t c = finish (λ xs. places.mark_orelses (view.orelses_of xs)) c.loop-body.body-index c.args.more.now
    c.loop-body-test.false refl c.loop-body.invariant

pub form::mark_forall-returns : goal.form::mark_forall-returns
unfolding places.mark_expr
form::mark_forall-returns t c =
    closes_in c.closed.result c.mark_stmts-2.result _ _ _ _ c.mark_stmts-2.ensures c.closed.ensures.done c.closed.ensures.noted
    (λ last. begins c.in_ok-begin.ensures (went c.mark_stmts.result c.in_ok-token_behind.ensures.done c.mark_stmts.ensures
    ▹ c.in_ok-token_behind.ensures.walks ▹ last))

pub form::mark_commit-returns : goal.form::mark_commit-returns
unfolding places.mark_expr
form::mark_commit-returns t c =
    closes_in c.closed.result c.mark_stmts.result _ _ _ _ c.mark_stmts.ensures c.closed.ensures.done c.closed.ensures.noted
    (λ last. begins c.in_ok-begin.ensures last)

pub expression::mark_paren-returns : goal.expression::mark_paren-returns
unfolding places.mark_expr
expression::mark_paren-returns t c =
    closes_in c.closed.result c.mark_inside.result _ _ _ _ c.mark_inside.ensures c.closed.ensures.done c.closed.ensures.noted
    (λ last. c.in_ok-token.ensures ▹ last)

-- ---- each part is less deep than the whole that a function is given

pub expression::mark_named-mark_desig-requires : goal.expression::mark_named-mark_desig-requires
expression::mark_named-mark_desig-requires t c = (omega (arith, c.decreases), tt)

pub expression::mark_named-mark_args-requires : goal.expression::mark_named-mark_args-requires
expression::mark_named-mark_args-requires t c = (omega (arith, c.decreases), tt)

pub expression::mark_paren-mark_inside-requires : goal.expression::mark_paren-mark_inside-requires
expression::mark_paren-mark_inside-requires t c = (omega (arith, c.decreases), tt)

pub expression::mark_only-mark_expr-requires : goal.expression::mark_only-mark_expr-requires
expression::mark_only-mark_expr-requires t c = (omega (arith, c.decreases), tt)

pub expression::mark_known-mark_desig-requires : goal.expression::mark_known-mark_desig-requires
expression::mark_known-mark_desig-requires t c = (omega (arith, c.decreases), tt)

pub expression::mark_converted-mark_expr-requires : goal.expression::mark_converted-mark_expr-requires
expression::mark_converted-mark_expr-requires t c = (omega (arith, c.decreases), tt)

pub statement::mark_assign-mark_desig-requires : goal.statement::mark_assign-mark_desig-requires
statement::mark_assign-mark_desig-requires t c = (omega (arith, c.decreases), tt)

pub statement::mark_assign-mark_expr-requires : goal.statement::mark_assign-mark_expr-requires
statement::mark_assign-mark_expr-requires t c = (omega (arith, c.decreases), tt)

pub statement::mark_value-mark_expr-requires : goal.statement::mark_value-mark_expr-requires
statement::mark_value-mark_expr-requires t c = (omega (arith, c.decreases), tt)

pub statement::mark_return-mark_returned-requires : goal.statement::mark_return-mark_returned-requires
statement::mark_return-mark_returned-requires t c = (omega (arith, c.decreases), tt)

pub statement::mark_read-mark_desig-requires : goal.statement::mark_read-mark_desig-requires
statement::mark_read-mark_desig-requires t c = (omega (arith, c.decreases), tt)

pub statement::mark_read-mark_desigs-requires : goal.statement::mark_read-mark_desigs-requires
statement::mark_read-mark_desigs-requires t c = (omega (arith, c.decreases), tt)

pub statement::mark_write-mark_items-requires : goal.statement::mark_write-mark_items-requires
statement::mark_write-mark_items-requires t c = (omega (arith, c.decreases), tt)

pub statement::mark_writeln-mark_line_items-requires : goal.statement::mark_writeln-mark_line_items-requires
statement::mark_writeln-mark_line_items-requires t c = (omega (arith, c.decreases), tt)

pub form::mark_if-mark_expr-requires : goal.form::mark_if-mark_expr-requires
form::mark_if-mark_expr-requires t c = (omega (arith, c.decreases), tt)

pub form::mark_if-mark_stmts-requires : goal.form::mark_if-mark_stmts-requires
form::mark_if-mark_stmts-requires t c = (omega (arith, c.decreases), tt)

pub form::mark_if-mark_elsifs-requires : goal.form::mark_if-mark_elsifs-requires
form::mark_if-mark_elsifs-requires t c = (omega (arith, c.decreases), tt)

pub form::mark_if-mark_else-requires : goal.form::mark_if-mark_else-requires
form::mark_if-mark_else-requires t c = (omega (arith, c.decreases), tt)

pub form::mark_while-mark_expr-requires : goal.form::mark_while-mark_expr-requires
form::mark_while-mark_expr-requires t c = (omega (arith, c.decreases), tt)

pub form::mark_while-mark_stmts-requires : goal.form::mark_while-mark_stmts-requires
form::mark_while-mark_stmts-requires t c = (omega (arith, c.decreases), tt)

pub form::mark_repeat-mark_stmts-requires : goal.form::mark_repeat-mark_stmts-requires
form::mark_repeat-mark_stmts-requires t c = (omega (arith, c.decreases), tt)

pub form::mark_repeat-mark_expr-requires : goal.form::mark_repeat-mark_expr-requires
form::mark_repeat-mark_expr-requires t c = (omega (arith, c.decreases), tt)

pub form::mark_for-mark_expr-requires : goal.form::mark_for-mark_expr-requires
form::mark_for-mark_expr-requires t c = (omega (arith, c.decreases), tt)

pub form::mark_for-mark_expr-requires-2 : goal.form::mark_for-mark_expr-requires-2
form::mark_for-mark_expr-requires-2 t c = (omega (arith, c.decreases), tt)

pub form::mark_for-mark_by-requires : goal.form::mark_for-mark_by-requires
form::mark_for-mark_by-requires t c = (omega (arith, c.decreases), tt)

pub form::mark_for-mark_stmts-requires : goal.form::mark_for-mark_stmts-requires
form::mark_for-mark_stmts-requires t c = (omega (arith, c.decreases), tt)

pub form::mark_some-mark_expr-requires : goal.form::mark_some-mark_expr-requires
form::mark_some-mark_expr-requires t c = (omega (arith, c.decreases), tt)

pub form::mark_some-mark_expr-requires-2 : goal.form::mark_some-mark_expr-requires-2
form::mark_some-mark_expr-requires-2 t c = (omega (arith, c.decreases), tt)

pub form::mark_some-mark_stmts-requires : goal.form::mark_some-mark_stmts-requires
form::mark_some-mark_stmts-requires t c = (omega (arith, c.decreases), tt)

pub form::mark_case-mark_expr-requires : goal.form::mark_case-mark_expr-requires
form::mark_case-mark_expr-requires t c = (omega (arith, c.decreases), tt)

pub form::mark_case-mark_arm-requires : goal.form::mark_case-mark_arm-requires
form::mark_case-mark_arm-requires t c = (omega (arith, c.decreases), tt)

pub form::mark_case-mark_arms-requires : goal.form::mark_case-mark_arms-requires
form::mark_case-mark_arms-requires t c = (omega (arith, c.decreases), tt)

pub form::mark_case-mark_else-requires : goal.form::mark_case-mark_else-requires
form::mark_case-mark_else-requires t c = (omega (arith, c.decreases), tt)

pub form::mark_labelled-mark_label-requires : goal.form::mark_labelled-mark_label-requires
form::mark_labelled-mark_label-requires t c = (omega (arith, c.decreases), tt)

pub form::mark_labelled-mark_labels-requires : goal.form::mark_labelled-mark_labels-requires
form::mark_labelled-mark_labels-requires t c = (omega (arith, c.decreases), tt)

pub form::mark_labelled-mark_stmts-requires : goal.form::mark_labelled-mark_stmts-requires
form::mark_labelled-mark_stmts-requires t c = (omega (arith, c.decreases), tt)

pub form::mark_either-mark_stmts-requires : goal.form::mark_either-mark_stmts-requires
form::mark_either-mark_stmts-requires t c = (omega (arith, c.decreases), tt)

pub form::mark_either-mark_orelses-requires : goal.form::mark_either-mark_orelses-requires
form::mark_either-mark_orelses-requires t c = (omega (arith, c.decreases), tt)

pub form::mark_forall-mark_stmts-requires : goal.form::mark_forall-mark_stmts-requires
form::mark_forall-mark_stmts-requires t c = (omega (arith, c.decreases), tt)

pub form::mark_forall-mark_stmts-requires-2 : goal.form::mark_forall-mark_stmts-requires-2
form::mark_forall-mark_stmts-requires-2 t c = (omega (arith, c.decreases), tt)

pub form::mark_commit-mark_stmts-requires : goal.form::mark_commit-mark_stmts-requires
form::mark_commit-mark_stmts-requires t c = (omega (arith, c.decreases), tt)

pub expression::mark_terms-loop-link-init : goal.expression::mark_terms-loop-link-init
expression::mark_terms-loop-link-init t c = rests_all _ _

pub expression::mark_factors-loop-link-init : goal.expression::mark_factors-loop-link-init
expression::mark_factors-loop-link-init t c = rests_all _ _

pub expression::mark_expr_tail-loop-expr-init : goal.expression::mark_expr_tail-loop-expr-init
expression::mark_expr_tail-loop-expr-init t c = rests_all _ _

pub expression::mark_selectors-loop-selector-init : goal.expression::mark_selectors-loop-selector-init
expression::mark_selectors-loop-selector-init t c = rests_all _ _

pub statement::mark_stmt_tail-loop-stmt-init : goal.statement::mark_stmt_tail-loop-stmt-init
statement::mark_stmt_tail-loop-stmt-init t c = rests_all _ _

pub statement::mark_desigs-loop-desig-init : goal.statement::mark_desigs-loop-desig-init
statement::mark_desigs-loop-desig-init t c = rests_all _ _

pub statement::mark_item_tail-loop-item-init : goal.statement::mark_item_tail-loop-item-init
statement::mark_item_tail-loop-item-init t c = rests_all _ _

pub form::mark_elsifs-loop-elsif-init : goal.form::mark_elsifs-loop-elsif-init
form::mark_elsifs-loop-elsif-init t c = rests_all _ _

pub form::mark_arms-loop-arm-init : goal.form::mark_arms-loop-arm-init
form::mark_arms-loop-arm-init t c = rests_all _ _

pub form::mark_labels-loop-label-init : goal.form::mark_labels-loop-label-init
form::mark_labels-loop-label-init t c = rests_all _ _

pub form::mark_orelses-loop-body-init : goal.form::mark_orelses-loop-body-init
form::mark_orelses-loop-body-init t c = rests_all _ _

pub expression::mark_expr_tail-mark_expr-requires : goal.expression::mark_expr_tail-mark_expr-requires
expression::mark_expr_tail-mark_expr-requires t c = (
  omega (
    arith,
    c.decreases,
    at_most de.size-Expr c.args.more.now c.loop-expr.expr-index c.expr-item.result c.loop-expr-test.true,
    ap de.size-Expr c.expr-item.is,
  ),
  tt,
)

pub expression::mark_selectors-mark_selector-requires : goal.expression::mark_selectors-mark_selector-requires
expression::mark_selectors-mark_selector-requires t c = (
  omega (
    arith,
    c.decreases,
    at_most dz.size-Selector c.args.more.now c.loop-selector.selector-index c.selector-item.result
        c.loop-selector-test.true,
    ap dz.size-Selector c.selector-item.is,
  ),
  tt,
)

pub statement::mark_stmt_tail-mark_stmt-requires : goal.statement::mark_stmt_tail-mark_stmt-requires
statement::mark_stmt_tail-mark_stmt-requires t c = (
  omega (
    arith,
    c.decreases,
    at_most dt.size-Stmt c.args.more.now c.loop-stmt.stmt-index c.stmt-item.result c.loop-stmt-test.true,
    ap dt.size-Stmt c.stmt-item.is,
  ),
  tt,
)

pub statement::mark_desigs-mark_desig-requires : goal.statement::mark_desigs-mark_desig-requires
statement::mark_desigs-mark_desig-requires t c = (
  omega (
    arith,
    c.decreases,
    at_most dd.size-Desig c.args.more.now c.loop-desig.desig-index c.desig-item.result c.loop-desig-test.true,
    ap dd.size-Desig c.desig-item.is,
  ),
  tt,
)

pub statement::mark_item_tail-mark_expr-requires : goal.statement::mark_item_tail-mark_expr-requires
statement::mark_item_tail-mark_expr-requires t c = (
  omega (
    arith,
    c.decreases,
    at_most de.size-Expr c.args.more.now c.loop-item.item-index c.item-item.result c.loop-item-test.true,
    ap de.size-Expr c.item-item.is,
  ),
  tt,
)

pub form::mark_arms-mark_arm-requires : goal.form::mark_arms-mark_arm-requires
form::mark_arms-mark_arm-requires t c = (
  omega (
    arith,
    c.decreases,
    at_most da.size-Arm c.args.more.now c.loop-arm.arm-index c.arm-item.result c.loop-arm-test.true,
    ap da.size-Arm c.arm-item.is,
  ),
  tt,
)

pub form::mark_labels-mark_label-requires : goal.form::mark_labels-mark_label-requires
form::mark_labels-mark_label-requires t c = (
  omega (
    arith,
    c.decreases,
    at_most dl.size-Label c.args.more.now c.loop-label.label-index c.label-item.result c.loop-label-test.true,
    ap dl.size-Label c.label-item.is,
  ),
  tt,
)

pub form::mark_orelses-mark_stmts-requires : goal.form::mark_orelses-mark_stmts-requires
form::mark_orelses-mark_stmts-requires t c = (
  omega (
    arith,
    c.decreases,
    at_most ds.size-Stmts c.args.more.now c.loop-body.body-index c.body-item.result c.loop-body-test.true,
    ap ds.size-Stmts c.body-item.is,
  ),
  tt,
)
