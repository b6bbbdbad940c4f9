use Rattle.std.proofs.Common.{◌∙◌, refl, ap, arith}
use denote.Param.Weighed.{most, at_most}
use Rattle.alma_tree.specs.declared.phrase.Stmts as ds
use Rattle.alma_tree.specs.declared.phrase.Stmt as dt
use Rattle.alma_tree.specs.declared.phrase.Elsif as df
use Rattle.alma_tree.specs.declared.phrase.Arm as da
use Rattle.alma_tree.specs.declared.phrase.Arm.TheShapes as shapes
use Rattle.alma_tree.specs.declared.phrase.AddLink as dk
use Rattle.alma_tree.specs.declared.phrase.Compared as dc
use Rattle.alma_tree.specs.declared.phrase.MulLink as dn
use Rattle.alma_tree.specs.declared.phrase.Arm.TheViews as views
use Rattle.alma_tree.specs.declared.phrase.Label as dl
use Rattle.alma_tree.specs.declared.phrase.Expr as de
use Rattle.alma_tree.specs.declared.phrase.Simple as di
use Rattle.alma_tree.specs.declared.phrase.Term as dm
use Rattle.alma_tree.specs.declared.phrase.Exprs as dx
use Rattle.alma_tree.specs.declared.phrase.Desig as dd
use Rattle.alma_tree.specs.declared.phrase.Selector as dj
use Rattle.alma_tree.specs.Spelling as spells
use Rattle.alma_tree.specs.View as view
use Rattle.alma_tree.proofs.Rows as rows
use Rattle.alma_spell.proofs.Ends as ends
use Rattle.alma_spell.proofs.Steps.{◌▹◌, stays, alike, rests_all, turn, finish}
use Rattle.alma_spell.proofs.phrase.+spell.Goals as goal

pub put_stmts-returns : goal.put_stmts-returns
put_stmts-returns t c = (rw c.deref.ensures at c.put_stmt.ensures) ▹ (rw c.deref-2.ensures.value at c.put_stmt_tail.ensures)

pub put_stmt_tail-loop-tree-init : goal.put_stmt_tail-loop-tree-init
put_stmt_tail-loop-tree-init t c = rests_all _ _

pub put_stmt_tail-loop-tree-preserved : goal.put_stmt_tail-loop-tree-preserved
put_stmt_tail-loop-tree-preserved t c =
    turn (λ xs. spells.spell_stmt_tail (view.stmts_of xs)) c.loop-tree.tree-index c.args.trees.now c.tree-item.result c.loop-tree-test.true
    c.tree-item.is c.loop-tree.invariant
    (c.put.ensures ▹ c.put_stmt.ensures) (λ rest. refl)

pub put_stmt_tail-returns : goal.put_stmt_tail-returns
put_stmt_tail-returns t c =
    finish (λ xs. spells.spell_stmt_tail (view.stmts_of xs)) c.loop-tree.tree-index c.args.trees.now c.loop-tree-test.false (λ rest. refl)
    c.loop-tree.invariant

pub put_stmt-returns-in-Nothing : goal.put_stmt-returns-in-Nothing
put_stmt-returns-in-Nothing t c = alike spells.spell_stmt (ap view.view_stmt c.in-Nothing.is) (stays _)

pub put_stmt-returns-in-Value : goal.put_stmt-returns-in-Value
put_stmt-returns-in-Value t c = alike spells.spell_stmt (ap view.view_stmt c.in-Value.is) c.put_expr.ensures

pub put_stmt-returns-in-Write : goal.put_stmt-returns-in-Write
put_stmt-returns-in-Write t c = alike spells.spell_stmt (ap view.view_stmt c.in-Write.is) c.put_write.ensures

pub put_stmt-returns-in-Assign : goal.put_stmt-returns-in-Assign
put_stmt-returns-in-Assign t c =
    alike spells.spell_stmt (ap view.view_stmt c.in-Assign.is ∙ rows.assign_laid c.in-Assign.node c.in-Assign.target c.in-Assign.value)
    c.put_assign.ensures

pub put_stmt-returns-in-If : goal.put_stmt-returns-in-If
put_stmt-returns-in-If t c =
    alike spells.spell_stmt (ap view.view_stmt c.in-If.is
    ∙ rows.if_laid c.in-If.node c.in-If.test c.in-If.then c.in-If.elsifs c.in-If.otherwise)
    (rw c.deref.ensures.value at c.put_if.ensures)

pub put_stmt-returns-in-While : goal.put_stmt-returns-in-While
put_stmt-returns-in-While t c =
    alike spells.spell_stmt (ap view.view_stmt c.in-While.is ∙ rows.while_laid c.in-While.node c.in-While.test c.in-While.body)
    c.put_while.ensures

pub put_stmt-returns-in-Repeat : goal.put_stmt-returns-in-Repeat
put_stmt-returns-in-Repeat t c =
    alike spells.spell_stmt (ap view.view_stmt c.in-Repeat.is ∙ rows.repeat_laid c.in-Repeat.node c.in-Repeat.body c.in-Repeat.test)
    c.put_repeat.ensures

pub put_stmt-returns-in-For : goal.put_stmt-returns-in-For
put_stmt-returns-in-For t c =
    alike spells.spell_stmt (ap view.view_stmt c.in-For.is
    ∙ rows.for_laid c.in-For.node c.in-For.variable c.in-For.from c.in-For.to c.in-For.by c.in-For.body) c.put_for.ensures

pub put_stmt-returns-in-Some : goal.put_stmt-returns-in-Some
put_stmt-returns-in-Some t c =
    alike spells.spell_stmt (ap view.view_stmt c.in-Some.is
    ∙ rows.some_laid c.in-Some.node c.in-Some.variable c.in-Some.from c.in-Some.to c.in-Some.body) c.put_some.ensures

pub put_stmt-returns-in-Case : goal.put_stmt-returns-in-Case
put_stmt-returns-in-Case t c =
    alike spells.spell_stmt (ap view.view_stmt c.in-Case.is
    ∙ rows.case_laid c.in-Case.node c.in-Case.value c.in-Case.first c.in-Case.more c.in-Case.otherwise)
    (rw (c.deref-in-Case.ensures, c.deref-in-Case-2.ensures.value) at c.put_case.ensures)

pub put_stmt-returns-in-Either : goal.put_stmt-returns-in-Either
put_stmt-returns-in-Either t c =
    alike spells.spell_stmt (ap view.view_stmt c.in-Either.is ∙ rows.either_laid c.in-Either.node c.in-Either.first c.in-Either.more)
    (rw c.deref-in-Either.ensures.value at c.put_either.ensures)

pub put_stmt-returns-in-Forall : goal.put_stmt-returns-in-Forall
put_stmt-returns-in-Forall t c =
    alike spells.spell_stmt (ap view.view_stmt c.in-Forall.is ∙ rows.forall_laid c.in-Forall.node c.in-Forall.choice c.in-Forall.body)
    c.put_forall.ensures

pub put_stmt-returns-in-Commit : goal.put_stmt-returns-in-Commit
put_stmt-returns-in-Commit t c =
    alike spells.spell_stmt (ap view.view_stmt c.in-Commit.is ∙ rows.commit_laid c.in-Commit.node c.in-Commit.body) c.put_commit.ensures

pub put_stmt-returns-in-Return : goal.put_stmt-returns-in-Return
put_stmt-returns-in-Return t c =
    alike spells.spell_stmt (ap view.view_stmt c.in-Return.is ∙ rows.return_laid c.in-Return.node c.in-Return.value) c.put_return.ensures

pub put_stmt-returns-in-Read : goal.put_stmt-returns-in-Read
put_stmt-returns-in-Read t c =
    alike spells.spell_stmt (ap view.view_stmt c.in-Read.is ∙ rows.read_laid c.in-Read.node c.in-Read.first c.in-Read.more)
    (rw c.deref-in-Read.ensures.value at c.put_read.ensures)

pub put_stmt-returns-in-Writeln : goal.put_stmt-returns-in-Writeln
put_stmt-returns-in-Writeln t c =
    alike spells.spell_stmt (ap view.view_stmt c.in-Writeln.is ∙ rows.writeln_laid c.in-Writeln.node c.in-Writeln.items)
    c.put_writeln.ensures

pub put_assign-returns : goal.put_assign-returns
put_assign-returns t c = c.put_desig.ensures ▹ c.put.ensures ▹ c.put_expr.ensures

pub put_if-returns : goal.put_if-returns
put_if-returns t c =
    c.put.ensures ▹ c.put_expr.ensures ▹ c.put-2.ensures ▹ c.put_stmts.ensures ▹ c.put_elsif_tail.ensures ▹ c.put_else.ensures
    ▹ c.put-3.ensures

pub put_while-returns : goal.put_while-returns
put_while-returns t c = c.put.ensures ▹ c.put_expr.ensures ▹ c.put-2.ensures ▹ c.put_stmts.ensures ▹ c.put-3.ensures

pub put_repeat-returns : goal.put_repeat-returns
put_repeat-returns t c = c.put.ensures ▹ c.put_stmts.ensures ▹ c.put-2.ensures ▹ c.put_expr.ensures

pub put_for-returns : goal.put_for-returns
put_for-returns t c =
    c.put.ensures ▹ c.put-2.ensures ▹ c.put-3.ensures ▹ c.put_expr.ensures ▹ c.put-4.ensures ▹ c.put_expr-2.ensures ▹ c.put_by.ensures
    ▹ c.put-5.ensures ▹ c.put_stmts.ensures ▹ c.put-6.ensures

pub put_some-returns : goal.put_some-returns
put_some-returns t c =
    c.put.ensures ▹ c.put-2.ensures ▹ c.put-3.ensures ▹ c.put_expr.ensures ▹ c.put-4.ensures ▹ c.put_expr-2.ensures ▹ c.put-5.ensures
    ▹ c.put_stmts.ensures ▹ c.put-6.ensures

pub put_case-returns : goal.put_case-returns
put_case-returns t c =
    c.put.ensures ▹ c.put_expr.ensures ▹ c.put-2.ensures ▹ c.put_arm.ensures ▹ c.put_arm_tail.ensures ▹ c.put_else.ensures ▹ c.put-3.ensures

pub put_either-returns : goal.put_either-returns
put_either-returns t c = c.put.ensures ▹ c.put_stmts.ensures ▹ c.put_orelse_tail.ensures ▹ c.put-2.ensures

pub put_forall-returns : goal.put_forall-returns
put_forall-returns t c = c.put.ensures ▹ c.put_stmts.ensures ▹ c.put-2.ensures ▹ c.put_stmts-2.ensures ▹ c.put-3.ensures

pub put_commit-returns : goal.put_commit-returns
put_commit-returns t c = c.put.ensures ▹ c.put_stmts.ensures ▹ c.put-2.ensures

pub put_return-returns : goal.put_return-returns
put_return-returns t c = c.put.ensures ▹ c.put_returned.ensures

pub put_read-returns : goal.put_read-returns
put_read-returns t c = c.put.ensures ▹ c.put-2.ensures ▹ c.put_desig.ensures ▹ c.put_desig_tail.ensures ▹ c.put-3.ensures

pub put_write-returns : goal.put_write-returns
put_write-returns t c = c.put.ensures ▹ c.put-2.ensures ▹ c.put_exprs.ensures ▹ c.put-3.ensures

pub put_writeln-returns : goal.put_writeln-returns
put_writeln-returns t c = c.put.ensures ▹ c.put_args.ensures

pub put_elsif_tail-loop-tree-init : goal.put_elsif_tail-loop-tree-init
put_elsif_tail-loop-tree-init t c = rests_all _ _

pub put_elsif_tail-loop-tree-preserved : goal.put_elsif_tail-loop-tree-preserved
put_elsif_tail-loop-tree-preserved t c =
    turn (λ xs. spells.spell_elsif_tail (view.elsifs_of xs)) c.loop-tree.tree-index c.args.trees.now c.tree-item.result
    c.loop-tree-test.true c.tree-item.is c.loop-tree.invariant
    (c.put.ensures ▹ c.put_expr.ensures ▹ c.put-in-loop-tree.ensures ▹ c.put_stmts.ensures) (λ rest. refl)

pub put_elsif_tail-returns : goal.put_elsif_tail-returns
put_elsif_tail-returns t c =
    finish (λ xs. spells.spell_elsif_tail (view.elsifs_of xs)) c.loop-tree.tree-index c.args.trees.now c.loop-tree-test.false (λ rest. refl)
    c.loop-tree.invariant

pub put_else-returns-in-Some : goal.put_else-returns-in-Some
put_else-returns-in-Some t c = alike (λ x. spells.spell_else (view.else_of x)) c.in-Some.is (c.put.ensures ▹ c.put_stmts.ensures)

pub put_else-returns-in_default : goal.put_else-returns-in_default
put_else-returns-in_default t c = alike (λ x. spells.spell_else (view.else_of x)) c.in_default.is (stays _)

pub put_by-returns-in-Some : goal.put_by-returns-in-Some
put_by-returns-in-Some t c = alike (λ x. spells.spell_by (view.by_of x)) c.in-Some.is (c.put.ensures ▹ c.put_expr.ensures)

pub put_by-returns-in_default : goal.put_by-returns-in_default
put_by-returns-in_default t c = alike (λ x. spells.spell_by (view.by_of x)) c.in_default.is (stays _)

pub put_orelse_tail-loop-tree-init : goal.put_orelse_tail-loop-tree-init
put_orelse_tail-loop-tree-init t c = rests_all _ _

pub put_orelse_tail-loop-tree-preserved : goal.put_orelse_tail-loop-tree-preserved
put_orelse_tail-loop-tree-preserved t c =
    turn (λ xs. spells.spell_orelse_tail (view.orelses_of xs)) c.loop-tree.tree-index c.args.trees.now c.tree-item.result
    c.loop-tree-test.true c.tree-item.is c.loop-tree.invariant
    (c.put.ensures ▹ c.put_stmts.ensures) (λ rest. refl)

pub put_orelse_tail-returns : goal.put_orelse_tail-returns
put_orelse_tail-returns t c =
    finish (λ xs. spells.spell_orelse_tail (view.orelses_of xs)) c.loop-tree.tree-index c.args.trees.now c.loop-tree-test.false
    (λ rest. refl) c.loop-tree.invariant

pub put_returned-returns-in-Some : goal.put_returned-returns-in-Some
put_returned-returns-in-Some t c = alike (λ x. spells.spell_returned (view.returned_of x)) c.in-Some.is (c.put_expr.ensures)

pub put_returned-returns-in_default : goal.put_returned-returns-in_default
put_returned-returns-in_default t c = alike (λ x. spells.spell_returned (view.returned_of x)) c.in_default.is (stays _)

pub put_desig_tail-loop-tree-init : goal.put_desig_tail-loop-tree-init
put_desig_tail-loop-tree-init t c = rests_all _ _

pub put_desig_tail-loop-tree-preserved : goal.put_desig_tail-loop-tree-preserved
put_desig_tail-loop-tree-preserved t c =
    turn (λ xs. spells.spell_desig_tail (view.desigs_of xs)) c.loop-tree.tree-index c.args.trees.now c.tree-item.result
    c.loop-tree-test.true c.tree-item.is c.loop-tree.invariant
    (c.put.ensures ▹ c.put_desig.ensures) (λ rest. refl)

pub put_desig_tail-returns : goal.put_desig_tail-returns
put_desig_tail-returns t c =
    finish (λ xs. spells.spell_desig_tail (view.desigs_of xs)) c.loop-tree.tree-index c.args.trees.now c.loop-tree-test.false (λ rest. refl)
    c.loop-tree.invariant

pub put_arm-returns-in-Empty : goal.put_arm-returns-in-Empty
put_arm-returns-in-Empty t c = alike spells.spell_arm (ap view.view_arm c.in-Empty.is) (stays _)

pub put_arm-returns-in-Labelled : goal.put_arm-returns-in-Labelled
put_arm-returns-in-Labelled t c =
    alike spells.spell_arm (ap view.view_arm c.in-Labelled.is
    ∙ rows.labelled_laid c.in-Labelled.node c.in-Labelled.first c.in-Labelled.more c.in-Labelled.body)
    (c.put_label.ensures ▹ (rw c.deref.ensures.value at c.put_label_tail.ensures) ▹ c.put.ensures ▹ c.put_stmts.ensures)

pub put_arm_tail-loop-tree-init : goal.put_arm_tail-loop-tree-init
put_arm_tail-loop-tree-init t c = rests_all _ _

pub put_arm_tail-loop-tree-preserved : goal.put_arm_tail-loop-tree-preserved
put_arm_tail-loop-tree-preserved t c =
    turn (λ xs. spells.spell_arm_tail (view.arms_of xs)) c.loop-tree.tree-index c.args.trees.now c.tree-item.result c.loop-tree-test.true
    c.tree-item.is c.loop-tree.invariant
    (c.put.ensures ▹ c.put_arm.ensures) (λ rest. refl)

pub put_arm_tail-returns : goal.put_arm_tail-returns
put_arm_tail-returns t c =
    finish (λ xs. spells.spell_arm_tail (view.arms_of xs)) c.loop-tree.tree-index c.args.trees.now c.loop-tree-test.false (λ rest. refl)
    c.loop-tree.invariant

pub put_label-returns : goal.put_label-returns
put_label-returns t c = alike spells.spell_label (ends.label_laid c.args.tree.now) (c.put_expr.ensures ▹ c.put_high.ensures)

pub put_high-returns-in-Some : goal.put_high-returns-in-Some
put_high-returns-in-Some t c = alike (λ x. spells.spell_high (view.high_of x)) c.in-Some.is (c.put.ensures ▹ c.put_expr.ensures)

pub put_high-returns-in_default : goal.put_high-returns-in_default
put_high-returns-in_default t c = alike (λ x. spells.spell_high (view.high_of x)) c.in_default.is (stays _)

pub put_label_tail-loop-tree-init : goal.put_label_tail-loop-tree-init
put_label_tail-loop-tree-init t c = rests_all _ _

pub put_label_tail-loop-tree-preserved : goal.put_label_tail-loop-tree-preserved
put_label_tail-loop-tree-preserved t c =
    turn (λ xs. spells.spell_label_tail (view.labels_of xs)) c.loop-tree.tree-index c.args.trees.now c.tree-item.result
    c.loop-tree-test.true c.tree-item.is c.loop-tree.invariant
    (c.put.ensures ▹ c.put_label.ensures) (λ rest. refl)

pub put_label_tail-returns : goal.put_label_tail-returns
put_label_tail-returns t c =
    finish (λ xs. spells.spell_label_tail (view.labels_of xs)) c.loop-tree.tree-index c.args.trees.now c.loop-tree-test.false (λ rest. refl)
    c.loop-tree.invariant

pub put_expr-returns : goal.put_expr-returns
put_expr-returns t c = alike spells.spell_expr (ends.expr_laid c.args.tree.now) (c.put_simple.ensures ▹ c.put_compared.ensures)

pub put_compared-returns-in-Some : goal.put_compared-returns-in-Some
put_compared-returns-in-Some t c =
    alike (λ x. spells.spell_compared (view.compared_of x)) c.in-Some.is
    ((rw c.deref.ensures at (rw c.relation_kind.ensures.same at c.put.ensures)) ▹ (rw c.deref-in-Some.ensures at c.put_simple.ensures))

pub put_compared-returns-in_default : goal.put_compared-returns-in_default
put_compared-returns-in_default t c = alike (λ x. spells.spell_compared (view.compared_of x)) c.in_default.is (stays _)

pub put_simple-returns : goal.put_simple-returns
put_simple-returns t c =
    alike spells.spell_simple (ends.simple_laid c.args.tree.now)
    (c.put_sign.ensures ▹ (rw c.deref.ensures at c.put_term.ensures) ▹ (rw c.deref-2.ensures.value at c.put_term_tail.ensures))

pub put_term_tail-loop-tree-init : goal.put_term_tail-loop-tree-init
put_term_tail-loop-tree-init t c = rests_all _ _

pub put_term_tail-loop-tree-preserved : goal.put_term_tail-loop-tree-preserved
put_term_tail-loop-tree-preserved t c =
    turn (λ xs. spells.spell_term_tail (view.terms_of xs)) c.loop-tree.tree-index c.args.trees.now c.tree-item.result c.loop-tree-test.true
    c.tree-item.is c.loop-tree.invariant
    ((rw c.add_kind.ensures.same at c.put.ensures) ▹ c.put_term.ensures) (λ rest. refl)

pub put_term_tail-returns : goal.put_term_tail-returns
put_term_tail-returns t c =
    finish (λ xs. spells.spell_term_tail (view.terms_of xs)) c.loop-tree.tree-index c.args.trees.now c.loop-tree-test.false (λ rest. refl)
    c.loop-tree.invariant

pub put_term-returns : goal.put_term-returns
put_term-returns t c =
    alike spells.spell_term (ends.term_laid c.args.tree.now)
    (c.put_factor.ensures ▹ (rw c.deref.ensures.value at c.put_factor_tail.ensures))

pub put_factor_tail-loop-tree-init : goal.put_factor_tail-loop-tree-init
put_factor_tail-loop-tree-init t c = rests_all _ _

pub put_factor_tail-loop-tree-preserved : goal.put_factor_tail-loop-tree-preserved
put_factor_tail-loop-tree-preserved t c =
    turn (λ xs. spells.spell_factor_tail (view.factors_of xs)) c.loop-tree.tree-index c.args.trees.now c.tree-item.result
    c.loop-tree-test.true c.tree-item.is c.loop-tree.invariant
    ((rw c.mul_kind.ensures.same at c.put.ensures) ▹ c.put_factor.ensures) (λ rest. refl)

pub put_factor_tail-returns : goal.put_factor_tail-returns
put_factor_tail-returns t c =
    finish (λ xs. spells.spell_factor_tail (view.factors_of xs)) c.loop-tree.tree-index c.args.trees.now c.loop-tree-test.false
    (λ rest. refl) c.loop-tree.invariant

pub put_factor-returns-in-Not : goal.put_factor-returns-in-Not
put_factor-returns-in-Not t c = alike spells.spell_factor (ap view.view_factor c.in-Not.is) (c.put.ensures ▹ c.put_primary.ensures)

pub put_factor-returns-in-Plain : goal.put_factor-returns-in-Plain
put_factor-returns-in-Plain t c = alike spells.spell_factor (ap view.view_factor c.in-Plain.is) c.put_primary-in-Plain.ensures

pub put_primary-returns-in-Number : goal.put_primary-returns-in-Number
put_primary-returns-in-Number t c = alike spells.spell_primary (ap view.view_primary c.in-Number.is) c.put.ensures

pub put_primary-returns-in-Literal : goal.put_primary-returns-in-Literal
put_primary-returns-in-Literal t c = alike spells.spell_primary (ap view.view_primary c.in-Literal.is) c.put-in-Literal.ensures

pub put_primary-returns-in-Desig : goal.put_primary-returns-in-Desig
put_primary-returns-in-Desig t c =
    alike spells.spell_primary (ap view.view_primary c.in-Desig.is ∙ rows.named_laid c.in-Desig.node c.in-Desig.desig c.in-Desig.args)
    (c.put_desig.ensures ▹ c.put_args.ensures)

pub put_primary-returns-in-Paren : goal.put_primary-returns-in-Paren
put_primary-returns-in-Paren t c =
    alike spells.spell_primary (ap view.view_primary c.in-Paren.is ∙ rows.paren_laid c.in-Paren.node c.in-Paren.body)
    (c.put-in-Paren.ensures ▹ (rw c.deref.ensures at c.put_stmts.ensures) ▹ c.put-in-Paren-2.ensures)

pub put_primary-returns-in-Known : goal.put_primary-returns-in-Known
put_primary-returns-in-Known t c =
    alike spells.spell_primary (ap view.view_primary c.in-Known.is ∙ rows.known_laid c.in-Known.node c.in-Known.desig)
    (c.put-in-Known.ensures ▹ c.put-in-Known-2.ensures ▹ c.put_desig-in-Known.ensures ▹ c.put-in-Known-3.ensures)

pub put_primary-returns-in-Ord : goal.put_primary-returns-in-Ord
put_primary-returns-in-Ord t c =
    alike spells.spell_primary (ap view.view_primary c.in-Ord.is)
    (c.put-in-Ord.ensures ▹ c.put-in-Ord-2.ensures ▹ (rw c.deref-in-Ord.ensures at c.put_expr.ensures) ▹ c.put-in-Ord-3.ensures)

pub put_primary-returns-in-Chr : goal.put_primary-returns-in-Chr
put_primary-returns-in-Chr t c =
    alike spells.spell_primary (ap view.view_primary c.in-Chr.is)
    (c.put-in-Chr.ensures ▹ c.put-in-Chr-2.ensures ▹ (rw c.deref-in-Chr.ensures at c.put_expr-in-Chr.ensures) ▹ c.put-in-Chr-3.ensures)

pub put_args-returns-in_default : goal.put_args-returns-in_default
put_args-returns-in_default t c = alike (λ x. spells.spell_args (view.args_of x)) c.in_default.is (stays _)

pub put_args-returns-in-None : goal.put_args-returns-in-None
put_args-returns-in-None t c =
    alike (λ x. spells.spell_args (view.args_of x)) c.in-Some.is (alike (λ v. spells.spell_args (view.args_values v)) c.in-None.is
    (c.put.ensures ▹ c.put-in-None.ensures))

pub put_args-returns-in-Some-values : goal.put_args-returns-in-Some-values
put_args-returns-in-Some-values t c =
    alike (λ x. spells.spell_args (view.args_of x)) c.in-Some.is (alike (λ v. spells.spell_args (view.args_values v)) c.in-Some-values.is
    (c.put.ensures ▹ c.put_exprs.ensures ▹ c.put-in-Some-values.ensures))

pub put_exprs-returns : goal.put_exprs-returns
put_exprs-returns t c =
    alike spells.spell_exprs (ends.exprs_laid c.args.tree.now)
    ((rw c.deref.ensures at c.put_expr.ensures) ▹ (rw c.deref-2.ensures.value at c.put_expr_tail.ensures))

pub put_expr_tail-loop-tree-init : goal.put_expr_tail-loop-tree-init
put_expr_tail-loop-tree-init t c = rests_all _ _

pub put_expr_tail-loop-tree-preserved : goal.put_expr_tail-loop-tree-preserved
put_expr_tail-loop-tree-preserved t c =
    turn (λ xs. spells.spell_expr_tail (view.exprs_of xs)) c.loop-tree.tree-index c.args.trees.now c.tree-item.result c.loop-tree-test.true
    c.tree-item.is c.loop-tree.invariant
    (c.put.ensures ▹ c.put_expr.ensures) (λ rest. refl)

pub put_expr_tail-returns : goal.put_expr_tail-returns
put_expr_tail-returns t c =
    finish (λ xs. spells.spell_expr_tail (view.exprs_of xs)) c.loop-tree.tree-index c.args.trees.now c.loop-tree-test.false (λ rest. refl)
    c.loop-tree.invariant

pub put_desig-returns : goal.put_desig-returns
put_desig-returns t c = c.put.ensures ▹ (rw c.deref.ensures.value at c.put_selector_tail.ensures)

pub put_selector_tail-loop-tree-init : goal.put_selector_tail-loop-tree-init
put_selector_tail-loop-tree-init t c = rests_all _ _

pub put_selector_tail-loop-tree-preserved : goal.put_selector_tail-loop-tree-preserved
put_selector_tail-loop-tree-preserved t c =
    turn (λ xs. spells.spell_selector_tail (view.selectors_of xs)) c.loop-tree.tree-index c.args.trees.now c.tree-item.result
    c.loop-tree-test.true c.tree-item.is c.loop-tree.invariant
    (c.put_selector.ensures) (λ rest. refl)

pub put_selector_tail-returns : goal.put_selector_tail-returns
put_selector_tail-returns t c =
    finish (λ xs. spells.spell_selector_tail (view.selectors_of xs)) c.loop-tree.tree-index c.args.trees.now c.loop-tree-test.false
    (λ rest. refl) c.loop-tree.invariant

pub put_selector-returns-in-Field : goal.put_selector-returns-in-Field
put_selector-returns-in-Field t c = alike spells.spell_selector (ap view.view_selector c.in-Field.is)
    (c.put.ensures ▹ c.put-in-Field.ensures)

pub put_selector-returns-in-Index : goal.put_selector-returns-in-Index
put_selector-returns-in-Index t c =
    alike spells.spell_selector (ap view.view_selector c.in-Index.is)
    (c.put-in-Index.ensures ▹ c.put_exprs.ensures ▹ c.put-in-Index-2.ensures)

-- ---- the measure of each call

pub put_assign-put_desig-requires : goal.put_assign-put_desig-requires
put_assign-put_desig-requires t c = (omega (arith, c.decreases), tt)

pub put_assign-put_expr-requires : goal.put_assign-put_expr-requires
put_assign-put_expr-requires t c = (omega (arith, c.decreases), tt)

pub put_if-put_expr-requires : goal.put_if-put_expr-requires
put_if-put_expr-requires t c = (omega (arith, c.decreases), tt)

pub put_if-put_stmts-requires : goal.put_if-put_stmts-requires
put_if-put_stmts-requires t c = (omega (arith, c.decreases), tt)

pub put_if-put_elsif_tail-requires : goal.put_if-put_elsif_tail-requires
put_if-put_elsif_tail-requires t c = (omega (arith, c.decreases), tt)

pub put_if-put_else-requires : goal.put_if-put_else-requires
put_if-put_else-requires t c = (omega (arith, c.decreases), tt)

pub put_while-put_expr-requires : goal.put_while-put_expr-requires
put_while-put_expr-requires t c = (omega (arith, c.decreases), tt)

pub put_while-put_stmts-requires : goal.put_while-put_stmts-requires
put_while-put_stmts-requires t c = (omega (arith, c.decreases), tt)

pub put_repeat-put_stmts-requires : goal.put_repeat-put_stmts-requires
put_repeat-put_stmts-requires t c = (omega (arith, c.decreases), tt)

pub put_repeat-put_expr-requires : goal.put_repeat-put_expr-requires
put_repeat-put_expr-requires t c = (omega (arith, c.decreases), tt)

pub put_for-put_expr-requires : goal.put_for-put_expr-requires
put_for-put_expr-requires t c = (omega (arith, c.decreases), tt)

pub put_for-put_expr-requires-2 : goal.put_for-put_expr-requires-2
put_for-put_expr-requires-2 t c = (omega (arith, c.decreases), tt)

pub put_for-put_by-requires : goal.put_for-put_by-requires
put_for-put_by-requires t c = (omega (arith, c.decreases), tt)

pub put_for-put_stmts-requires : goal.put_for-put_stmts-requires
put_for-put_stmts-requires t c = (omega (arith, c.decreases), tt)

pub put_some-put_expr-requires : goal.put_some-put_expr-requires
put_some-put_expr-requires t c = (omega (arith, c.decreases), tt)

pub put_some-put_expr-requires-2 : goal.put_some-put_expr-requires-2
put_some-put_expr-requires-2 t c = (omega (arith, c.decreases), tt)

pub put_some-put_stmts-requires : goal.put_some-put_stmts-requires
put_some-put_stmts-requires t c = (omega (arith, c.decreases), tt)

pub put_case-put_expr-requires : goal.put_case-put_expr-requires
put_case-put_expr-requires t c = (omega (arith, c.decreases), tt)

pub put_case-put_arm-requires : goal.put_case-put_arm-requires
put_case-put_arm-requires t c = (omega (arith, c.decreases), tt)

pub put_case-put_arm_tail-requires : goal.put_case-put_arm_tail-requires
put_case-put_arm_tail-requires t c = (omega (arith, c.decreases), tt)

pub put_case-put_else-requires : goal.put_case-put_else-requires
put_case-put_else-requires t c = (omega (arith, c.decreases), tt)

pub put_either-put_stmts-requires : goal.put_either-put_stmts-requires
put_either-put_stmts-requires t c = (omega (arith, c.decreases), tt)

pub put_either-put_orelse_tail-requires : goal.put_either-put_orelse_tail-requires
put_either-put_orelse_tail-requires t c = (omega (arith, c.decreases), tt)

pub put_forall-put_stmts-requires : goal.put_forall-put_stmts-requires
put_forall-put_stmts-requires t c = (omega (arith, c.decreases), tt)

pub put_forall-put_stmts-requires-2 : goal.put_forall-put_stmts-requires-2
put_forall-put_stmts-requires-2 t c = (omega (arith, c.decreases), tt)

pub put_commit-put_stmts-requires : goal.put_commit-put_stmts-requires
put_commit-put_stmts-requires t c = (omega (arith, c.decreases), tt)

pub put_return-put_returned-requires : goal.put_return-put_returned-requires
put_return-put_returned-requires t c = (omega (arith, c.decreases), tt)

pub put_read-put_desig-requires : goal.put_read-put_desig-requires
put_read-put_desig-requires t c = (omega (arith, c.decreases), tt)

pub put_read-put_desig_tail-requires : goal.put_read-put_desig_tail-requires
put_read-put_desig_tail-requires t c = (omega (arith, c.decreases), tt)

pub put_write-put_exprs-requires : goal.put_write-put_exprs-requires
put_write-put_exprs-requires t c = (omega (arith, c.decreases), tt)

pub put_writeln-put_args-requires : goal.put_writeln-put_args-requires
put_writeln-put_args-requires t c = (omega (arith, c.decreases), tt)

pub put_stmt_tail-put_stmt-requires : goal.put_stmt_tail-put_stmt-requires
put_stmt_tail-put_stmt-requires t c = (
  omega (
    arith,
    c.decreases,
    at_most dt.size-Stmt c.args.trees.now c.loop-tree.tree-index c.tree-item.result c.loop-tree-test.true,
    ap dt.size-Stmt c.tree-item.is,
  ),
  tt,
)

pub put_orelse_tail-put_stmts-requires : goal.put_orelse_tail-put_stmts-requires
put_orelse_tail-put_stmts-requires t c = (
  omega (
    arith,
    c.decreases,
    at_most ds.size-Stmts c.args.trees.now c.loop-tree.tree-index c.tree-item.result c.loop-tree-test.true,
    ap ds.size-Stmts c.tree-item.is,
  ),
  tt,
)

pub put_desig_tail-put_desig-requires : goal.put_desig_tail-put_desig-requires
put_desig_tail-put_desig-requires t c = (
  omega (
    arith,
    c.decreases,
    at_most dd.size-Desig c.args.trees.now c.loop-tree.tree-index c.tree-item.result c.loop-tree-test.true,
    ap dd.size-Desig c.tree-item.is,
  ),
  tt,
)

pub put_arm_tail-put_arm-requires : goal.put_arm_tail-put_arm-requires
put_arm_tail-put_arm-requires t c = (
  omega (
    arith,
    c.decreases,
    at_most da.size-Arm c.args.trees.now c.loop-tree.tree-index c.tree-item.result c.loop-tree-test.true,
    ap da.size-Arm c.tree-item.is,
  ),
  tt,
)

pub put_label_tail-put_label-requires : goal.put_label_tail-put_label-requires
put_label_tail-put_label-requires t c = (
  omega (
    arith,
    c.decreases,
    at_most dl.size-Label c.args.trees.now c.loop-tree.tree-index c.tree-item.result c.loop-tree-test.true,
    ap dl.size-Label c.tree-item.is,
  ),
  tt,
)

pub put_expr_tail-put_expr-requires : goal.put_expr_tail-put_expr-requires
put_expr_tail-put_expr-requires t c = (
  omega (
    arith,
    c.decreases,
    at_most de.size-Expr c.args.trees.now c.loop-tree.tree-index c.tree-item.result c.loop-tree-test.true,
    ap de.size-Expr c.tree-item.is,
  ),
  tt,
)

pub put_selector_tail-put_selector-requires : goal.put_selector_tail-put_selector-requires
put_selector_tail-put_selector-requires t c = (
  omega (
    arith,
    c.decreases,
    at_most dj.size-Selector c.args.trees.now c.loop-tree.tree-index c.tree-item.result c.loop-tree-test.true,
    ap dj.size-Selector c.tree-item.is,
  ),
  tt,
)

pub put_stmt-put_assign-requires : goal.put_stmt-put_assign-requires
put_stmt-put_assign-requires t c = (omega (arith, c.decreases, ap views.size-Stmt c.in-Assign.is ∙ views.sized-Assign _ _ _), tt)

pub put_stmt-put_expr-requires : goal.put_stmt-put_expr-requires
put_stmt-put_expr-requires t c = (omega (arith, c.decreases, ap views.size-Stmt c.in-Value.is ∙ views.sized-Value _ _), tt)

pub put_stmt-put_if-requires : goal.put_stmt-put_if-requires
put_stmt-put_if-requires t c = (
  omega (arith, c.decreases, ap views.size-Stmt c.in-If.is ∙ views.sized-If _ _ _ _ _, ap (most views.size-Elsif) c.deref.ensures.value),
  tt,
)

pub put_stmt-put_while-requires : goal.put_stmt-put_while-requires
put_stmt-put_while-requires t c = (omega (arith, c.decreases, ap views.size-Stmt c.in-While.is ∙ views.sized-While _ _ _), tt)

pub put_stmt-put_repeat-requires : goal.put_stmt-put_repeat-requires
put_stmt-put_repeat-requires t c = (omega (arith, c.decreases, ap views.size-Stmt c.in-Repeat.is ∙ views.sized-Repeat _ _ _), tt)

pub put_stmt-put_for-requires : goal.put_stmt-put_for-requires
put_stmt-put_for-requires t c = (omega (arith, c.decreases, ap views.size-Stmt c.in-For.is ∙ views.sized-For _ _ _ _ _ _), tt)

pub put_stmt-put_some-requires : goal.put_stmt-put_some-requires
put_stmt-put_some-requires t c = (omega (arith, c.decreases, ap views.size-Stmt c.in-Some.is ∙ views.sized-Some _ _ _ _ _), tt)

pub put_stmt-put_case-requires : goal.put_stmt-put_case-requires
put_stmt-put_case-requires t c = (
  omega (
    arith,
    c.decreases,
    ap views.size-Stmt c.in-Case.is ∙ views.sized-Case _ _ _ _ _,
    ap views.size-Arm c.deref-in-Case.ensures,
    ap (most views.size-Arm) c.deref-in-Case-2.ensures.value,
  ),
  tt,
)

pub put_stmt-put_either-requires : goal.put_stmt-put_either-requires
put_stmt-put_either-requires t c = (
  omega (
    arith,
    c.decreases,
    ap views.size-Stmt c.in-Either.is ∙ views.sized-Either _ _ _,
    ap (most views.size-Stmts) c.deref-in-Either.ensures.value,
  ),
  tt,
)

pub put_stmt-put_forall-requires : goal.put_stmt-put_forall-requires
put_stmt-put_forall-requires t c = (omega (arith, c.decreases, ap views.size-Stmt c.in-Forall.is ∙ views.sized-Forall _ _ _), tt)

pub put_stmt-put_commit-requires : goal.put_stmt-put_commit-requires
put_stmt-put_commit-requires t c = (omega (arith, c.decreases, ap views.size-Stmt c.in-Commit.is ∙ views.sized-Commit _ _), tt)

pub put_stmt-put_return-requires : goal.put_stmt-put_return-requires
put_stmt-put_return-requires t c = (omega (arith, c.decreases, ap views.size-Stmt c.in-Return.is ∙ views.sized-Return _ _), tt)

pub put_stmt-put_read-requires : goal.put_stmt-put_read-requires
put_stmt-put_read-requires t c = (
  omega (
    arith,
    c.decreases,
    ap views.size-Stmt c.in-Read.is ∙ views.sized-Read _ _ _,
    ap (most views.size-Desig) c.deref-in-Read.ensures.value,
  ),
  tt,
)

pub put_stmt-put_write-requires : goal.put_stmt-put_write-requires
put_stmt-put_write-requires t c = (omega (arith, c.decreases, ap views.size-Stmt c.in-Write.is ∙ views.sized-Write _ _), tt)

pub put_stmt-put_writeln-requires : goal.put_stmt-put_writeln-requires
put_stmt-put_writeln-requires t c = (omega (arith, c.decreases, ap views.size-Stmt c.in-Writeln.is ∙ views.sized-Writeln _ _), tt)

pub put_arm-put_label-requires : goal.put_arm-put_label-requires
put_arm-put_label-requires t c = (omega (arith, c.decreases, ap views.size-Arm c.in-Labelled.is ∙ views.sized-Labelled _ _ _ _), tt)

pub put_arm-put_label_tail-requires : goal.put_arm-put_label_tail-requires
put_arm-put_label_tail-requires t c = (
  omega (
    arith,
    c.decreases,
    ap views.size-Arm c.in-Labelled.is ∙ views.sized-Labelled _ _ _ _,
    ap (most views.size-Label) c.deref.ensures.value,
  ),
  tt,
)

pub put_arm-put_stmts-requires : goal.put_arm-put_stmts-requires
put_arm-put_stmts-requires t c = (omega (arith, c.decreases, ap views.size-Arm c.in-Labelled.is ∙ views.sized-Labelled _ _ _ _), tt)

pub put_factor-put_primary-requires : goal.put_factor-put_primary-requires
put_factor-put_primary-requires t c = (omega (arith, c.decreases, ap views.size-Factor c.in-Not.is ∙ views.sized-Not _ _), tt)

pub put_factor-put_primary-requires-in-Plain : goal.put_factor-put_primary-requires-in-Plain
put_factor-put_primary-requires-in-Plain t c = (omega (arith, c.decreases, ap views.size-Factor c.in-Plain.is ∙ views.sized-Plain _ _), tt)

pub put_primary-put_desig-requires : goal.put_primary-put_desig-requires
put_primary-put_desig-requires t c = (omega (arith, c.decreases, ap views.size-Primary c.in-Desig.is ∙ views.sized-Desig _ _ _), tt)

pub put_primary-put_args-requires : goal.put_primary-put_args-requires
put_primary-put_args-requires t c = (omega (arith, c.decreases, ap views.size-Primary c.in-Desig.is ∙ views.sized-Desig _ _ _), tt)

pub put_primary-put_stmts-requires : goal.put_primary-put_stmts-requires
put_primary-put_stmts-requires t c =
    (omega (arith, c.decreases, ap views.size-Primary c.in-Paren.is ∙ views.sized-Paren _ _, ap views.size-Stmts c.deref.ensures), tt)

pub put_primary-put_desig-requires-in-Known : goal.put_primary-put_desig-requires-in-Known
put_primary-put_desig-requires-in-Known t c = (omega (arith, c.decreases, ap views.size-Primary c.in-Known.is ∙ views.sized-Known _ _), tt)

pub put_primary-put_expr-requires : goal.put_primary-put_expr-requires
put_primary-put_expr-requires t c =
    (omega (arith, c.decreases, ap views.size-Primary c.in-Ord.is ∙ views.sized-Ord _ _, ap views.size-Expr c.deref-in-Ord.ensures), tt)

pub put_primary-put_expr-requires-in-Chr : goal.put_primary-put_expr-requires-in-Chr
put_primary-put_expr-requires-in-Chr t c =
    (omega (arith, c.decreases, ap views.size-Primary c.in-Chr.is ∙ views.sized-Chr _ _, ap views.size-Expr c.deref-in-Chr.ensures), tt)

pub put_selector-put_exprs-requires : goal.put_selector-put_exprs-requires
put_selector-put_exprs-requires t c = (omega (arith, c.decreases, ap views.size-Selector c.in-Index.is ∙ views.sized-Index _ _), tt)

pub put_label-put_expr-requires : goal.put_label-put_expr-requires
put_label-put_expr-requires t c = (
  omega (
    arith,
    c.decreases,
    views.size_roll-Label (dl.out-Label c.args.tree.now),
    ap views.size-Label (dl.roll-out-Label c.args.tree.now),
  ),
  tt,
)

pub put_label-put_high-requires : goal.put_label-put_high-requires
put_label-put_high-requires t c = (
  omega (
    arith,
    c.decreases,
    views.size_roll-Label (dl.out-Label c.args.tree.now),
    ap views.size-Label (dl.roll-out-Label c.args.tree.now),
  ),
  tt,
)

pub put_expr-put_simple-requires : goal.put_expr-put_simple-requires
put_expr-put_simple-requires t c = (
  omega (arith, c.decreases, views.size_roll-Expr (de.out-Expr c.args.tree.now), ap views.size-Expr (de.roll-out-Expr c.args.tree.now)),
  tt,
)

pub put_expr-put_compared-requires : goal.put_expr-put_compared-requires
put_expr-put_compared-requires t c = (
  omega (arith, c.decreases, views.size_roll-Expr (de.out-Expr c.args.tree.now), ap views.size-Expr (de.roll-out-Expr c.args.tree.now)),
  tt,
)

pub put_simple-put_term-requires : goal.put_simple-put_term-requires
put_simple-put_term-requires t c = (
  omega (
    arith,
    c.decreases,
    views.size_roll-Simple (di.out-Simple c.args.tree.now),
    ap views.size-Simple (di.roll-out-Simple c.args.tree.now),
    ap views.size-Term c.deref.ensures,
  ),
  tt,
)

pub put_simple-put_term_tail-requires : goal.put_simple-put_term_tail-requires
put_simple-put_term_tail-requires t c = (
  omega (
    arith,
    c.decreases,
    views.size_roll-Simple (di.out-Simple c.args.tree.now),
    ap views.size-Simple (di.roll-out-Simple c.args.tree.now),
    ap (most views.size-AddLink) c.deref-2.ensures.value,
  ),
  tt,
)

pub put_term-put_factor-requires : goal.put_term-put_factor-requires
put_term-put_factor-requires t c = (
  omega (arith, c.decreases, views.size_roll-Term (dm.out-Term c.args.tree.now), ap views.size-Term (dm.roll-out-Term c.args.tree.now)),
  tt,
)

pub put_term-put_factor_tail-requires : goal.put_term-put_factor_tail-requires
put_term-put_factor_tail-requires t c = (
  omega (
    arith,
    c.decreases,
    views.size_roll-Term (dm.out-Term c.args.tree.now),
    ap views.size-Term (dm.roll-out-Term c.args.tree.now),
    ap (most views.size-MulLink) c.deref.ensures.value,
  ),
  tt,
)

pub put_exprs-put_expr-requires : goal.put_exprs-put_expr-requires
put_exprs-put_expr-requires t c = (
  omega (
    arith,
    c.decreases,
    views.size_roll-Exprs (dx.out-Exprs c.args.tree.now),
    ap views.size-Exprs (dx.roll-out-Exprs c.args.tree.now),
    ap views.size-Expr c.deref.ensures,
  ),
  tt,
)

pub put_exprs-put_expr_tail-requires : goal.put_exprs-put_expr_tail-requires
put_exprs-put_expr_tail-requires t c = (
  omega (
    arith,
    c.decreases,
    views.size_roll-Exprs (dx.out-Exprs c.args.tree.now),
    ap views.size-Exprs (dx.roll-out-Exprs c.args.tree.now),
    ap (most views.size-Expr) c.deref-2.ensures.value,
  ),
  tt,
)

pub put_else-put_stmts-requires : goal.put_else-put_stmts-requires
put_else-put_stmts-requires t c = (omega (arith, c.decreases, ap (shapes.weighed-Stmt-If-4.weight _ ds.size-Stmts) c.in-Some.is), tt)

pub put_by-put_expr-requires : goal.put_by-put_expr-requires
put_by-put_expr-requires t c = (omega (arith, c.decreases, ap (shapes.weighed-Stmt-For-4.weight _ de.size-Expr) c.in-Some.is), tt)

pub put_returned-put_expr-requires : goal.put_returned-put_expr-requires
put_returned-put_expr-requires t c = (omega (arith, c.decreases, ap (shapes.weighed-Stmt-For-4.weight _ de.size-Expr) c.in-Some.is), tt)

pub put_high-put_expr-requires : goal.put_high-put_expr-requires
put_high-put_expr-requires t c = (omega (arith, c.decreases, ap (shapes.weighed-Stmt-For-4.weight _ de.size-Expr) c.in-Some.is), tt)

pub put_elsif_tail-put_expr-requires : goal.put_elsif_tail-put_expr-requires
put_elsif_tail-put_expr-requires t c = (
  omega (
    arith,
    c.decreases,
    at_most df.size-Elsif c.args.trees.now c.loop-tree.tree-index c.tree-item.result c.loop-tree-test.true,
    ap df.size-Elsif c.tree-item.is,
    views.size_roll-Elsif (df.out-Elsif c.tree-item.result),
    ap views.size-Elsif (df.roll-out-Elsif c.tree-item.result),
  ),
  tt,
)

pub put_elsif_tail-put_stmts-requires : goal.put_elsif_tail-put_stmts-requires
put_elsif_tail-put_stmts-requires t c = (
  omega (
    arith,
    c.decreases,
    at_most df.size-Elsif c.args.trees.now c.loop-tree.tree-index c.tree-item.result c.loop-tree-test.true,
    ap df.size-Elsif c.tree-item.is,
    views.size_roll-Elsif (df.out-Elsif c.tree-item.result),
    ap views.size-Elsif (df.roll-out-Elsif c.tree-item.result),
  ),
  tt,
)

pub put_term_tail-put_term-requires : goal.put_term_tail-put_term-requires
put_term_tail-put_term-requires t c = (
  omega (
    arith,
    c.decreases,
    at_most dk.size-AddLink c.args.trees.now c.loop-tree.tree-index c.tree-item.result c.loop-tree-test.true,
    ap dk.size-AddLink c.tree-item.is,
    views.size_roll-AddLink (dk.out-AddLink c.tree-item.result),
    ap views.size-AddLink (dk.roll-out-AddLink c.tree-item.result),
  ),
  tt,
)

pub put_stmts-put_stmt-requires : goal.put_stmts-put_stmt-requires
put_stmts-put_stmt-requires t c = (omega (arith, c.decreases, ap views.size-Stmt c.deref.ensures, ds.size_is-Stmts c.args.tree.now), tt)

pub put_stmts-put_stmt_tail-requires : goal.put_stmts-put_stmt_tail-requires
put_stmts-put_stmt_tail-requires t c =
    (omega (arith, c.decreases, ap (most views.size-Stmt) c.deref-2.ensures.value, ds.size_is-Stmts c.args.tree.now), tt)

pub put_desig-put_selector_tail-requires : goal.put_desig-put_selector_tail-requires
put_desig-put_selector_tail-requires t c =
    (omega (arith, c.decreases, ap (most views.size-Selector) c.deref.ensures.value, dd.size_is-Desig c.args.tree.now), tt)

pub put_factor_tail-put_factor-requires : goal.put_factor_tail-put_factor-requires
put_factor_tail-put_factor-requires t c = (
  omega (
    arith,
    c.decreases,
    at_most dn.size-MulLink c.args.trees.now c.loop-tree.tree-index c.tree-item.result c.loop-tree-test.true,
    ap dn.size-MulLink c.tree-item.is,
    dn.size_is-MulLink c.tree-item.result,
  ),
  tt,
)

pub put_compared-put_simple-requires : goal.put_compared-put_simple-requires
put_compared-put_simple-requires t c = (
  omega (
    arith,
    c.decreases,
    ap (shapes.weighed-Expr-right.weight _ dc.size-Compared) c.in-Some.is,
    ap dc.size-Compared c.deref-in-Some.ensures,
    views.size_roll-Compared (dc.out-Compared c.deref-in-Some.result.now),
    ap dc.size-Compared (dc.roll-out-Compared c.deref-in-Some.result.now),
  ),
  tt,
)
