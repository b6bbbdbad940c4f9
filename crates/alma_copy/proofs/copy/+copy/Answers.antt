-- A copy is made of the copies of its parts; each part is smaller than what it stands in.
use Rattle.std.proofs.Common.{ap, ◌∙◌, refl, arith, w64, rules}
use Rattle.std.proofs.lemmas.Int.{to_z-of_z}
use Rattle.alma_copy.specs.Numbers.{moves_of}
use Rattle.alma_copy.proofs.Copies
use Rattle.alma_copy.proofs.Copies.{held, next, next_part, ended, by_stmts, by_tests, by_args, by_sels, by_links, by_arms, by_cases}
use Rattle.alma_copy.proofs.Copies.{by_branches, by_expr, by_test, of_stmt, of_test, of_arg, of_sel, of_link, of_arm, of_case, of_branch}
use Rattle.alma_copy.proofs.Copies.{stmt_copy, test_copy, arg_copy, sel_copy, link_copy, arm_copy, case_copy, branch_copy}
use Rattle.alma_ir.specs.declared.phrase.Stmt as S
use Rattle.alma_ir.specs.declared.phrase.Arg.TheViews as views
use denote.Param.Weighed.{most, at_most}
use Rattle.alma_copy.proofs.copy.+copy.Goals as goal

pub copy_stmt-returns-in_ok-copy_test-in-Test : goal.copy_stmt-returns-in_ok-copy_test-in-Test
copy_stmt-returns-in_ok-copy_test-in-Test t c =
    Copies.teststmt_copy (moves_of c.args.moves.now) _ _ _ c.in-Test.is c.in_ok-copy_test-in-Test.ensures

pub copy_stmt-returns-in_ok-desig-in-Assign : goal.copy_stmt-returns-in_ok-desig-in-Assign
copy_stmt-returns-in_ok-desig-in-Assign t c =
    Copies.assign_copy (moves_of c.args.moves.now) _ _ _ _ _ _ c.in-Assign.is
    (held _ _ _ c.copy_desig.ensures c.in_ok-desig-in-Assign.ensures.0)
    (held _ _ _ c.copy_expr-value.ensures c.in_ok-desig-in-Assign.ensures.1)

pub copy_stmt-returns-in_ok-desig-in-CopyCells : goal.copy_stmt-returns-in_ok-desig-in-CopyCells
copy_stmt-returns-in_ok-desig-in-CopyCells t c =
    Copies.copycells_copy (moves_of c.args.moves.now) _ _ _ _ _ c.in-CopyCells.is
    (held _ _ _ c.copy_desig-in-CopyCells.ensures c.in_ok-desig-in-CopyCells.ensures.0)
    (held _ _ _ c.copy_desig-from.ensures c.in_ok-desig-in-CopyCells.ensures.1)

pub copy_stmt-returns-in_ok-arms-in-If : goal.copy_stmt-returns-in_ok-arms-in-If
copy_stmt-returns-in_ok-arms-in-If t c =
    Copies.if_copy (moves_of c.args.moves.now) _ _ _ _ _ c.in-If.is
    ((held _ _ _ c.copy_arms.ensures c.in_ok-arms-in-If.ensures.0) ∙ ap (by_arms (moves_of c.args.moves.now)) c.deref-in-If.ensures.value)
    ((held _ _ _ c.copy_stmts-rest.ensures c.in_ok-arms-in-If.ensures.1) ∙ ap (by_stmts (moves_of c.args.moves.now)) c.deref.ensures.value)

pub copy_stmt-returns-in_ok-test-in-While : goal.copy_stmt-returns-in_ok-test-in-While
copy_stmt-returns-in_ok-test-in-While t c =
    Copies.while_copy (moves_of c.args.moves.now) _ _ _ _ _ c.in-While.is
    (held _ _ _ c.copy_test-in-While.ensures c.in_ok-test-in-While.ensures.0)
    ((held _ _ _ c.copy_stmts-body.ensures c.in_ok-test-in-While.ensures.1) ∙ ap (by_stmts (moves_of c.args.moves.now))
    c.deref-in-While.ensures.value)

pub copy_stmt-returns-in_ok-body-in-Repeat : goal.copy_stmt-returns-in_ok-body-in-Repeat
copy_stmt-returns-in_ok-body-in-Repeat t c =
    Copies.repeat_copy (moves_of c.args.moves.now) _ _ _ _ _ c.in-Repeat.is
    ((held _ _ _ c.copy_stmts.ensures c.in_ok-body-in-Repeat.ensures.0) ∙ ap (by_stmts (moves_of c.args.moves.now))
    c.deref-in-Repeat.ensures.value) (held _ _ _ c.copy_test-test.ensures c.in_ok-body-in-Repeat.ensures.1)

pub copy_stmt-returns-in_ok-copy_loop-in-ForTo : goal.copy_stmt-returns-in_ok-copy_loop-in-ForTo
copy_stmt-returns-in_ok-copy_loop-in-ForTo t c =
    Copies.forto_copy (moves_of c.args.moves.now) _ _ _ c.in-ForTo.is c.in_ok-copy_loop-in-ForTo.ensures

pub copy_stmt-returns-in_ok-copy_loop-in-SomeOf : goal.copy_stmt-returns-in_ok-copy_loop-in-SomeOf
copy_stmt-returns-in_ok-copy_loop-in-SomeOf t c =
    Copies.someof_copy (moves_of c.args.moves.now) _ _ _ c.in-SomeOf.is c.in_ok-copy_loop-in-SomeOf.ensures

pub copy_stmt-returns-in-None : goal.copy_stmt-returns-in-None
copy_stmt-returns-in-None t c =
    Copies.case_none_copy (moves_of c.args.moves.now) _ _ _ _ _ (c.in-Case.is ∙ ap (S.Case _ _) c.in-None.is)
    (held _ _ _ c.copy_expr.ensures c.in_ok-value-in-Case.ensures.0)
    ((held _ _ _ c.copy_cases-arms.ensures c.in_ok-value-in-Case.ensures.1) ∙ ap (by_cases (moves_of c.args.moves.now))
    c.deref-in-Case.ensures.value)

pub copy_stmt-returns-in_ok-copy_stmts-in-Some : goal.copy_stmt-returns-in_ok-copy_stmts-in-Some
copy_stmt-returns-in_ok-copy_stmts-in-Some t c =
    Copies.case_some_copy (moves_of c.args.moves.now) _ _ _ _ _ _ _ (c.in-Case.is ∙ ap (S.Case _ _) c.in-Some.is)
    (held _ _ _ c.copy_expr.ensures c.in_ok-value-in-Case.ensures.0)
    ((held _ _ _ c.copy_cases-arms.ensures c.in_ok-value-in-Case.ensures.1) ∙ ap (by_cases (moves_of c.args.moves.now))
    c.deref-in-Case.ensures.value)
    (c.in_ok-copy_stmts-in-Some.ensures ∙ ap (by_stmts (moves_of c.args.moves.now)) c.deref-in-Some.ensures.value)

pub copy_stmt-returns-in_ok-copy_branches-in-Either : goal.copy_stmt-returns-in_ok-copy_branches-in-Either
copy_stmt-returns-in_ok-copy_branches-in-Either t c =
    Copies.either_copy (moves_of c.args.moves.now) _ _ _ c.in-Either.is
    (c.in_ok-copy_branches-in-Either.ensures ∙ ap (by_branches (moves_of c.args.moves.now)) c.deref-in-Either.ensures.value)

pub copy_stmt-returns-in_ok-each-in-Forall : goal.copy_stmt-returns-in_ok-each-in-Forall
copy_stmt-returns-in_ok-each-in-Forall t c =
    Copies.forall_copy (moves_of c.args.moves.now) _ _ _ _ _ c.in-Forall.is
    ((held _ _ _ c.copy_stmts-in-Forall.ensures c.in_ok-each-in-Forall.ensures.0) ∙ ap (by_stmts (moves_of c.args.moves.now))
    c.deref-in-Forall-2.ensures.value)
    ((held _ _ _ c.copy_stmts-body-in-Forall.ensures c.in_ok-each-in-Forall.ensures.1) ∙ ap (by_stmts (moves_of c.args.moves.now))
    c.deref-in-Forall.ensures.value)

pub copy_stmt-returns-in_ok-copy_stmts-in-Commit : goal.copy_stmt-returns-in_ok-copy_stmts-in-Commit
copy_stmt-returns-in_ok-copy_stmts-in-Commit t c =
    Copies.commit_copy (moves_of c.args.moves.now) _ _ _ c.in-Commit.is
    (c.in_ok-copy_stmts-in-Commit.ensures ∙ ap (by_stmts (moves_of c.args.moves.now)) c.deref-in-Commit.ensures.value)

pub copy_stmt-returns-in-None-value : goal.copy_stmt-returns-in-None-value
copy_stmt-returns-in-None-value t c =
    Copies.return_none_copy (moves_of c.args.moves.now) _ (c.in-Return.is ∙ ap S.Return c.in-None-value.is)

pub copy_stmt-returns-in_ok-copy_expr-in-Some-value : goal.copy_stmt-returns-in_ok-copy_expr-in-Some-value
copy_stmt-returns-in_ok-copy_expr-in-Some-value t c =
    Copies.return_some_copy (moves_of c.args.moves.now) _ _ _ (c.in-Return.is ∙ ap S.Return c.in-Some-value.is)
    c.in_ok-copy_expr-in-Some-value.ensures

pub copy_stmt-returns-in_ok-copy_desig-in-Read : goal.copy_stmt-returns-in_ok-copy_desig-in-Read
copy_stmt-returns-in_ok-copy_desig-in-Read t c =
    Copies.read_copy (moves_of c.args.moves.now) _ _ _ _ _ c.in-Read.is c.in_ok-copy_desig-in-Read.ensures

pub copy_stmt-returns-in_ok-copy_expr-in-WriteExpr : goal.copy_stmt-returns-in_ok-copy_expr-in-WriteExpr
copy_stmt-returns-in_ok-copy_expr-in-WriteExpr t c =
    Copies.writeexpr_copy (moves_of c.args.moves.now) _ _ _ _ c.in-WriteExpr.is c.in_ok-copy_expr-in-WriteExpr.ensures

pub copy_stmt-returns-in_ok-to_vec-in-WriteText : goal.copy_stmt-returns-in_ok-to_vec-in-WriteText
copy_stmt-returns-in_ok-to_vec-in-WriteText t c =
    Copies.writetext_copy (moves_of c.args.moves.now) _ _ _ c.in-WriteText.is
    (c.in_ok-to_vec-in-WriteText.ensures.items_if_clones_equal (λ x y e. e) ∙ c.deref-in-WriteText.ensures.value)

pub copy_stmt-returns-in-WriteLine : goal.copy_stmt-returns-in-WriteLine
copy_stmt-returns-in-WriteLine t c = Copies.writeline_copy (moves_of c.args.moves.now) _ c.in-WriteLine.is

pub copy_test-returns-in_ok-copy_expr-in-Value : goal.copy_test-returns-in_ok-copy_expr-in-Value
copy_test-returns-in_ok-copy_expr-in-Value t c =
    Copies.value_copy (moves_of c.args.moves.now) _ _ _ c.in-Value.is c.in_ok-copy_expr-in-Value.ensures

pub copy_test-returns-in_ok-desig-in-Bind : goal.copy_test-returns-in_ok-desig-in-Bind
copy_test-returns-in_ok-desig-in-Bind t c =
    Copies.bind_copy (moves_of c.args.moves.now) _ _ _ _ _ _ _ c.in-Bind.is
    (held _ _ _ c.copy_desig.ensures c.in_ok-desig-in-Bind.ensures.0) (held _ _ _ c.copy_expr-value.ensures c.in_ok-desig-in-Bind.ensures.1)

pub copy_test-returns-in_ok-left-in-Unify : goal.copy_test-returns-in_ok-left-in-Unify
copy_test-returns-in_ok-left-in-Unify t c =
    Copies.unify_copy (moves_of c.args.moves.now) _ _ _ _ _ _ _ c.in-Unify.is
    (held _ _ _ c.copy_desig-in-Unify.ensures c.in_ok-left-in-Unify.ensures.0)
    (held _ _ _ c.copy_desig-right.ensures c.in_ok-left-in-Unify.ensures.1)

pub copy_test-returns-in_ok-left-in-SameCells : goal.copy_test-returns-in_ok-left-in-SameCells
copy_test-returns-in_ok-left-in-SameCells t c =
    Copies.samecells_copy (moves_of c.args.moves.now) _ _ _ _ _ c.in-SameCells.is
    (held _ _ _ c.copy_desig-in-SameCells.ensures c.in_ok-left-in-SameCells.ensures.0)
    (held _ _ _ c.copy_desig-right-in-SameCells.ensures c.in_ok-left-in-SameCells.ensures.1)

pub copy_test-returns-in_ok-copy_stmts-in-Seq : goal.copy_test-returns-in_ok-copy_stmts-in-Seq
copy_test-returns-in_ok-copy_stmts-in-Seq t c =
    Copies.seq_copy (moves_of c.args.moves.now) _ _ _ c.in-Seq.is
    (c.in_ok-copy_stmts-in-Seq.ensures ∙ ap (by_stmts (moves_of c.args.moves.now)) c.deref.ensures.value)

pub copy_test-returns-in_ok-copy_tests-in-And : goal.copy_test-returns-in_ok-copy_tests-in-And
copy_test-returns-in_ok-copy_tests-in-And t c =
    Copies.and_copy (moves_of c.args.moves.now) _ _ _ c.in-And.is
    (c.in_ok-copy_tests-in-And.ensures ∙ ap (by_tests (moves_of c.args.moves.now)) c.deref-in-And.ensures.value)

pub copy_test-returns-in_ok-copy_tests-in-Or : goal.copy_test-returns-in_ok-copy_tests-in-Or
copy_test-returns-in_ok-copy_tests-in-Or t c =
    Copies.or_copy (moves_of c.args.moves.now) _ _ _ c.in-Or.is
    (c.in_ok-copy_tests-in-Or.ensures ∙ ap (by_tests (moves_of c.args.moves.now)) c.deref-in-Or.ensures.value)

pub copy_test-returns-in_ok-boxed-in-Not : goal.copy_test-returns-in_ok-boxed-in-Not
copy_test-returns-in_ok-boxed-in-Not t c =
    Copies.not_copy (moves_of c.args.moves.now) _ _ _ c.in-Not.is
    ((held _ _ _ c.copy_test.ensures c.in_ok-boxed-in-Not.ensures) ∙ ap (by_test (moves_of c.args.moves.now)) c.deref-in-Not.ensures)

pub copy_test-returns-in_ok-copy_args-in-Call : goal.copy_test-returns-in_ok-copy_args-in-Call
copy_test-returns-in_ok-copy_args-in-Call t c =
    Copies.calltest_copy (moves_of c.args.moves.now) _ _ _ c.in-Call.is c.copy_number.ensures
    (c.in_ok-copy_args-in-Call.ensures ∙ ap (by_args (moves_of c.args.moves.now)) c.deref-in-Call.ensures.value) refl

pub copy_expr-returns-in-Const : goal.copy_expr-returns-in-Const
copy_expr-returns-in-Const t c = Copies.const_copy (moves_of c.args.moves.now) _ _ _ c.in-Const.is (to_z-of_z w64 _ (search rules))

pub copy_expr-returns-in_ok-copy_desig-in-Load : goal.copy_expr-returns-in_ok-copy_desig-in-Load
copy_expr-returns-in_ok-copy_desig-in-Load t c =
    Copies.load_copy (moves_of c.args.moves.now) _ _ _ c.in-Load.is c.in_ok-copy_desig-in-Load.ensures

pub copy_expr-returns-in_ok-first-in-Chain : goal.copy_expr-returns-in_ok-first-in-Chain
copy_expr-returns-in_ok-first-in-Chain t c =
    Copies.chain_copy (moves_of c.args.moves.now) _ _ _ _ _ _ c.in-Chain.is
    ((held _ _ _ c.copy_expr.ensures (held _ _ _ c.boxed-first.ensures c.in_ok-first-in-Chain.ensures.0))
    ∙ ap (by_expr (moves_of c.args.moves.now)) c.deref.ensures)
    ((held _ _ _ c.copy_links.ensures c.in_ok-first-in-Chain.ensures.1) ∙ ap (by_links (moves_of c.args.moves.now))
    c.deref-in-Chain.ensures.value)

pub copy_expr-returns-in_ok-left-in-Compare : goal.copy_expr-returns-in_ok-left-in-Compare
copy_expr-returns-in_ok-left-in-Compare t c =
    Copies.compare_copy (moves_of c.args.moves.now) _ _ _ _ _ _ c.in-Compare.is
    ((held _ _ _ c.copy_expr-in-Compare.ensures (held _ _ _ c.boxed-left.ensures c.in_ok-left-in-Compare.ensures.0))
    ∙ ap (by_expr (moves_of c.args.moves.now)) c.deref-in-Compare.ensures)
    ((held _ _ _ c.copy_expr-in-Compare-2.ensures (held _ _ _ c.boxed-right.ensures c.in_ok-left-in-Compare.ensures.1))
    ∙ ap (by_expr (moves_of c.args.moves.now)) c.deref-in-Compare-2.ensures)

pub copy_expr-returns-in_ok-boxed-in-Truth : goal.copy_expr-returns-in_ok-boxed-in-Truth
copy_expr-returns-in_ok-boxed-in-Truth t c =
    Copies.truth_copy (moves_of c.args.moves.now) _ _ _ c.in-Truth.is
    ((held _ _ _ c.copy_test.ensures c.in_ok-boxed-in-Truth.ensures) ∙ ap (by_test (moves_of c.args.moves.now)) c.deref-in-Truth.ensures)

pub copy_expr-returns-in_ok-copy_desig-in-Known : goal.copy_expr-returns-in_ok-copy_desig-in-Known
copy_expr-returns-in_ok-copy_desig-in-Known t c =
    Copies.known_copy (moves_of c.args.moves.now) _ _ _ c.in-Known.is c.in_ok-copy_desig-in-Known.ensures

pub copy_expr-returns-in_ok-boxed-in-Chr : goal.copy_expr-returns-in_ok-boxed-in-Chr
copy_expr-returns-in_ok-boxed-in-Chr t c =
    Copies.chr_copy (moves_of c.args.moves.now) _ _ _ c.in-Chr.is
    ((held _ _ _ c.copy_expr-in-Chr.ensures c.in_ok-boxed-in-Chr.ensures) ∙ ap (by_expr (moves_of c.args.moves.now)) c.deref-in-Chr.ensures)

pub copy_expr-returns-in_ok-copy_args-in-Call : goal.copy_expr-returns-in_ok-copy_args-in-Call
copy_expr-returns-in_ok-copy_args-in-Call t c =
    Copies.callexpr_copy (moves_of c.args.moves.now) _ _ _ c.in-Call.is c.copy_number.ensures
    (c.in_ok-copy_args-in-Call.ensures ∙ ap (by_args (moves_of c.args.moves.now)) c.deref-in-Call.ensures.value) refl

pub copy_arg-returns-in_ok-copy_expr-in-Value : goal.copy_arg-returns-in_ok-copy_expr-in-Value
copy_arg-returns-in_ok-copy_expr-in-Value t c =
    Copies.byvalue_copy (moves_of c.args.moves.now) _ _ _ _ c.in-Value.is c.in_ok-copy_expr-in-Value.ensures

pub copy_arg-returns-in_ok-copy_desig-in-Cells : goal.copy_arg-returns-in_ok-copy_desig-in-Cells
copy_arg-returns-in_ok-copy_desig-in-Cells t c =
    Copies.bycells_copy (moves_of c.args.moves.now) _ _ _ c.in-Cells.is c.in_ok-copy_desig-in-Cells.ensures

pub copy_arg-returns-in_ok-copy_desig-in-Place : goal.copy_arg-returns-in_ok-copy_desig-in-Place
copy_arg-returns-in_ok-copy_desig-in-Place t c =
    Copies.byplace_copy (moves_of c.args.moves.now) _ _ _ c.in-Place.is c.in_ok-copy_desig-in-Place.ensures

pub copy_arg-returns-in_ok-copy_expr-in-MixValue : goal.copy_arg-returns-in_ok-copy_expr-in-MixValue
copy_arg-returns-in_ok-copy_expr-in-MixValue t c =
    Copies.mixvalue_copy (moves_of c.args.moves.now) _ _ _ _ c.in-MixValue.is c.in_ok-copy_expr-in-MixValue.ensures

pub copy_arg-returns-in_ok-copy_desig-in-MixPlace : goal.copy_arg-returns-in_ok-copy_desig-in-MixPlace
copy_arg-returns-in_ok-copy_desig-in-MixPlace t c =
    Copies.mixplace_copy (moves_of c.args.moves.now) _ _ _ c.in-MixPlace.is c.in_ok-copy_desig-in-MixPlace.ensures

pub copy_sel-returns-in-Field : goal.copy_sel-returns-in-Field
copy_sel-returns-in-Field t c = Copies.field_copy (moves_of c.args.moves.now) _ _ _ c.in-Field.is

pub copy_sel-returns-in_ok-copy_expr-in-Index : goal.copy_sel-returns-in_ok-copy_expr-in-Index
copy_sel-returns-in_ok-copy_expr-in-Index t c =
    Copies.index_copy (moves_of c.args.moves.now) _ _ _ _ _ c.in-Index.is c.in_ok-copy_expr-in-Index.ensures

-- ---- lists

pub copy_stmts-loop-stmt-preserved : goal.copy_stmts-loop-stmt-preserved
copy_stmts-loop-stmt-preserved t c =
    next_part of_stmt (stmt_copy (moves_of c.args.moves.now)) c.args.body.now c.loop-stmt.stmt-index c.stmt-item.result _ _ _
    c.loop-stmt-test.true c.stmt-item.is c.loop-stmt.invariant c.copy_stmt.ensures c.in_ok-push_part.ensures

pub copy_stmts-returns : goal.copy_stmts-returns
copy_stmts-returns t c =
    Copies.stmts_copy (moves_of c.args.moves.now) c.args.body.now _
    (ended of_stmt (stmt_copy (moves_of c.args.moves.now)) c.args.body.now c.loop-stmt.stmt-index _ c.loop-stmt-test.false
    c.loop-stmt.invariant)

pub copy_tests-loop-test-preserved : goal.copy_tests-loop-test-preserved
copy_tests-loop-test-preserved t c =
    next_part of_test (test_copy (moves_of c.args.moves.now)) c.args.tests.now c.loop-test.test-index c.test-item.result _ _ _
    c.loop-test-test.true c.test-item.is c.loop-test.invariant c.copy_test.ensures c.in_ok-push_part.ensures

pub copy_tests-returns : goal.copy_tests-returns
copy_tests-returns t c =
    Copies.tests_copy (moves_of c.args.moves.now) c.args.tests.now _
    (ended of_test (test_copy (moves_of c.args.moves.now)) c.args.tests.now c.loop-test.test-index _ c.loop-test-test.false
    c.loop-test.invariant)

pub copy_args-loop-arg-preserved : goal.copy_args-loop-arg-preserved
copy_args-loop-arg-preserved t c =
    next_part of_arg (arg_copy (moves_of c.args.moves.now)) c.args.args.now c.loop-arg.arg-index c.arg-item.result _ _ _
    c.loop-arg-test.true c.arg-item.is c.loop-arg.invariant c.copy_arg.ensures c.in_ok-push_part.ensures

pub copy_args-returns : goal.copy_args-returns
copy_args-returns t c =
    Copies.args_copy (moves_of c.args.moves.now) c.args.args.now _
    (ended of_arg (arg_copy (moves_of c.args.moves.now)) c.args.args.now c.loop-arg.arg-index _ c.loop-arg-test.false c.loop-arg.invariant)

pub copy_desig-loop-sel-preserved : goal.copy_desig-loop-sel-preserved
copy_desig-loop-sel-preserved t c =
    next_part of_sel (sel_copy (moves_of c.args.moves.now)) c.deref-sel-items.result.now c.loop-sel.sel-index c.sel-item.result _ _ _
    c.loop-sel-test.true c.sel-item.is c.loop-sel.invariant c.copy_sel.ensures c.in_ok-push_part.ensures

pub copy_links-loop-link-preserved : goal.copy_links-loop-link-preserved
copy_links-loop-link-preserved t c =
    next of_link (link_copy (moves_of c.args.moves.now)) c.args.links.now c.loop-link.link-index c.link-item.result _ _ _
    c.loop-link-test.true c.link-item.is c.loop-link.invariant (ap (λ e. (c.link-item.result.op, e)) c.in_ok-operand.ensures)
    c.in_ok-push.ensures.items

pub copy_links-returns : goal.copy_links-returns
copy_links-returns t c =
    Copies.links_copy (moves_of c.args.moves.now) c.args.links.now _
    (ended of_link (link_copy (moves_of c.args.moves.now)) c.args.links.now c.loop-link.link-index _ c.loop-link-test.false
    c.loop-link.invariant)

pub copy_arms-loop-arm-preserved : goal.copy_arms-loop-arm-preserved
copy_arms-loop-arm-preserved t c =
    next of_arm (arm_copy (moves_of c.args.moves.now)) c.args.arms.now c.loop-arm.arm-index c.arm-item.result _ _ _ c.loop-arm-test.true
    c.arm-item.is c.loop-arm.invariant
    (λ i. (
      held _ _ _ c.copy_test.ensures c.in_ok-cond.ensures.0 i,
      (held _ _ _ c.copy_stmts-body.ensures c.in_ok-cond.ensures.1 ∙ ap (by_stmts (moves_of c.args.moves.now)) c.deref.ensures.value) i,
    ))
    c.in_ok-push.ensures.items

pub copy_arms-returns : goal.copy_arms-returns
copy_arms-returns t c =
    Copies.arms_copy (moves_of c.args.moves.now) c.args.arms.now _
    (ended of_arm (arm_copy (moves_of c.args.moves.now)) c.args.arms.now c.loop-arm.arm-index _ c.loop-arm-test.false c.loop-arm.invariant)

pub copy_cases-loop-arm-preserved : goal.copy_cases-loop-arm-preserved
copy_cases-loop-arm-preserved t c =
    next of_case (case_copy (moves_of c.args.moves.now)) c.args.arms.now c.loop-arm.arm-index c.arm-item.result _ _ _ c.loop-arm-test.true
    c.arm-item.is c.loop-arm.invariant
    (λ i. (
      (held _ _ _ c.copy_ranges.ensures c.in_ok-labels.ensures.0 ∙ c.deref-in-loop-arm.ensures.value) i,
      (held _ _ _ c.copy_stmts-body.ensures c.in_ok-labels.ensures.1 ∙ ap (by_stmts (moves_of c.args.moves.now)) c.deref.ensures.value) i,
    ))
    c.in_ok-push.ensures.items

pub copy_cases-returns : goal.copy_cases-returns
copy_cases-returns t c =
    Copies.cases_copy (moves_of c.args.moves.now) c.args.arms.now _
    (ended of_case (case_copy (moves_of c.args.moves.now)) c.args.arms.now c.loop-arm.arm-index _ c.loop-arm-test.false
    c.loop-arm.invariant)

pub copy_branches-loop-branch-preserved : goal.copy_branches-loop-branch-preserved
copy_branches-loop-branch-preserved t c =
    next of_branch (branch_copy (moves_of c.args.moves.now)) c.args.branches.now c.loop-branch.branch-index c.branch-item.result _ _ _
    c.loop-branch-test.true c.branch-item.is c.loop-branch.invariant
    (c.in_ok-body.ensures ∙ ap (by_stmts (moves_of c.args.moves.now)) c.deref.ensures.value) c.in_ok-push.ensures.items

pub copy_branches-returns : goal.copy_branches-returns
copy_branches-returns t c =
    Copies.branches_copy (moves_of c.args.moves.now) c.args.branches.now _
    (ended of_branch (branch_copy (moves_of c.args.moves.now)) c.args.branches.now c.loop-branch.branch-index _ c.loop-branch-test.false
    c.loop-branch.invariant)

pub copy_desig-returns : goal.copy_desig-returns
copy_desig-returns t c =
    Copies.desig_copy (moves_of c.args.moves.now) c.args.desig.now _ _ _ c.in_ok-root.ensures refl
    (Copies.sels_copy (moves_of c.args.moves.now) c.deref-sel-items.result.now _
    (ended of_sel (sel_copy (moves_of c.args.moves.now)) c.deref-sel-items.result.now c.loop-sel.sel-index _ c.loop-sel-test.false
    c.loop-sel.invariant) ∙ ap (by_sels (moves_of c.args.moves.now)) c.deref-sel-items.ensures.value)

pub copy_loop-returns : goal.copy_loop-returns
copy_loop-returns t c =
    Copies.loop_copy (moves_of c.args.moves.now) c.args.each.now _ _ _ _ _ _ _ _ (held _ _ _ c.copy_desig.ensures c.in_ok-var.ensures.0)
    refl c.in_ok-counter.ensures c.in_ok-limit.ensures (held _ _ _ c.copy_expr-from.ensures c.in_ok-from.ensures.0)
    (held _ _ _ c.copy_expr-to.ensures c.in_ok-from.ensures.1) (to_z-of_z w64 _ (search rules))
    (held _ _ _ c.copy_stmts-body.ensures c.in_ok-var.ensures.1 ∙ ap (by_stmts (moves_of c.args.moves.now)) c.deref.ensures.value)

-- ---- the measure of each call

pub copy_stmt-copy_test-requires : goal.copy_stmt-copy_test-requires
copy_stmt-copy_test-requires t c = (omega (arith, c.decreases, ap views.size-Stmt c.in-Test.is ∙ views.sized-Test _), tt)

pub copy_stmt-copy_expr-value-requires : goal.copy_stmt-copy_expr-value-requires
copy_stmt-copy_expr-value-requires t c = (omega (arith, c.decreases, ap views.size-Stmt c.in-Assign.is ∙ views.sized-Assign _ _ _), tt)

pub copy_stmt-copy_desig-requires : goal.copy_stmt-copy_desig-requires
copy_stmt-copy_desig-requires t c = (omega (arith, c.decreases, ap views.size-Stmt c.in-Assign.is ∙ views.sized-Assign _ _ _), tt)

pub copy_stmt-copy_desig-from-requires : goal.copy_stmt-copy_desig-from-requires
copy_stmt-copy_desig-from-requires t c = (omega (arith, c.decreases, ap views.size-Stmt c.in-CopyCells.is ∙ views.sized-CopyCells _ _), tt)

pub copy_stmt-copy_desig-requires-in-CopyCells : goal.copy_stmt-copy_desig-requires-in-CopyCells
copy_stmt-copy_desig-requires-in-CopyCells t c =
    (omega (arith, c.decreases, ap views.size-Stmt c.in-CopyCells.is ∙ views.sized-CopyCells _ _), tt)

pub copy_stmt-copy_stmts-rest-requires : goal.copy_stmt-copy_stmts-rest-requires
copy_stmt-copy_stmts-rest-requires t c =
    (omega (arith, c.decreases, ap views.size-Stmt c.in-If.is ∙ views.sized-If _ _, ap (most views.size-Stmt) c.deref.ensures.value), tt)

pub copy_stmt-copy_arms-requires : goal.copy_stmt-copy_arms-requires
copy_stmt-copy_arms-requires t c = (
  omega (arith, c.decreases, ap views.size-Stmt c.in-If.is ∙ views.sized-If _ _, ap (most views.size-Arm) c.deref-in-If.ensures.value),
  tt,
)

pub copy_stmt-copy_stmts-body-requires : goal.copy_stmt-copy_stmts-body-requires
copy_stmt-copy_stmts-body-requires t c = (
  omega (
    arith,
    c.decreases,
    ap views.size-Stmt c.in-While.is ∙ views.sized-While _ _,
    ap (most views.size-Stmt)
        c.deref-in-While.ensures.value,
  ),
  tt,
)

pub copy_stmt-copy_test-requires-in-While : goal.copy_stmt-copy_test-requires-in-While
copy_stmt-copy_test-requires-in-While t c = (omega (arith, c.decreases, ap views.size-Stmt c.in-While.is ∙ views.sized-While _ _), tt)

pub copy_stmt-copy_test-test-requires : goal.copy_stmt-copy_test-test-requires
copy_stmt-copy_test-test-requires t c = (omega (arith, c.decreases, ap views.size-Stmt c.in-Repeat.is ∙ views.sized-Repeat _ _), tt)

pub copy_stmt-copy_stmts-requires : goal.copy_stmt-copy_stmts-requires
copy_stmt-copy_stmts-requires t c = (
  omega (
    arith,
    c.decreases,
    ap views.size-Stmt c.in-Repeat.is ∙ views.sized-Repeat _ _,
    ap (most views.size-Stmt)
        c.deref-in-Repeat.ensures.value,
  ),
  tt,
)

pub copy_stmt-copy_loop-requires : goal.copy_stmt-copy_loop-requires
copy_stmt-copy_loop-requires t c = (omega (arith, c.decreases, ap views.size-Stmt c.in-ForTo.is ∙ views.sized-ForTo _), tt)

pub copy_stmt-copy_loop-requires-in-SomeOf : goal.copy_stmt-copy_loop-requires-in-SomeOf
copy_stmt-copy_loop-requires-in-SomeOf t c = (omega (arith, c.decreases, ap views.size-Stmt c.in-SomeOf.is ∙ views.sized-SomeOf _), tt)

pub copy_stmt-copy_cases-arms-requires : goal.copy_stmt-copy_cases-arms-requires
copy_stmt-copy_cases-arms-requires t c = (
  omega (
    arith,
    c.decreases,
    ap views.size-Stmt c.in-Case.is ∙ views.sized-Case _ _ _,
    ap (most views.size-CaseArm)
        c.deref-in-Case.ensures.value,
  ),
  tt,
)

pub copy_stmt-copy_expr-requires : goal.copy_stmt-copy_expr-requires
copy_stmt-copy_expr-requires t c = (omega (arith, c.decreases, ap views.size-Stmt c.in-Case.is ∙ views.sized-Case _ _ _), tt)

pub copy_stmt-copy_branches-requires : goal.copy_stmt-copy_branches-requires
copy_stmt-copy_branches-requires t c = (
  omega (
    arith,
    c.decreases,
    ap views.size-Stmt c.in-Either.is ∙ views.sized-Either _,
    ap (most views.size-Branch)
        c.deref-in-Either.ensures.value,
  ),
  tt,
)

pub copy_stmt-copy_stmts-body-requires-in-Forall : goal.copy_stmt-copy_stmts-body-requires-in-Forall
copy_stmt-copy_stmts-body-requires-in-Forall t c = (
  omega (
    arith,
    c.decreases,
    ap views.size-Stmt c.in-Forall.is ∙ views.sized-Forall _ _,
    ap (most views.size-Stmt)
        c.deref-in-Forall.ensures.value,
  ),
  tt,
)

pub copy_stmt-copy_stmts-requires-in-Forall : goal.copy_stmt-copy_stmts-requires-in-Forall
copy_stmt-copy_stmts-requires-in-Forall t c = (
  omega (
    arith,
    c.decreases,
    ap views.size-Stmt c.in-Forall.is ∙ views.sized-Forall _ _,
    ap (most views.size-Stmt)
        c.deref-in-Forall-2.ensures.value,
  ),
  tt,
)

pub copy_stmt-copy_stmts-requires-in-Commit : goal.copy_stmt-copy_stmts-requires-in-Commit
copy_stmt-copy_stmts-requires-in-Commit t c = (
  omega (
    arith,
    c.decreases,
    ap views.size-Stmt c.in-Commit.is ∙ views.sized-Commit _,
    ap (most views.size-Stmt)
        c.deref-in-Commit.ensures.value,
  ),
  tt,
)

pub copy_stmt-copy_desig-requires-in-Read : goal.copy_stmt-copy_desig-requires-in-Read
copy_stmt-copy_desig-requires-in-Read t c = (omega (arith, c.decreases, ap views.size-Stmt c.in-Read.is ∙ views.sized-Read _ _ _), tt)

pub copy_stmt-copy_expr-requires-in-WriteExpr : goal.copy_stmt-copy_expr-requires-in-WriteExpr
copy_stmt-copy_expr-requires-in-WriteExpr t c =
    (omega (arith, c.decreases, ap views.size-Stmt c.in-WriteExpr.is ∙ views.sized-WriteExpr _ _), tt)

pub copy_test-copy_expr-requires : goal.copy_test-copy_expr-requires
copy_test-copy_expr-requires t c = (omega (arith, c.decreases, ap views.size-Test c.in-Value.is ∙ views.sized-Test::Value _), tt)

pub copy_test-copy_expr-value-requires : goal.copy_test-copy_expr-value-requires
copy_test-copy_expr-value-requires t c = (omega (arith, c.decreases, ap views.size-Test c.in-Bind.is ∙ views.sized-Bind _ _ _ _), tt)

pub copy_test-copy_desig-requires : goal.copy_test-copy_desig-requires
copy_test-copy_desig-requires t c = (omega (arith, c.decreases, ap views.size-Test c.in-Bind.is ∙ views.sized-Bind _ _ _ _), tt)

pub copy_test-copy_desig-right-requires : goal.copy_test-copy_desig-right-requires
copy_test-copy_desig-right-requires t c = (omega (arith, c.decreases, ap views.size-Test c.in-Unify.is ∙ views.sized-Unify _ _ _ _), tt)

pub copy_test-copy_desig-requires-in-Unify : goal.copy_test-copy_desig-requires-in-Unify
copy_test-copy_desig-requires-in-Unify t c = (omega (arith, c.decreases, ap views.size-Test c.in-Unify.is ∙ views.sized-Unify _ _ _ _), tt)

pub copy_test-copy_desig-right-requires-in-SameCells : goal.copy_test-copy_desig-right-requires-in-SameCells
copy_test-copy_desig-right-requires-in-SameCells t c =
    (omega (arith, c.decreases, ap views.size-Test c.in-SameCells.is ∙ views.sized-SameCells _ _), tt)

pub copy_test-copy_desig-requires-in-SameCells : goal.copy_test-copy_desig-requires-in-SameCells
copy_test-copy_desig-requires-in-SameCells t c =
    (omega (arith, c.decreases, ap views.size-Test c.in-SameCells.is ∙ views.sized-SameCells _ _), tt)

pub copy_test-copy_stmts-requires : goal.copy_test-copy_stmts-requires
copy_test-copy_stmts-requires t c =
    (omega (arith, c.decreases, ap views.size-Test c.in-Seq.is ∙ views.sized-Seq _, ap (most views.size-Stmt) c.deref.ensures.value), tt)

pub copy_test-copy_tests-requires : goal.copy_test-copy_tests-requires
copy_test-copy_tests-requires t c = (
  omega (
    arith,
    c.decreases,
    ap views.size-Test c.in-And.is ∙ views.sized-And _,
    ap (most views.size-Test)
        c.deref-in-And.ensures.value,
  ),
  tt,
)

pub copy_test-copy_tests-requires-in-Or : goal.copy_test-copy_tests-requires-in-Or
copy_test-copy_tests-requires-in-Or t c = (
  omega (arith, c.decreases, ap views.size-Test c.in-Or.is ∙ views.sized-Or _, ap (most views.size-Test) c.deref-in-Or.ensures.value),
  tt,
)

pub copy_test-copy_test-requires : goal.copy_test-copy_test-requires
copy_test-copy_test-requires t c =
    (omega (arith, c.decreases, ap views.size-Test c.in-Not.is ∙ views.sized-Not _, ap views.size-Test c.deref-in-Not.ensures), tt)

pub copy_expr-copy_desig-requires : goal.copy_expr-copy_desig-requires
copy_expr-copy_desig-requires t c = (omega (arith, c.decreases, ap views.size-Expr c.in-Load.is ∙ views.sized-Load _), tt)

pub copy_expr-copy_expr-requires : goal.copy_expr-copy_expr-requires
copy_expr-copy_expr-requires t c =
    (omega (arith, c.decreases, ap views.size-Expr c.in-Chain.is ∙ views.sized-Chain _ _ _, ap views.size-Expr c.deref.ensures), tt)

pub copy_expr-copy_links-requires : goal.copy_expr-copy_links-requires
copy_expr-copy_links-requires t c = (
  omega (
    arith,
    c.decreases,
    ap views.size-Expr c.in-Chain.is ∙ views.sized-Chain _ _ _,
    ap (most views.size-Link)
        c.deref-in-Chain.ensures.value,
  ),
  tt,
)

pub copy_expr-copy_expr-requires-in-Compare : goal.copy_expr-copy_expr-requires-in-Compare
copy_expr-copy_expr-requires-in-Compare t c = (
  omega (
    arith,
    c.decreases,
    ap views.size-Expr c.in-Compare.is ∙ views.sized-Compare _ _ _,
    ap views.size-Expr
        c.deref-in-Compare.ensures,
  ),
  tt,
)

pub copy_expr-copy_expr-requires-in-Compare-2 : goal.copy_expr-copy_expr-requires-in-Compare-2
copy_expr-copy_expr-requires-in-Compare-2 t c = (
  omega (
    arith,
    c.decreases,
    ap views.size-Expr c.in-Compare.is ∙ views.sized-Compare _ _ _,
    ap views.size-Expr
        c.deref-in-Compare-2.ensures,
  ),
  tt,
)

pub copy_expr-copy_test-requires : goal.copy_expr-copy_test-requires
copy_expr-copy_test-requires t c =
    (omega (arith, c.decreases, ap views.size-Expr c.in-Truth.is ∙ views.sized-Truth _, ap views.size-Test c.deref-in-Truth.ensures), tt)

pub copy_expr-copy_desig-requires-in-Known : goal.copy_expr-copy_desig-requires-in-Known
copy_expr-copy_desig-requires-in-Known t c = (omega (arith, c.decreases, ap views.size-Expr c.in-Known.is ∙ views.sized-Known _), tt)

pub copy_expr-copy_expr-requires-in-Chr : goal.copy_expr-copy_expr-requires-in-Chr
copy_expr-copy_expr-requires-in-Chr t c =
    (omega (arith, c.decreases, ap views.size-Expr c.in-Chr.is ∙ views.sized-Chr _, ap views.size-Expr c.deref-in-Chr.ensures), tt)

pub copy_arg-copy_expr-requires : goal.copy_arg-copy_expr-requires
copy_arg-copy_expr-requires t c = (omega (arith, c.decreases, ap views.size-Arg c.in-Value.is ∙ views.sized-Arg::Value _ _), tt)

pub copy_arg-copy_desig-requires : goal.copy_arg-copy_desig-requires
copy_arg-copy_desig-requires t c = (omega (arith, c.decreases, ap views.size-Arg c.in-Cells.is ∙ views.sized-Cells _), tt)

pub copy_arg-copy_desig-requires-in-Place : goal.copy_arg-copy_desig-requires-in-Place
copy_arg-copy_desig-requires-in-Place t c = (omega (arith, c.decreases, ap views.size-Arg c.in-Place.is ∙ views.sized-Place _), tt)

pub copy_arg-copy_expr-requires-in-MixValue : goal.copy_arg-copy_expr-requires-in-MixValue
copy_arg-copy_expr-requires-in-MixValue t c =
    (omega (arith, c.decreases, ap views.size-Arg c.in-MixValue.is ∙ views.sized-MixValue _ _), tt)

pub copy_arg-copy_desig-requires-in-MixPlace : goal.copy_arg-copy_desig-requires-in-MixPlace
copy_arg-copy_desig-requires-in-MixPlace t c = (omega (arith, c.decreases, ap views.size-Arg c.in-MixPlace.is ∙ views.sized-MixPlace _), tt)

pub copy_sel-copy_expr-requires : goal.copy_sel-copy_expr-requires
copy_sel-copy_expr-requires t c = (omega (arith, c.decreases, ap views.size-Sel c.in-Index.is ∙ views.sized-Index _ _ _), tt)

pub copy_stmts-copy_stmt-requires : goal.copy_stmts-copy_stmt-requires
copy_stmts-copy_stmt-requires t c = (
  omega (
    arith,
    c.decreases,
    at_most views.size-Stmt c.args.body.now c.loop-stmt.stmt-index c.stmt-item.result c.loop-stmt-test.true,
    ap views.size-Stmt c.stmt-item.is,
  ),
  tt,
)

pub copy_tests-copy_test-requires : goal.copy_tests-copy_test-requires
copy_tests-copy_test-requires t c = (
  omega (
    arith,
    c.decreases,
    at_most views.size-Test c.args.tests.now c.loop-test.test-index c.test-item.result c.loop-test-test.true,
    ap views.size-Test c.test-item.is,
  ),
  tt,
)

pub copy_args-copy_arg-requires : goal.copy_args-copy_arg-requires
copy_args-copy_arg-requires t c = (
  omega (
    arith,
    c.decreases,
    at_most views.size-Arg c.args.args.now c.loop-arg.arg-index c.arg-item.result c.loop-arg-test.true,
    ap
        views.size-Arg c.arg-item.is,
  ),
  tt,
)
