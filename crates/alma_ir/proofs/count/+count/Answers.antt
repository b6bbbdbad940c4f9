-- Each answer is the sum of its parts, stopped at 2^64-1, and the equation of what the value counts.
use Rattle.std.proofs.Common.{◌≡◌, ◌⊎◌, inl, inr, Vec, Global, ℕ, ◌+◌, length, refl, sym, ap, ◌∙◌, arith}
use Rattle.alma_ir.specs.declared.phrase.Stmt as S
use Rattle.alma_ir.specs.View.{sels_list}
use Rattle.alma_ir.specs.Count.{sels_nodes}
use Rattle.alma_ir.proofs.Counts
use Rattle.alma_ir.proofs.Counts.{of_stmt, of_test, of_expr, of_arg, of_sel, of_link, of_arm, of_case, of_branch, by_expr, by_test}
use Rattle.alma_ir.proofs.Counts.{by_stmts, by_tests, by_args, by_arms, by_cases, by_branches, by_links}
use Rattle.alma_ir.proofs.Saturated.{both, same, small, with_part, with_two, leaf, one_part, two_parts, turn, turn_above_one, next, ended}
use Rattle.alma_ir.proofs.Saturated.{ended_above_one}
use Rattle.alma_ir.specs.declared.phrase.Arg.TheViews as views
use denote.Param.Weighed.{most, at_most}
use Rattle.alma_ir.proofs.count.+count.Goals as goal

-- a statement that writes a text or a line
text_or_line : (s : S.Stmt) → ((v : Vec ℕ Global) × (s ≡ S.WriteText v)) ⊎ (s ≡ S.WriteLine) → of_stmt s ≡ 1
text_or_line s (inl h) = ap of_stmt h.1 ∙ Counts.writetext_nodes h.0
text_or_line s (inr h) = ap of_stmt h ∙ Counts.writeline_nodes

pub count_arg-returns-in-Value : goal.count_arg-returns-in-Value
count_arg-returns-in-Value t c =
    one_part _ _ _ _ (ap of_arg c.in-Value.is ∙ Counts.byvalue_nodes _ _) c.count_expr.ensures c.saturating_add.ensures

pub count_arg-returns-in-Cells : goal.count_arg-returns-in-Cells
count_arg-returns-in-Cells t c =
    one_part _ _ _ _ (ap of_arg c.in-Cells.is ∙ Counts.bycells_nodes _) c.count_desig.ensures c.saturating_add-in-Cells.ensures

pub count_arg-returns-in-Place : goal.count_arg-returns-in-Place
count_arg-returns-in-Place t c =
    one_part _ _ _ _ (ap of_arg c.in-Place.is ∙ Counts.byplace_nodes _) c.count_desig-in-Place.ensures c.saturating_add-in-Place.ensures

pub count_arg-returns-in-MixValue : goal.count_arg-returns-in-MixValue
count_arg-returns-in-MixValue t c =
    one_part _ _ _ _ (ap of_arg c.in-MixValue.is ∙ Counts.mixvalue_nodes _ _) c.count_expr-in-MixValue.ensures
    c.saturating_add-in-MixValue.ensures

pub count_arg-returns-in-MixPlace : goal.count_arg-returns-in-MixPlace
count_arg-returns-in-MixPlace t c =
    one_part _ _ _ _ (ap of_arg c.in-MixPlace.is ∙ Counts.mixplace_nodes _) c.count_desig-in-MixPlace.ensures
    c.saturating_add-in-MixPlace.ensures

pub count_expr-returns-in-Const : goal.count_expr-returns-in-Const
count_expr-returns-in-Const t c = leaf _ (ap of_expr c.in-Const.is ∙ Counts.const_nodes _)

pub count_expr-returns-in-Load : goal.count_expr-returns-in-Load
count_expr-returns-in-Load t c =
    one_part _ _ _ _ (ap of_expr c.in-Load.is ∙ Counts.load_nodes _) c.count_desig.ensures c.saturating_add.ensures

pub count_expr-returns-in-Chain : goal.count_expr-returns-in-Chain
count_expr-returns-in-Chain t c =
    two_parts _ _ _ _ _ _ _ (ap of_expr c.in-Chain.is ∙ Counts.chain_nodes _ _ _) (c.count_expr.ensures ∙ ap by_expr c.deref.ensures)
    (c.count_links.ensures ∙ ap by_links c.deref-in-Chain.ensures.value) c.saturating_add-in-Chain.ensures
    c.saturating_add-in-Chain-2.ensures

pub count_expr-returns-in-Compare : goal.count_expr-returns-in-Compare
count_expr-returns-in-Compare t c =
    two_parts _ _ _ _ _ _ _ (ap of_expr c.in-Compare.is ∙ Counts.compare_nodes _ _ _)
    (c.count_expr-in-Compare.ensures ∙ ap by_expr c.deref-in-Compare.ensures)
    (c.count_expr-in-Compare-2.ensures ∙ ap by_expr c.deref-in-Compare-2.ensures) c.saturating_add-in-Compare.ensures
    c.saturating_add-in-Compare-2.ensures

pub count_expr-returns-in-Truth : goal.count_expr-returns-in-Truth
count_expr-returns-in-Truth t c =
    one_part _ _ _ _ (ap of_expr c.in-Truth.is ∙ Counts.truth_nodes _) (c.count_test.ensures ∙ ap by_test c.deref-in-Truth.ensures)
    c.saturating_add-in-Truth.ensures

pub count_expr-returns-in-Known : goal.count_expr-returns-in-Known
count_expr-returns-in-Known t c =
    one_part _ _ _ _ (ap of_expr c.in-Known.is ∙ Counts.known_nodes _) c.count_desig-in-Known.ensures c.saturating_add-in-Known.ensures

pub count_expr-returns-in-Chr : goal.count_expr-returns-in-Chr
count_expr-returns-in-Chr t c =
    one_part _ _ _ _ (ap of_expr c.in-Chr.is ∙ Counts.chr_nodes _) (c.count_expr-in-Chr.ensures ∙ ap by_expr c.deref-in-Chr.ensures)
    c.saturating_add-in-Chr.ensures

pub count_expr-returns-in-Call : goal.count_expr-returns-in-Call
count_expr-returns-in-Call t c =
    one_part _ _ _ _ (ap of_expr c.in-Call.is ∙ Counts.callexpr_nodes _) (c.count_args.ensures ∙ ap by_args c.deref-in-Call.ensures.value)
    c.saturating_add-in-Call.ensures

pub count_sel-returns-in-Field : goal.count_sel-returns-in-Field
count_sel-returns-in-Field t c = leaf _ (ap of_sel c.in-Field.is ∙ Counts.field_nodes _ _)

pub count_sel-returns-in-Index : goal.count_sel-returns-in-Index
count_sel-returns-in-Index t c =
    one_part _ _ _ _ (ap of_sel c.in-Index.is ∙ Counts.index_nodes _ _ _) c.count_expr.ensures c.saturating_add.ensures

pub count_stmt-returns-in-Test : goal.count_stmt-returns-in-Test
count_stmt-returns-in-Test t c =
    one_part _ _ _ _ (ap of_stmt c.in-Test.is ∙ Counts.teststmt_nodes _) c.count_test.ensures c.saturating_add.ensures

pub count_stmt-returns-in-Assign : goal.count_stmt-returns-in-Assign
count_stmt-returns-in-Assign t c =
    two_parts _ _ _ _ _ _ _ (ap of_stmt c.in-Assign.is ∙ Counts.assign_nodes _ _ _) c.count_desig.ensures c.count_expr.ensures
    c.saturating_add-in-Assign.ensures c.saturating_add-in-Assign-2.ensures

pub count_stmt-returns-in-CopyCells : goal.count_stmt-returns-in-CopyCells
count_stmt-returns-in-CopyCells t c =
    two_parts _ _ _ _ _ _ _ (ap of_stmt c.in-CopyCells.is ∙ Counts.copycells_nodes _ _) c.count_desig-in-CopyCells.ensures
    c.count_desig-in-CopyCells-2.ensures c.saturating_add-in-CopyCells.ensures c.saturating_add-in-CopyCells-2.ensures

pub count_stmt-returns-in-If : goal.count_stmt-returns-in-If
count_stmt-returns-in-If t c =
    two_parts _ _ _ _ _ _ _ (ap of_stmt c.in-If.is ∙ Counts.if_nodes _ _) (c.count_arms.ensures ∙ ap by_arms c.deref.ensures.value)
    (c.count_stmts.ensures ∙ ap by_stmts c.deref-in-If.ensures.value) c.saturating_add-in-If.ensures c.saturating_add-in-If-2.ensures

pub count_stmt-returns-in-While : goal.count_stmt-returns-in-While
count_stmt-returns-in-While t c =
    two_parts _ _ _ _ _ _ _ (ap of_stmt c.in-While.is ∙ Counts.while_nodes _ _) c.count_test-in-While.ensures
    (c.count_stmts-in-While.ensures ∙ ap by_stmts c.deref-in-While.ensures.value) c.saturating_add-in-While.ensures
    c.saturating_add-in-While-2.ensures

pub count_stmt-returns-in-Repeat : goal.count_stmt-returns-in-Repeat
count_stmt-returns-in-Repeat t c =
    two_parts _ _ _ _ _ _ _ (ap of_stmt c.in-Repeat.is ∙ Counts.repeat_nodes _ _)
    (c.count_stmts-in-Repeat.ensures ∙ ap by_stmts c.deref-in-Repeat.ensures.value) c.count_test-in-Repeat.ensures
    c.saturating_add-in-Repeat.ensures c.saturating_add-in-Repeat-2.ensures

pub count_stmt-returns-in-ForTo : goal.count_stmt-returns-in-ForTo
count_stmt-returns-in-ForTo t c =
    one_part _ _ _ _ (ap of_stmt c.in-ForTo.is ∙ Counts.forto_nodes _) c.count_loop.ensures c.saturating_add-in-ForTo.ensures

pub count_stmt-returns-in-SomeOf : goal.count_stmt-returns-in-SomeOf
count_stmt-returns-in-SomeOf t c =
    one_part _ _ _ _ (ap of_stmt c.in-SomeOf.is ∙ Counts.someof_nodes _) c.count_loop-in-SomeOf.ensures c.saturating_add-in-SomeOf.ensures

pub count_stmt-returns-in-Either : goal.count_stmt-returns-in-Either
count_stmt-returns-in-Either t c =
    one_part _ _ _ _ (ap of_stmt c.in-Either.is ∙ Counts.either_nodes _)
    (c.count_branches.ensures ∙ ap by_branches c.deref-in-Either.ensures.value) c.saturating_add-in-Either.ensures

pub count_stmt-returns-in-Forall : goal.count_stmt-returns-in-Forall
count_stmt-returns-in-Forall t c =
    two_parts _ _ _ _ _ _ _ (ap of_stmt c.in-Forall.is ∙ Counts.forall_nodes _ _)
    (c.count_stmts-in-Forall.ensures ∙ ap by_stmts c.deref-in-Forall.ensures.value)
    (c.count_stmts-in-Forall-2.ensures ∙ ap by_stmts c.deref-in-Forall-2.ensures.value) c.saturating_add-in-Forall.ensures
    c.saturating_add-in-Forall-2.ensures

pub count_stmt-returns-in-Commit : goal.count_stmt-returns-in-Commit
count_stmt-returns-in-Commit t c =
    one_part _ _ _ _ (ap of_stmt c.in-Commit.is ∙ Counts.commit_nodes _)
    (c.count_stmts-in-Commit.ensures ∙ ap by_stmts c.deref-in-Commit.ensures.value) c.saturating_add-in-Commit.ensures

pub count_stmt-returns-in-Read : goal.count_stmt-returns-in-Read
count_stmt-returns-in-Read t c =
    one_part _ _ _ _ (ap of_stmt c.in-Read.is ∙ Counts.read_nodes _ _ _) c.count_desig-in-Read.ensures c.saturating_add-in-Read.ensures

pub count_stmt-returns-in-WriteExpr : goal.count_stmt-returns-in-WriteExpr
count_stmt-returns-in-WriteExpr t c =
    one_part _ _ _ _ (ap of_stmt c.in-WriteExpr.is ∙ Counts.writeexpr_nodes _ _) c.count_expr-in-WriteExpr.ensures
    c.saturating_add-in-WriteExpr.ensures

pub count_stmt-returns-in-WriteText : goal.count_stmt-returns-in-WriteText
count_stmt-returns-in-WriteText t c = leaf _ (text_or_line _ c.in-WriteText.is)

pub count_stmt-returns-in-WriteText-2 : goal.count_stmt-returns-in-WriteText-2
count_stmt-returns-in-WriteText-2 t c = leaf _ (text_or_line _ c.in-WriteText.is)

pub count_stmt-returns-in-None : goal.count_stmt-returns-in-None
count_stmt-returns-in-None t c =
    two_parts _ _ _ _ _ _ _
    (ap of_stmt (c.in-Case.is ∙ ap (λ o. S.Case c.in-Case.value c.in-Case.arms o) c.in-None.is) ∙ Counts.case_none_nodes _ _)
    c.count_expr-in-Case.ensures (c.count_cases.ensures ∙ ap by_cases c.deref-in-Case.ensures.value) c.saturating_add-in-Case.ensures
    c.saturating_add-total.ensures

pub count_stmt-returns-in-Some : goal.count_stmt-returns-in-Some
count_stmt-returns-in-Some t c =
    same _ _ _
    (sym (ap of_stmt (c.in-Case.is ∙ ap (λ o. S.Case c.in-Case.value c.in-Case.arms o) c.in-Some.is) ∙ Counts.case_some_nodes _ _ _))
    (both _ _ _ _ _ (two_parts _ _ _ _ _ _ _ refl c.count_expr-in-Case.ensures
    (c.count_cases.ensures ∙ ap by_cases c.deref-in-Case.ensures.value) c.saturating_add-in-Case.ensures
    c.saturating_add-total.ensures) (c.count_stmts-in-Some.ensures ∙ ap by_stmts c.deref-in-Some.ensures.value)
    c.saturating_add-in-Some.ensures)

pub count_stmt-returns-in-None-value : goal.count_stmt-returns-in-None-value
count_stmt-returns-in-None-value t c = leaf _ (ap of_stmt (c.in-Return.is ∙ ap S.Return c.in-None-value.is) ∙ Counts.return_none_nodes)

pub count_stmt-returns-in-Some-value : goal.count_stmt-returns-in-Some-value
count_stmt-returns-in-Some-value t c =
    one_part _ _ _ _ (ap of_stmt (c.in-Return.is ∙ ap S.Return c.in-Some-value.is) ∙ Counts.return_some_nodes _)
    c.count_expr-in-Some-value.ensures c.saturating_add-in-Some-value.ensures

pub count_test-returns-in-Value : goal.count_test-returns-in-Value
count_test-returns-in-Value t c =
    one_part _ _ _ _ (ap of_test c.in-Value.is ∙ Counts.value_nodes _) c.count_expr.ensures c.saturating_add.ensures

pub count_test-returns-in-Bind : goal.count_test-returns-in-Bind
count_test-returns-in-Bind t c =
    two_parts _ _ _ _ _ _ _ (ap of_test c.in-Bind.is ∙ Counts.bind_nodes _ _ _ _) c.count_desig.ensures c.count_expr-in-Bind.ensures
    c.saturating_add-in-Bind.ensures c.saturating_add-in-Bind-2.ensures

pub count_test-returns-in-Unify : goal.count_test-returns-in-Unify
count_test-returns-in-Unify t c =
    two_parts _ _ _ _ _ _ _ (ap of_test c.in-Unify.is ∙ Counts.unify_nodes _ _ _ _) c.count_desig-in-Unify.ensures
    c.count_desig-in-Unify-2.ensures c.saturating_add-in-Unify.ensures c.saturating_add-in-Unify-2.ensures

pub count_test-returns-in-SameCells : goal.count_test-returns-in-SameCells
count_test-returns-in-SameCells t c =
    two_parts _ _ _ _ _ _ _ (ap of_test c.in-SameCells.is ∙ Counts.samecells_nodes _ _) c.count_desig-in-SameCells.ensures
    c.count_desig-in-SameCells-2.ensures c.saturating_add-in-SameCells.ensures c.saturating_add-in-SameCells-2.ensures

pub count_test-returns-in-Seq : goal.count_test-returns-in-Seq
count_test-returns-in-Seq t c =
    one_part _ _ _ _ (ap of_test c.in-Seq.is ∙ Counts.seq_nodes _) (c.count_stmts.ensures ∙ ap by_stmts c.deref.ensures.value)
    c.saturating_add-in-Seq.ensures

pub count_test-returns-in-And : goal.count_test-returns-in-And
count_test-returns-in-And t c =
    one_part _ _ _ _ (ap of_test c.in-And.is ∙ Counts.and_nodes _) (c.count_tests.ensures ∙ ap by_tests c.deref-in-And.ensures.value)
    c.saturating_add-in-And.ensures

pub count_test-returns-in-Or : goal.count_test-returns-in-Or
count_test-returns-in-Or t c =
    one_part _ _ _ _ (ap of_test c.in-Or.is ∙ Counts.or_nodes _) (c.count_tests-in-Or.ensures ∙ ap by_tests c.deref-in-Or.ensures.value)
    c.saturating_add-in-Or.ensures

pub count_test-returns-in-Not : goal.count_test-returns-in-Not
count_test-returns-in-Not t c =
    one_part _ _ _ _ (ap of_test c.in-Not.is ∙ Counts.not_nodes _) (c.count_test.ensures ∙ ap by_test c.deref-in-Not.ensures)
    c.saturating_add-in-Not.ensures

pub count_test-returns-in-Call : goal.count_test-returns-in-Call
count_test-returns-in-Call t c =
    one_part _ _ _ _ (ap of_test c.in-Call.is ∙ Counts.calltest_nodes _) (c.count_args.ensures ∙ ap by_args c.deref-in-Call.ensures.value)
    c.saturating_add-in-Call.ensures

pub count_loop-returns : goal.count_loop-returns
count_loop-returns t c =
    both _ _ _ _ _
    (both _ _ _ _ _ (both _ _ _ _ _ c.count_desig.ensures c.count_expr.ensures c.saturating_add.ensures) c.count_expr-2.ensures
    c.saturating_add-2.ensures)
    (c.count_stmts.ensures ∙ ap by_stmts c.deref.ensures.value) c.saturating_add-3.ensures

pub count_args-loop-arg-preserved : goal.count_args-loop-arg-preserved
count_args-loop-arg-preserved t c =
    next of_arg c.args.args.now c.loop-arg.arg-index _ _ _ _ c.loop-arg-test.true c.arg-item.is c.loop-arg.invariant c.count_arg.ensures
    c.saturating_add-total.ensures

pub count_args-returns : goal.count_args-returns
count_args-returns t c =
    ended of_arg c.args.args.now c.loop-arg.arg-index _ _ c.loop-arg-test.false (Counts.args_sum _) c.loop-arg.invariant

pub count_stmts-loop-stmt-preserved : goal.count_stmts-loop-stmt-preserved
count_stmts-loop-stmt-preserved t c =
    next of_stmt c.args.body.now c.loop-stmt.stmt-index _ _ _ _ c.loop-stmt-test.true c.stmt-item.is c.loop-stmt.invariant
    c.count_stmt.ensures c.saturating_add-total.ensures

pub count_stmts-returns : goal.count_stmts-returns
count_stmts-returns t c =
    ended of_stmt c.args.body.now c.loop-stmt.stmt-index _ _ c.loop-stmt-test.false (Counts.stmts_sum _) c.loop-stmt.invariant

pub count_tests-loop-test-preserved : goal.count_tests-loop-test-preserved
count_tests-loop-test-preserved t c =
    next of_test c.args.tests.now c.loop-test.test-index _ _ _ _ c.loop-test-test.true c.test-item.is c.loop-test.invariant
    c.count_test.ensures c.saturating_add-total.ensures

pub count_tests-returns : goal.count_tests-returns
count_tests-returns t c =
    ended of_test c.args.tests.now c.loop-test.test-index _ _ c.loop-test-test.false (Counts.tests_sum _) c.loop-test.invariant

pub count_links-loop-link-preserved : goal.count_links-loop-link-preserved
count_links-loop-link-preserved t c =
    next of_link c.args.links.now c.loop-link.link-index _ _ _ _ c.loop-link-test.true c.link-item.is c.loop-link.invariant
    c.count_expr.ensures c.saturating_add-total.ensures

pub count_links-returns : goal.count_links-returns
count_links-returns t c =
    ended of_link c.args.links.now c.loop-link.link-index _ _ c.loop-link-test.false (Counts.links_sum _) c.loop-link.invariant

pub count_arms-loop-arm-preserved : goal.count_arms-loop-arm-preserved
count_arms-loop-arm-preserved t c =
    turn of_arm c.args.arms.now c.loop-arm.arm-index _ _ _ c.loop-arm-test.true c.arm-item.is (with_two _ _ _)
    (both _ _ _ _ _ (both _ _ _ _ _ (both _ _ _ _ _ c.loop-arm.invariant (small 1 (omega arith)) c.saturating_add.ensures)
    c.count_test.ensures c.saturating_add-in-loop-arm.ensures) (c.count_stmts.ensures ∙ ap by_stmts c.deref.ensures.value)
    c.saturating_add-total.ensures)

pub count_arms-returns : goal.count_arms-returns
count_arms-returns t c =
    ended of_arm c.args.arms.now c.loop-arm.arm-index _ _ c.loop-arm-test.false (Counts.arms_sum _) c.loop-arm.invariant

pub count_cases-loop-arm-preserved : goal.count_cases-loop-arm-preserved
count_cases-loop-arm-preserved t c =
    turn of_case c.args.arms.now c.loop-arm.arm-index _ _ _ c.loop-arm-test.true c.arm-item.is (with_two _ _ _)
    (both _ _ _ _ _ (both _ _ _ _ _ (both _ _ _ _ _ c.loop-arm.invariant (small 1 (omega arith)) c.saturating_add.ensures)
    (same c.len.result (length c.arm-item.result.labels.items) _ (omega (arith, c.len.ensures, c.arm-item.result.labels.ok))
    (small _ c.len.type_inv)) c.saturating_add-in-loop-arm.ensures) (c.count_stmts.ensures ∙ ap by_stmts c.deref.ensures.value)
    c.saturating_add-total.ensures)

pub count_cases-returns : goal.count_cases-returns
count_cases-returns t c =
    ended of_case c.args.arms.now c.loop-arm.arm-index _ _ c.loop-arm-test.false (Counts.cases_sum _) c.loop-arm.invariant

pub count_branches-loop-branch-preserved : goal.count_branches-loop-branch-preserved
count_branches-loop-branch-preserved t c =
    turn of_branch c.args.branches.now c.loop-branch.branch-index _ _ _ c.loop-branch-test.true c.branch-item.is (with_part _ _)
    (both _ _ _ _ _ (both _ _ _ _ _ c.loop-branch.invariant (small 1 (omega arith)) c.saturating_add.ensures)
    (c.count_stmts.ensures ∙ ap by_stmts c.deref.ensures.value) c.saturating_add-total.ensures)

pub count_branches-returns : goal.count_branches-returns
count_branches-returns t c =
    ended of_branch c.args.branches.now c.loop-branch.branch-index _ _ c.loop-branch-test.false (Counts.branches_sum _)
    c.loop-branch.invariant

pub count_desig-loop-sel-preserved : goal.count_desig-loop-sel-preserved
count_desig-loop-sel-preserved t c =
    turn_above_one of_sel c.deref-sel-items.result.now c.loop-sel.sel-index _ _ _ _ c.loop-sel-test.true c.sel-item.is c.loop-sel.invariant
    c.count_sel.ensures c.saturating_add-total.ensures

pub count_desig-returns : goal.count_desig-returns
count_desig-returns t c =
    same _ _ _ (ap (λ xs. 1 + sels_nodes (sels_list xs)) c.deref-sel-items.ensures.value)
    (ended_above_one of_sel c.deref-sel-items.result.now c.loop-sel.sel-index _ _ c.loop-sel-test.false (Counts.sels_sum _)
    c.loop-sel.invariant)

-- ---- the measure of each call

pub count_arg-count_expr-requires : goal.count_arg-count_expr-requires
count_arg-count_expr-requires t c = (omega (arith, c.decreases, ap views.size-Arg c.in-Value.is ∙ views.sized-Arg::Value _ _), tt)

pub count_arg-count_desig-requires : goal.count_arg-count_desig-requires
count_arg-count_desig-requires t c = (omega (arith, c.decreases, ap views.size-Arg c.in-Cells.is ∙ views.sized-Cells _), tt)

pub count_arg-count_desig-requires-in-Place : goal.count_arg-count_desig-requires-in-Place
count_arg-count_desig-requires-in-Place t c = (omega (arith, c.decreases, ap views.size-Arg c.in-Place.is ∙ views.sized-Place _), tt)

pub count_arg-count_expr-requires-in-MixValue : goal.count_arg-count_expr-requires-in-MixValue
count_arg-count_expr-requires-in-MixValue t c =
    (omega (arith, c.decreases, ap views.size-Arg c.in-MixValue.is ∙ views.sized-MixValue _ _), tt)

pub count_arg-count_desig-requires-in-MixPlace : goal.count_arg-count_desig-requires-in-MixPlace
count_arg-count_desig-requires-in-MixPlace t c =
    (omega (arith, c.decreases, ap views.size-Arg c.in-MixPlace.is ∙ views.sized-MixPlace _), tt)

pub count_expr-count_desig-requires : goal.count_expr-count_desig-requires
count_expr-count_desig-requires t c = (omega (arith, c.decreases, ap views.size-Expr c.in-Load.is ∙ views.sized-Load _), tt)

pub count_expr-count_expr-requires : goal.count_expr-count_expr-requires
count_expr-count_expr-requires t c =
    (omega (arith, c.decreases, ap views.size-Expr c.in-Chain.is ∙ views.sized-Chain _ _ _, ap views.size-Expr c.deref.ensures), tt)

pub count_expr-count_links-requires : goal.count_expr-count_links-requires
count_expr-count_links-requires t c = (
  omega (
    arith,
    c.decreases,
    ap views.size-Expr c.in-Chain.is ∙ views.sized-Chain _ _ _,
    ap (most views.size-Link)
        c.deref-in-Chain.ensures.value,
  ),
  tt,
)

pub count_expr-count_expr-requires-in-Compare : goal.count_expr-count_expr-requires-in-Compare
count_expr-count_expr-requires-in-Compare t c = (
  omega (
    arith,
    c.decreases,
    ap views.size-Expr c.in-Compare.is ∙ views.sized-Compare _ _ _,
    ap views.size-Expr c.deref-in-Compare.ensures,
  ),
  tt,
)

pub count_expr-count_expr-requires-in-Compare-2 : goal.count_expr-count_expr-requires-in-Compare-2
count_expr-count_expr-requires-in-Compare-2 t c = (
  omega (
    arith,
    c.decreases,
    ap views.size-Expr c.in-Compare.is ∙ views.sized-Compare _ _ _,
    ap views.size-Expr c.deref-in-Compare-2.ensures,
  ),
  tt,
)

pub count_expr-count_test-requires : goal.count_expr-count_test-requires
count_expr-count_test-requires t c =
    (omega (arith, c.decreases, ap views.size-Expr c.in-Truth.is ∙ views.sized-Truth _, ap views.size-Test c.deref-in-Truth.ensures), tt)

pub count_expr-count_desig-requires-in-Known : goal.count_expr-count_desig-requires-in-Known
count_expr-count_desig-requires-in-Known t c = (omega (arith, c.decreases, ap views.size-Expr c.in-Known.is ∙ views.sized-Known _), tt)

pub count_expr-count_expr-requires-in-Chr : goal.count_expr-count_expr-requires-in-Chr
count_expr-count_expr-requires-in-Chr t c =
    (omega (arith, c.decreases, ap views.size-Expr c.in-Chr.is ∙ views.sized-Chr _, ap views.size-Expr c.deref-in-Chr.ensures), tt)

pub count_sel-count_expr-requires : goal.count_sel-count_expr-requires
count_sel-count_expr-requires t c = (omega (arith, c.decreases, ap views.size-Sel c.in-Index.is ∙ views.sized-Index _ _ _), tt)

pub count_stmt-count_test-requires : goal.count_stmt-count_test-requires
count_stmt-count_test-requires t c = (omega (arith, c.decreases, ap views.size-Stmt c.in-Test.is ∙ views.sized-Test _), tt)

pub count_stmt-count_desig-requires : goal.count_stmt-count_desig-requires
count_stmt-count_desig-requires t c = (omega (arith, c.decreases, ap views.size-Stmt c.in-Assign.is ∙ views.sized-Assign _ _ _), tt)

pub count_stmt-count_expr-requires : goal.count_stmt-count_expr-requires
count_stmt-count_expr-requires t c = (omega (arith, c.decreases, ap views.size-Stmt c.in-Assign.is ∙ views.sized-Assign _ _ _), tt)

pub count_stmt-count_desig-requires-in-CopyCells : goal.count_stmt-count_desig-requires-in-CopyCells
count_stmt-count_desig-requires-in-CopyCells t c =
    (omega (arith, c.decreases, ap views.size-Stmt c.in-CopyCells.is ∙ views.sized-CopyCells _ _), tt)

pub count_stmt-count_desig-requires-in-CopyCells-2 : goal.count_stmt-count_desig-requires-in-CopyCells-2
count_stmt-count_desig-requires-in-CopyCells-2 t c =
    (omega (arith, c.decreases, ap views.size-Stmt c.in-CopyCells.is ∙ views.sized-CopyCells _ _), tt)

pub count_stmt-count_arms-requires : goal.count_stmt-count_arms-requires
count_stmt-count_arms-requires t c =
    (omega (arith, c.decreases, ap views.size-Stmt c.in-If.is ∙ views.sized-If _ _, ap (most views.size-Arm) c.deref.ensures.value), tt)

pub count_stmt-count_stmts-requires : goal.count_stmt-count_stmts-requires
count_stmt-count_stmts-requires t c = (
  omega (arith, c.decreases, ap views.size-Stmt c.in-If.is ∙ views.sized-If _ _, ap (most views.size-Stmt) c.deref-in-If.ensures.value),
  tt,
)

pub count_stmt-count_test-requires-in-While : goal.count_stmt-count_test-requires-in-While
count_stmt-count_test-requires-in-While t c = (omega (arith, c.decreases, ap views.size-Stmt c.in-While.is ∙ views.sized-While _ _), tt)

pub count_stmt-count_stmts-requires-in-While : goal.count_stmt-count_stmts-requires-in-While
count_stmt-count_stmts-requires-in-While t c = (
  omega (
    arith,
    c.decreases,
    ap views.size-Stmt c.in-While.is ∙ views.sized-While _ _,
    ap (most views.size-Stmt)
        c.deref-in-While.ensures.value,
  ),
  tt,
)

pub count_stmt-count_stmts-requires-in-Repeat : goal.count_stmt-count_stmts-requires-in-Repeat
count_stmt-count_stmts-requires-in-Repeat t c = (
  omega (
    arith,
    c.decreases,
    ap views.size-Stmt c.in-Repeat.is ∙ views.sized-Repeat _ _,
    ap (most views.size-Stmt)
        c.deref-in-Repeat.ensures.value,
  ),
  tt,
)

pub count_stmt-count_test-requires-in-Repeat : goal.count_stmt-count_test-requires-in-Repeat
count_stmt-count_test-requires-in-Repeat t c = (omega (arith, c.decreases, ap views.size-Stmt c.in-Repeat.is ∙ views.sized-Repeat _ _), tt)

pub count_stmt-count_loop-requires : goal.count_stmt-count_loop-requires
count_stmt-count_loop-requires t c = (omega (arith, c.decreases, ap views.size-Stmt c.in-ForTo.is ∙ views.sized-ForTo _), tt)

pub count_stmt-count_loop-requires-in-SomeOf : goal.count_stmt-count_loop-requires-in-SomeOf
count_stmt-count_loop-requires-in-SomeOf t c = (omega (arith, c.decreases, ap views.size-Stmt c.in-SomeOf.is ∙ views.sized-SomeOf _), tt)

pub count_stmt-count_expr-requires-in-Case : goal.count_stmt-count_expr-requires-in-Case
count_stmt-count_expr-requires-in-Case t c = (omega (arith, c.decreases, ap views.size-Stmt c.in-Case.is ∙ views.sized-Case _ _ _), tt)

pub count_stmt-count_cases-requires : goal.count_stmt-count_cases-requires
count_stmt-count_cases-requires t c = (
  omega (
    arith,
    c.decreases,
    ap views.size-Stmt c.in-Case.is ∙ views.sized-Case _ _ _,
    ap (most views.size-CaseArm)
        c.deref-in-Case.ensures.value,
  ),
  tt,
)

pub count_stmt-count_branches-requires : goal.count_stmt-count_branches-requires
count_stmt-count_branches-requires t c = (
  omega (
    arith,
    c.decreases,
    ap views.size-Stmt c.in-Either.is ∙ views.sized-Either _,
    ap (most views.size-Branch)
        c.deref-in-Either.ensures.value,
  ),
  tt,
)

pub count_stmt-count_stmts-requires-in-Forall : goal.count_stmt-count_stmts-requires-in-Forall
count_stmt-count_stmts-requires-in-Forall t c = (
  omega (
    arith,
    c.decreases,
    ap views.size-Stmt c.in-Forall.is ∙ views.sized-Forall _ _,
    ap (most views.size-Stmt)
        c.deref-in-Forall.ensures.value,
  ),
  tt,
)

pub count_stmt-count_stmts-requires-in-Forall-2 : goal.count_stmt-count_stmts-requires-in-Forall-2
count_stmt-count_stmts-requires-in-Forall-2 t c = (
  omega (
    arith,
    c.decreases,
    ap views.size-Stmt c.in-Forall.is ∙ views.sized-Forall _ _,
    ap (most views.size-Stmt)
        c.deref-in-Forall-2.ensures.value,
  ),
  tt,
)

pub count_stmt-count_stmts-requires-in-Commit : goal.count_stmt-count_stmts-requires-in-Commit
count_stmt-count_stmts-requires-in-Commit t c = (
  omega (
    arith,
    c.decreases,
    ap views.size-Stmt c.in-Commit.is ∙ views.sized-Commit _,
    ap (most views.size-Stmt)
        c.deref-in-Commit.ensures.value,
  ),
  tt,
)

pub count_stmt-count_desig-requires-in-Read : goal.count_stmt-count_desig-requires-in-Read
count_stmt-count_desig-requires-in-Read t c = (omega (arith, c.decreases, ap views.size-Stmt c.in-Read.is ∙ views.sized-Read _ _ _), tt)

pub count_stmt-count_expr-requires-in-WriteExpr : goal.count_stmt-count_expr-requires-in-WriteExpr
count_stmt-count_expr-requires-in-WriteExpr t c =
    (omega (arith, c.decreases, ap views.size-Stmt c.in-WriteExpr.is ∙ views.sized-WriteExpr _ _), tt)

pub count_test-count_expr-requires : goal.count_test-count_expr-requires
count_test-count_expr-requires t c = (omega (arith, c.decreases, ap views.size-Test c.in-Value.is ∙ views.sized-Test::Value _), tt)

pub count_test-count_desig-requires : goal.count_test-count_desig-requires
count_test-count_desig-requires t c = (omega (arith, c.decreases, ap views.size-Test c.in-Bind.is ∙ views.sized-Bind _ _ _ _), tt)

pub count_test-count_expr-requires-in-Bind : goal.count_test-count_expr-requires-in-Bind
count_test-count_expr-requires-in-Bind t c = (omega (arith, c.decreases, ap views.size-Test c.in-Bind.is ∙ views.sized-Bind _ _ _ _), tt)

pub count_test-count_desig-requires-in-Unify : goal.count_test-count_desig-requires-in-Unify
count_test-count_desig-requires-in-Unify t c =
    (omega (arith, c.decreases, ap views.size-Test c.in-Unify.is ∙ views.sized-Unify _ _ _ _), tt)

pub count_test-count_desig-requires-in-Unify-2 : goal.count_test-count_desig-requires-in-Unify-2
count_test-count_desig-requires-in-Unify-2 t c =
    (omega (arith, c.decreases, ap views.size-Test c.in-Unify.is ∙ views.sized-Unify _ _ _ _), tt)

pub count_test-count_desig-requires-in-SameCells : goal.count_test-count_desig-requires-in-SameCells
count_test-count_desig-requires-in-SameCells t c =
    (omega (arith, c.decreases, ap views.size-Test c.in-SameCells.is ∙ views.sized-SameCells _ _), tt)

pub count_test-count_desig-requires-in-SameCells-2 : goal.count_test-count_desig-requires-in-SameCells-2
count_test-count_desig-requires-in-SameCells-2 t c =
    (omega (arith, c.decreases, ap views.size-Test c.in-SameCells.is ∙ views.sized-SameCells _ _), tt)

pub count_test-count_stmts-requires : goal.count_test-count_stmts-requires
count_test-count_stmts-requires t c =
    (omega (arith, c.decreases, ap views.size-Test c.in-Seq.is ∙ views.sized-Seq _, ap (most views.size-Stmt) c.deref.ensures.value), tt)

pub count_test-count_tests-requires : goal.count_test-count_tests-requires
count_test-count_tests-requires t c = (
  omega (arith, c.decreases, ap views.size-Test c.in-And.is ∙ views.sized-And _, ap (most views.size-Test) c.deref-in-And.ensures.value),
  tt,
)

pub count_test-count_tests-requires-in-Or : goal.count_test-count_tests-requires-in-Or
count_test-count_tests-requires-in-Or t c = (
  omega (arith, c.decreases, ap views.size-Test c.in-Or.is ∙ views.sized-Or _, ap (most views.size-Test) c.deref-in-Or.ensures.value),
  tt,
)

pub count_test-count_test-requires : goal.count_test-count_test-requires
count_test-count_test-requires t c =
    (omega (arith, c.decreases, ap views.size-Test c.in-Not.is ∙ views.sized-Not _, ap views.size-Test c.deref-in-Not.ensures), tt)

pub count_args-count_arg-requires : goal.count_args-count_arg-requires
count_args-count_arg-requires t c = (
  omega (
    arith,
    c.decreases,
    at_most views.size-Arg c.args.args.now c.loop-arg.arg-index c.arg-item.result c.loop-arg-test.true,
    ap
        views.size-Arg c.arg-item.is,
  ),
  tt,
)

pub count_stmts-count_stmt-requires : goal.count_stmts-count_stmt-requires
count_stmts-count_stmt-requires t c = (
  omega (
    arith,
    c.decreases,
    at_most views.size-Stmt c.args.body.now c.loop-stmt.stmt-index c.stmt-item.result c.loop-stmt-test.true,
    ap
        views.size-Stmt c.stmt-item.is,
  ),
  tt,
)

pub count_tests-count_test-requires : goal.count_tests-count_test-requires
count_tests-count_test-requires t c = (
  omega (
    arith,
    c.decreases,
    at_most views.size-Test c.args.tests.now c.loop-test.test-index c.test-item.result c.loop-test-test.true,
    ap views.size-Test c.test-item.is,
  ),
  tt,
)
