use Rattle.std.proofs.Common.{rules, ◌≡◌, true, subst, to_z, of_z, w64}
use Rattle.std.proofs.lemmas.Int.{to_z-of_z}
use Rattle.alma_base.specs.Numbers.{is_integer}
use Rattle.alma_lower_tables.proofs.Walks.{and_walked, args_at, args_first, args_more, arms_at, arms_first, arms_more, assign_walked}
use Rattle.alma_lower_tables.proofs.Walks.{bind_walked, branches_at, branches_first, branches_more, by_cells_walked, by_place_walked}
use Rattle.alma_lower_tables.proofs.Walks.{by_value_walked, call_test_walked, call_walked, case_walked, cases_at, cases_first, cases_more}
use Rattle.alma_lower_tables.proofs.Walks.{chain_walked, chr_walked, commit_walked, compare_walked, const_walked, copy_walked, desig_walked}
use Rattle.alma_lower_tables.proofs.Walks.{either_walked, else_walked, expr_at, field_walked, for_walked, forall_walked, if_walked}
use Rattle.alma_lower_tables.proofs.Walks.{index_walked, known_walked, line_walked, links_at, links_first, links_more, load_walked}
use Rattle.alma_lower_tables.proofs.Walks.{loop_walked, mix_place_walked, mix_value_walked, no_else_walked, no_result_walked, not_walked}
use Rattle.alma_lower_tables.proofs.Walks.{on_ok_map, or_walked, read_walked, repeat_walked, result_walked, return_walked, same_walked}
use Rattle.alma_lower_tables.proofs.Walks.{sels_at, sels_first, sels_more, seq_walked, some_walked, stmts_at, stmts_first, stmts_more}
use Rattle.alma_lower_tables.proofs.Walks.{test_at, test_walked, tests_at, tests_first, tests_more, text_at, text_walked, then_walked}
use Rattle.alma_lower_tables.proofs.Walks.{truth_walked, unify_walked, value_walked, while_walked, write_walked}
use Rattle.alma_lower_tables.proofs.walk.+walk.Goals as goal

pub walk_stmts-loop-stmt-init : goal.walk_stmts-loop-stmt-init
walk_stmts-loop-stmt-init t c = stmts_first _

pub walk_stmts-loop-stmt-preserved : goal.walk_stmts-loop-stmt-preserved
walk_stmts-loop-stmt-preserved t c = stmts_more _ _ _ _ c.loop-stmt.stmt-index _ c.loop-stmt-test.true c.stmt-item.is c.loop-stmt.invariant
    c.in_ok-walk_stmt.ensures

pub walk_args-loop-arg-init : goal.walk_args-loop-arg-init
walk_args-loop-arg-init t c = args_first _

pub walk_args-loop-arg-preserved : goal.walk_args-loop-arg-preserved
walk_args-loop-arg-preserved t c = args_more _ _ _ _ c.loop-arg.arg-index _ c.loop-arg-test.true c.arg-item.is c.loop-arg.invariant
    c.in_ok-walk_arg.ensures

pub walk_sels-loop-sel-init : goal.walk_sels-loop-sel-init
walk_sels-loop-sel-init t c = sels_first _

pub walk_sels-loop-sel-preserved : goal.walk_sels-loop-sel-preserved
walk_sels-loop-sel-preserved t c = sels_more _ _ _ _ c.loop-sel.sel-index _ c.loop-sel-test.true c.sel-item.is c.loop-sel.invariant
    c.in_ok-walk_sel.ensures

pub walk_tests-loop-test-init : goal.walk_tests-loop-test-init
walk_tests-loop-test-init t c = tests_first _

pub walk_tests-loop-test-preserved : goal.walk_tests-loop-test-preserved
walk_tests-loop-test-preserved t c = tests_more _ _ _ _ c.loop-test.test-index _ c.loop-test-test.true c.test-item.is c.loop-test.invariant
    c.in_ok-walk_test.ensures

pub walk_links-loop-link-init : goal.walk_links-loop-link-init
walk_links-loop-link-init t c = links_first _

pub walk_links-loop-link-preserved : goal.walk_links-loop-link-preserved
walk_links-loop-link-preserved t c = links_more _ _ _ _ c.loop-link.link-index _ c.loop-link-test.true c.link-item.is c.loop-link.invariant
    c.in_ok-walk_expr.ensures

pub walk_cases-loop-arm-init : goal.walk_cases-loop-arm-init
walk_cases-loop-arm-init t c = cases_first _

pub walk_cases-loop-arm-preserved : goal.walk_cases-loop-arm-preserved
walk_cases-loop-arm-preserved t c = cases_more _ _ _ _ c.loop-arm.arm-index _ c.loop-arm-test.true c.arm-item.is c.loop-arm.invariant
    (stmts_at _ _ _ _ c.deref.ensures.value c.in_ok-walk_stmts.ensures)

pub walk_branches-loop-branch-init : goal.walk_branches-loop-branch-init
walk_branches-loop-branch-init t c = branches_first _

pub walk_branches-loop-branch-preserved : goal.walk_branches-loop-branch-preserved
walk_branches-loop-branch-preserved t c =
    branches_more _ _ _ _ c.loop-branch.branch-index _ c.loop-branch-test.true c.branch-item.is c.loop-branch.invariant
    (stmts_at _ _ _ _ c.deref.ensures.value c.in_ok-walk_stmts.ensures)

pub walk_arms-loop-arm-init : goal.walk_arms-loop-arm-init
walk_arms-loop-arm-init t c = arms_first _

pub walk_arms-loop-arm-preserved : goal.walk_arms-loop-arm-preserved
walk_arms-loop-arm-preserved t c = arms_more _ _ _ _ c.loop-arm.arm-index _ c.loop-arm-test.true c.arm-item.is c.loop-arm.invariant
    (then_walked _ _ _ _ _ c.in_ok-walk_test.ensures (stmts_at _ _ _ _ c.deref.ensures.value c.in_ok-walk_stmts.ensures))

pub walk_arg-returns-in_ok-add_checked-in-Value : goal.walk_arg-returns-in_ok-add_checked-in-Value
walk_arg-returns-in_ok-add_checked-in-Value t c =
    on_ok_map c.walk_expr.result (λ h. by_value_walked _ _ _ _ _ _ c.in-Value.is c.in_ok-add_checked-in-Value.ensures.names h)
    c.walk_expr.ensures

pub walk_arg-returns-in-Cells : goal.walk_arg-returns-in-Cells
walk_arg-returns-in-Cells t c = on_ok_map c.walk_desig.result (λ h. by_cells_walked _ _ _ _ c.in-Cells.is h) c.walk_desig.ensures

pub walk_arg-returns-in-Place : goal.walk_arg-returns-in-Place
walk_arg-returns-in-Place t c = on_ok_map c.walk_desig-in-Place.result (λ h. by_place_walked _ _ _ _ c.in-Place.is h)
    c.walk_desig-in-Place.ensures

pub walk_arg-returns-in_ok-add_checked-in-MixValue : goal.walk_arg-returns-in_ok-add_checked-in-MixValue
walk_arg-returns-in_ok-add_checked-in-MixValue t c =
    on_ok_map c.walk_expr-in-MixValue.result
    (λ h. mix_value_walked _ _ _ _ _ _ c.in-MixValue.is c.in_ok-add_checked-in-MixValue.ensures.names h) c.walk_expr-in-MixValue.ensures

pub walk_arg-returns-in-MixPlace : goal.walk_arg-returns-in-MixPlace
walk_arg-returns-in-MixPlace t c = on_ok_map c.walk_desig-in-MixPlace.result (λ h. mix_place_walked _ _ _ _ c.in-MixPlace.is h)
    c.walk_desig-in-MixPlace.ensures

pub walk_desig-returns : goal.walk_desig-returns
walk_desig-returns t c = on_ok_map c.walk_sels.result (λ h. desig_walked _ _ c.args.desig.now (sels_at _ _ _ _ c.deref.ensures.value h))
    c.walk_sels.ensures

pub walk_expr-returns-in-Const : goal.walk_expr-returns-in-Const
walk_expr-returns-in-Const t c =
    let same : to_z w64 (of_z w64 c.in-Const.value) ≡ c.in-Const.value = to_z-of_z w64 c.in-Const.value (search rules) in
    const_walked _ _ _ c.in-Const.is (subst (λ n. is_integer n ≡ true) same c.pass_number.ensures.integer)

pub walk_expr-returns-in-Load : goal.walk_expr-returns-in-Load
walk_expr-returns-in-Load t c = on_ok_map c.walk_desig.result (λ h. load_walked _ _ _ _ c.in-Load.is h) c.walk_desig.ensures

pub walk_expr-returns-in_ok-walk_expr-in-Chain : goal.walk_expr-returns-in_ok-walk_expr-in-Chain
walk_expr-returns-in_ok-walk_expr-in-Chain t c =
    on_ok_map c.walk_links.result (λ h. chain_walked _ _ _ _ _ c.in-Chain.first c.in-Chain.links c.in-Chain.is
    (expr_at _ _ _ _ c.deref.ensures c.in_ok-walk_expr-in-Chain.ensures) (links_at _ _ _ _ c.deref-in-Chain.ensures.value h))
    c.walk_links.ensures

pub walk_expr-returns-in_ok-walk_expr-in-Compare : goal.walk_expr-returns-in_ok-walk_expr-in-Compare
walk_expr-returns-in_ok-walk_expr-in-Compare t c =
    on_ok_map c.walk_expr-in-Compare-2.result
    (λ h. compare_walked _ _ _ _ _ c.in-Compare.left c.in-Compare.right c.in-Compare.is
    (expr_at _ _ _ _ c.deref-in-Compare.ensures c.in_ok-walk_expr-in-Compare.ensures) (expr_at _ _ _ _ c.deref-in-Compare-2.ensures h))
    c.walk_expr-in-Compare-2.ensures

pub walk_expr-returns-in-Truth : goal.walk_expr-returns-in-Truth
walk_expr-returns-in-Truth t c = on_ok_map c.walk_test.result
    (λ h. truth_walked _ _ _ c.in-Truth.test c.in-Truth.is (test_at _ _ _ _ c.deref-in-Truth.ensures h)) c.walk_test.ensures

pub walk_expr-returns-in-Known : goal.walk_expr-returns-in-Known
walk_expr-returns-in-Known t c = on_ok_map c.walk_desig-in-Known.result (λ h. known_walked _ _ _ _ c.in-Known.is h)
    c.walk_desig-in-Known.ensures

pub walk_expr-returns-in_ok-add_range-in-Chr : goal.walk_expr-returns-in_ok-add_range-in-Chr
walk_expr-returns-in_ok-add_range-in-Chr t c =
    on_ok_map c.walk_expr-in-Chr.result (λ h. chr_walked _ _ _ _ c.in-Chr.inner _ c.in-Chr.is c.character.ensures
    c.in_ok-add_range-in-Chr.ensures.names (expr_at _ _ _ _ c.deref-in-Chr.ensures h)) c.walk_expr-in-Chr.ensures

pub walk_expr-returns-in-Call : goal.walk_expr-returns-in-Call
walk_expr-returns-in-Call t c = on_ok_map c.walk_args.result
    (λ h. call_walked _ _ _ c.in-Call.call c.in-Call.is (args_at _ _ _ _ c.deref-in-Call.ensures.value h)) c.walk_args.ensures

pub walk_loop-returns : goal.walk_loop-returns
walk_loop-returns t c = on_ok_map c.walk_stmts.result
    (λ h. loop_walked _ _ _ _ _ c.args.each.now c.in_ok-walk_desig.ensures c.in_ok-walk_expr.ensures c.in_ok-walk_expr-2.ensures
    (stmts_at _ _ _ _ c.deref.ensures.value h)) c.walk_stmts.ensures

pub walk_return-returns-in-Some : goal.walk_return-returns-in-Some
walk_return-returns-in-Some t c = on_ok_map c.walk_expr.result (λ h. result_walked _ _ _ _ c.in-Some.is h) c.walk_expr.ensures

pub walk_return-returns-in-None : goal.walk_return-returns-in-None
walk_return-returns-in-None t c = no_result_walked _ _ c.in-None.is

pub walk_sel-returns-in-Field : goal.walk_sel-returns-in-Field
walk_sel-returns-in-Field t c = field_walked _ _ _ _ c.in-Field.is

pub walk_sel-returns-in_ok-add_range-in-Index : goal.walk_sel-returns-in_ok-add_range-in-Index
walk_sel-returns-in_ok-add_range-in-Index t c =
    on_ok_map c.walk_expr.result (λ h. index_walked _ _ _ _ _ _ _ c.in-Index.is c.in_ok-add_range-in-Index.ensures.names h)
    c.walk_expr.ensures

pub walk_stmt-returns-in-Test : goal.walk_stmt-returns-in-Test
walk_stmt-returns-in-Test t c = on_ok_map c.walk_test.result (λ h. test_walked _ _ _ _ c.in-Test.is h) c.walk_test.ensures

pub walk_stmt-returns-in_ok-walk_desig-in-Assign : goal.walk_stmt-returns-in_ok-walk_desig-in-Assign
walk_stmt-returns-in_ok-walk_desig-in-Assign t c =
    on_ok_map c.walk_expr.result (λ h. assign_walked _ _ _ _ _ _ _ _ c.in-Assign.is c.in_ok-add_checked-in-Assign.ensures.names
    c.in_ok-walk_desig-in-Assign.ensures h) c.walk_expr.ensures

pub walk_stmt-returns-in_ok-walk_desig-in-CopyCells : goal.walk_stmt-returns-in_ok-walk_desig-in-CopyCells
walk_stmt-returns-in_ok-walk_desig-in-CopyCells t c =
    on_ok_map c.walk_desig-in-CopyCells-2.result (λ h. copy_walked _ _ _ _ _ _ c.in-CopyCells.is c.in_ok-walk_desig-in-CopyCells.ensures h)
    c.walk_desig-in-CopyCells-2.ensures

pub walk_stmt-returns-in_ok-walk_arms-in-If : goal.walk_stmt-returns-in_ok-walk_arms-in-If
walk_stmt-returns-in_ok-walk_arms-in-If t c =
    on_ok_map c.walk_stmts.result (λ h. if_walked _ _ _ _ c.in-If.arms c.in-If.rest c.in-If.is
    (arms_at _ _ _ _ c.deref.ensures.value c.in_ok-walk_arms-in-If.ensures) (stmts_at _ _ _ _ c.deref-in-If.ensures.value h))
    c.walk_stmts.ensures

pub walk_stmt-returns-in_ok-walk_test-in-While : goal.walk_stmt-returns-in_ok-walk_test-in-While
walk_stmt-returns-in_ok-walk_test-in-While t c =
    on_ok_map c.walk_stmts-in-While.result (λ h. while_walked _ _ _ _ _ c.in-While.body c.in-While.is c.in_ok-walk_test-in-While.ensures
    (stmts_at _ _ _ _ c.deref-in-While.ensures.value h)) c.walk_stmts-in-While.ensures

pub walk_stmt-returns-in_ok-walk_stmts-in-Repeat : goal.walk_stmt-returns-in_ok-walk_stmts-in-Repeat
walk_stmt-returns-in_ok-walk_stmts-in-Repeat t c =
    on_ok_map c.walk_test-in-Repeat.result (λ h. repeat_walked _ _ _ _ c.in-Repeat.body _ c.in-Repeat.is
    (stmts_at _ _ _ _ c.deref-in-Repeat.ensures.value c.in_ok-walk_stmts-in-Repeat.ensures) h) c.walk_test-in-Repeat.ensures

pub walk_stmt-returns-in_ok-walk_stmts-in-Forall : goal.walk_stmt-returns-in_ok-walk_stmts-in-Forall
walk_stmt-returns-in_ok-walk_stmts-in-Forall t c =
    on_ok_map c.walk_stmts-in-Forall-2.result
    (λ h. forall_walked _ _ _ _ c.in-Forall.each c.in-Forall.body c.in-Forall.is
    (stmts_at _ _ _ _ c.deref-in-Forall.ensures.value c.in_ok-walk_stmts-in-Forall.ensures)
    (stmts_at _ _ _ _ c.deref-in-Forall-2.ensures.value h)) c.walk_stmts-in-Forall-2.ensures

pub walk_stmt-returns-in-Either : goal.walk_stmt-returns-in-Either
walk_stmt-returns-in-Either t c = on_ok_map c.walk_branches.result
    (λ h. either_walked _ _ _ c.in-Either.branches c.in-Either.is (branches_at _ _ _ _ c.deref-in-Either.ensures.value h))
    c.walk_branches.ensures

pub walk_stmt-returns-in-Commit : goal.walk_stmt-returns-in-Commit
walk_stmt-returns-in-Commit t c = on_ok_map c.walk_stmts-in-Commit.result
    (λ h. commit_walked _ _ _ c.in-Commit.body c.in-Commit.is (stmts_at _ _ _ _ c.deref-in-Commit.ensures.value h))
    c.walk_stmts-in-Commit.ensures

pub walk_stmt-returns-in_ok-add_checked-in-ForTo : goal.walk_stmt-returns-in_ok-add_checked-in-ForTo
walk_stmt-returns-in_ok-add_checked-in-ForTo t c =
    on_ok_map c.walk_loop.result (λ h. for_walked _ _ _ _ _ c.in-ForTo.is c.in_ok-add_checked-in-ForTo.ensures.names h) c.walk_loop.ensures

pub walk_stmt-returns-in_ok-add_checked-in-SomeOf : goal.walk_stmt-returns-in_ok-add_checked-in-SomeOf
walk_stmt-returns-in_ok-add_checked-in-SomeOf t c =
    on_ok_map c.walk_loop-in-SomeOf.result (λ h. some_walked _ _ _ _ _ c.in-SomeOf.is c.in_ok-add_checked-in-SomeOf.ensures.names h)
    c.walk_loop-in-SomeOf.ensures

pub walk_stmt-returns-in-Return : goal.walk_stmt-returns-in-Return
walk_stmt-returns-in-Return t c = on_ok_map c.walk_return.result (λ h. return_walked _ _ _ _ c.in-Return.is h) c.walk_return.ensures

pub walk_stmt-returns-in_ok-add_range-in-Read : goal.walk_stmt-returns-in_ok-add_range-in-Read
walk_stmt-returns-in_ok-add_range-in-Read t c =
    on_ok_map c.walk_desig-in-Read.result (λ h. read_walked _ _ _ _ _ _ _ c.in-Read.is c.in_ok-add_range-in-Read.ensures.names
    c.add_range.ensures.integers h) c.walk_desig-in-Read.ensures

pub walk_stmt-returns-in-WriteExpr : goal.walk_stmt-returns-in-WriteExpr
walk_stmt-returns-in-WriteExpr t c = on_ok_map c.walk_expr-in-WriteExpr.result (λ h. write_walked _ _ _ _ _ c.in-WriteExpr.is h)
    c.walk_expr-in-WriteExpr.ensures

pub walk_stmt-returns-in-WriteText : goal.walk_stmt-returns-in-WriteText
walk_stmt-returns-in-WriteText t c = on_ok_map c.add_text.result
    (λ h. text_walked _ _ _ c.in-WriteText.text c.in-WriteText.is (text_at _ _ _ _ c.deref-in-WriteText.ensures.value h))
    c.add_text.ensures.names

pub walk_stmt-returns-in-WriteLine : goal.walk_stmt-returns-in-WriteLine
walk_stmt-returns-in-WriteLine t c = line_walked _ _ c.in-WriteLine.is

pub walk_test-returns-in-Value : goal.walk_test-returns-in-Value
walk_test-returns-in-Value t c = on_ok_map c.walk_expr.result (λ h. value_walked _ _ _ _ c.in-Value.is h) c.walk_expr.ensures

pub walk_test-returns-in_ok-walk_desig-in-Bind : goal.walk_test-returns-in_ok-walk_desig-in-Bind
walk_test-returns-in_ok-walk_desig-in-Bind t c =
    on_ok_map c.walk_expr-in-Bind.result (λ h. bind_walked _ _ _ _ _ _ _ _ _ c.in-Bind.is c.in_ok-add_range-in-Bind.ensures.names
    c.in_ok-walk_desig-in-Bind.ensures h) c.walk_expr-in-Bind.ensures

pub walk_test-returns-in_ok-walk_desig-in-Unify : goal.walk_test-returns-in_ok-walk_desig-in-Unify
walk_test-returns-in_ok-walk_desig-in-Unify t c =
    on_ok_map c.walk_desig-in-Unify-2.result
    (λ h. unify_walked _ _ _ _ _ _ _ _ _ _ c.in-Unify.is c.in_ok-add_range-in-Unify.ensures.names c.in_ok-add_range-in-Unify-2.ensures.names
    c.in_ok-walk_desig-in-Unify.ensures h) c.walk_desig-in-Unify-2.ensures

pub walk_test-returns-in_ok-walk_desig-in-SameCells : goal.walk_test-returns-in_ok-walk_desig-in-SameCells
walk_test-returns-in_ok-walk_desig-in-SameCells t c =
    on_ok_map c.walk_desig-in-SameCells-2.result (λ h. same_walked _ _ _ _ _ _ c.in-SameCells.is c.in_ok-walk_desig-in-SameCells.ensures h)
    c.walk_desig-in-SameCells-2.ensures

pub walk_test-returns-in-Seq : goal.walk_test-returns-in-Seq
walk_test-returns-in-Seq t c = on_ok_map c.walk_stmts.result
    (λ h. seq_walked _ _ _ c.in-Seq.body c.in-Seq.is (stmts_at _ _ _ _ c.deref.ensures.value h)) c.walk_stmts.ensures

pub walk_test-returns-in-And : goal.walk_test-returns-in-And
walk_test-returns-in-And t c = on_ok_map c.walk_tests.result
    (λ h. and_walked _ _ _ c.in-And.tests c.in-And.is (tests_at _ _ _ _ c.deref-in-And.ensures.value h)) c.walk_tests.ensures

pub walk_test-returns-in-Or : goal.walk_test-returns-in-Or
walk_test-returns-in-Or t c = on_ok_map c.walk_tests-in-Or.result
    (λ h. or_walked _ _ _ c.in-Or.tests c.in-Or.is (tests_at _ _ _ _ c.deref-in-Or.ensures.value h)) c.walk_tests-in-Or.ensures

pub walk_test-returns-in-Not : goal.walk_test-returns-in-Not
walk_test-returns-in-Not t c = on_ok_map c.walk_test.result
    (λ h. not_walked _ _ _ c.in-Not.test c.in-Not.is (test_at _ _ _ _ c.deref-in-Not.ensures h)) c.walk_test.ensures

pub walk_test-returns-in-Call : goal.walk_test-returns-in-Call
walk_test-returns-in-Call t c = on_ok_map c.walk_args.result
    (λ h. call_test_walked _ _ _ c.in-Call.call c.in-Call.is (args_at _ _ _ _ c.deref-in-Call.ensures.value h)) c.walk_args.ensures

pub walk_stmt-returns-in-Some : goal.walk_stmt-returns-in-Some
walk_stmt-returns-in-Some t c = on_ok_map c.walk_stmts-in-Some.result
    (λ h. case_walked _ _ _ _ _ c.in-Case.value c.in-Case.arms c.in-Case.rest c.in-Case.is c.in_ok-walk_expr-in-Case.ensures
    (cases_at _ _ _ _ c.deref-in-Case.ensures.value c.in_ok-walk_cases-in-Case.ensures)
    (else_walked _ _ c.in-Case.rest c.in-Some.body c.in-Some.is (stmts_at _ _ _ _ c.deref-in-Some.ensures.value h)))
    c.walk_stmts-in-Some.ensures

pub walk_stmt-returns-in-None : goal.walk_stmt-returns-in-None
walk_stmt-returns-in-None t c = case_walked _ _ _ _ _ c.in-Case.value c.in-Case.arms c.in-Case.rest c.in-Case.is
    c.in_ok-walk_expr-in-Case.ensures (cases_at _ _ _ _ c.deref-in-Case.ensures.value c.in_ok-walk_cases-in-Case.ensures)
    (no_else_walked _ c.in-Case.rest c.in-None.is)
