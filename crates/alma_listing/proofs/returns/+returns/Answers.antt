-- The walk finds what its definition says.
use Rattle.std.proofs.Common.{Bool, List, None, Some, sym, ap, ◌∙◌}
use Rattle.alma_ir.specs.declared.phrase.Stmt as S
use Rattle.alma_ir.specs.declared.phrase.Arm.{Arm}
use Rattle.alma_ir.specs.declared.phrase.CaseArm.{CaseArm}
use Rattle.alma_ir.specs.declared.phrase.Branch.{Branch}
use Rattle.alma_ir.specs.View.{stmts_list, stmt_of, arms_list, cases_list, branches_list}
use Rattle.alma_ir.proofs.Views
use Rattle.alma_listing.specs.Inner.{stmts_return, stmt_returns, arms_return, cases_return, branches_return}
use Rattle.alma_listing.proofs.Walks.{missed, found, missed_all}
use Rattle.alma_listing.proofs.NoReturns.{stmts_step, arms_step, cases_step, branches_step, none_at_end, then_is, else_is, none_is}
use Rattle.alma_listing.proofs.returns.+returns.Goals as goal

-- whether there is a RETURN in what a value of the program stands for
abbrev in_stmt : S.Stmt → Bool
in_stmt x = stmt_returns (stmt_of x)

abbrev in_stmts : List S.Stmt → Bool
in_stmts xs = stmts_return (stmts_list xs)

abbrev in_arms : List Arm → Bool
in_arms xs = arms_return (arms_list xs)

abbrev in_cases : List CaseArm → Bool
in_cases xs = cases_return (cases_list xs)

abbrev in_branches : List Branch → Bool
in_branches xs = branches_return (branches_list xs)

pub has_return-loop-stmt-preserved : goal.has_return-loop-stmt-preserved
has_return-loop-stmt-preserved t c =
    missed in_stmts in_stmt none_at_end.0 stmts_step c.args.body.now c.loop-stmt.stmt-index c.stmt-item.result c.loop-stmt-test.true
    c.stmt-item.is c.loop-stmt.invariant (c.if-is_returning.ensures)

pub has_return-returns-then-is_returning : goal.has_return-returns-then-is_returning
has_return-returns-then-is_returning t c =
    found in_stmts in_stmt none_at_end.0 stmts_step c.args.body.now c.loop-stmt.stmt-index c.stmt-item.result c.loop-stmt-test.true
    c.stmt-item.is c.loop-stmt.invariant (c.if-is_returning.ensures)

pub has_return-returns : goal.has_return-returns
has_return-returns t c =
    missed_all in_stmts in_stmt none_at_end.0 stmts_step c.args.body.now c.loop-stmt.stmt-index c.loop-stmt-test.false c.loop-stmt.invariant

pub arms_return-loop-arm-preserved : goal.arms_return-loop-arm-preserved
arms_return-loop-arm-preserved t c =
    missed in_arms (λ x. in_stmts x.body.items) none_at_end.1 arms_step c.args.arms.now c.loop-arm.arm-index c.arm-item.result
    c.loop-arm-test.true c.arm-item.is c.loop-arm.invariant (c.if-has_return.ensures ∙ ap in_stmts c.deref.ensures.value)

pub arms_return-returns-then-has_return : goal.arms_return-returns-then-has_return
arms_return-returns-then-has_return t c =
    found in_arms (λ x. in_stmts x.body.items) none_at_end.1 arms_step c.args.arms.now c.loop-arm.arm-index c.arm-item.result
    c.loop-arm-test.true c.arm-item.is c.loop-arm.invariant (c.if-has_return.ensures ∙ ap in_stmts c.deref.ensures.value)

pub arms_return-returns : goal.arms_return-returns
arms_return-returns t c =
    missed_all in_arms (λ x. in_stmts x.body.items) none_at_end.1 arms_step c.args.arms.now c.loop-arm.arm-index c.loop-arm-test.false
    c.loop-arm.invariant

pub cases_return-loop-arm-preserved : goal.cases_return-loop-arm-preserved
cases_return-loop-arm-preserved t c =
    missed in_cases (λ x. in_stmts x.body.items) none_at_end.2 cases_step c.args.arms.now c.loop-arm.arm-index c.arm-item.result
    c.loop-arm-test.true c.arm-item.is c.loop-arm.invariant (c.if-has_return.ensures ∙ ap in_stmts c.deref.ensures.value)

pub cases_return-returns-then-has_return : goal.cases_return-returns-then-has_return
cases_return-returns-then-has_return t c =
    found in_cases (λ x. in_stmts x.body.items) none_at_end.2 cases_step c.args.arms.now c.loop-arm.arm-index c.arm-item.result
    c.loop-arm-test.true c.arm-item.is c.loop-arm.invariant (c.if-has_return.ensures ∙ ap in_stmts c.deref.ensures.value)

pub cases_return-returns : goal.cases_return-returns
cases_return-returns t c =
    missed_all in_cases (λ x. in_stmts x.body.items) none_at_end.2 cases_step c.args.arms.now c.loop-arm.arm-index c.loop-arm-test.false
    c.loop-arm.invariant

pub branches_return-loop-branch-preserved : goal.branches_return-loop-branch-preserved
branches_return-loop-branch-preserved t c =
    missed in_branches (λ x. in_stmts x.body.items) none_at_end.3 branches_step c.args.branches.now c.loop-branch.branch-index
    c.branch-item.result c.loop-branch-test.true c.branch-item.is c.loop-branch.invariant
    (c.if-has_return.ensures ∙ ap in_stmts c.deref.ensures.value)

pub branches_return-returns-then-has_return : goal.branches_return-returns-then-has_return
branches_return-returns-then-has_return t c =
    found in_branches (λ x. in_stmts x.body.items) none_at_end.3 branches_step c.args.branches.now c.loop-branch.branch-index
    c.branch-item.result c.loop-branch-test.true c.branch-item.is c.loop-branch.invariant
    (c.if-has_return.ensures ∙ ap in_stmts c.deref.ensures.value)

pub branches_return-returns : goal.branches_return-returns
branches_return-returns t c =
    missed_all in_branches (λ x. in_stmts x.body.items) none_at_end.3 branches_step c.args.branches.now c.loop-branch.branch-index
    c.loop-branch-test.false c.loop-branch.invariant

pub is_returning-returns-in-Return : goal.is_returning-returns-in-Return
unfolding stmts_return
is_returning-returns-in-Return t c = sym (ap stmt_returns (ap stmt_of c.in-Return.is ∙ Views.return_view _))

pub is_returning-returns-then-arms_return : goal.is_returning-returns-then-arms_return
unfolding stmts_return
is_returning-returns-then-arms_return t c =
    then_is _ _ _ _ (c.arms_return.ensures ∙ ap in_arms c.deref.ensures.value)
    (c.if-arms_return.ensures ∙ ap in_arms c.deref.ensures.value) (ap stmt_returns (ap stmt_of c.in-If.is ∙ Views.if_view _ _))

pub is_returning-returns-else-arms_return : goal.is_returning-returns-else-arms_return
unfolding stmts_return
is_returning-returns-else-arms_return t c =
    else_is _ _ _ _ (c.has_return.ensures ∙ ap in_stmts c.deref-else-arms_return.ensures.value)
    (c.if-arms_return.ensures ∙ ap in_arms c.deref.ensures.value) (ap stmt_returns (ap stmt_of c.in-If.is ∙ Views.if_view _ _))

pub is_returning-returns-in-While : goal.is_returning-returns-in-While
unfolding stmts_return
is_returning-returns-in-While t c =
    c.has_return-in-While.ensures ∙ ap in_stmts c.deref-in-While.ensures.value
    ∙ sym (ap stmt_returns (ap stmt_of c.in-While.is ∙ Views.while_view _ _))

pub is_returning-returns-in-Repeat : goal.is_returning-returns-in-Repeat
unfolding stmts_return
is_returning-returns-in-Repeat t c =
    c.has_return-in-Repeat.ensures ∙ ap in_stmts c.deref-in-Repeat.ensures.value
    ∙ sym (ap stmt_returns (ap stmt_of c.in-Repeat.is ∙ Views.repeat_view _ _))

pub is_returning-returns-in-ForTo : goal.is_returning-returns-in-ForTo
unfolding stmts_return
is_returning-returns-in-ForTo t c =
    c.has_return-in-ForTo.ensures ∙ ap in_stmts c.deref-in-ForTo.ensures.value
    ∙ sym (ap stmt_returns (ap stmt_of c.in-ForTo.is ∙ Views.forto_view _))

pub is_returning-returns-in-SomeOf : goal.is_returning-returns-in-SomeOf
unfolding stmts_return
is_returning-returns-in-SomeOf t c =
    c.has_return-in-SomeOf.ensures ∙ ap in_stmts c.deref-in-SomeOf.ensures.value
    ∙ sym (ap stmt_returns (ap stmt_of c.in-SomeOf.is ∙ Views.someof_view _))

pub is_returning-returns-in-None : goal.is_returning-returns-in-None
unfolding stmts_return
is_returning-returns-in-None t c =
    none_is _ _ _ (c.cases_return.ensures ∙ ap in_cases c.deref-in-None.ensures.value)
    (ap stmt_returns (ap stmt_of (c.in-Case.is ∙ ap (S.Case _ _) c.in-None.is) ∙ Views.case_view _ _ None))

pub is_returning-returns-then-cases_return : goal.is_returning-returns-then-cases_return
unfolding stmts_return
is_returning-returns-then-cases_return t c =
    then_is _ _ _ _ (c.cases_return-in-Some.ensures ∙ ap in_cases c.deref-in-Some.ensures.value)
    (c.if-cases_return.ensures ∙ ap in_cases c.deref-in-Some.ensures.value)
    (ap stmt_returns (ap stmt_of (c.in-Case.is ∙ ap (S.Case _ _) c.in-Some.is) ∙ Views.case_view _ _ (Some c.in-Some.rest)))

pub is_returning-returns-else-cases_return : goal.is_returning-returns-else-cases_return
unfolding stmts_return
is_returning-returns-else-cases_return t c =
    else_is _ _ _ _ (c.has_return-else-cases_return.ensures ∙ ap in_stmts c.deref-else-cases_return.ensures.value)
    (c.if-cases_return.ensures ∙ ap in_cases c.deref-in-Some.ensures.value)
    (ap stmt_returns (ap stmt_of (c.in-Case.is ∙ ap (S.Case _ _) c.in-Some.is) ∙ Views.case_view _ _ (Some c.in-Some.rest)))

pub is_returning-returns-in-Either : goal.is_returning-returns-in-Either
unfolding stmts_return
is_returning-returns-in-Either t c =
    c.branches_return.ensures ∙ ap in_branches c.deref-in-Either.ensures.value
    ∙ sym (ap stmt_returns (ap stmt_of c.in-Either.is ∙ Views.either_view _))

pub is_returning-returns-in-Test : goal.is_returning-returns-in-Test
unfolding stmts_return
is_returning-returns-in-Test t c = sym (ap stmt_returns (ap stmt_of c.in-Test.is ∙ Views.teststmt_view _))

pub is_returning-returns-in-Assign : goal.is_returning-returns-in-Assign
unfolding stmts_return
is_returning-returns-in-Assign t c = sym (ap stmt_returns (ap stmt_of c.in-Assign.is ∙ Views.assign_view _ _ _))

pub is_returning-returns-in-CopyCells : goal.is_returning-returns-in-CopyCells
unfolding stmts_return
is_returning-returns-in-CopyCells t c = sym (ap stmt_returns (ap stmt_of c.in-CopyCells.is ∙ Views.copycells_view _ _))

pub is_returning-returns-in-Forall : goal.is_returning-returns-in-Forall
unfolding stmts_return
is_returning-returns-in-Forall t c = sym (ap stmt_returns (ap stmt_of c.in-Forall.is ∙ Views.forall_view _ _))

pub is_returning-returns-in-Commit : goal.is_returning-returns-in-Commit
unfolding stmts_return
is_returning-returns-in-Commit t c = sym (ap stmt_returns (ap stmt_of c.in-Commit.is ∙ Views.commit_view _))

pub is_returning-returns-in-Read : goal.is_returning-returns-in-Read
unfolding stmts_return
is_returning-returns-in-Read t c = sym (ap stmt_returns (ap stmt_of c.in-Read.is ∙ Views.read_view _ _ _))

pub is_returning-returns-in-WriteExpr : goal.is_returning-returns-in-WriteExpr
unfolding stmts_return
is_returning-returns-in-WriteExpr t c = sym (ap stmt_returns (ap stmt_of c.in-WriteExpr.is ∙ Views.writeexpr_view _ _))

pub is_returning-returns-in-WriteText : goal.is_returning-returns-in-WriteText
unfolding stmts_return
is_returning-returns-in-WriteText t c = sym (ap stmt_returns (ap stmt_of c.in-WriteText.is ∙ Views.writetext_view _))

pub is_returning-returns-in-WriteLine : goal.is_returning-returns-in-WriteLine
unfolding stmts_return
is_returning-returns-in-WriteLine t c = sym (ap stmt_returns (ap stmt_of c.in-WriteLine.is ∙ Views.writeline_view))
