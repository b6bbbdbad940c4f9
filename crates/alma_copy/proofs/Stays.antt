-- Where no number changes the phrase stays.
use Rattle.std.proofs.Common.{◌≡◌, ℕ, refl, ap}
use Rattle.alma_ir.specs.declared.phrase.Root.{Root}
use Rattle.alma_ir.specs.declared.phrase.Root.TheVariants as root
use Rattle.alma_ir.specs.Tree.{Stmts, Stmt, Arms, CaseArms, Else, Branches, Loop, ReturnExpr, Test, Tests, Expr, Links, Args, Arg, Desig}
use Rattle.alma_ir.specs.Tree.{Sels, Sel, no_stmts, more_stmts, TestStmt, Assign, CopyCells, If, While, Repeat, ForTo, SomeOf, Case, Either}
use Rattle.alma_ir.specs.Tree.{Forall, Commit, Return, Read, WriteExpr, WriteText, WriteLine, no_arms, more_arms, no_cases, more_cases}
use Rattle.alma_ir.specs.Tree.{no_else, else_part, no_branches, more_branches, a_loop, no_result, some_result, Value, Bind, Unify}
use Rattle.alma_ir.specs.Tree.{SameCells, Seq, And, Or, Not, CallTest, no_tests, more_tests, Const, Load, Chain, Compare, Truth, Known, Chr}
use Rattle.alma_ir.specs.Tree.{CallExpr, no_links, more_links, no_args, more_args, ByValue, ByCells, ByPlace, MixValue, MixPlace, a_desig}
use Rattle.alma_ir.specs.Tree.{no_sels, more_sels, Field, Index}
use Rattle.alma_copy.specs.Moved.{Moves, moved_root, moved_stmts, moved_stmt, moved_arms, moved_cases, moved_else, moved_branches}
use Rattle.alma_copy.specs.Moved.{moved_loop, moved_return, moved_test, moved_tests, moved_expr, moved_links, moved_args, moved_arg}
use Rattle.alma_copy.specs.Moved.{moved_desig, moved_sels, moved_sel}

module _ (m : Moves) (own : (n : ℕ) → m.own n ≡ n) (global : (n : ℕ) → m.global n ≡ n) (routine : (n : ℕ) → m.routine n ≡ n) where
  root_stays : (r : Root) → moved_root m r ≡ r
  root_stays (root.Local slot) = ap root.Local (own slot)
  root_stays (root.Global slot) = ap root.Global (global slot)
  root_stays (root.Param slot) = refl
  root_stays (root.Outer links slot) = refl
  root_stays (root.OuterParam links slot) = refl

  mutual
    unfolding moved_stmts

    pub stmts_stay : (x : Stmts) → moved_stmts m x ≡ x
    stmts_stay no_stmts = refl
    stmts_stay (more_stmts line x rest) = λ i. more_stmts line (stmt_stays x i) (stmts_stay rest i)

    stmt_stays : (x : Stmt) → moved_stmt m x ≡ x
    stmt_stays (TestStmt t) = λ i. TestStmt (test_stays t i)
    stmt_stays (Assign d e range) = λ i. Assign (desig_stays d i) (expr_stays e i) range
    stmt_stays (CopyCells d e) = λ i. CopyCells (desig_stays d i) (desig_stays e i)
    stmt_stays (If arms rest) = λ i. If (arms_stays arms i) (stmts_stay rest i)
    stmt_stays (While t body) = λ i. While (test_stays t i) (stmts_stay body i)
    stmt_stays (Repeat body t) = λ i. Repeat (stmts_stay body i) (test_stays t i)
    stmt_stays (ForTo x) = λ i. ForTo (loop_stays x i)
    stmt_stays (SomeOf x) = λ i. SomeOf (loop_stays x i)
    stmt_stays (Case e arms rest) = λ i. Case (expr_stays e i) (cases_stays arms i) (else_stays rest i)
    stmt_stays (Either x) = λ i. Either (branches_stays x i)
    stmt_stays (Forall x y) = λ i. Forall (stmts_stay x i) (stmts_stay y i)
    stmt_stays (Commit x) = λ i. Commit (stmts_stay x i)
    stmt_stays (Return e) = λ i. Return (return_stays e i)
    stmt_stays (Read d how range) = λ i. Read (desig_stays d i) how range
    stmt_stays (WriteExpr e how) = λ i. WriteExpr (expr_stays e i) how
    stmt_stays (WriteText text) = refl
    stmt_stays WriteLine = refl

    arms_stays : (x : Arms) → moved_arms m x ≡ x
    arms_stays no_arms = refl
    arms_stays (more_arms t body rest) = λ i. more_arms (test_stays t i) (stmts_stay body i) (arms_stays rest i)

    cases_stays : (x : CaseArms) → moved_cases m x ≡ x
    cases_stays no_cases = refl
    cases_stays (more_cases labels body rest) = λ i. more_cases labels (stmts_stay body i) (cases_stays rest i)

    else_stays : (x : Else) → moved_else m x ≡ x
    else_stays no_else = refl
    else_stays (else_part body) = λ i. else_part (stmts_stay body i)

    branches_stays : (x : Branches) → moved_branches m x ≡ x
    branches_stays no_branches = refl
    branches_stays (more_branches body rest) = λ i. more_branches (stmts_stay body i) (branches_stays rest i)

    loop_stays : (x : Loop) → moved_loop m x ≡ x
    loop_stays (a_loop d range counter limit from to by body) =
        λ i. a_loop (desig_stays d i) range (own counter i) (own limit i) (expr_stays from i) (expr_stays to i) by (stmts_stay body i)

    return_stays : (x : ReturnExpr) → moved_return m x ≡ x
    return_stays no_result = refl
    return_stays (some_result e) = λ i. some_result (expr_stays e i)

    test_stays : (x : Test) → moved_test m x ≡ x
    test_stays (Value e) = λ i. Value (expr_stays e i)
    test_stays (Bind d e range left) = λ i. Bind (desig_stays d i) (expr_stays e i) range left
    test_stays (Unify d range e range2) = λ i. Unify (desig_stays d i) range (desig_stays e i) range2
    test_stays (SameCells d e) = λ i. SameCells (desig_stays d i) (desig_stays e i)
    test_stays (Seq x) = λ i. Seq (stmts_stay x i)
    test_stays (And ts) = λ i. And (tests_stays ts i)
    test_stays (Or ts) = λ i. Or (tests_stays ts i)
    test_stays (Not t) = λ i. Not (test_stays t i)
    test_stays (CallTest r args up) = λ i. CallTest (routine r i) (args_stays args i) up

    tests_stays : (x : Tests) → moved_tests m x ≡ x
    tests_stays no_tests = refl
    tests_stays (more_tests t rest) = λ i. more_tests (test_stays t i) (tests_stays rest i)

    expr_stays : (x : Expr) → moved_expr m x ≡ x
    expr_stays (Const v) = refl
    expr_stays (Load d) = λ i. Load (desig_stays d i)
    expr_stays (Chain negated e links) = λ i. Chain negated (expr_stays e i) (links_stays links i)
    expr_stays (Compare how x y) = λ i. Compare how (expr_stays x i) (expr_stays y i)
    expr_stays (Truth t) = λ i. Truth (test_stays t i)
    expr_stays (Known d) = λ i. Known (desig_stays d i)
    expr_stays (Chr e) = λ i. Chr (expr_stays e i)
    expr_stays (CallExpr r args up) = λ i. CallExpr (routine r i) (args_stays args i) up

    links_stays : (x : Links) → moved_links m x ≡ x
    links_stays no_links = refl
    links_stays (more_links how e rest) = λ i. more_links how (expr_stays e i) (links_stays rest i)

    args_stays : (x : Args) → moved_args m x ≡ x
    args_stays no_args = refl
    args_stays (more_args a rest) = λ i. more_args (arg_stays a i) (args_stays rest i)

    arg_stays : (x : Arg) → moved_arg m x ≡ x
    arg_stays (ByValue e range) = λ i. ByValue (expr_stays e i) range
    arg_stays (ByCells d) = λ i. ByCells (desig_stays d i)
    arg_stays (ByPlace d) = λ i. ByPlace (desig_stays d i)
    arg_stays (MixValue e range) = λ i. MixValue (expr_stays e i) range
    arg_stays (MixPlace d) = λ i. MixPlace (desig_stays d i)

    desig_stays : (x : Desig) → moved_desig m x ≡ x
    desig_stays (a_desig at cells sels) = λ i. a_desig (root_stays at i) cells (sels_stays sels i)

    sels_stays : (x : Sels) → moved_sels m x ≡ x
    sels_stays no_sels = refl
    sels_stays (more_sels x rest) = λ i. more_sels (sel_stays x i) (sels_stays rest i)

    sel_stays : (x : Sel) → moved_sel m x ≡ x
    sel_stays (Field offset cells) = refl
    sel_stays (Index e range cells) = λ i. Index (expr_stays e i) range cells
