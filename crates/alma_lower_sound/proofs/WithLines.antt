-- A fact of each phrase, which does not speak of lines, holds of the phrases with their lines too.
use Rattle.std.proofs.Common.{ℕ, List, ◌++◌, drop, true, false}
use Rattle.std.specs.List.{AllByRecursion}
use Rattle.alma_ir.specs.Tree.{Stmts, Stmt, Arms, CaseArms, Else, Branches, Loop, ReturnExpr, Test, Tests, Expr, Links, Args, Arg, Desig}
use Rattle.alma_ir.specs.Tree.{Sels, Sel, no_stmts, more_stmts, TestStmt, Assign, CopyCells, If, While, Repeat, ForTo, SomeOf, Case, Either}
use Rattle.alma_ir.specs.Tree.{Forall, Commit, Return, Read, WriteExpr, WriteText, WriteLine, no_arms, more_arms, no_cases, more_cases}
use Rattle.alma_ir.specs.Tree.{no_else, else_part, no_branches, more_branches, a_loop, no_result, some_result, Value, Bind, Unify}
use Rattle.alma_ir.specs.Tree.{SameCells, Seq, And, Or, Not, CallTest, no_tests, more_tests, Const, Load, Chain, Compare, Truth, Known, Chr}
use Rattle.alma_ir.specs.Tree.{CallExpr, no_links, more_links, no_args, more_args, ByValue, ByCells, ByPlace, MixValue, MixPlace, a_desig}
use Rattle.alma_ir.specs.Tree.{no_sels, more_sels, Field, Index}
use Rattle.alma_ir.specs.Lines.{behind, stmts_with, stmt_with, arms_with, cases_with, else_with, branches_with, loop_with, return_with}
use Rattle.alma_ir.specs.Lines.{test_with, tests_with, expr_with, links_with, args_with, arg_with, desig_with, sels_with, sel_with}
use Rattle.alma_ir.specs.Phrases.{Phrase, StmtPhrase, TestPhrase, ExprPhrase, ArgPhrase, DesigPhrase, SelPhrase, stmts_phrases}
use Rattle.alma_ir.specs.Phrases.{stmt_phrases, arms_phrases, cases_phrases, else_phrases, branches_phrases, loop_phrases, return_phrases}
use Rattle.alma_ir.specs.Phrases.{test_phrases, tests_phrases, expr_phrases, links_phrases, args_phrases, arg_phrases, desig_phrases}
use Rattle.alma_ir.specs.Phrases.{sels_phrases, sel_phrases}
use Rattle.alma_ir.proofs.Each.{each_of_front, each_of_back, each_of_append}

-- a phrase with lines
abbrev pub phrase_with : Phrase → List ℕ → Phrase
phrase_with (StmtPhrase x) ls = StmtPhrase (stmt_with x ls)
phrase_with (TestPhrase t) ls = TestPhrase (test_with t ls)
phrase_with (ExprPhrase e) ls = ExprPhrase (expr_with e ls)
phrase_with (ArgPhrase a) ls = ArgPhrase (arg_with a ls)
phrase_with (DesigPhrase d) ls = DesigPhrase (desig_with d ls)
phrase_with (SelPhrase x) ls = SelPhrase (sel_with x ls)

module _ (F : Phrase → Type 0) (one : (x : Phrase) (ls : List ℕ) → F x → F (phrase_with x ls)) where
  abbrev Each : List Phrase → Type 0
  Each xs = AllByRecursion F xs

  -- two parts, each by itself
  two : (xs ys xs2 ys2 : List Phrase) → (Each xs → Each xs2) → (Each ys → Each ys2) → Each (xs ++ ys) → Each (xs2 ++ ys2)
  two xs ys xs2 ys2 f g h = each_of_append F xs2 ys2 (f (each_of_front F xs ys h)) (g (each_of_back F xs ys h))

  mutual
    unfolding stmts_phrases stmts_with

    pub stmts_stay : (x : Stmts) (ls : List ℕ) → Each (stmts_phrases x) → Each (stmts_phrases (stmts_with x ls))
    stmts_stay no_stmts ls h = tt
    stmts_stay (more_stmts line x rest) ls h =
        let ls2 = behind (stmt_phrases x) ls in
        two (stmt_phrases x) (stmts_phrases rest) (stmt_phrases (stmt_with x (drop 1 ls))) (stmts_phrases (stmts_with rest ls2))
        (stmt_stay x (drop 1 ls)) (stmts_stay rest ls2) h

    stmt_stay : (x : Stmt) (ls : List ℕ) → Each (stmt_phrases x) → Each (stmt_phrases (stmt_with x ls))
    stmt_stay (TestStmt t) ls h = (one (StmtPhrase (TestStmt t)) ls h.0, test_stay t ls h.1)
    stmt_stay (Assign d e range) ls h =
        let ls2 = behind (desig_phrases d) ls in (
          one (StmtPhrase (Assign d e range)) ls h.0,
          two (desig_phrases d) (expr_phrases e) (desig_phrases (desig_with d ls)) (expr_phrases (expr_with e ls2)) (desig_stay d ls)
              (expr_stay e ls2) h.1,
        )
    stmt_stay (CopyCells d e) ls h =
        let ls2 = behind (desig_phrases d) ls in (
          one (StmtPhrase (CopyCells d e)) ls h.0,
          two (desig_phrases d) (desig_phrases e) (desig_phrases (desig_with d ls)) (desig_phrases (desig_with e ls2)) (desig_stay d ls)
              (desig_stay e ls2) h.1,
        )
    stmt_stay (If arms rest) ls h =
        let ls2 = behind (arms_phrases arms) ls in (
          one (StmtPhrase (If arms rest)) ls h.0,
          two (arms_phrases arms) (stmts_phrases rest) (arms_phrases (arms_with arms ls)) (stmts_phrases (stmts_with rest ls2))
              (arms_stay arms ls) (stmts_stay rest ls2) h.1,
        )
    stmt_stay (While t body) ls h =
        let ls2 = behind (test_phrases t) ls in (
          one (StmtPhrase (While t body)) ls h.0,
          two (test_phrases t) (stmts_phrases body) (test_phrases (test_with t ls)) (stmts_phrases (stmts_with body ls2)) (test_stay t ls)
              (stmts_stay body ls2) h.1,
        )
    stmt_stay (Repeat body t) ls h =
        let ls2 = behind (stmts_phrases body) ls in (
          one (StmtPhrase (Repeat body t)) ls h.0,
          two (stmts_phrases body) (test_phrases t) (stmts_phrases (stmts_with body ls)) (test_phrases (test_with t ls2))
              (stmts_stay body ls) (test_stay t ls2) h.1,
        )
    stmt_stay (ForTo l) ls h = (one (StmtPhrase (ForTo l)) ls h.0, loop_stay l ls h.1)
    stmt_stay (SomeOf l) ls h = (one (StmtPhrase (SomeOf l)) ls h.0, loop_stay l ls h.1)
    stmt_stay (Case e arms rest) ls h =
        let ls2 = behind (expr_phrases e) ls in
        let ls3 = behind (cases_phrases arms) ls2 in
        let front = expr_phrases e ++ cases_phrases arms in
        let front2 = expr_phrases (expr_with e ls) ++ cases_phrases (cases_with arms ls2) in (
          one (StmtPhrase (Case e arms rest)) ls h.0,
          two front (else_phrases rest) front2 (else_phrases (else_with rest ls3))
              (two (expr_phrases e) (cases_phrases arms) (expr_phrases (expr_with e ls)) (cases_phrases (cases_with arms ls2))
              (expr_stay e ls) (cases_stay arms ls2)) (else_stay rest ls3) h.1,
        )
    stmt_stay (Either x) ls h = (one (StmtPhrase (Either x)) ls h.0, branches_stay x ls h.1)
    stmt_stay (Forall x y) ls h =
        let ls2 = behind (stmts_phrases x) ls in (
          one (StmtPhrase (Forall x y)) ls h.0,
          two (stmts_phrases x) (stmts_phrases y) (stmts_phrases (stmts_with x ls))
              (stmts_phrases (stmts_with y ls2)) (stmts_stay x ls) (stmts_stay y ls2) h.1,
        )
    stmt_stay (Commit x) ls h = (one (StmtPhrase (Commit x)) ls h.0, stmts_stay x ls h.1)
    stmt_stay (Return e) ls h = (one (StmtPhrase (Return e)) ls h.0, return_stay e ls h.1)
    stmt_stay (Read d how range) ls h = (one (StmtPhrase (Read d how range)) ls h.0, desig_stay d ls h.1)
    stmt_stay (WriteExpr e how) ls h = (one (StmtPhrase (WriteExpr e how)) ls h.0, expr_stay e ls h.1)
    stmt_stay (WriteText text) ls h = (one (StmtPhrase (WriteText text)) ls h.0, tt)
    stmt_stay WriteLine ls h = (one (StmtPhrase WriteLine) ls h.0, tt)

    arms_stay : (x : Arms) (ls : List ℕ) → Each (arms_phrases x) → Each (arms_phrases (arms_with x ls))
    arms_stay no_arms ls h = tt
    arms_stay (more_arms t body rest) ls h =
        let ls2 = behind (test_phrases t) ls in
        let ls3 = behind (stmts_phrases body) ls2 in
        let front = test_phrases t ++ stmts_phrases body in
        let front2 = test_phrases (test_with t ls) ++ stmts_phrases (stmts_with body ls2) in
        two front (arms_phrases rest) front2 (arms_phrases (arms_with rest ls3))
        (two (test_phrases t) (stmts_phrases body) (test_phrases (test_with t ls)) (stmts_phrases (stmts_with body ls2)) (test_stay t ls)
        (stmts_stay body ls2)) (arms_stay rest ls3) h

    cases_stay : (x : CaseArms) (ls : List ℕ) → Each (cases_phrases x) → Each (cases_phrases (cases_with x ls))
    cases_stay no_cases ls h = tt
    cases_stay (more_cases labels body rest) ls h =
        let ls2 = behind (stmts_phrases body) ls in
        two (stmts_phrases body) (cases_phrases rest) (stmts_phrases (stmts_with body ls)) (cases_phrases (cases_with rest ls2))
        (stmts_stay body ls) (cases_stay rest ls2) h

    else_stay : (x : Else) (ls : List ℕ) → Each (else_phrases x) → Each (else_phrases (else_with x ls))
    else_stay no_else ls h = tt
    else_stay (else_part body) ls h = stmts_stay body ls h

    branches_stay : (x : Branches) (ls : List ℕ) → Each (branches_phrases x) → Each (branches_phrases (branches_with x ls))
    branches_stay no_branches ls h = tt
    branches_stay (more_branches body rest) ls h =
        let ls2 = behind (stmts_phrases body) ls in
        two (stmts_phrases body) (branches_phrases rest) (stmts_phrases (stmts_with body ls)) (branches_phrases (branches_with rest ls2))
        (stmts_stay body ls) (branches_stay rest ls2) h

    loop_stay : (x : Loop) (ls : List ℕ) → Each (loop_phrases x) → Each (loop_phrases (loop_with x ls))
    loop_stay (a_loop d range counter limit from to by body) ls h =
        let ls2 = behind (desig_phrases d) ls in
        let ls3 = behind (expr_phrases from) ls2 in
        let ls4 = behind (expr_phrases to) ls3 in
        let d2 = desig_phrases (desig_with d ls) in
        let from2 = expr_phrases (expr_with from ls2) in
        let to2 = expr_phrases (expr_with to ls3) in
        two ((desig_phrases d ++ expr_phrases from) ++ expr_phrases to) (stmts_phrases body) ((d2 ++ from2) ++ to2)
        (stmts_phrases (stmts_with body ls4))
        (two (desig_phrases d ++ expr_phrases from) (expr_phrases to) (d2 ++ from2) to2
        (two (desig_phrases d) (expr_phrases from) d2 from2 (desig_stay d ls) (expr_stay from ls2)) (expr_stay to ls3))
        (stmts_stay body ls4) h

    return_stay : (x : ReturnExpr) (ls : List ℕ) → Each (return_phrases x) → Each (return_phrases (return_with x ls))
    return_stay no_result ls h = tt
    return_stay (some_result e) ls h = expr_stay e ls h

    test_stay : (x : Test) (ls : List ℕ) → Each (test_phrases x) → Each (test_phrases (test_with x ls))
    test_stay (Value e) ls h = (one (TestPhrase (Value e)) ls h.0, expr_stay e ls h.1)
    test_stay (Bind d e range true) ls h =
        let ls2 = behind (desig_phrases d) ls in (
          one (TestPhrase (Bind d e range true)) ls h.0,
          two (desig_phrases d) (expr_phrases e) (desig_phrases (desig_with d ls)) (expr_phrases (expr_with e ls2)) (desig_stay d ls)
              (expr_stay e ls2) h.1,
        )
    test_stay (Bind d e range false) ls h =
        let ls2 = behind (expr_phrases e) ls in (
          one (TestPhrase (Bind d e range false)) ls h.0,
          two (desig_phrases d) (expr_phrases e) (desig_phrases (desig_with d ls2)) (expr_phrases (expr_with e ls)) (desig_stay d ls2)
              (expr_stay e ls) h.1,
        )
    test_stay (Unify d range e range2) ls h =
        let ls2 = behind (desig_phrases d) ls in (
          one (TestPhrase (Unify d range e range2)) ls h.0,
          two (desig_phrases d) (desig_phrases e) (desig_phrases (desig_with d ls)) (desig_phrases (desig_with e ls2)) (desig_stay d ls)
              (desig_stay e ls2) h.1,
        )
    test_stay (SameCells d e) ls h =
        let ls2 = behind (desig_phrases d) ls in (
          one (TestPhrase (SameCells d e)) ls h.0,
          two (desig_phrases d) (desig_phrases e) (desig_phrases (desig_with d ls)) (desig_phrases (desig_with e ls2)) (desig_stay d ls)
              (desig_stay e ls2) h.1,
        )
    test_stay (Seq x) ls h = (one (TestPhrase (Seq x)) ls h.0, stmts_stay x ls h.1)
    test_stay (And ts) ls h = (one (TestPhrase (And ts)) ls h.0, tests_stay ts ls h.1)
    test_stay (Or ts) ls h = (one (TestPhrase (Or ts)) ls h.0, tests_stay ts ls h.1)
    test_stay (Not t) ls h = (one (TestPhrase (Not t)) ls h.0, test_stay t ls h.1)
    test_stay (CallTest called args up) ls h = (one (TestPhrase (CallTest called args up)) ls h.0, args_stay args ls h.1)

    tests_stay : (x : Tests) (ls : List ℕ) → Each (tests_phrases x) → Each (tests_phrases (tests_with x ls))
    tests_stay no_tests ls h = tt
    tests_stay (more_tests t rest) ls h =
        let ls2 = behind (test_phrases t) ls in
        two (test_phrases t) (tests_phrases rest) (test_phrases (test_with t ls)) (tests_phrases (tests_with rest ls2)) (test_stay t ls)
        (tests_stay rest ls2) h

    expr_stay : (x : Expr) (ls : List ℕ) → Each (expr_phrases x) → Each (expr_phrases (expr_with x ls))
    expr_stay (Const n) ls h = (one (ExprPhrase (Const n)) ls h.0, tt)
    expr_stay (Load d) ls h = (one (ExprPhrase (Load d)) ls h.0, desig_stay d ls h.1)
    expr_stay (Chain negated e links) ls h =
        let ls2 = behind (expr_phrases e) ls in (
          one (ExprPhrase (Chain negated e links)) ls h.0,
          two (expr_phrases e) (links_phrases links) (expr_phrases (expr_with e ls)) (links_phrases (links_with links ls2))
              (expr_stay e ls) (links_stay links ls2) h.1,
        )
    expr_stay (Compare how x y) ls h =
        let ls2 = behind (expr_phrases x) ls in (
          one (ExprPhrase (Compare how x y)) ls h.0,
          two (expr_phrases x) (expr_phrases y) (expr_phrases (expr_with x ls)) (expr_phrases (expr_with y ls2)) (expr_stay x ls)
              (expr_stay y ls2) h.1,
        )
    expr_stay (Truth t) ls h = (one (ExprPhrase (Truth t)) ls h.0, test_stay t ls h.1)
    expr_stay (Known d) ls h = (one (ExprPhrase (Known d)) ls h.0, desig_stay d ls h.1)
    expr_stay (Chr e) ls h = (one (ExprPhrase (Chr e)) ls h.0, expr_stay e ls h.1)
    expr_stay (CallExpr called args up) ls h = (one (ExprPhrase (CallExpr called args up)) ls h.0, args_stay args ls h.1)

    links_stay : (x : Links) (ls : List ℕ) → Each (links_phrases x) → Each (links_phrases (links_with x ls))
    links_stay no_links ls h = tt
    links_stay (more_links how e rest) ls h =
        let ls2 = behind (expr_phrases e) ls in
        two (expr_phrases e) (links_phrases rest) (expr_phrases (expr_with e ls)) (links_phrases (links_with rest ls2)) (expr_stay e ls)
        (links_stay rest ls2) h

    args_stay : (x : Args) (ls : List ℕ) → Each (args_phrases x) → Each (args_phrases (args_with x ls))
    args_stay no_args ls h = tt
    args_stay (more_args a rest) ls h =
        let ls2 = behind (arg_phrases a) ls in
        two (arg_phrases a) (args_phrases rest) (arg_phrases (arg_with a ls)) (args_phrases (args_with rest ls2)) (arg_stay a ls)
        (args_stay rest ls2) h

    arg_stay : (x : Arg) (ls : List ℕ) → Each (arg_phrases x) → Each (arg_phrases (arg_with x ls))
    arg_stay (ByValue e range) ls h = (one (ArgPhrase (ByValue e range)) ls h.0, expr_stay e ls h.1)
    arg_stay (ByCells d) ls h = (one (ArgPhrase (ByCells d)) ls h.0, desig_stay d ls h.1)
    arg_stay (ByPlace d) ls h = (one (ArgPhrase (ByPlace d)) ls h.0, desig_stay d ls h.1)
    arg_stay (MixValue e range) ls h = (one (ArgPhrase (MixValue e range)) ls h.0, expr_stay e ls h.1)
    arg_stay (MixPlace d) ls h = (one (ArgPhrase (MixPlace d)) ls h.0, desig_stay d ls h.1)

    desig_stay : (x : Desig) (ls : List ℕ) → Each (desig_phrases x) → Each (desig_phrases (desig_with x ls))
    desig_stay (a_desig root cells sels) ls h = (one (DesigPhrase (a_desig root cells sels)) ls h.0, sels_stay sels ls h.1)

    sels_stay : (x : Sels) (ls : List ℕ) → Each (sels_phrases x) → Each (sels_phrases (sels_with x ls))
    sels_stay no_sels ls h = tt
    sels_stay (more_sels x rest) ls h =
        let ls2 = behind (sel_phrases x) ls in
        two (sel_phrases x) (sels_phrases rest) (sel_phrases (sel_with x ls)) (sels_phrases (sels_with rest ls2)) (sel_stay x ls)
        (sels_stay rest ls2) h

    sel_stay : (x : Sel) (ls : List ℕ) → Each (sel_phrases x) → Each (sel_phrases (sel_with x ls))
    sel_stay (Field offset cells) ls h = (one (SelPhrase (Field offset cells)) ls h.0, tt)
    sel_stay (Index e range cells) ls h = (one (SelPhrase (Index e range cells)) ls h.0, expr_stay e ls h.1)
