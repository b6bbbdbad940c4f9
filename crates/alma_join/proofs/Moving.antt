-- The phrases of statements that are numbered anew are the phrases numbered anew.
use Rattle.std.proofs.Common.{◌≡◌, List, ◌∷◌, ◌++◌, map, refl, sym, ◌∙◌}
use Rattle.std.proofs.lemmas.List.{map-append}
use Rattle.alma_ir.specs.Tree.{Stmts, Stmt, Arms, CaseArms, Else, Branches, Loop, ReturnExpr, Test, Tests, Expr, Links, Args, Arg, Desig}
use Rattle.alma_ir.specs.Tree.{Sels, Sel, no_stmts, more_stmts, TestStmt, Assign, CopyCells, If, While, Repeat, ForTo, SomeOf, Case, Either}
use Rattle.alma_ir.specs.Tree.{Forall, Commit, Return, Read, WriteExpr, WriteText, WriteLine, no_arms, more_arms, no_cases, more_cases}
use Rattle.alma_ir.specs.Tree.{no_else, else_part, no_branches, more_branches, a_loop, no_result, some_result, Value, Bind, Unify}
use Rattle.alma_ir.specs.Tree.{SameCells, Seq, And, Or, Not, CallTest, no_tests, more_tests, Const, Load, Chain, Compare, Truth, Known, Chr}
use Rattle.alma_ir.specs.Tree.{CallExpr, no_links, more_links, no_args, more_args, ByValue, ByCells, ByPlace, MixValue, MixPlace, a_desig}
use Rattle.alma_ir.specs.Tree.{no_sels, more_sels, Field, Index}
use Rattle.alma_ir.specs.Phrases.{Phrase, StmtPhrase, TestPhrase, ExprPhrase, ArgPhrase, DesigPhrase, SelPhrase, stmts_phrases}
use Rattle.alma_ir.specs.Phrases.{stmt_phrases, arms_phrases, cases_phrases, else_phrases, branches_phrases, loop_phrases, return_phrases}
use Rattle.alma_ir.specs.Phrases.{test_phrases, tests_phrases, expr_phrases, links_phrases, args_phrases, arg_phrases, desig_phrases}
use Rattle.alma_ir.specs.Phrases.{sels_phrases, sel_phrases}
use Rattle.alma_copy.specs.Moved.{Moves, moved_stmts, moved_stmt, moved_arms, moved_cases, moved_else, moved_branches, moved_loop}
use Rattle.alma_copy.specs.Moved.{moved_return, moved_test, moved_tests, moved_expr, moved_links, moved_args, moved_arg, moved_desig}
use Rattle.alma_copy.specs.Moved.{moved_sels, moved_sel}

-- a phrase numbered anew
abbrev pub moved_phrase : Moves → Phrase → Phrase
moved_phrase m (StmtPhrase x) = StmtPhrase (moved_stmt m x)
moved_phrase m (TestPhrase x) = TestPhrase (moved_test m x)
moved_phrase m (ExprPhrase x) = ExprPhrase (moved_expr m x)
moved_phrase m (ArgPhrase x) = ArgPhrase (moved_arg m x)
moved_phrase m (DesigPhrase x) = DesigPhrase (moved_desig m x)
moved_phrase m (SelPhrase x) = SelPhrase (moved_sel m x)

module _ (m : Moves) where
  -- of two lists in a row
  two : (xs ys : List Phrase) {us vs : List Phrase} → us ≡ map (moved_phrase m) xs → vs ≡ map (moved_phrase m) ys
      → us ++ vs ≡ map (moved_phrase m) (xs ++ ys)
  two xs ys p q = (λ i. p i ++ q i) ∙ sym (map-append (moved_phrase m) xs ys)

  mutual
    unfolding stmts_phrases moved_stmts

    pub stmts_moved : (x : Stmts) → stmts_phrases (moved_stmts m x) ≡ map (moved_phrase m) (stmts_phrases x)
    stmts_moved no_stmts = refl
    stmts_moved (more_stmts line x rest) = two (stmt_phrases x) (stmts_phrases rest) (stmt_moved x) (stmts_moved rest)

    stmt_moved : (x : Stmt) → stmt_phrases (moved_stmt m x) ≡ map (moved_phrase m) (stmt_phrases x)
    stmt_moved (TestStmt t) = λ i. StmtPhrase (moved_stmt m (TestStmt t)) ∷ test_moved t i
    stmt_moved (Assign d e range) = λ i. StmtPhrase (moved_stmt m (Assign d e range)) ∷ two (desig_phrases d) (expr_phrases e)
        (desig_moved d) (expr_moved e) i
    stmt_moved (CopyCells d e) = λ i. StmtPhrase (moved_stmt m (CopyCells d e)) ∷ two (desig_phrases d) (desig_phrases e) (desig_moved d)
        (desig_moved e) i
    stmt_moved (If arms rest) = λ i. StmtPhrase (moved_stmt m (If arms rest)) ∷ two (arms_phrases arms) (stmts_phrases rest)
        (arms_moved arms) (stmts_moved rest) i
    stmt_moved (While t body) = λ i. StmtPhrase (moved_stmt m (While t body)) ∷ two (test_phrases t) (stmts_phrases body) (test_moved t)
        (stmts_moved body) i
    stmt_moved (Repeat body t) = λ i. StmtPhrase (moved_stmt m (Repeat body t)) ∷ two (stmts_phrases body) (test_phrases t)
        (stmts_moved body) (test_moved t) i
    stmt_moved (ForTo l) = λ i. StmtPhrase (moved_stmt m (ForTo l)) ∷ loop_moved l i
    stmt_moved (SomeOf l) = λ i. StmtPhrase (moved_stmt m (SomeOf l)) ∷ loop_moved l i
    stmt_moved (Case e arms rest) = λ i. StmtPhrase (moved_stmt m (Case e arms rest)) ∷ two (expr_phrases e ++ cases_phrases arms)
        (else_phrases rest) (two (expr_phrases e) (cases_phrases arms) (expr_moved e) (cases_moved arms)) (else_moved rest) i
    stmt_moved (Either branches) = λ i. StmtPhrase (moved_stmt m (Either branches)) ∷ branches_moved branches i
    stmt_moved (Forall x y) = λ i. StmtPhrase (moved_stmt m (Forall x y)) ∷ two (stmts_phrases x) (stmts_phrases y) (stmts_moved x)
        (stmts_moved y) i
    stmt_moved (Commit x) = λ i. StmtPhrase (moved_stmt m (Commit x)) ∷ stmts_moved x i
    stmt_moved (Return e) = λ i. StmtPhrase (moved_stmt m (Return e)) ∷ return_moved e i
    stmt_moved (Read d how range) = λ i. StmtPhrase (moved_stmt m (Read d how range)) ∷ desig_moved d i
    stmt_moved (WriteExpr e how) = λ i. StmtPhrase (moved_stmt m (WriteExpr e how)) ∷ expr_moved e i
    stmt_moved (WriteText text) = refl
    stmt_moved WriteLine = refl

    arms_moved : (x : Arms) → arms_phrases (moved_arms m x) ≡ map (moved_phrase m) (arms_phrases x)
    arms_moved no_arms = refl
    arms_moved (more_arms t body rest) = two (test_phrases t ++ stmts_phrases body) (arms_phrases rest)
        (two (test_phrases t) (stmts_phrases body) (test_moved t) (stmts_moved body)) (arms_moved rest)

    cases_moved : (x : CaseArms) → cases_phrases (moved_cases m x) ≡ map (moved_phrase m) (cases_phrases x)
    cases_moved no_cases = refl
    cases_moved (more_cases labels body rest) = two (stmts_phrases body) (cases_phrases rest) (stmts_moved body) (cases_moved rest)

    else_moved : (x : Else) → else_phrases (moved_else m x) ≡ map (moved_phrase m) (else_phrases x)
    else_moved no_else = refl
    else_moved (else_part body) = stmts_moved body

    branches_moved : (x : Branches) → branches_phrases (moved_branches m x) ≡ map (moved_phrase m) (branches_phrases x)
    branches_moved no_branches = refl
    branches_moved (more_branches body rest) = two (stmts_phrases body) (branches_phrases rest) (stmts_moved body) (branches_moved rest)

    pub loop_moved : (x : Loop) → loop_phrases (moved_loop m x) ≡ map (moved_phrase m) (loop_phrases x)
    loop_moved (a_loop d range counter limit from to by body) = two (desig_phrases d ++ expr_phrases from ++ expr_phrases to)
        (stmts_phrases body) (two (desig_phrases d ++ expr_phrases from) (expr_phrases to)
        (two (desig_phrases d) (expr_phrases from) (desig_moved d) (expr_moved from)) (expr_moved to)) (stmts_moved body)

    return_moved : (x : ReturnExpr) → return_phrases (moved_return m x) ≡ map (moved_phrase m) (return_phrases x)
    return_moved no_result = refl
    return_moved (some_result e) = expr_moved e

    test_moved : (x : Test) → test_phrases (moved_test m x) ≡ map (moved_phrase m) (test_phrases x)
    test_moved (Value e) = λ i. TestPhrase (moved_test m (Value e)) ∷ expr_moved e i
    test_moved (Bind d e range left) = λ i. TestPhrase (moved_test m (Bind d e range left)) ∷ two (desig_phrases d) (expr_phrases e)
        (desig_moved d) (expr_moved e) i
    test_moved (Unify d range e range') = λ i. TestPhrase (moved_test m (Unify d range e range')) ∷ two (desig_phrases d) (desig_phrases e)
        (desig_moved d) (desig_moved e) i
    test_moved (SameCells d e) = λ i. TestPhrase (moved_test m (SameCells d e)) ∷ two (desig_phrases d) (desig_phrases e) (desig_moved d)
        (desig_moved e) i
    test_moved (Seq x) = λ i. TestPhrase (moved_test m (Seq x)) ∷ stmts_moved x i
    test_moved (And ts) = λ i. TestPhrase (moved_test m (And ts)) ∷ tests_moved ts i
    test_moved (Or ts) = λ i. TestPhrase (moved_test m (Or ts)) ∷ tests_moved ts i
    test_moved (Not t) = λ i. TestPhrase (moved_test m (Not t)) ∷ test_moved t i
    test_moved (CallTest routine args up) = λ i. TestPhrase (moved_test m (CallTest routine args up)) ∷ args_moved args i

    tests_moved : (x : Tests) → tests_phrases (moved_tests m x) ≡ map (moved_phrase m) (tests_phrases x)
    tests_moved no_tests = refl
    tests_moved (more_tests t rest) = two (test_phrases t) (tests_phrases rest) (test_moved t) (tests_moved rest)

    expr_moved : (x : Expr) → expr_phrases (moved_expr m x) ≡ map (moved_phrase m) (expr_phrases x)
    expr_moved (Const n) = refl
    expr_moved (Load d) = λ i. ExprPhrase (moved_expr m (Load d)) ∷ desig_moved d i
    expr_moved (Chain negated e links) = λ i. ExprPhrase (moved_expr m (Chain negated e links)) ∷ two (expr_phrases e) (links_phrases links)
        (expr_moved e) (links_moved links) i
    expr_moved (Compare how x y) = λ i. ExprPhrase (moved_expr m (Compare how x y)) ∷ two (expr_phrases x) (expr_phrases y) (expr_moved x)
        (expr_moved y) i
    expr_moved (Truth t) = λ i. ExprPhrase (moved_expr m (Truth t)) ∷ test_moved t i
    expr_moved (Known d) = λ i. ExprPhrase (moved_expr m (Known d)) ∷ desig_moved d i
    expr_moved (Chr e) = λ i. ExprPhrase (moved_expr m (Chr e)) ∷ expr_moved e i
    expr_moved (CallExpr routine args up) = λ i. ExprPhrase (moved_expr m (CallExpr routine args up)) ∷ args_moved args i

    links_moved : (x : Links) → links_phrases (moved_links m x) ≡ map (moved_phrase m) (links_phrases x)
    links_moved no_links = refl
    links_moved (more_links how e rest) = two (expr_phrases e) (links_phrases rest) (expr_moved e) (links_moved rest)

    args_moved : (x : Args) → args_phrases (moved_args m x) ≡ map (moved_phrase m) (args_phrases x)
    args_moved no_args = refl
    args_moved (more_args a rest) = two (arg_phrases a) (args_phrases rest) (arg_moved a) (args_moved rest)

    arg_moved : (x : Arg) → arg_phrases (moved_arg m x) ≡ map (moved_phrase m) (arg_phrases x)
    arg_moved (ByValue e range) = λ i. ArgPhrase (moved_arg m (ByValue e range)) ∷ expr_moved e i
    arg_moved (ByCells d) = λ i. ArgPhrase (moved_arg m (ByCells d)) ∷ desig_moved d i
    arg_moved (ByPlace d) = λ i. ArgPhrase (moved_arg m (ByPlace d)) ∷ desig_moved d i
    arg_moved (MixValue e range) = λ i. ArgPhrase (moved_arg m (MixValue e range)) ∷ expr_moved e i
    arg_moved (MixPlace d) = λ i. ArgPhrase (moved_arg m (MixPlace d)) ∷ desig_moved d i

    desig_moved : (x : Desig) → desig_phrases (moved_desig m x) ≡ map (moved_phrase m) (desig_phrases x)
    desig_moved (a_desig root cells sels) = λ i. DesigPhrase (moved_desig m (a_desig root cells sels)) ∷ sels_moved sels i

    sels_moved : (x : Sels) → sels_phrases (moved_sels m x) ≡ map (moved_phrase m) (sels_phrases x)
    sels_moved no_sels = refl
    sels_moved (more_sels x rest) = two (sel_phrases x) (sels_phrases rest) (sel_moved x) (sels_moved rest)

    sel_moved : (x : Sel) → sel_phrases (moved_sel m x) ≡ map (moved_phrase m) (sel_phrases x)
    sel_moved (Field offset cells) = refl
    sel_moved (Index e range cells) = λ i. SelPhrase (moved_sel m (Index e range cells)) ∷ expr_moved e i
