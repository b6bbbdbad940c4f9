-- Phrases with their lines have as many READs as without.
use Rattle.std.proofs.Common.{◌≡◌, ℕ, List, drop, true, false, refl, arith}
use Rattle.alma_ir.specs.Tree.{Stmts, Stmt, Arms, CaseArms, Else, Branches, Loop, ReturnExpr, Test, Tests, Expr, Links, Args, Arg, Desig}
use Rattle.alma_ir.specs.Tree.{Sels, Sel, no_stmts, more_stmts, TestStmt, Assign, CopyCells, If, While, Repeat, ForTo, SomeOf, Case, Either}
use Rattle.alma_ir.specs.Tree.{Forall, Commit, Return, Read, WriteExpr, WriteText, WriteLine, no_arms, more_arms, no_cases, more_cases}
use Rattle.alma_ir.specs.Tree.{no_else, else_part, no_branches, more_branches, a_loop, no_result, some_result, Value, Bind, Unify}
use Rattle.alma_ir.specs.Tree.{SameCells, Seq, And, Or, Not, CallTest, no_tests, more_tests, Const, Load, Chain, Compare, Truth, Known, Chr}
use Rattle.alma_ir.specs.Tree.{CallExpr, no_links, more_links, no_args, more_args, ByValue, ByCells, ByPlace, MixValue, MixPlace, a_desig}
use Rattle.alma_ir.specs.Tree.{no_sels, more_sels, Field, Index}
use Rattle.alma_ir.specs.Lines.{behind, stmts_with, stmt_with, arms_with, cases_with, else_with, branches_with, loop_with, return_with}
use Rattle.alma_ir.specs.Lines.{test_with, tests_with, expr_with, links_with, args_with, arg_with, desig_with, sels_with, sel_with}
use Rattle.alma_ir.specs.Phrases.{stmts_phrases, stmt_phrases, arms_phrases, cases_phrases, test_phrases, expr_phrases, arg_phrases}
use Rattle.alma_ir.specs.Phrases.{desig_phrases, sel_phrases}
use Rattle.alma_lower_sound.proofs.Readers.{stmts_reads, stmt_reads, arms_reads, cases_reads, else_reads, branches_reads, loop_reads}
use Rattle.alma_lower_sound.proofs.Readers.{return_reads, test_reads, tests_reads, expr_reads, links_reads, args_reads, arg_reads}
use Rattle.alma_lower_sound.proofs.Readers.{desig_reads, sels_reads, sel_reads}

mutual
  unfolding stmts_with

  pub stmts_alike : (x : Stmts) (ls : List ℕ) → stmts_reads (stmts_with x ls) ≡ stmts_reads x
  stmts_alike no_stmts ls = refl
  stmts_alike (more_stmts line x rest) ls = omega (arith, stmt_alike x (drop 1 ls), stmts_alike rest (behind (stmt_phrases x) ls))

  stmt_alike : (x : Stmt) (ls : List ℕ) → stmt_reads (stmt_with x ls) ≡ stmt_reads x
  stmt_alike (TestStmt t) ls = omega (arith, test_alike t ls)
  stmt_alike (Assign d e range) ls = omega (arith, desig_alike d ls, expr_alike e (behind (desig_phrases d) ls))
  stmt_alike (CopyCells d e) ls = omega (arith, desig_alike d ls, desig_alike e (behind (desig_phrases d) ls))
  stmt_alike (If arms rest) ls = omega (arith, arms_alike arms ls, stmts_alike rest (behind (arms_phrases arms) ls))
  stmt_alike (While t body) ls = omega (arith, test_alike t ls, stmts_alike body (behind (test_phrases t) ls))
  stmt_alike (Repeat body t) ls = omega (arith, stmts_alike body ls, test_alike t (behind (stmts_phrases body) ls))
  stmt_alike (ForTo l) ls = omega (arith, loop_alike l ls)
  stmt_alike (SomeOf l) ls = omega (arith, loop_alike l ls)
  stmt_alike (Case e arms rest) ls =
      let ls2 = behind (expr_phrases e) ls in
      omega (arith, expr_alike e ls, cases_alike arms ls2, else_alike rest (behind (cases_phrases arms) ls2))
  stmt_alike (Either x) ls = omega (arith, branches_alike x ls)
  stmt_alike (Forall x y) ls = omega (arith, stmts_alike x ls, stmts_alike y (behind (stmts_phrases x) ls))
  stmt_alike (Commit x) ls = omega (arith, stmts_alike x ls)
  stmt_alike (Return e) ls = omega (arith, return_alike e ls)
  stmt_alike (Read d how range) ls = omega (arith, desig_alike d ls)
  stmt_alike (WriteExpr e how) ls = omega (arith, expr_alike e ls)
  stmt_alike (WriteText text) ls = refl
  stmt_alike WriteLine ls = refl

  arms_alike : (x : Arms) (ls : List ℕ) → arms_reads (arms_with x ls) ≡ arms_reads x
  arms_alike no_arms ls = refl
  arms_alike (more_arms t body rest) ls =
      let ls2 = behind (test_phrases t) ls in
      omega (arith, test_alike t ls, stmts_alike body ls2, arms_alike rest (behind (stmts_phrases body) ls2))

  cases_alike : (x : CaseArms) (ls : List ℕ) → cases_reads (cases_with x ls) ≡ cases_reads x
  cases_alike no_cases ls = refl
  cases_alike (more_cases labels body rest) ls = omega (arith, stmts_alike body ls, cases_alike rest (behind (stmts_phrases body) ls))

  else_alike : (x : Else) (ls : List ℕ) → else_reads (else_with x ls) ≡ else_reads x
  else_alike no_else ls = refl
  else_alike (else_part body) ls = stmts_alike body ls

  branches_alike : (x : Branches) (ls : List ℕ) → branches_reads (branches_with x ls) ≡ branches_reads x
  branches_alike no_branches ls = refl
  branches_alike (more_branches body rest) ls = omega (arith, stmts_alike body ls, branches_alike rest (behind (stmts_phrases body) ls))

  loop_alike : (x : Loop) (ls : List ℕ) → loop_reads (loop_with x ls) ≡ loop_reads x
  loop_alike (a_loop d range counter limit from to by body) ls =
      let ls2 = behind (desig_phrases d) ls in
      let ls3 = behind (expr_phrases from) ls2 in
      omega (arith, desig_alike d ls, expr_alike from ls2, expr_alike to ls3, stmts_alike body (behind (expr_phrases to) ls3))

  return_alike : (x : ReturnExpr) (ls : List ℕ) → return_reads (return_with x ls) ≡ return_reads x
  return_alike no_result ls = refl
  return_alike (some_result e) ls = expr_alike e ls

  test_alike : (x : Test) (ls : List ℕ) → test_reads (test_with x ls) ≡ test_reads x
  test_alike (Value e) ls = omega (arith, expr_alike e ls)
  test_alike (Bind d e range true) ls = omega (arith, desig_alike d ls, expr_alike e (behind (desig_phrases d) ls))
  test_alike (Bind d e range false) ls = omega (arith, desig_alike d (behind (expr_phrases e) ls), expr_alike e ls)
  test_alike (Unify d range e range2) ls = omega (arith, desig_alike d ls, desig_alike e (behind (desig_phrases d) ls))
  test_alike (SameCells d e) ls = omega (arith, desig_alike d ls, desig_alike e (behind (desig_phrases d) ls))
  test_alike (Seq x) ls = omega (arith, stmts_alike x ls)
  test_alike (And ts) ls = omega (arith, tests_alike ts ls)
  test_alike (Or ts) ls = omega (arith, tests_alike ts ls)
  test_alike (Not t) ls = omega (arith, test_alike t ls)
  test_alike (CallTest called args up) ls = omega (arith, args_alike args ls)

  tests_alike : (x : Tests) (ls : List ℕ) → tests_reads (tests_with x ls) ≡ tests_reads x
  tests_alike no_tests ls = refl
  tests_alike (more_tests t rest) ls = omega (arith, test_alike t ls, tests_alike rest (behind (test_phrases t) ls))

  expr_alike : (x : Expr) (ls : List ℕ) → expr_reads (expr_with x ls) ≡ expr_reads x
  expr_alike (Const n) ls = refl
  expr_alike (Load d) ls = omega (arith, desig_alike d ls)
  expr_alike (Chain negated e links) ls = omega (arith, expr_alike e ls, links_alike links (behind (expr_phrases e) ls))
  expr_alike (Compare how x y) ls = omega (arith, expr_alike x ls, expr_alike y (behind (expr_phrases x) ls))
  expr_alike (Truth t) ls = omega (arith, test_alike t ls)
  expr_alike (Known d) ls = omega (arith, desig_alike d ls)
  expr_alike (Chr e) ls = omega (arith, expr_alike e ls)
  expr_alike (CallExpr called args up) ls = omega (arith, args_alike args ls)

  links_alike : (x : Links) (ls : List ℕ) → links_reads (links_with x ls) ≡ links_reads x
  links_alike no_links ls = refl
  links_alike (more_links how e rest) ls = omega (arith, expr_alike e ls, links_alike rest (behind (expr_phrases e) ls))

  args_alike : (x : Args) (ls : List ℕ) → args_reads (args_with x ls) ≡ args_reads x
  args_alike no_args ls = refl
  args_alike (more_args a rest) ls = omega (arith, arg_alike a ls, args_alike rest (behind (arg_phrases a) ls))

  arg_alike : (x : Arg) (ls : List ℕ) → arg_reads (arg_with x ls) ≡ arg_reads x
  arg_alike (ByValue e range) ls = omega (arith, expr_alike e ls)
  arg_alike (ByCells d) ls = omega (arith, desig_alike d ls)
  arg_alike (ByPlace d) ls = omega (arith, desig_alike d ls)
  arg_alike (MixValue e range) ls = omega (arith, expr_alike e ls)
  arg_alike (MixPlace d) ls = omega (arith, desig_alike d ls)

  desig_alike : (x : Desig) (ls : List ℕ) → desig_reads (desig_with x ls) ≡ desig_reads x
  desig_alike (a_desig root cells sels) ls = omega (arith, sels_alike sels ls)

  sels_alike : (x : Sels) (ls : List ℕ) → sels_reads (sels_with x ls) ≡ sels_reads x
  sels_alike no_sels ls = refl
  sels_alike (more_sels x rest) ls = omega (arith, sel_alike x ls, sels_alike rest (behind (sel_phrases x) ls))

  sel_alike : (x : Sel) (ls : List ℕ) → sel_reads (sel_with x ls) ≡ sel_reads x
  sel_alike (Field offset cells) ls = refl
  sel_alike (Index e range cells) ls = omega (arith, expr_alike e ls)
