-- The nodes of a resolved program: each routine, statement, test, expression, argument, designator
-- and selector, each arm of IF or CASE, each branch and each label. The parts of a loop, a call, an
-- operator with its operand and an ELSE part are none by themselves.
use Rattle.std.specs.Prelude.{ℕ, ◌+◌, ◌-◌, ◌^◌, min, List, [], ◌∷◌, length}
use Rattle.alma_ir.specs.Tree.{Stmts, Stmt, Arms, CaseArms, Else, Branches, Loop, ReturnExpr, Test, Tests, Expr, Links, Args, Arg, Desig}
use Rattle.alma_ir.specs.Tree.{Sels, Sel, Routine, Program, no_stmts, more_stmts, TestStmt, Assign, CopyCells, If, While, Repeat, ForTo}
use Rattle.alma_ir.specs.Tree.{SomeOf, Case, Either, Forall, Commit, Return, Read, WriteExpr, WriteText, WriteLine, no_arms, more_arms}
use Rattle.alma_ir.specs.Tree.{no_cases, more_cases, no_else, else_part, no_branches, more_branches, a_loop, no_result, some_result, Value}
use Rattle.alma_ir.specs.Tree.{Bind, Unify, SameCells, Seq, And, Or, Not, CallTest, no_tests, more_tests, Const, Load, Chain, Compare}
use Rattle.alma_ir.specs.Tree.{Truth, Known, Chr, CallExpr, no_links, more_links, no_args, more_args, ByValue, ByCells, ByPlace, MixValue}
use Rattle.alma_ir.specs.Tree.{MixPlace, a_desig, no_sels, more_sels, Field, Index}

abbrev mutual
  -- those of all the statements
  pub stmts_nodes : Stmts → ℕ
  stmts_nodes no_stmts = 0
  stmts_nodes (more_stmts line x rest) = stmt_nodes x + stmts_nodes rest

  -- a statement is one, and so are its parts
  pub stmt_nodes : Stmt → ℕ
  stmt_nodes (TestStmt t) = 1 + test_nodes t
  stmt_nodes (Assign d e range) = 1 + desig_nodes d + expr_nodes e
  stmt_nodes (CopyCells d e) = 1 + desig_nodes d + desig_nodes e
  stmt_nodes (If arms rest) = 1 + arms_nodes arms + stmts_nodes rest
  stmt_nodes (While t body) = 1 + test_nodes t + stmts_nodes body
  stmt_nodes (Repeat body t) = 1 + stmts_nodes body + test_nodes t
  stmt_nodes (ForTo l) = 1 + loop_nodes l
  stmt_nodes (SomeOf l) = 1 + loop_nodes l
  stmt_nodes (Case e arms rest) = 1 + expr_nodes e + cases_nodes arms + else_nodes rest
  stmt_nodes (Either branches) = 1 + branches_nodes branches
  stmt_nodes (Forall a b) = 1 + stmts_nodes a + stmts_nodes b
  stmt_nodes (Commit a) = 1 + stmts_nodes a
  stmt_nodes (Return e) = 1 + return_nodes e
  stmt_nodes (Read d how range) = 1 + desig_nodes d
  stmt_nodes (WriteExpr e how) = 1 + expr_nodes e
  stmt_nodes (WriteText text) = 1
  stmt_nodes WriteLine = 1

  -- each arm of IF is one
  pub arms_nodes : Arms → ℕ
  arms_nodes no_arms = 0
  arms_nodes (more_arms t body rest) = 1 + test_nodes t + stmts_nodes body + arms_nodes rest

  -- each arm of CASE is one, and so is each of its labels
  pub cases_nodes : CaseArms → ℕ
  cases_nodes no_cases = 0
  cases_nodes (more_cases labels body rest) = 1 + length labels + stmts_nodes body + cases_nodes rest

  -- the ELSE part is none, its statements are
  pub else_nodes : Else → ℕ
  else_nodes no_else = 0
  else_nodes (else_part body) = stmts_nodes body

  -- each branch is one
  pub branches_nodes : Branches → ℕ
  branches_nodes no_branches = 0
  branches_nodes (more_branches body rest) = 1 + stmts_nodes body + branches_nodes rest

  -- the variable, both bounds and the body; the loop is counted as a statement
  pub loop_nodes : Loop → ℕ
  loop_nodes (a_loop d range counter limit from to by body) =
      desig_nodes d + expr_nodes from + expr_nodes to + stmts_nodes body

  -- the expression of a RETURN, where there is one
  pub return_nodes : ReturnExpr → ℕ
  return_nodes no_result = 0
  return_nodes (some_result e) = expr_nodes e

  -- a test is one, and so are its parts
  pub test_nodes : Test → ℕ
  test_nodes (Value e) = 1 + expr_nodes e
  test_nodes (Bind d e range left) = 1 + desig_nodes d + expr_nodes e
  test_nodes (Unify d range e range2) = 1 + desig_nodes d + desig_nodes e
  test_nodes (SameCells d e) = 1 + desig_nodes d + desig_nodes e
  test_nodes (Seq body) = 1 + stmts_nodes body
  test_nodes (And ts) = 1 + tests_nodes ts
  test_nodes (Or ts) = 1 + tests_nodes ts
  test_nodes (Not t) = 1 + test_nodes t
  test_nodes (CallTest routine args up) = 1 + args_nodes args

  -- those of all the operands
  pub tests_nodes : Tests → ℕ
  tests_nodes no_tests = 0
  tests_nodes (more_tests t rest) = test_nodes t + tests_nodes rest

  -- an expression is one, and so are its parts
  pub expr_nodes : Expr → ℕ
  expr_nodes (Const n) = 1
  expr_nodes (Load d) = 1 + desig_nodes d
  expr_nodes (Chain neg e links) = 1 + expr_nodes e + links_nodes links
  expr_nodes (Compare cmp a b) = 1 + expr_nodes a + expr_nodes b
  expr_nodes (Truth t) = 1 + test_nodes t
  expr_nodes (Known d) = 1 + desig_nodes d
  expr_nodes (Chr e) = 1 + expr_nodes e
  expr_nodes (CallExpr routine args up) = 1 + args_nodes args

  -- an operator is none, its operand is
  pub links_nodes : Links → ℕ
  links_nodes no_links = 0
  links_nodes (more_links op e rest) = expr_nodes e + links_nodes rest

  -- those of all the arguments
  pub args_nodes : Args → ℕ
  args_nodes no_args = 0
  args_nodes (more_args a rest) = arg_nodes a + args_nodes rest

  -- an argument is one, and so is its expression or designator
  pub arg_nodes : Arg → ℕ
  arg_nodes (ByValue e range) = 1 + expr_nodes e
  arg_nodes (ByCells d) = 1 + desig_nodes d
  arg_nodes (ByPlace d) = 1 + desig_nodes d
  arg_nodes (MixValue e range) = 1 + expr_nodes e
  arg_nodes (MixPlace d) = 1 + desig_nodes d

  -- a designator is one, and so is each selector
  pub desig_nodes : Desig → ℕ
  desig_nodes (a_desig root cells sels) = 1 + sels_nodes sels

  -- those of all the selectors
  pub sels_nodes : Sels → ℕ
  sels_nodes no_sels = 0
  sels_nodes (more_sels x rest) = sel_nodes x + sels_nodes rest

  -- a selector is one, and so is the expression of an index
  pub sel_nodes : Sel → ℕ
  sel_nodes (Field offset cells) = 1
  sel_nodes (Index e range cells) = 1 + expr_nodes e

-- a routine is one, and so are the phrases of its body
abbrev pub routine_nodes : Routine → ℕ
routine_nodes r = 1 + stmts_nodes r.body

-- those of all the routines
abbrev pub routines_nodes : List Routine → ℕ
routines_nodes [] = 0
routines_nodes (r ∷ rest) = routine_nodes r + routines_nodes rest

-- all nodes of a program
abbrev pub nodes : Program → ℕ
nodes p = routines_nodes p.routines

-- the smaller of n and 2^64-1
abbrev pub saturate : ℕ → ℕ
saturate n = min n (2 ^ 64 - 1)
