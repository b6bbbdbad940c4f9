-- The phrases of a routine, at any depth: what conditions on a program speak of.
use Rattle.std.specs.Prelude.{List, [], ◌∷◌, ◌++◌}
use Rattle.alma_ir.specs.Tree.{Stmts, Stmt, Arms, CaseArms, Else, Branches, Loop, ReturnExpr, Test, Tests, Expr, Links, Args, Arg, Desig}
use Rattle.alma_ir.specs.Tree.{Sels, Sel, no_stmts, more_stmts, TestStmt, Assign, CopyCells, If, While, Repeat, ForTo, SomeOf, Case, Either}
use Rattle.alma_ir.specs.Tree.{Forall, Commit, Return, Read, WriteExpr, WriteText, WriteLine, no_arms, more_arms, no_cases, more_cases}
use Rattle.alma_ir.specs.Tree.{no_else, else_part, no_branches, more_branches, a_loop, no_result, some_result, Value, Bind, Unify}
use Rattle.alma_ir.specs.Tree.{SameCells, Seq, And, Or, Not, CallTest, no_tests, more_tests, Const, Load, Chain, Compare, Truth, Known, Chr}
use Rattle.alma_ir.specs.Tree.{CallExpr, no_links, more_links, no_args, more_args, ByValue, ByCells, ByPlace, MixValue, MixPlace, a_desig}
use Rattle.alma_ir.specs.Tree.{no_sels, more_sels, Field, Index}

-- a statement, test, expression, argument, designator or selector
pub data Phrase : Type 0 where
  StmtPhrase : Stmt → Phrase
  TestPhrase : Test → Phrase
  ExprPhrase : Expr → Phrase
  ArgPhrase : Arg → Phrase
  DesigPhrase : Desig → Phrase
  SelPhrase : Sel → Phrase

-- each phrase itself, and then those in it, in the order in which it holds its parts
unfoldable mutual
  -- of all the statements
  pub stmts_phrases : Stmts → List Phrase
  stmts_phrases no_stmts = []
  stmts_phrases (more_stmts line x rest) = stmt_phrases x ++ stmts_phrases rest

  -- of a statement
  pub stmt_phrases : Stmt → List Phrase
  stmt_phrases (TestStmt t) = StmtPhrase (TestStmt t) ∷ test_phrases t
  stmt_phrases (Assign d e range) = StmtPhrase (Assign d e range) ∷ (desig_phrases d ++ expr_phrases e)
  stmt_phrases (CopyCells d e) = StmtPhrase (CopyCells d e) ∷ (desig_phrases d ++ desig_phrases e)
  stmt_phrases (If arms rest) = StmtPhrase (If arms rest) ∷ (arms_phrases arms ++ stmts_phrases rest)
  stmt_phrases (While t body) = StmtPhrase (While t body) ∷ (test_phrases t ++ stmts_phrases body)
  stmt_phrases (Repeat body t) = StmtPhrase (Repeat body t) ∷ (stmts_phrases body ++ test_phrases t)
  stmt_phrases (ForTo l) = StmtPhrase (ForTo l) ∷ loop_phrases l
  stmt_phrases (SomeOf l) = StmtPhrase (SomeOf l) ∷ loop_phrases l
  stmt_phrases (Case e arms rest) = StmtPhrase (Case e arms rest) ∷ (expr_phrases e ++ cases_phrases arms ++ else_phrases rest)
  stmt_phrases (Either branches) = StmtPhrase (Either branches) ∷ branches_phrases branches
  stmt_phrases (Forall x y) = StmtPhrase (Forall x y) ∷ (stmts_phrases x ++ stmts_phrases y)
  stmt_phrases (Commit x) = StmtPhrase (Commit x) ∷ stmts_phrases x
  stmt_phrases (Return e) = StmtPhrase (Return e) ∷ return_phrases e
  stmt_phrases (Read d how range) = StmtPhrase (Read d how range) ∷ desig_phrases d
  stmt_phrases (WriteExpr e how) = StmtPhrase (WriteExpr e how) ∷ expr_phrases e
  stmt_phrases (WriteText text) = StmtPhrase (WriteText text) ∷ []
  stmt_phrases WriteLine = StmtPhrase WriteLine ∷ []

  -- of the conditions and bodies of IF
  pub arms_phrases : Arms → List Phrase
  arms_phrases no_arms = []
  arms_phrases (more_arms t body rest) = test_phrases t ++ stmts_phrases body ++ arms_phrases rest

  -- of the bodies of CASE; a label is no phrase
  pub cases_phrases : CaseArms → List Phrase
  cases_phrases no_cases = []
  cases_phrases (more_cases labels body rest) = stmts_phrases body ++ cases_phrases rest

  -- of the ELSE part
  pub else_phrases : Else → List Phrase
  else_phrases no_else = []
  else_phrases (else_part body) = stmts_phrases body

  -- of the branches of EITHER
  pub branches_phrases : Branches → List Phrase
  branches_phrases no_branches = []
  branches_phrases (more_branches body rest) = stmts_phrases body ++ branches_phrases rest

  -- of the variable, the bounds and the body of a loop
  pub loop_phrases : Loop → List Phrase
  loop_phrases (a_loop d range counter limit from to by body) =
      desig_phrases d ++ expr_phrases from ++ expr_phrases to ++ stmts_phrases body

  -- of what RETURN gives
  pub return_phrases : ReturnExpr → List Phrase
  return_phrases no_result = []
  return_phrases (some_result e) = expr_phrases e

  -- of a test
  pub test_phrases : Test → List Phrase
  test_phrases (Value e) = TestPhrase (Value e) ∷ expr_phrases e
  test_phrases (Bind d e range left) = TestPhrase (Bind d e range left) ∷ (desig_phrases d ++ expr_phrases e)
  test_phrases (Unify d range e range') = TestPhrase (Unify d range e range') ∷ (desig_phrases d ++ desig_phrases e)
  test_phrases (SameCells d e) = TestPhrase (SameCells d e) ∷ (desig_phrases d ++ desig_phrases e)
  test_phrases (Seq x) = TestPhrase (Seq x) ∷ stmts_phrases x
  test_phrases (And ts) = TestPhrase (And ts) ∷ tests_phrases ts
  test_phrases (Or ts) = TestPhrase (Or ts) ∷ tests_phrases ts
  test_phrases (Not t) = TestPhrase (Not t) ∷ test_phrases t
  test_phrases (CallTest routine args up) = TestPhrase (CallTest routine args up) ∷ args_phrases args

  -- of the operands of AND or OR
  pub tests_phrases : Tests → List Phrase
  tests_phrases no_tests = []
  tests_phrases (more_tests t rest) = test_phrases t ++ tests_phrases rest

  -- of an expression
  pub expr_phrases : Expr → List Phrase
  expr_phrases (Const n) = ExprPhrase (Const n) ∷ []
  expr_phrases (Load d) = ExprPhrase (Load d) ∷ desig_phrases d
  expr_phrases (Chain negated e links) = ExprPhrase (Chain negated e links) ∷ (expr_phrases e ++ links_phrases links)
  expr_phrases (Compare how x y) = ExprPhrase (Compare how x y) ∷ (expr_phrases x ++ expr_phrases y)
  expr_phrases (Truth t) = ExprPhrase (Truth t) ∷ test_phrases t
  expr_phrases (Known d) = ExprPhrase (Known d) ∷ desig_phrases d
  expr_phrases (Chr e) = ExprPhrase (Chr e) ∷ expr_phrases e
  expr_phrases (CallExpr routine args up) = ExprPhrase (CallExpr routine args up) ∷ args_phrases args

  -- of the operands behind operators
  pub links_phrases : Links → List Phrase
  links_phrases no_links = []
  links_phrases (more_links how e rest) = expr_phrases e ++ links_phrases rest

  -- of the arguments of a call
  pub args_phrases : Args → List Phrase
  args_phrases no_args = []
  args_phrases (more_args a rest) = arg_phrases a ++ args_phrases rest

  -- of an argument
  pub arg_phrases : Arg → List Phrase
  arg_phrases (ByValue e range) = ArgPhrase (ByValue e range) ∷ expr_phrases e
  arg_phrases (ByCells d) = ArgPhrase (ByCells d) ∷ desig_phrases d
  arg_phrases (ByPlace d) = ArgPhrase (ByPlace d) ∷ desig_phrases d
  arg_phrases (MixValue e range) = ArgPhrase (MixValue e range) ∷ expr_phrases e
  arg_phrases (MixPlace d) = ArgPhrase (MixPlace d) ∷ desig_phrases d

  -- of a designator
  pub desig_phrases : Desig → List Phrase
  desig_phrases (a_desig root cells sels) = DesigPhrase (a_desig root cells sels) ∷ sels_phrases sels

  -- of selectors
  pub sels_phrases : Sels → List Phrase
  sels_phrases no_sels = []
  sels_phrases (more_sels x rest) = sel_phrases x ++ sels_phrases rest

  -- of a selector
  pub sel_phrases : Sel → List Phrase
  sel_phrases (Field offset cells) = SelPhrase (Field offset cells) ∷ []
  sel_phrases (Index e range cells) = SelPhrase (Index e range cells) ∷ expr_phrases e
