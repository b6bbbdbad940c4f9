-- The line of each statement: `lines` of a routine has them in the order of the text, a statement
-- before those inside it.
use Rattle.std.specs.Prelude.{ℕ, suc, true, false, List, [], ◌∷◌, get_or, drop}
use Rattle.alma_ir.specs.Tree.{Stmts, Stmt, Arms, CaseArms, Else, Branches, Loop, ReturnExpr, Test, Tests, Expr, Links, Args, Arg, Desig}
use Rattle.alma_ir.specs.Tree.{Sels, Sel, no_stmts, more_stmts, Routine, TestStmt, Assign, CopyCells, If, While, Repeat, ForTo, SomeOf}
use Rattle.alma_ir.specs.Tree.{Case, Either, Forall, Commit, Return, Read, WriteExpr, WriteText, WriteLine, no_arms, more_arms, no_cases}
use Rattle.alma_ir.specs.Tree.{more_cases, no_else, else_part, no_branches, more_branches, a_loop, no_result, some_result, Value, Bind}
use Rattle.alma_ir.specs.Tree.{Unify, SameCells, Seq, And, Or, Not, CallTest, no_tests, more_tests, Const, Load, Chain, Compare, Truth}
use Rattle.alma_ir.specs.Tree.{Known, Chr, CallExpr, no_links, more_links, no_args, more_args, ByValue, ByCells, ByPlace, MixValue}
use Rattle.alma_ir.specs.Tree.{MixPlace, a_desig, no_sels, more_sels, Field, Index}
use Rattle.alma_ir.specs.Phrases.{Phrase, StmtPhrase, TestPhrase, ExprPhrase, ArgPhrase, DesigPhrase, SelPhrase, stmts_phrases}
use Rattle.alma_ir.specs.Phrases.{stmt_phrases, arms_phrases, cases_phrases, test_phrases, expr_phrases, arg_phrases, desig_phrases}
use Rattle.alma_ir.specs.Phrases.{sel_phrases}

-- how many of the phrases are statements
abbrev pub stmt_count : List Phrase → ℕ
stmt_count [] = 0
stmt_count (StmtPhrase x ∷ rest) = suc (stmt_count rest)
stmt_count (TestPhrase t ∷ rest) = stmt_count rest
stmt_count (ExprPhrase e ∷ rest) = stmt_count rest
stmt_count (ArgPhrase a ∷ rest) = stmt_count rest
stmt_count (DesigPhrase d ∷ rest) = stmt_count rest
stmt_count (SelPhrase x ∷ rest) = stmt_count rest

-- the lines behind those of the statements among the phrases
abbrev pub behind : List Phrase → List ℕ → List ℕ
behind phrases ls = drop (stmt_count phrases) ls

-- The phrases with these lines, handed out in the order of the text. A statement for which none is
-- left has line 0, and lines that are left over are dropped.
unfoldable mutual
  -- a statement has the first line, those inside it the next ones, and the rest those behind
  pub stmts_with : Stmts → List ℕ → Stmts
  stmts_with no_stmts ls = no_stmts
  stmts_with (more_stmts line x rest) ls =
      more_stmts (get_or ls 0 0) (stmt_with x (drop 1 ls)) (stmts_with rest (behind (stmt_phrases x) ls))

  -- the parts of a statement
  pub stmt_with : Stmt → List ℕ → Stmt
  stmt_with (TestStmt t) ls = TestStmt (test_with t ls)
  stmt_with (Assign d e range) ls = Assign (desig_with d ls) (expr_with e (behind (desig_phrases d) ls)) range
  stmt_with (CopyCells d e) ls = CopyCells (desig_with d ls) (desig_with e (behind (desig_phrases d) ls))
  stmt_with (If arms rest) ls = If (arms_with arms ls) (stmts_with rest (behind (arms_phrases arms) ls))
  stmt_with (While t body) ls = While (test_with t ls) (stmts_with body (behind (test_phrases t) ls))
  stmt_with (Repeat body t) ls = Repeat (stmts_with body ls) (test_with t (behind (stmts_phrases body) ls))
  stmt_with (ForTo l) ls = ForTo (loop_with l ls)
  stmt_with (SomeOf l) ls = SomeOf (loop_with l ls)
  stmt_with (Case e arms rest) ls =
      Case (expr_with e ls) (cases_with arms (behind (expr_phrases e) ls))
      (else_with rest (behind (cases_phrases arms) (behind (expr_phrases e) ls)))
  stmt_with (Either branches) ls = Either (branches_with branches ls)
  stmt_with (Forall x y) ls = Forall (stmts_with x ls) (stmts_with y (behind (stmts_phrases x) ls))
  stmt_with (Commit x) ls = Commit (stmts_with x ls)
  stmt_with (Return e) ls = Return (return_with e ls)
  stmt_with (Read d how range) ls = Read (desig_with d ls) how range
  stmt_with (WriteExpr e how) ls = WriteExpr (expr_with e ls) how
  stmt_with (WriteText text) ls = WriteText text
  stmt_with WriteLine ls = WriteLine

  -- the condition of an arm of IF, its body, and the next arm
  pub arms_with : Arms → List ℕ → Arms
  arms_with no_arms ls = no_arms
  arms_with (more_arms t body rest) ls =
      more_arms (test_with t ls) (stmts_with body (behind (test_phrases t) ls))
      (arms_with rest (behind (stmts_phrases body) (behind (test_phrases t) ls)))

  -- the arms of CASE; a label has no statement
  pub cases_with : CaseArms → List ℕ → CaseArms
  cases_with no_cases ls = no_cases
  cases_with (more_cases labels body rest) ls = more_cases labels (stmts_with body ls) (cases_with rest (behind (stmts_phrases body) ls))

  -- the ELSE part
  pub else_with : Else → List ℕ → Else
  else_with no_else ls = no_else
  else_with (else_part body) ls = else_part (stmts_with body ls)

  -- the branches of EITHER
  pub branches_with : Branches → List ℕ → Branches
  branches_with no_branches ls = no_branches
  branches_with (more_branches body rest) ls = more_branches (stmts_with body ls) (branches_with rest (behind (stmts_phrases body) ls))

  -- the variable of a loop, both bounds, and the body
  pub loop_with : Loop → List ℕ → Loop
  loop_with (a_loop d range counter limit from to by body) ls =
      a_loop (desig_with d ls) range counter limit (expr_with from (behind (desig_phrases d) ls))
      (expr_with to (behind (expr_phrases from) (behind (desig_phrases d) ls))) by
      (stmts_with body (behind (expr_phrases to) (behind (expr_phrases from) (behind (desig_phrases d) ls))))

  -- what RETURN gives
  pub return_with : ReturnExpr → List ℕ → ReturnExpr
  return_with no_result ls = no_result
  return_with (some_result e) ls = some_result (expr_with e ls)

  -- the parts of a test; in an equation the side that stands on the left comes first
  pub test_with : Test → List ℕ → Test
  test_with (Value e) ls = Value (expr_with e ls)
  test_with (Bind d e range true) ls = Bind (desig_with d ls) (expr_with e (behind (desig_phrases d) ls)) range true
  test_with (Bind d e range false) ls = Bind (desig_with d (behind (expr_phrases e) ls)) (expr_with e ls) range false
  test_with (Unify d range e range') ls = Unify (desig_with d ls) range (desig_with e (behind (desig_phrases d) ls)) range'
  test_with (SameCells d e) ls = SameCells (desig_with d ls) (desig_with e (behind (desig_phrases d) ls))
  test_with (Seq body) ls = Seq (stmts_with body ls)
  test_with (And ts) ls = And (tests_with ts ls)
  test_with (Or ts) ls = Or (tests_with ts ls)
  test_with (Not t) ls = Not (test_with t ls)
  test_with (CallTest r args up) ls = CallTest r (args_with args ls) up

  -- the operands of AND or OR
  pub tests_with : Tests → List ℕ → Tests
  tests_with no_tests ls = no_tests
  tests_with (more_tests t rest) ls = more_tests (test_with t ls) (tests_with rest (behind (test_phrases t) ls))

  -- the parts of an expression
  pub expr_with : Expr → List ℕ → Expr
  expr_with (Const n) ls = Const n
  expr_with (Load d) ls = Load (desig_with d ls)
  expr_with (Chain negated e links) ls = Chain negated (expr_with e ls) (links_with links (behind (expr_phrases e) ls))
  expr_with (Compare how x y) ls = Compare how (expr_with x ls) (expr_with y (behind (expr_phrases x) ls))
  expr_with (Truth t) ls = Truth (test_with t ls)
  expr_with (Known d) ls = Known (desig_with d ls)
  expr_with (Chr e) ls = Chr (expr_with e ls)
  expr_with (CallExpr r args up) ls = CallExpr r (args_with args ls) up

  -- the operands behind operators
  pub links_with : Links → List ℕ → Links
  links_with no_links ls = no_links
  links_with (more_links how e rest) ls = more_links how (expr_with e ls) (links_with rest (behind (expr_phrases e) ls))

  -- the arguments of a call
  pub args_with : Args → List ℕ → Args
  args_with no_args ls = no_args
  args_with (more_args a rest) ls = more_args (arg_with a ls) (args_with rest (behind (arg_phrases a) ls))

  -- an argument
  pub arg_with : Arg → List ℕ → Arg
  arg_with (ByValue e range) ls = ByValue (expr_with e ls) range
  arg_with (ByCells d) ls = ByCells (desig_with d ls)
  arg_with (ByPlace d) ls = ByPlace (desig_with d ls)
  arg_with (MixValue e range) ls = MixValue (expr_with e ls) range
  arg_with (MixPlace d) ls = MixPlace (desig_with d ls)

  -- the selectors of a designator
  pub desig_with : Desig → List ℕ → Desig
  desig_with (a_desig root cells sels) ls = a_desig root cells (sels_with sels ls)

  -- selectors
  pub sels_with : Sels → List ℕ → Sels
  sels_with no_sels ls = no_sels
  sels_with (more_sels x rest) ls = more_sels (sel_with x ls) (sels_with rest (behind (sel_phrases x) ls))

  -- the index of a selector
  pub sel_with : Sel → List ℕ → Sel
  sel_with (Field offset cells) ls = Field offset cells
  sel_with (Index e range cells) ls = Index (expr_with e ls) range cells

-- the body of a routine, each statement with its line
abbrev pub body_with_lines : Routine → Stmts
body_with_lines routine = stmts_with routine.body routine.lines
