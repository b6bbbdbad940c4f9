-- The plain tree that a value of the crate's types stands for.
use Rattle.std.specs.Prelude.{List, [], ◌∷◌, map, Vec, Option, Some, None}
use Rattle.alma_ir.specs.declared.phrase.Stmt as S
use Rattle.alma_ir.specs.declared.phrase.Test as T
use Rattle.alma_ir.specs.declared.phrase.Expr as E
use Rattle.alma_ir.specs.declared.phrase.Arg as A
use Rattle.alma_ir.specs.declared.phrase.Sel as L
use Rattle.alma_ir.specs.declared.phrase.Desig as D
use Rattle.std.specs.declared.alloc.Global.{Global as Heap}
use Rattle.alma_ir.specs.declared.phrase.Arm.{Arm}
use Rattle.alma_ir.specs.declared.phrase.CaseArm.{CaseArm}
use Rattle.alma_ir.specs.declared.phrase.Branch.{Branch}
use Rattle.alma_ir.specs.declared.phrase.Loop.{Loop}
use Rattle.alma_ir.specs.declared.phrase.Link.{Link}
use Rattle.alma_ir.specs.declared.program.Global.{Global}
use Rattle.alma_ir.specs.declared.program.Routine.{Routine}
use Rattle.alma_ir.specs.declared.program.Program.{Program}
use Rattle.alma_ir.specs.Tree

unfoldable mutual
  -- a row of statements; a value has no line at a statement, so the tree has 0 there
  pub stmts_of : {m : _} → S.Row_of-Stmt m → Tree.Stmts
  stmts_of S.end_of-Stmt = Tree.no_stmts
  stmts_of (S.more_of-Stmt x rest) = Tree.more_stmts 0 (stmt_of x) (stmts_of rest)

  -- a statement
  pub stmt_of : S.Stmt → Tree.Stmt
  stmt_of (S.Test t) = Tree.TestStmt (test_of t)
  stmt_of (S.Assign' r c v sels e range) = Tree.Assign (Tree.a_desig r c (sels_of sels)) (expr_of e) range
  stmt_of (S.CopyCells' r c v sels r2 c2 v2 sels2) =
      Tree.CopyCells (Tree.a_desig r c (sels_of sels)) (Tree.a_desig r2 c2 (sels_of sels2))
  stmt_of (S.If' v arms w rest) = Tree.If (arms_of arms) (stmts_of rest)
  stmt_of (S.While' t v body) = Tree.While (test_of t) (stmts_of body)
  stmt_of (S.Repeat' v body t) = Tree.Repeat (stmts_of body) (test_of t)
  stmt_of (S.ForTo' r c v sels range counter limit from to by w body) =
      Tree.ForTo (Tree.a_loop (Tree.a_desig r c (sels_of sels)) range counter limit (expr_of from) (expr_of to) by (stmts_of body))
  stmt_of (S.SomeOf' r c v sels range counter limit from to by w body) =
      Tree.SomeOf (Tree.a_loop (Tree.a_desig r c (sels_of sels)) range counter limit (expr_of from) (expr_of to) by (stmts_of body))
  stmt_of (S.Case' e v arms rest) = Tree.Case (expr_of e) (cases_of arms) (else_of rest)
  stmt_of (S.Either' v branches) = Tree.Either (branches_of branches)
  stmt_of (S.Forall' v a w b) = Tree.Forall (stmts_of a) (stmts_of b)
  stmt_of (S.Commit' v a) = Tree.Commit (stmts_of a)
  stmt_of (S.Return' e) = Tree.Return (return_of e)
  stmt_of (S.Read' r c v sels how range) = Tree.Read (Tree.a_desig r c (sels_of sels)) how range
  stmt_of (S.WriteExpr e how) = Tree.WriteExpr (expr_of e) how
  stmt_of (S.WriteText text) = Tree.WriteText text.items
  stmt_of S.WriteLine = Tree.WriteLine

  -- the arms of IF
  pub arms_of : {m : _} → S.Row_of-Arm m → Tree.Arms
  arms_of S.end_of-Arm = Tree.no_arms
  arms_of (S.more_of-Arm cond v body rest) = Tree.more_arms (test_of cond) (stmts_of body) (arms_of rest)

  -- the arms of CASE
  pub cases_of : {m : _} → S.Row_of-CaseArm m → Tree.CaseArms
  cases_of S.end_of-CaseArm = Tree.no_cases
  cases_of (S.more_of-CaseArm labels v body rest) = Tree.more_cases labels.items (stmts_of body) (cases_of rest)

  -- the ELSE part of CASE, where there is one
  pub else_of : S.Held-Stmt-Case-2 → Tree.Else
  else_of S.Stmt-Case-2-None' = Tree.no_else
  else_of (S.Stmt-Case-2-Some' v body) = Tree.else_part (stmts_of body)

  -- the branches of EITHER
  pub branches_of : {m : _} → S.Row_of-Branch m → Tree.Branches
  branches_of S.end_of-Branch = Tree.no_branches
  branches_of (S.more_of-Branch v body rest) = Tree.more_branches (stmts_of body) (branches_of rest)

  -- what RETURN gives
  pub return_of : S.Held-Stmt-Return-0 → Tree.ReturnExpr
  return_of S.Stmt-Return-0-None' = Tree.no_result
  return_of (S.Stmt-Return-0-Some' e) = Tree.some_result (expr_of e)

  -- a test
  pub test_of : T.Test → Tree.Test
  test_of (T.Value e) = Tree.Value (expr_of e)
  test_of (T.Bind' r c v sels e range left) = Tree.Bind (Tree.a_desig r c (sels_of sels)) (expr_of e) range left
  test_of (T.Unify' r c v sels range r2 c2 v2 sels2 range2) =
      Tree.Unify (Tree.a_desig r c (sels_of sels)) range (Tree.a_desig r2 c2 (sels_of sels2)) range2
  test_of (T.SameCells' r c v sels r2 c2 v2 sels2) =
      Tree.SameCells (Tree.a_desig r c (sels_of sels)) (Tree.a_desig r2 c2 (sels_of sels2))
  test_of (T.Seq' v body) = Tree.Seq (stmts_of body)
  test_of (T.And' v ts) = Tree.And (tests_of ts)
  test_of (T.Or' v ts) = Tree.Or (tests_of ts)
  test_of (T.Not' p t) = Tree.Not (test_of t)
  test_of (T.Call' routine v args up) = Tree.CallTest routine (args_of args) up

  -- the operands of AND or OR
  pub tests_of : {m : _} → T.Row_of-Test m → Tree.Tests
  tests_of T.end_of-Test = Tree.no_tests
  tests_of (T.more_of-Test t rest) = Tree.more_tests (test_of t) (tests_of rest)

  -- an expression
  pub expr_of : E.Expr → Tree.Expr
  expr_of (E.Const n) = Tree.Const n
  expr_of (E.Load' r c v sels) = Tree.Load (Tree.a_desig r c (sels_of sels))
  expr_of (E.Chain' neg p e v links) = Tree.Chain neg (expr_of e) (links_of links)
  expr_of (E.Compare' cmp p a q b) = Tree.Compare cmp (expr_of a) (expr_of b)
  expr_of (E.Truth' p t) = Tree.Truth (test_of t)
  expr_of (E.Known' r c v sels) = Tree.Known (Tree.a_desig r c (sels_of sels))
  expr_of (E.Chr' p e) = Tree.Chr (expr_of e)
  expr_of (E.Call' routine v args up) = Tree.CallExpr routine (args_of args) up

  -- operators with their operands
  pub links_of : {m : _} → E.Row_of-Link m → Tree.Links
  links_of E.end_of-Link = Tree.no_links
  links_of (E.more_of-Link op e rest) = Tree.more_links op (expr_of e) (links_of rest)

  -- the arguments of a call
  pub args_of : {m : _} → T.Row_of-Arg m → Tree.Args
  args_of T.end_of-Arg = Tree.no_args
  args_of (T.more_of-Arg a rest) = Tree.more_args (arg_of a) (args_of rest)

  -- an argument
  pub arg_of : A.Arg → Tree.Arg
  arg_of (A.Value e range) = Tree.ByValue (expr_of e) range
  arg_of (A.Cells' r c v sels) = Tree.ByCells (Tree.a_desig r c (sels_of sels))
  arg_of (A.Place' r c v sels) = Tree.ByPlace (Tree.a_desig r c (sels_of sels))
  arg_of (A.MixValue e range) = Tree.MixValue (expr_of e) range
  arg_of (A.MixPlace' r c v sels) = Tree.MixPlace (Tree.a_desig r c (sels_of sels))

  -- selectors
  pub sels_of : {m : _} → D.Row_of-Sel m → Tree.Sels
  sels_of D.end_of-Sel = Tree.no_sels
  sels_of (D.more_of-Sel x rest) = Tree.more_sels (sel_of x) (sels_of rest)

  -- a selector
  pub sel_of : L.Sel → Tree.Sel
  sel_of (L.Field offset cells) = Tree.Field offset cells
  sel_of (L.Index e range cells) = Tree.Index (expr_of e) range cells

-- ---- lists of phrases, as `.items` gives them, and the structs

-- statements, each with line 0
abbrev pub stmts_list : List S.Stmt → Tree.Stmts
stmts_list [] = Tree.no_stmts
stmts_list (x ∷ rest) = Tree.more_stmts 0 (stmt_of x) (stmts_list rest)

-- the operands of AND or OR
abbrev pub tests_list : List T.Test → Tree.Tests
tests_list [] = Tree.no_tests
tests_list (x ∷ rest) = Tree.more_tests (test_of x) (tests_list rest)

-- the arguments of a call
abbrev pub args_list : List A.Arg → Tree.Args
args_list [] = Tree.no_args
args_list (x ∷ rest) = Tree.more_args (arg_of x) (args_list rest)

-- selectors
abbrev pub sels_list : List L.Sel → Tree.Sels
sels_list [] = Tree.no_sels
sels_list (x ∷ rest) = Tree.more_sels (sel_of x) (sels_list rest)

-- the arms of IF
abbrev pub arms_list : List Arm → Tree.Arms
arms_list [] = Tree.no_arms
arms_list (x ∷ rest) = Tree.more_arms (test_of x.cond) (stmts_list x.body.items) (arms_list rest)

-- the arms of CASE
abbrev pub cases_list : List CaseArm → Tree.CaseArms
cases_list [] = Tree.no_cases
cases_list (x ∷ rest) = Tree.more_cases x.labels.items (stmts_list x.body.items) (cases_list rest)

-- the branches of EITHER
abbrev pub branches_list : List Branch → Tree.Branches
branches_list [] = Tree.no_branches
branches_list (x ∷ rest) = Tree.more_branches (stmts_list x.body.items) (branches_list rest)

-- operators with their operands
abbrev pub links_list : List Link → Tree.Links
links_list [] = Tree.no_links
links_list (x ∷ rest) = Tree.more_links x.op (expr_of x.operand) (links_list rest)

-- what RETURN gives
abbrev pub return_option : Option E.Expr → Tree.ReturnExpr
return_option None = Tree.no_result
return_option (Some e) = Tree.some_result (expr_of e)

-- the ELSE part of CASE
abbrev pub else_option : Option (Vec S.Stmt Heap) → Tree.Else
else_option None = Tree.no_else
else_option (Some v) = Tree.else_part (stmts_list v.items)

-- a variable or a part of one
abbrev pub desig_of : D.Desig → Tree.Desig
desig_of d = Tree.a_desig d.root d.cells (sels_list d.sels.items)

-- what FOR and SOME share
abbrev pub loop_of : Loop → Tree.Loop
loop_of l = Tree.a_loop (desig_of l.var) l.range l.counter l.limit (expr_of l.from) (expr_of l.to) l.by (stmts_list l.body.items)

-- a routine, with every field as it is; its body has line 0 at each statement
abbrev pub routine_of : Routine → Tree.Routine
routine_of r = record {
  name = r.name.items;
  params = r.params.items;
  result = r.result;
  declared = r.declared;
  slots = r.slots;
  body = stmts_list r.body.items;
  level = r.level;
  outer = r.outer;
  line = r.line;
  lines = r.lines.items;
}

-- a variable of the module
abbrev pub global_of : Global → Tree.Global
global_of g = record { name = g.name.items; slot = g.slot; cells = g.cells }

-- a whole program
abbrev pub program_of : Program → Tree.Program
program_of p = record {
  name = p.name.items;
  globals = map global_of p.globals.items;
  routines = map routine_of p.routines.items;
}
