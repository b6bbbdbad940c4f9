-- A phrase with its slots and routines numbered anew, as where a module becomes a part of another.
use Rattle.std.specs.Prelude.{◌≡◌, ℕ}
use Rattle.alma_ir.specs.declared.phrase.Root.{Root}
use Rattle.alma_ir.specs.declared.phrase.Root.TheVariants as root
use Rattle.alma_ir.specs.Tree.{Routine, Global, Stmts, Stmt, Arms, CaseArms, Else, Branches, Loop, ReturnExpr, Test, Tests, Expr, Links}
use Rattle.alma_ir.specs.Tree.{Args, Arg, Desig, Sels, Sel, no_stmts, more_stmts, TestStmt, Assign, CopyCells, If, While, Repeat, ForTo}
use Rattle.alma_ir.specs.Tree.{SomeOf, Case, Either, Forall, Commit, Return, Read, WriteExpr, WriteText, WriteLine, no_arms, more_arms}
use Rattle.alma_ir.specs.Tree.{no_cases, more_cases, no_else, else_part, no_branches, more_branches, a_loop, no_result, some_result, Value}
use Rattle.alma_ir.specs.Tree.{Bind, Unify, SameCells, Seq, And, Or, Not, CallTest, no_tests, more_tests, Const, Load, Chain, Compare}
use Rattle.alma_ir.specs.Tree.{Truth, Known, Chr, CallExpr, no_links, more_links, no_args, more_args, ByValue, ByCells, ByPlace, MixValue}
use Rattle.alma_ir.specs.Tree.{MixPlace, a_desig, no_sels, more_sels, Field, Index}

-- the new number of each slot of the routine itself, of each slot of the module's body, and of each
-- routine
pub record Moves : Type 0 where
  pub own : ℕ → ℕ
  pub global : ℕ → ℕ
  pub routine : ℕ → ℕ

-- a parameter, and a variable of a procedure round it, stay where they are
abbrev pub moved_root : Moves → Root → Root
moved_root m (root.Local slot) = root.Local (m.own slot)
moved_root m (root.Global slot) = root.Global (m.global slot)
moved_root m (root.Param slot) = root.Param slot
moved_root m (root.Outer links slot) = root.Outer links slot
moved_root m (root.OuterParam links slot) = root.OuterParam links slot

unfoldable mutual
  -- statements
  pub moved_stmts : Moves → Stmts → Stmts
  moved_stmts m no_stmts = no_stmts
  moved_stmts m (more_stmts line x rest) = more_stmts line (moved_stmt m x) (moved_stmts m rest)

  -- a statement
  pub moved_stmt : Moves → Stmt → Stmt
  moved_stmt m (TestStmt t) = TestStmt (moved_test m t)
  moved_stmt m (Assign d e range) = Assign (moved_desig m d) (moved_expr m e) range
  moved_stmt m (CopyCells d e) = CopyCells (moved_desig m d) (moved_desig m e)
  moved_stmt m (If arms rest) = If (moved_arms m arms) (moved_stmts m rest)
  moved_stmt m (While t body) = While (moved_test m t) (moved_stmts m body)
  moved_stmt m (Repeat body t) = Repeat (moved_stmts m body) (moved_test m t)
  moved_stmt m (ForTo x) = ForTo (moved_loop m x)
  moved_stmt m (SomeOf x) = SomeOf (moved_loop m x)
  moved_stmt m (Case e arms rest) = Case (moved_expr m e) (moved_cases m arms) (moved_else m rest)
  moved_stmt m (Either x) = Either (moved_branches m x)
  moved_stmt m (Forall x y) = Forall (moved_stmts m x) (moved_stmts m y)
  moved_stmt m (Commit x) = Commit (moved_stmts m x)
  moved_stmt m (Return e) = Return (moved_return m e)
  moved_stmt m (Read d how range) = Read (moved_desig m d) how range
  moved_stmt m (WriteExpr e how) = WriteExpr (moved_expr m e) how
  moved_stmt m (WriteText text) = WriteText text
  moved_stmt m WriteLine = WriteLine

  -- the arms of IF
  pub moved_arms : Moves → Arms → Arms
  moved_arms m no_arms = no_arms
  moved_arms m (more_arms t body rest) = more_arms (moved_test m t) (moved_stmts m body) (moved_arms m rest)

  -- the arms of CASE
  pub moved_cases : Moves → CaseArms → CaseArms
  moved_cases m no_cases = no_cases
  moved_cases m (more_cases labels body rest) = more_cases labels (moved_stmts m body) (moved_cases m rest)

  -- the ELSE part of CASE
  pub moved_else : Moves → Else → Else
  moved_else m no_else = no_else
  moved_else m (else_part body) = else_part (moved_stmts m body)

  -- the branches of EITHER
  pub moved_branches : Moves → Branches → Branches
  moved_branches m no_branches = no_branches
  moved_branches m (more_branches body rest) = more_branches (moved_stmts m body) (moved_branches m rest)

  -- a loop, with the hidden slots of its count
  pub moved_loop : Moves → Loop → Loop
  moved_loop m (a_loop d range counter limit from to by body) =
      a_loop (moved_desig m d) range (m.own counter) (m.own limit) (moved_expr m from) (moved_expr m to) by (moved_stmts m body)

  -- what RETURN gives
  pub moved_return : Moves → ReturnExpr → ReturnExpr
  moved_return m no_result = no_result
  moved_return m (some_result e) = some_result (moved_expr m e)

  -- a test
  pub moved_test : Moves → Test → Test
  moved_test m (Value e) = Value (moved_expr m e)
  moved_test m (Bind d e range left) = Bind (moved_desig m d) (moved_expr m e) range left
  moved_test m (Unify d range e range2) = Unify (moved_desig m d) range (moved_desig m e) range2
  moved_test m (SameCells d e) = SameCells (moved_desig m d) (moved_desig m e)
  moved_test m (Seq x) = Seq (moved_stmts m x)
  moved_test m (And ts) = And (moved_tests m ts)
  moved_test m (Or ts) = Or (moved_tests m ts)
  moved_test m (Not t) = Not (moved_test m t)
  moved_test m (CallTest r args up) = CallTest (m.routine r) (moved_args m args) up

  -- the operands of AND or OR
  pub moved_tests : Moves → Tests → Tests
  moved_tests m no_tests = no_tests
  moved_tests m (more_tests t rest) = more_tests (moved_test m t) (moved_tests m rest)

  -- an expression
  pub moved_expr : Moves → Expr → Expr
  moved_expr m (Const v) = Const v
  moved_expr m (Load d) = Load (moved_desig m d)
  moved_expr m (Chain negated e links) = Chain negated (moved_expr m e) (moved_links m links)
  moved_expr m (Compare how x y) = Compare how (moved_expr m x) (moved_expr m y)
  moved_expr m (Truth t) = Truth (moved_test m t)
  moved_expr m (Known d) = Known (moved_desig m d)
  moved_expr m (Chr e) = Chr (moved_expr m e)
  moved_expr m (CallExpr r args up) = CallExpr (m.routine r) (moved_args m args) up

  -- operators with their operands
  pub moved_links : Moves → Links → Links
  moved_links m no_links = no_links
  moved_links m (more_links how e rest) = more_links how (moved_expr m e) (moved_links m rest)

  -- the arguments of a call
  pub moved_args : Moves → Args → Args
  moved_args m no_args = no_args
  moved_args m (more_args a rest) = more_args (moved_arg m a) (moved_args m rest)

  -- an argument
  pub moved_arg : Moves → Arg → Arg
  moved_arg m (ByValue e range) = ByValue (moved_expr m e) range
  moved_arg m (ByCells d) = ByCells (moved_desig m d)
  moved_arg m (ByPlace d) = ByPlace (moved_desig m d)
  moved_arg m (MixValue e range) = MixValue (moved_expr m e) range
  moved_arg m (MixPlace d) = MixPlace (moved_desig m d)

  -- a variable or a part of one
  pub moved_desig : Moves → Desig → Desig
  moved_desig m (a_desig at cells sels) = a_desig (moved_root m at) cells (moved_sels m sels)

  -- selectors
  pub moved_sels : Moves → Sels → Sels
  moved_sels m no_sels = no_sels
  moved_sels m (more_sels x rest) = more_sels (moved_sel m x) (moved_sels m rest)

  -- a selector
  pub moved_sel : Moves → Sel → Sel
  moved_sel m (Field offset cells) = Field offset cells
  moved_sel m (Index e range cells) = Index (moved_expr m e) range cells

-- a routine: its body, and the routine round it
abbrev pub moved_routine : Moves → Routine → Routine
moved_routine m r = record r { body = moved_stmts m r.body; outer = m.routine r.outer }

-- a variable of the module
abbrev pub moved_global : Moves → Global → Global
moved_global m g = record g { slot = m.global g.slot }

-- where no number changes the statements stay
abbrev pub StatementsStay : Type 0
StatementsStay =
    (m : Moves) → ((n : ℕ) → m.own n ≡ n) → ((n : ℕ) → m.global n ≡ n) → ((n : ℕ) → m.routine n ≡ n) → (x : Stmts) → moved_stmts m x ≡ x
