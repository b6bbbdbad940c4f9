-- What the private functions of this crate promise. No reader of the contracts needs it.
use Rattle.std.specs.Prelude.{ℕ, zero, suc, ◌++◌, List, [], Bool, true, false, ◌||◌, codes}
use Rattle.alma_ir.specs.Tree.{Global, Stmts, Stmt, Arms, CaseArms, Else, Branches, Loop, no_stmts, more_stmts, TestStmt, Assign, CopyCells}
use Rattle.alma_ir.specs.Tree.{If, While, Repeat, ForTo, SomeOf, Case, Either, Forall, Commit, Return, Read, WriteExpr, WriteText}
use Rattle.alma_ir.specs.Tree.{WriteLine, no_arms, more_arms, no_cases, more_cases, no_else, else_part, no_branches, more_branches, a_loop}
use Rattle.alma_listing.specs.Lister.{write_cells}

-- what stands before a global, given how many are before it
abbrev pub space_before : ℕ → List ℕ
space_before zero = []
space_before (suc n) = codes " "

-- the statements of one global, and then others
abbrev pub write_global : (before : List ℕ) → Global → Stmts → Stmts
write_global before g rest = more_stmts 0 (WriteText (before ++ g.name ++ codes "=")) (write_cells g.slot g.cells rest)

-- whether a RETURN stands in statements, outside their tests and expressions
unfoldable mutual
  -- in any of them
  pub stmts_return : Stmts → Bool
  stmts_return no_stmts = false
  stmts_return (more_stmts line x rest) = stmt_returns x || stmts_return rest

  -- in a statement
  pub stmt_returns : Stmt → Bool
  stmt_returns (TestStmt t) = false
  stmt_returns (Assign d e range) = false
  stmt_returns (CopyCells d e) = false
  stmt_returns (If arms rest) = arms_return arms || stmts_return rest
  stmt_returns (While t body) = stmts_return body
  stmt_returns (Repeat body t) = stmts_return body
  stmt_returns (ForTo x) = loop_returns x
  stmt_returns (SomeOf x) = loop_returns x
  stmt_returns (Case e arms rest) = cases_return arms || else_returns rest
  stmt_returns (Either x) = branches_return x
  stmt_returns (Forall x y) = false
  stmt_returns (Commit x) = false
  stmt_returns (Return e) = true
  stmt_returns (Read d how range) = false
  stmt_returns (WriteExpr e how) = false
  stmt_returns (WriteText text) = false
  stmt_returns WriteLine = false

  -- in the arms of IF
  pub arms_return : Arms → Bool
  arms_return no_arms = false
  arms_return (more_arms t body rest) = stmts_return body || arms_return rest

  -- in the arms of CASE
  pub cases_return : CaseArms → Bool
  cases_return no_cases = false
  cases_return (more_cases labels body rest) = stmts_return body || cases_return rest

  -- in the ELSE part of CASE
  pub else_returns : Else → Bool
  else_returns no_else = false
  else_returns (else_part body) = stmts_return body

  -- in the branches of EITHER
  pub branches_return : Branches → Bool
  branches_return no_branches = false
  branches_return (more_branches body rest) = stmts_return body || branches_return rest

  -- in the body of a loop
  pub loop_returns : Loop → Bool
  loop_returns (a_loop d range counter limit from to by body) = stmts_return body
