-- What the parts of statements stand for.
use Rattle.std.specs.Global.{Global}
use Rattle.std.specs.Prelude.{List, [], ◌∷◌, ◌++◌, Option, None, Some, option_map, Vec}
use Rattle.alma_ir.specs.Tree as ir
use Rattle.alma_ir.specs.declared.phrase.Stmt.{Stmt}
use Rattle.alma_ir.specs.declared.phrase.Test.{Test}
use Rattle.alma_ir.specs.declared.phrase.Arm.{Arm}
use Rattle.alma_ir.specs.declared.phrase.CaseArm.{CaseArm}
use Rattle.alma_ir.specs.declared.phrase.Branch.{Branch}
use Rattle.alma_ir.specs.declared.phrase.Loop.{Loop}
use Rattle.alma_ir.specs.View.{test_of, stmts_list, arms_list, cases_list, branches_list, else_option, loop_of}

-- ---- parts that there may not be, since a name in use is Bad

-- a test, where it is not Bad
abbrev pub test_in : Option Test → Option ir.Test
test_in t = option_map test_of t

-- a condition with the statements behind it
abbrev pub guarded_of : Arm → ir.Test × ir.Stmts
guarded_of a = (test_of a.cond, stmts_list a.body.items)

-- such a condition with its statements, where neither is Bad
abbrev pub guarded_in : Option Arm → Option (ir.Test × ir.Stmts)
guarded_in a = option_map guarded_of a

-- the arms of IF in a vector
abbrev pub arms_of : Vec Arm Global → ir.Arms
arms_of v = arms_list v.items

-- the arms of IF, where none is Bad
abbrev pub arms_in : Option (Vec Arm Global) → Option ir.Arms
arms_in v = option_map arms_of v

-- the arms of CASE in a vector
abbrev pub cases_of : Vec CaseArm Global → ir.CaseArms
cases_of v = cases_list v.items

-- the arms of CASE, where none is Bad
abbrev pub cases_in : Option (Vec CaseArm Global) → Option ir.CaseArms
cases_in v = option_map cases_of v

-- the branches of EITHER in a vector
abbrev pub branches_of : Vec Branch Global → ir.Branches
branches_of v = branches_list v.items

-- the branches of EITHER, where none is Bad
abbrev pub branches_in : Option (Vec Branch Global) → Option ir.Branches
branches_in v = option_map branches_of v

-- the ELSE part of CASE or that there is none, where it is not Bad
abbrev pub else_in : Option (Option (Vec Stmt Global)) → Option ir.Else
else_in x = option_map else_option x

-- what FOR and SOME share, where it is not Bad
abbrev pub loop_in : Option Loop → Option ir.Loop
loop_in x = option_map loop_of x

-- ---- one more part

-- the parts of a vector, where none is Bad
abbrev pub items_in : {A : Type 0} → Option (Vec A Global) → Option (List A)
items_in v = option_map (λ x. x.items) v

-- parts with one more behind them; all are Bad where one is
abbrev pub push : {A : Type 0} → Option (List A) → Option A → Option (List A)
push None x = None
push (Some xs) None = None
push (Some xs) (Some x) = Some (xs ++ x ∷ [])
