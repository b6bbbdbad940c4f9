-- The resolved program as a plain tree of numbers and lists. A list of phrases is a type of its
-- own.
use Rattle.std.specs.Prelude.{ℕ, ℤ, Bool, List, [], Option, None, get_or}
use Rattle.alma_base.specs.declared.number.Range.{Range}
use Rattle.alma_ir.specs.declared.phrase.ReadAs.{ReadAs}
use Rattle.alma_ir.specs.declared.phrase.WriteAs.{WriteAs}
use Rattle.alma_ir.specs.declared.phrase.Op.{Op}
use Rattle.alma_ir.specs.declared.phrase.Cmp.{Cmp}
use Rattle.alma_ir.specs.declared.phrase.Root.{Root}
use Rattle.alma_ir.specs.declared.program.Param.{Param}

mutual
  -- statements in order, each with its line, or 0
  pub data Stmts : Type 0 where
    no_stmts : Stmts
    more_stmts : (line : ℕ) → Stmt → Stmts → Stmts

  -- a statement; a range is that of the type of the variable that gets a number
  pub data Stmt : Type 0 where
    TestStmt : Test → Stmt
    Assign : Desig → Expr → Range → Stmt
    CopyCells : Desig → Desig → Stmt
    If : Arms → Stmts → Stmt
    While : Test → Stmts → Stmt
    Repeat : Stmts → Test → Stmt
    ForTo : Loop → Stmt
    SomeOf : Loop → Stmt
    Case : Expr → CaseArms → Else → Stmt
    Either : Branches → Stmt
    Forall : Stmts → Stmts → Stmt
    Commit : Stmts → Stmt
    Return : ReturnExpr → Stmt
    Read : Desig → ReadAs → Range → Stmt
    WriteExpr : Expr → WriteAs → Stmt
    WriteText : List ℕ → Stmt
    WriteLine : Stmt

  -- the arms of IF, each a condition and a body
  pub data Arms : Type 0 where
    no_arms : Arms
    more_arms : (cond : Test) (body : Stmts) → Arms → Arms

  -- the arms of CASE, each with its labels
  pub data CaseArms : Type 0 where
    no_cases : CaseArms
    more_cases : (labels : List Range) (body : Stmts) → CaseArms → CaseArms

  -- the ELSE part of CASE
  pub data Else : Type 0 where
    no_else : Else
    else_part : Stmts → Else

  -- the branches of EITHER
  pub data Branches : Type 0 where
    no_branches : Branches
    more_branches : (body : Stmts) → Branches → Branches

  -- what FOR and SOME share: the variable with the range of its type, the hidden slots of the count
  -- and of its limit, both bounds, the step and the body
  pub data Loop : Type 0 where
    a_loop : (var : Desig) (range : Range) (counter limit : ℕ) (from to : Expr) (by : ℤ) (body : Stmts) → Loop

  -- what RETURN gives
  pub data ReturnExpr : Type 0 where
    no_result : ReturnExpr
    some_result : Expr → ReturnExpr

  -- what succeeds or fails. The flag of Bind says that the variable stands on the left; `up` of a
  -- call is how many links lead from its frame to that of the routine round the called one
  pub data Test : Type 0 where
    Value : Expr → Test
    Bind : Desig → Expr → Range → Bool → Test
    Unify : Desig → Range → Desig → Range → Test
    SameCells : Desig → Desig → Test
    Seq : Stmts → Test
    And : Tests → Test
    Or : Tests → Test
    Not : Test → Test
    CallTest : (routine : ℕ) → Args → (up : ℕ) → Test

  -- the operands of AND or OR
  pub data Tests : Type 0 where
    no_tests : Tests
    more_tests : Test → Tests → Tests

  -- what has a number. The flag of Chain says that the first operand is negated; Truth is a test as
  -- a value; `up` is as in a test
  pub data Expr : Type 0 where
    Const : ℤ → Expr
    Load : Desig → Expr
    Chain : Bool → Expr → Links → Expr
    Compare : Cmp → Expr → Expr → Expr
    Truth : Test → Expr
    Known : Desig → Expr
    Chr : Expr → Expr
    CallExpr : (routine : ℕ) → Args → (up : ℕ) → Expr

  -- operators, each with the operand behind it, from left to right
  pub data Links : Type 0 where
    no_links : Links
    more_links : Op → (operand : Expr) → Links → Links

  -- the arguments of a call, in order
  pub data Args : Type 0 where
    no_args : Args
    more_args : Arg → Args → Args

  -- an argument: a number for a value, or for MIX; a variable whose cells are copied; or one that
  -- is handed over as a place, for VAR or for MIX. The range is that of the parameter's type
  pub data Arg : Type 0 where
    ByValue : Expr → Range → Arg
    ByCells : Desig → Arg
    ByPlace : Desig → Arg
    MixValue : Expr → Range → Arg
    MixPlace : Desig → Arg

  -- a variable or a part of one: its root with so many cells, narrowed by selectors
  pub data Desig : Type 0 where
    a_desig : (root : Root) (cells : ℕ) → Sels → Desig

  -- selectors, from left to right
  pub data Sels : Type 0 where
    no_sels : Sels
    more_sels : Sel → Sels → Sels

  -- a field at an offset, or the element with an index of this range; `cells` are those of the part
  -- that is taken
  pub data Sel : Type 0 where
    Field : (offset cells : ℕ) → Sel
    Index : Expr → Range → (cells : ℕ) → Sel

-- the body of the module or a procedure. `lines` has the line of each statement of the body in the
-- order of the text, a statement before those inside it; in `body` itself each line is 0
pub record Routine : Type 0 where
  pub name : List ℕ
  pub params : List Param
  pub result : Option Range
  pub declared : ℕ
  pub slots : ℕ
  pub body : Stmts
  pub level : ℕ
  pub outer : ℕ
  pub line : ℕ
  pub lines : List ℕ

-- a variable of the module: so many slots of routine 0 from `slot` on
pub record Global : Type 0 where
  pub name : List ℕ
  pub slot : ℕ
  pub cells : ℕ

-- a resolved program; routine 0 is the body of the module
pub record Program : Type 0 where
  pub name : List ℕ
  pub globals : List Global
  pub routines : List Routine

-- a routine that does nothing
abbrev pub no_routine : Routine
no_routine = record {
  name = [];
  params = [];
  result = None;
  declared = 0;
  slots = 0;
  body = no_stmts;
  level = 0;
  outer = 0;
  line = 0;
  lines = [];
}

-- the routine with this number, or one that does nothing where there is none
abbrev pub routine_at : Program → ℕ → Routine
routine_at p r = get_or p.routines r no_routine
