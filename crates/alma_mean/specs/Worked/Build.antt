-- Words for small programs and for what they print. Variables are named by their slots.
use Rattle.std.specs.Prelude.{◌≡◌, ℕ, suc, ◌-◌, ◌^◌, true, false, pos, List, [], ◌∷◌, ◌++◌, None, Some, codes, replicate}
use Rattle.std.specs.Fmt.{decimal}
use Rattle.alma_base.specs.Numbers.{whole_range}
use Rattle.alma_base.specs.declared.number.Range.{Range}
use Rattle.alma_ir.specs.declared.program.ArgKind.{ArgKind}
use Rattle.alma_ir.specs.declared.program.Param.{Param}
use Rattle.alma_ir.specs.declared.phrase.Root.TheVariants as root
use Rattle.alma_ir.specs.declared.phrase.Op.{Op}
use Rattle.alma_ir.specs.declared.phrase.Op.TheVariants as op
use Rattle.alma_ir.specs.declared.phrase.WriteAs.TheVariants as write_as
use Rattle.alma_ir.specs.Tree.{Stmts, Stmt, Arms, CaseArms, Branches, Test, Tests, Expr, Links, Args, Arg, Desig, Sels, Sel, Routine}
use Rattle.alma_ir.specs.Tree.{Program, no_stmts, more_stmts, TestStmt, Assign, ForTo, SomeOf, Either, Forall, WriteExpr, no_arms}
use Rattle.alma_ir.specs.Tree.{more_arms, no_cases, more_cases, no_branches, more_branches, a_loop, Value, Bind, CallTest, no_tests}
use Rattle.alma_ir.specs.Tree.{more_tests, Const, Load, Chain, Known, CallExpr, no_links, more_links, no_args, more_args, a_desig, no_sels}
use Rattle.alma_ir.specs.Tree.{more_sels, Index}
use Rattle.alma_ir.specs.Phrases.{stmts_phrases}
use Rattle.alma_ir.specs.Lines.{stmt_count}
use Rattle.alma_mean.specs.Events.{End, first, visit_count}
use Rattle.alma_mean.specs.Meaning.{ev_program, result}

-- ---- lists of phrases

-- statements, with line 0 each; a program has its lines beside them
abbrev pub stmts : List Stmt → Stmts
stmts [] = no_stmts
stmts (x ∷ rest) = more_stmts 0 x (stmts rest)

-- the branches of EITHER
abbrev pub branches : List (List Stmt) → Branches
branches [] = no_branches
branches (body ∷ rest) = more_branches (stmts body) (branches rest)

-- the arms of IF, each a condition and a body
abbrev pub arms : List (Test × List Stmt) → Arms
arms [] = no_arms
arms (arm ∷ rest) = more_arms arm.0 (stmts arm.1) (arms rest)

-- the arms of CASE, each its labels and a body
abbrev pub case_arms : List (List Range × List Stmt) → CaseArms
case_arms [] = no_cases
case_arms (arm ∷ rest) = more_cases arm.0 (stmts arm.1) (case_arms rest)

-- the operands of AND or OR
abbrev pub tests : List Test → Tests
tests [] = no_tests
tests (t ∷ rest) = more_tests t (tests rest)

-- operators, each with the operand behind it
abbrev pub links : List (Op × Expr) → Links
links [] = no_links
links (link ∷ rest) = more_links link.0 link.1 (links rest)

-- the arguments of a call
abbrev pub args : List Arg → Args
args [] = no_args
args (a ∷ rest) = more_args a (args rest)

-- selectors
abbrev pub sels : List Sel → Sels
sels [] = no_sels
sels (x ∷ rest) = more_sels x (sels rest)

-- ---- programs

-- the range of INTEGER
abbrev pub int : Range
int = whole_range

-- the range from one number to another
abbrev pub range : ℕ → ℕ → Range
range low high = record { low = pos low; high = pos high }

-- line 1 for each statement
abbrev pub on_line_1 : List Stmt → List ℕ
on_line_1 body = replicate (stmt_count (stmts_phrases (stmts body))) 1

-- a module with so many slots, the lines of its statements, its statements and its procedures
abbrev pub module_at : ℕ → List ℕ → List Stmt → List Routine → Program
module_at slots lines body procedures = record {
  name = codes "A";
  globals = [];
  routines = record {
    name = codes "A";
    params = [];
    result = None;
    declared = slots - 1;
    slots = slots;
    body = stmts body;
    level = 0;
    outer = 0;
    line = 1;
    lines = lines;
  } ∷ procedures;
}

-- the same with all on line 1
abbrev pub module_with : ℕ → List Stmt → List Routine → Program
module_with slots body procedures = module_at slots (on_line_1 body) body procedures

-- the same with no procedures
abbrev pub module_of : ℕ → List Stmt → Program
module_of slots body = module_with slots body []

-- a procedure of the module with these parameters, so many slots, and these statements
abbrev pub procedure : List Param → ℕ → List Stmt → Routine
procedure params slots body = record {
  name = codes "p";
  params = params;
  result = None;
  declared = slots;
  slots = slots;
  body = stmts body;
  level = 1;
  outer = 0;
  line = 1;
  lines = on_line_1 body;
}

-- a function of the module, with the range of its result
abbrev pub function : List Param → Range → ℕ → List Stmt → Routine
function params result slots body = record (procedure params slots body) { name = codes "f"; result = Some result }

-- a routine inside another, with its level and the number of that
abbrev pub inside : (level outer : ℕ) → Routine → Routine
inside level outer routine = record routine { level = level; outer = outer }

-- a routine that begins at a line, and the lines of its statements
abbrev pub at_lines : ℕ → List ℕ → Routine → Routine
at_lines line lines routine = record routine { line = line; lines = lines }

-- a parameter of this kind from a slot on, with so many cells
abbrev pub param : ArgKind → ℕ → ℕ → Param
param kind slot cells = record { kind = kind; slot = slot; cells = cells; range = int }

-- ---- designators and expressions

-- a variable of one cell in the frame of the routine itself
abbrev pub var : ℕ → Desig
var slot = a_desig (root.Local slot) 1 no_sels

-- a variable of the module in a procedure
abbrev pub global : ℕ → Desig
global slot = a_desig (root.Global slot) 1 no_sels

-- what a parameter's place names
abbrev pub through_param : ℕ → Desig
through_param slot = a_desig (root.Param slot) 1 no_sels

-- a variable of one cell in the frame so many links up
abbrev pub outer : (links slot : ℕ) → Desig
outer links slot = a_desig (root.Outer links slot) 1 no_sels

-- what the place of a parameter names in the frame so many links up
abbrev pub through_outer_param : (links slot : ℕ) → Desig
through_outer_param links slot = a_desig (root.OuterParam links slot) 1 no_sels

-- all cells of a structured variable
abbrev pub whole : ℕ → ℕ → Desig
whole slot cells = a_desig (root.Local slot) cells no_sels

-- an element of an array of n single cells from a slot on, with indexes from 1
abbrev pub element : ℕ → ℕ → Expr → Desig
element slot n index = a_desig (root.Local slot) n (more_sels (Index index (range 1 n) 1) no_sels)

-- a number as an expression
abbrev pub number : ℕ → Expr
number n = Const (pos n)

-- the value of a variable
abbrev pub load : ℕ → Expr
load slot = Load (var slot)

-- -n
abbrev pub minus : ℕ → Expr
minus n = Chain true (number n) no_links

-- two operands with an operator between them
abbrev pub operate : Op → Expr → Expr → Expr
operate how x y = Chain false x (links ((how, y) ∷ []))

-- `x + y`
abbrev pub plus : Expr → Expr → Expr
plus = operate op.Add

-- the greatest number of INTEGER
abbrev pub greatest : Expr
greatest = number (2 ^ 63 - 1)

-- ---- statements

-- an expression as a statement
abbrev pub test : Expr → Stmt
test e = TestStmt (Value e)

-- `TRUE` as a statement
abbrev pub succeed : Stmt
succeed = test (number 1)

-- `FALSE` as a statement
abbrev pub fail : Stmt
fail = test (number 0)

-- `x = n`
abbrev pub equals : ℕ → ℕ → Test
equals slot n = Bind (var slot) (number n) int true

-- `x = n` as a statement
abbrev pub is : ℕ → ℕ → Stmt
is slot n = TestStmt (equals slot n)

-- `x := e`
abbrev pub let_be : ℕ → Expr → Stmt
let_be slot e = Assign (var slot) e int

-- `WRITE(e)` of an INTEGER
abbrev pub write : Expr → Stmt
write e = WriteExpr e write_as.Int

-- `WRITE(e)` of a BOOLEAN
abbrev pub write_bool : Expr → Stmt
write_bool e = WriteExpr e write_as.Bool

-- `WRITE(x)`
abbrev pub write_var : ℕ → Stmt
write_var slot = write (load slot)

-- `WRITE(KNOWN(x))`
abbrev pub write_known : ℕ → Stmt
write_known slot = write_bool (Known (var slot))

-- `WRITE('..')` of a literal
abbrev pub write_byte : ℕ → Stmt
write_byte c = WriteExpr (number c) write_as.Char

-- `EITHER .. ORELSE .. END`
abbrev pub either : List (List Stmt) → Stmt
either bodies = Either (branches bodies)

-- `FORALL x DO y END`
abbrev pub forall : List Stmt → List Stmt → Stmt
forall x y = Forall (stmts x) (stmts y)

-- `SOME x := from TO to DO body END`, with two hidden slots
abbrev pub some : ℕ → ℕ → Expr → Expr → List Stmt → Stmt
some slot hidden from to body = SomeOf (a_loop (var slot) int hidden (suc hidden) from to (pos 1) (stmts body))

-- `FOR x := from TO to DO body END`, with two hidden slots
abbrev pub for : ℕ → ℕ → Expr → Expr → List Stmt → Stmt
for slot hidden from to body = ForTo (a_loop (var slot) int hidden (suc hidden) from to (pos 1) (stmts body))

-- a call of a procedure, so many links up
abbrev pub call_up : (links r : ℕ) → List Arg → Stmt
call_up links r given = TestStmt (CallTest r (args given) links)

-- a call of a function, so many links up
abbrev pub value_up : (links r : ℕ) → List Arg → Expr
value_up links r given = CallExpr r (args given) links

-- a call of a procedure in the body of the module
abbrev pub call : ℕ → List Arg → Stmt
call r given = call_up 0 r given

-- a call of a function in the body of the module
abbrev pub value_of : ℕ → List Arg → Expr
value_of r given = value_up 0 r given

-- ---- what is shown

-- the decimal texts of some numbers
abbrev pub digits_of : List ℕ → List ℕ
digits_of [] = []
digits_of (n ∷ ns) = decimal n ++ digits_of ns

-- at level n the program prints this and ends so
abbrev pub Gives : ℕ → Program → List ℕ → List ℕ → End → Type 0
Gives n p input out end = result n p input ≡ (out, end)

-- at level n the program makes so many visits up to its first alternative
abbrev pub Visits : ℕ → Program → ℕ → Type 0
Visits n p count = visit_count (first (ev_program n p [])) ≡ count
