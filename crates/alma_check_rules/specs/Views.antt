-- What the values of the check stand for in the definitions of its rules.
use Rattle.std.specs.Global.{Global}
use Rattle.std.specs.HashMap.{HashMap}
use Rattle.std.specs.Prelude.{ℕ, false, List, [], ◌∷◌, ◌++◌, map, Option, None, Some, option_map, unwrap_or, get_or, Vec}
use Rattle.alma_base.specs.declared.number.Range.{Range}
use Rattle.alma_tree.specs.declared.leaf.Mode.{Mode}
use Rattle.alma_tree.specs.declared.leaf.Mode.TheVariants as modes
use Rattle.alma_scan.specs.Scanned.{lexemes}
use Rattle.alma_ir.specs.Tree as ir
use Rattle.alma_ir.specs.declared.phrase.Arg.{Arg}
use Rattle.alma_ir.specs.declared.phrase.Stmt.{Stmt}
use Rattle.alma_ir.specs.View.{desig_of, expr_of, test_of, sels_list, args_list, stmts_list}
use Rattle.alma_rules.specs.Scene.{Scene, Returns as RuleReturns, nothing, a_value, Heading as RuleHeading, FormalOf, Found as RuleFound}
use Rattle.alma_rules.specs.Scene.{absent, bad, constant, named, variable, routine}
use Rattle.alma_rules.specs.Parts as parts
use Rattle.alma_rules.specs.ExprRules as rules
use Rattle.alma_check_rules.specs.declared.env.Env.{Env}
use Rattle.alma_check_rules.specs.declared.env.Formal.{Formal}
use Rattle.alma_check_rules.specs.declared.env.Heading.{Heading}
use Rattle.alma_check_rules.specs.declared.env.Place.{Place}
use Rattle.alma_check_rules.specs.declared.env.Found.{Found}
use Rattle.alma_check_rules.specs.declared.env.Found.TheVariants as founds
use Rattle.alma_check_rules.specs.declared.env.Returns.{Returns}
use Rattle.alma_check_rules.specs.declared.env.Returns.TheVariants as returned
use Rattle.alma_check_rules.specs.declared.part.Meaning.{Meaning}
use Rattle.alma_check_rules.specs.declared.part.Meaning.TheVariants as meanings
use Rattle.alma_check_rules.specs.declared.part.TypedExpr.{TypedExpr}
use Rattle.alma_check_rules.specs.declared.part.Location.{Location}
use Rattle.alma_check_rules.specs.declared.part.Denotation.{Denotation}
use Rattle.alma_check_rules.specs.declared.part.Denotation.TheVariants as denotes
use Rattle.alma_check_rules.specs.declared.part.Callee.{Callee}
use Rattle.alma_check_rules.specs.declared.part.Behind.{Behind}
use Rattle.alma_check_rules.specs.declared.part.Join.{Join}
use Rattle.alma_check_rules.specs.declared.part.Join.TheVariants as joins
use Rattle.alma_check_rules.specs.declared.part.Operator.{Operator}
use Rattle.alma_check_rules.specs.declared.part.Operator.TheVariants as operators
use Rattle.alma_check_rules.specs.declared.part.Operand.{Operand}
use Rattle.alma_check_rules.specs.declared.part.Span.{Span}
use Rattle.alma_check_rules.specs.declared.part.Use.{Use}
use Rattle.alma_check_rules.specs.declared.part.Use.TheVariants as uses
use Rattle.alma_check_rules.specs.declared.part.Argument.{Argument}
use Rattle.alma_check_rules.specs.declared.part.Argument.TheVariants as arguments

-- ---- the place of a phrase

-- a formal as the rules have it: how it is passed, and its shape
abbrev pub formal_view : Formal → FormalOf
formal_view f = record { mode = f.mode; shape = f.shape }

-- a heading as the rules have it: its formals, its result and its parameters
abbrev pub heading_view : Heading → RuleHeading
heading_view h = record { formals = map formal_view h.formals.items; result = h.result; params = h.params.items }

-- the headings of routines by their numbers, None for one of which none is known
abbrev pub headings_view : List (Option Heading) → List (Option RuleHeading)
headings_view hs = map (λ h. option_map heading_view h) hs

-- the names that a block declares, each with the token of its first declaration
abbrev pub declares_view : {S : Type 0} → HashMap (Vec ℕ Global) ℕ S → List (List ℕ × ℕ)
declares_view m = map (λ e. (e.0.items, e.1)) m.entries

-- what RETURN gives in a routine: nothing, or a value of a shape that may be Bad
abbrev pub returns_view : Returns → RuleReturns
returns_view returned.Nothing = nothing
returns_view (returned.Value shape) = a_value shape

-- the scene of the rules that an environment is, at a place in it
abbrev pub scene_of : Env → Place → Scene
scene_of e p = record {
  source = e.source.now;
  tokens = lexemes e.tokens.now;
  shapes = e.shapes;
  blocks = e.scopes;
  headings = headings_view e.headings.items;
  declares = declares_view e.declares;
  routine = e.routine;
  returns = returns_view e.returns;
  constant = p.constant;
  inside = p.inside;
}

-- some place, for what is the same in each
abbrev pub somewhere : Place
somewhere = record { constant = false; inside = false }

-- what a name stands for; a routine comes with its heading, where one is known
abbrev pub found_view : List (Option RuleHeading) → Found → RuleFound
found_view hs founds.Absent = absent
found_view hs founds.Bad = bad
found_view hs (founds.Constant shape v) = constant shape v
found_view hs (founds.Named shape) = named shape
found_view hs (founds.Variable shape root) = variable shape root
found_view hs (founds.Routine r up) = routine r up (get_or hs r None)

-- ---- parts

-- what an expression stands for: exactly a variable, another plain expression, or a test
abbrev pub meaning_view : Meaning → parts.Meaning
meaning_view (meanings.Place d) = parts.a_place (desig_of d)
meaning_view (meanings.Plain e) = parts.plain (expr_of e)
meaning_view (meanings.Test t) = parts.a_test (test_of t)

-- an expression: its shape, its value in a constant place, and what it stands for
abbrev pub typing_of : TypedExpr → parts.Typing
typing_of t = record { shape = t.shape; constant = t.constant; meaning = meaning_view t.meaning }

-- a variable or a part of one: its shape, its root with so many cells, and its selectors
abbrev pub located_of : Location → parts.Location
located_of l = record { shape = l.shape; root = l.root; cells = l.cells; sels = sels_list l.sels.items }

-- the heading of a routine; it is there where a routine is denoted
abbrev pub no_heading : RuleHeading
no_heading = record { formals = []; result = None; params = [] }

-- the heading of a routine by its number, or an empty one where there is none
abbrev pub known_heading : List (Option RuleHeading) → ℕ → RuleHeading
known_heading hs r = unwrap_or (get_or hs r None) no_heading

-- what a designator denotes; a routine comes with its heading
abbrev pub denoted_of : List (Option RuleHeading) → Denotation → parts.Denotation
denoted_of hs (denotes.Constant shape v) = parts.a_constant shape v
denoted_of hs (denotes.Variable l) = parts.a_variable (located_of l)
denoted_of hs (denotes.Routine r up) = parts.a_routine r up (known_heading hs r)
denoted_of hs denotes.NoArray = parts.no_array

-- an operator of a sum or product: an arithmetic one, or AND or OR
abbrev pub operator_view : Operator → parts.Operator
operator_view (operators.Arithmetic op) = parts.arithmetic op
operator_view operators.Logical = parts.logical

-- where an operand stands: behind a sign, under which sort of operator, and behind which one
abbrev pub operand_view : Operand → rules.Operand
operand_view o = record { signed = o.signed; sort = o.sort; operator = option_map operator_view o.operator }

-- what a designator is used as: a variable, a value, or a procedure
abbrev pub use_view : Use → rules.Use
use_view uses.Variable = rules.as_variable
use_view uses.Value = rules.as_value
use_view uses.Procedure = rules.as_procedure

-- what an argument is: a variable, a designator that is Bad or undeclared, or anything else
abbrev pub argument_view : Argument → rules.Argument
argument_view arguments.Other = rules.other
argument_view arguments.OfBad = rules.of_bad
argument_view arguments.OfVariable = rules.of_variable

-- ---- parts that there may not be, since a name in use is Bad

-- an expression, where it is not Bad
abbrev pub typing_in : Option TypedExpr → Option parts.Typing
typing_in t = option_map typing_of t

-- a variable or a part of one, where it is not Bad
abbrev pub located_in : Option Location → Option parts.Location
located_in l = option_map located_of l

-- what a designator denotes, where it is not Bad
abbrev pub denoted_in : List (Option RuleHeading) → Option Denotation → Option parts.Denotation
denoted_in hs d = option_map (denoted_of hs) d

-- the headings of an environment
abbrev pub headings_in : Env → List (Option RuleHeading)
headings_in e = headings_view e.headings.items

-- a routine that is called: its number, the links to the one round it, and its heading
abbrev pub callee_of : List (Option RuleHeading) → Callee → parts.Callee
callee_of hs c = record { number = c.number; up = c.up; heading = known_heading hs c.number }

-- a routine that is called, where it is not Bad
abbrev pub callee_in : List (Option RuleHeading) → Option Callee → Option parts.Callee
callee_in hs c = option_map (callee_of hs) c

-- operators with the operands behind them, in order
abbrev pub operands_view : List Behind → parts.Operands
operands_view [] = []
operands_view (b ∷ bs) = (operator_view b.operator, typing_of b.operand) ∷ operands_view bs

-- the operators and operands of a vector
abbrev pub operands_of : Vec Behind Global → parts.Operands
operands_of v = operands_view v.items

-- the operators and operands of a vector, where none is Bad
abbrev pub operands_in : Option (Vec Behind Global) → Option parts.Operands
operands_in v = option_map operands_of v

-- the arguments of a call
abbrev pub args_of : Vec Arg Global → ir.Args
args_of v = args_list v.items

-- the arguments of a call, where none is Bad
abbrev pub args_in : Option (Vec Arg Global) → Option ir.Args
args_in v = option_map args_of v

-- the statements of a list
abbrev pub stmts_of : Vec Stmt Global → ir.Stmts
stmts_of v = stmts_list v.items

-- the statements of a list, where none is Bad
abbrev pub stmts_in : Option (Vec Stmt Global) → Option ir.Stmts
stmts_in v = option_map stmts_of v

-- the test that AND or OR makes of its operands
abbrev pub join_view : Join → ir.Tests → ir.Test
join_view joins.And tests = ir.And tests
join_view joins.Or tests = ir.Or tests

-- an argument to a simple formal with this range
abbrev pub argument_in : Option Mode → Range → parts.Meaning → ir.Arg
argument_in None r m = ir.ByValue (parts.value_of m) r
argument_in (Some modes.Var) r (parts.a_place d) = ir.ByPlace d
argument_in (Some modes.Var) r m = ir.ByValue (parts.value_of m) r
argument_in (Some modes.Mix) r (parts.a_place d) = ir.MixPlace d
argument_in (Some modes.Mix) r m = ir.MixValue (parts.value_of m) r

-- operands gathered, with one more behind an operator
abbrev pub gather : parts.Operator → Option parts.Operands → Option parts.Typing → Option parts.Operands
gather o None t = None
gather o (Some xs) None = None
gather o (Some xs) (Some t) = Some (xs ++ (o, t) ∷ [])

-- a label of CASE: the base of its type, and its values
abbrev pub span_view : Span → parts.Span
span_view x = record { base = x.base; range = x.range }

-- labels in their order
abbrev pub spans_view : List Span → List parts.Span
spans_view [] = []
spans_view (x ∷ xs) = span_view x ∷ spans_view xs

-- the labels of a vector
abbrev pub spans_of : Vec Span Global → List parts.Span
spans_of v = spans_view v.items

-- the labels of a vector, where none is Bad
abbrev pub spans_in : Option (Vec Span Global) → Option (List parts.Span)
spans_in v = option_map spans_of v
