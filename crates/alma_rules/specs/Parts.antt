-- What the phrases of a source stand for in the resolved program.
use Rattle.std.specs.Prelude.{ℕ, ℤ, neg_ℤ, ◌+ℤ◌, ◌-ℤ◌, ◌*ℤ◌, Bool, true, false, if◌then◌else◌, List, [], ◌∷◌, Option, None, Some}
use Rattle.std.specs.Prelude.{option_map, option_and_then}
use Rattle.alma_base.specs.Choice.{if_true}
use Rattle.alma_base.specs.Numbers.{is_integer, is_zero, div_down_of, mod_down_of, whole_range}
use Rattle.alma_base.specs.declared.number.Range.{Range}
use Rattle.alma_tree.specs.declared.leaf.Relation.{Relation}
use Rattle.alma_tree.specs.declared.leaf.Relation.TheVariants as relations
use Rattle.alma_tree.specs.declared.leaf.Sign.{Sign}
use Rattle.alma_tree.specs.declared.leaf.Sign.TheVariants as signs
use Rattle.alma_tree.specs.declared.leaf.AddOperator.{AddOperator}
use Rattle.alma_tree.specs.declared.leaf.AddOperator.TheVariants as adds
use Rattle.alma_tree.specs.declared.leaf.MulOperator.{MulOperator}
use Rattle.alma_tree.specs.declared.leaf.MulOperator.TheVariants as muls
use Rattle.alma_tree.specs.declared.leaf.Mode.{Mode}
use Rattle.alma_tree.specs.declared.leaf.Mode.TheVariants as modes
use Rattle.alma_names.specs.Shapes.{field_at, integer_shape, char_shape, boolean_shape}
use Rattle.std.specs.Prelude.{slice_get}
use Rattle.alma_ir.specs.declared.phrase.Op.{Op}
use Rattle.alma_ir.specs.declared.phrase.Op.TheVariants as ops
use Rattle.alma_ir.specs.declared.phrase.Cmp.{Cmp}
use Rattle.alma_ir.specs.declared.phrase.Cmp.TheVariants as compares
use Rattle.alma_ir.specs.declared.phrase.Root.{Root}
use Rattle.alma_ir.specs.declared.phrase.ReadAs.{ReadAs}
use Rattle.alma_ir.specs.declared.phrase.ReadAs.TheVariants as reads
use Rattle.alma_ir.specs.declared.phrase.WriteAs.{WriteAs}
use Rattle.alma_ir.specs.declared.phrase.WriteAs.TheVariants as writes
use Rattle.alma_ir.specs.Tree as ir
use Rattle.alma_rules.specs.Scene.{Scene, Heading, FormalOf, Found, absent, bad, constant, named, variable, routine, base, cells, range}
use Rattle.alma_rules.specs.Scene.{is_structured, has_integer, has_char, row_at}

-- ---- expressions

-- an expression is exactly the designator of a variable, another plain one, or one that is not plain
pub data Meaning : Type 0 where
  a_place : ir.Desig → Meaning
  plain : ir.Expr → Meaning
  a_test : ir.Test → Meaning

-- the shape of an expression, its value in a constant place, and what it stands for
pub record Typing : Type 0 where
  pub shape : ℕ
  pub constant : Option ℤ
  pub meaning : Meaning

-- as a value a plain expression is itself, and any other the truth of its test
abbrev pub value_of : Meaning → ir.Expr
value_of (a_place d) = ir.Load d
value_of (plain e) = e
value_of (a_test t) = ir.Truth t

-- as a test a plain expression is its value
abbrev pub test_of : Meaning → ir.Test
test_of (a_place d) = ir.Value (ir.Load d)
test_of (plain e) = ir.Value e
test_of (a_test t) = t

-- in parentheses or behind a sign it is no longer exactly a designator
abbrev pub no_place : Meaning → Meaning
no_place (a_place d) = plain (ir.Load d)
no_place (plain e) = plain e
no_place (a_test t) = a_test t

-- the same, with its shape and value
abbrev pub without_place : Typing → Typing
without_place t = record { shape = t.shape; constant = t.constant; meaning = no_place t.meaning }

-- a number as an expression
abbrev pub integer_typing : ℤ → Typing
integer_typing v = record { shape = integer_shape; constant = Some v; meaning = plain (ir.Const v) }

-- a constant of CHAR as an expression
abbrev pub char_typing : ℤ → Typing
char_typing v = record { shape = char_shape; constant = Some v; meaning = plain (ir.Const v) }

-- an expression of BOOLEAN with this meaning
abbrev pub boolean_typing : Meaning → Typing
boolean_typing m = record { shape = boolean_shape; constant = None; meaning = m }

-- ---- designators

-- a variable or a part of one: its shape, where the variable stands, its cells, and the selectors
pub record Location : Type 0 where
  pub shape : ℕ
  pub root : Root
  pub cells : ℕ
  pub sels : ir.Sels

-- the designator of a variable or its part
abbrev pub desig_of : Location → ir.Desig
desig_of l = ir.a_desig l.root l.cells l.sels

-- selectors with one more behind them
abbrev pub with_sel : ir.Sels → ir.Sel → ir.Sels
with_sel ir.no_sels x = ir.more_sels x ir.no_sels
with_sel (ir.more_sels y rest) x = ir.more_sels y (with_sel rest x)

-- what a designator names: a constant, a variable, a routine, or nothing, since an index stands on a type that is no array
pub data Denotation : Type 0 where
  a_constant : (shape : ℕ) → ℤ → Denotation
  a_variable : Location → Denotation
  a_routine : (number up : ℕ) → Heading → Denotation
  no_array : Denotation

-- what a bare name names, by what it stands for; None of a type, and where it stands for nothing or is Bad
abbrev pub denotation : Scene → Found → Option Denotation
denotation s absent = None
denotation s bad = None
denotation s (constant shape v) = Some (a_constant shape v)
denotation s (named shape) = None
denotation s (variable shape root) = Some (a_variable (record { shape = shape; root = root; cells = cells s shape; sels = ir.no_sels }))
denotation s (routine number up heading) = option_map (a_routine number up) heading

-- the field of a name
abbrev pub field_of : Scene → List ℕ → Location → Option (ℕ × ℕ)
field_of s name l = field_at name (slice_get s.shapes l.shape)

-- the field of a variable
abbrev pub field_part : Scene → Location → ℕ × ℕ → Denotation
field_part s l f =
    a_variable (record { shape = f.1; root = l.root; cells = l.cells; sels = with_sel l.sels (ir.Field f.0 (cells s f.1)) })

-- what is named with a field selector behind it; None where the variable has no such field
abbrev pub select_field : Scene → List ℕ → Denotation → Option Denotation
select_field s name (a_variable l) = option_map (field_part s l) (field_of s name l)
select_field s name d = Some d

-- the element of an index
abbrev pub element_part : Scene → Location → ℕ × ℕ → Typing → Denotation
element_part s l r i =
    a_variable (record {
      shape = r.1;
      root = l.root;
      cells = l.cells;
      sels =
          with_sel l.sels (ir.Index (value_of i.meaning) (range s r.0) (cells s r.1));
    })

-- what is named with an index behind a variable, where its type is an array of these, or no array
abbrev pub select_in : Scene → Location → Option (ℕ × ℕ) → Option Typing → Option Denotation
select_in s l None i = Some no_array
select_in s l (Some r) i = option_map (element_part s l r) i

-- what is named with an index behind it
abbrev pub select_index : Scene → Option Denotation → Option Typing → Option Denotation
select_index s None i = None
select_index s (Some (a_variable l)) i = select_in s l (row_at s l.shape) i
select_index s (Some no_array) i = Some no_array
select_index s (Some (a_constant shape v)) i = option_map (λ t. a_constant shape v) i
select_index s (Some (a_routine number up heading)) i = option_map (λ t. a_routine number up heading) i

-- the variable that is named, if one is
abbrev pub located_in : Denotation → Option Location
located_in (a_variable l) = Some l
located_in (a_constant shape v) = None
located_in (a_routine number up heading) = None
located_in no_array = None

-- a designator as an expression: a routine is called without arguments
abbrev pub typing_in : Denotation → Option Typing
typing_in (a_constant shape v) = Some (record { shape = shape; constant = Some v; meaning = plain (ir.Const v) })
typing_in (a_variable l) = Some (record { shape = l.shape; constant = None; meaning = a_place (desig_of l) })
typing_in (a_routine number up heading) = Some (boolean_typing (a_test (ir.CallTest number ir.no_args up)))
typing_in no_array = None

-- ---- calls

-- a routine that is called: its number, the levels up to it, and its heading
pub record Callee : Type 0 where
  pub number : ℕ
  pub up : ℕ
  pub heading : Heading

-- the routine that is named, if one is
abbrev pub callee_in : Denotation → Option Callee
callee_in (a_routine number up heading) = Some (record { number = number; up = up; heading = heading })
callee_in (a_constant shape v) = None
callee_in (a_variable l) = None
callee_in no_array = None

-- an argument to a simple formal: to a VAR formal the place, to a MIX formal the place or a value, else a value
abbrev pub simple_argument : Scene → Option Mode → ℕ → Meaning → ir.Arg
simple_argument s None shape m = ir.ByValue (value_of m) (range s shape)
simple_argument s (Some modes.Var) shape (a_place d) = ir.ByPlace d
simple_argument s (Some modes.Var) shape m = ir.ByValue (value_of m) (range s shape)
simple_argument s (Some modes.Mix) shape (a_place d) = ir.MixPlace d
simple_argument s (Some modes.Mix) shape m = ir.MixValue (value_of m) (range s shape)

-- an argument to a structured formal: to a value formal the cells of the place, else the place; what is no place goes by value
abbrev pub structured_argument : Option Mode → Meaning → ir.Arg
structured_argument None (a_place d) = ir.ByCells d
structured_argument (Some m) (a_place d) = ir.ByPlace d
structured_argument mode (plain e) = ir.ByValue e whole_range
structured_argument mode (a_test t) = ir.ByValue (ir.Truth t) whole_range

-- an argument to its formal, where there is one
abbrev pub argument_of : Scene → Option FormalOf → Typing → ir.Arg
argument_of s None t = ir.ByValue (value_of t.meaning) whole_range
argument_of s (Some f) t =
    if is_structured s f.shape then structured_argument f.mode t.meaning else simple_argument s f.mode f.shape t.meaning

-- a call of a function is plain, and one of a procedure without result is a test
abbrev pub call_typing : Callee → Option ℕ → ir.Args → Typing
call_typing c None args = boolean_typing (a_test (ir.CallTest c.number args c.up))
call_typing c (Some shape) args = record { shape = shape; constant = None; meaning = plain (ir.CallExpr c.number args c.up) }

-- the same, of a callee with its arguments
abbrev pub typing_of_call : Callee × ir.Args → Typing
typing_of_call p = call_typing p.0 p.0.heading.result p.1

-- ---- relations

-- a relation as a comparison
abbrev pub compare_of : Relation → Cmp
compare_of relations.Equal = compares.Equal
compare_of relations.Unequal = compares.Unequal
compare_of relations.Less = compares.Less
compare_of relations.LessEq = compares.LessEq
compare_of relations.Greater = compares.Greater
compare_of relations.GreaterEq = compares.GreaterEq

-- a place on the left is unified with another place, or their cells are, and else bound to the value
abbrev pub place_equation : Scene → (first second : ℕ) → ir.Desig → Meaning → Meaning
place_equation s first second d (a_place e) =
    a_test (if is_structured s first then ir.SameCells d e else ir.Unify d (range s first) e (range s second))
place_equation s first second d m = a_test (ir.Bind d (value_of m) (range s first) true)

-- a value on the left is bound to a place, and else compared
abbrev pub value_equation : Scene → (second : ℕ) → ir.Expr → Meaning → Meaning
value_equation s second e (a_place d) = a_test (ir.Bind d e (range s second) false)
value_equation s second e m = plain (ir.Compare compares.Equal e (value_of m))

-- an equation of sides with these shapes: with exactly one designator it binds it
abbrev pub equation_of : Scene → (first second : ℕ) → Meaning → Meaning → Meaning
equation_of s first second (a_place d) m = place_equation s first second d m
equation_of s first second l m = value_equation s second (value_of l) m

-- a relation of two expressions: an equation, or a comparison of their values
abbrev pub relation_of : Scene → Relation → Typing × Typing → Meaning
relation_of s relations.Equal p = equation_of s p.0.shape p.1.shape p.0.meaning p.1.meaning
relation_of s relation p = plain (ir.Compare (compare_of relation) (value_of p.0.meaning) (value_of p.1.meaning))

-- a relation as an expression
abbrev pub relation_typing : Scene → Relation → Typing × Typing → Typing
relation_typing s relation p = boolean_typing (relation_of s relation p)

-- ---- operators

-- AND and OR are of one sort, all others of the other
pub data Operator : Type 0 where
  arithmetic : Op → Operator
  logical : Operator

-- the operator between two terms
abbrev pub add_operator : AddOperator → Operator
add_operator adds.Plus = arithmetic ops.Add
add_operator adds.Minus = arithmetic ops.Sub
add_operator adds.Or = logical

-- the operator between two factors
abbrev pub mul_operator : MulOperator → Operator
mul_operator muls.Star = arithmetic ops.Mul
mul_operator muls.Div = arithmetic ops.Div
mul_operator muls.Mod = arithmetic ops.Mod
mul_operator muls.And = logical

-- the operator is AND or OR
abbrev pub is_logical : Operator → Bool
is_logical (arithmetic op) = false
is_logical logical = true

-- the operands behind operators, in order
abbrev pub Operands : Type 0
Operands = List (Operator × Typing)

-- a value; None where it leaves INTEGER
abbrev pub in_integer : ℤ → Option ℤ
in_integer v = if is_integer v then Some v else None

-- the value of an operation on constants; None where it leaves INTEGER or divides by zero
abbrev pub apply_op : Op → ℤ → ℤ → Option ℤ
apply_op ops.Add a b = in_integer (a +ℤ b)
apply_op ops.Sub a b = in_integer (a -ℤ b)
apply_op ops.Mul a b = in_integer (a *ℤ b)
apply_op ops.Div a b = if_true (is_zero b) (λ _. None) (λ _. in_integer (div_down_of a b))
apply_op ops.Mod a b = if_true (is_zero b) (λ _. None) (λ _. in_integer (mod_down_of a b))

-- the value of a constant behind a sign, or behind none
abbrev pub apply_sign : Option Sign → ℤ → Option ℤ
apply_sign (Some signs.Minus) v = in_integer (neg_ℤ v)
apply_sign sign v = Some v

-- the value of a constant with an operand behind it; None where it has none
abbrev pub apply_operator : Operator → Typing → ℤ → Option ℤ
apply_operator (arithmetic op) t a = option_and_then (apply_op op a) t.constant
apply_operator logical t a = None

-- the value of a constant with operands behind it, from left to right
abbrev pub folded_from : Option ℤ → Operands → Option ℤ
folded_from a [] = a
folded_from a (x ∷ xs) = folded_from (option_and_then (apply_operator x.0 x.1) a) xs

-- the value of a Simple or Term of constants
abbrev pub chain_value : Option Sign → Typing × Operands → Option ℤ
chain_value sign p = folded_from (option_and_then (apply_sign sign) p.0.constant) p.1

-- the operands behind arithmetic operators
abbrev pub links_of : Operands → ir.Links
links_of [] = ir.no_links
links_of ((arithmetic op, t) ∷ xs) = ir.more_links op (value_of t.meaning) (links_of xs)
links_of ((logical, t) ∷ xs) = links_of xs

-- operands as tests
abbrev pub tests_of : Operands → ir.Tests
tests_of [] = ir.no_tests
tests_of (x ∷ xs) = ir.more_tests (test_of x.1.meaning) (tests_of xs)

-- the sign is a minus
abbrev pub is_minus : Option Sign → Bool
is_minus (Some signs.Minus) = true
is_minus sign = false

-- a sum or product of numbers
abbrev pub arithmetic_of : Option Sign → Typing × Operands → ir.Expr
arithmetic_of sign p = ir.Chain (is_minus sign) (value_of p.0.meaning) (links_of p.1)

-- a sum or product: a plus sign leaves nothing, all operands of AND are one And, those of OR one Or
abbrev pub chain_of : (ir.Tests → ir.Test) → Option Sign → Typing × Operands → Meaning
chain_of join (Some signs.Plus) (first, []) = no_place first.meaning
chain_of join None (first, []) = first.meaning
chain_of join sign (first, []) = plain (arithmetic_of sign (first, []))
chain_of join sign (first, (arithmetic op, t) ∷ rest) = plain (arithmetic_of sign (first, (arithmetic op, t) ∷ rest))
chain_of join sign (first, (logical, t) ∷ rest) = a_test (join (ir.more_tests (test_of first.meaning) (tests_of ((logical, t) ∷ rest))))

-- the shape of a sum or product: INTEGER, or BOOLEAN where the first operator is AND or OR
abbrev pub chain_shape : Operands → ℕ
chain_shape [] = integer_shape
chain_shape ((arithmetic op, t) ∷ rest) = integer_shape
chain_shape ((logical, t) ∷ rest) = boolean_shape

-- a sum or product as an expression
abbrev pub chain_typing : (ir.Tests → ir.Test) → Option Sign → Typing × Operands → Typing
chain_typing join sign p = record { shape = chain_shape p.1; constant = chain_value sign p; meaning = chain_of join sign p }

-- ---- statements

-- one statement as a list, which has no line yet
abbrev pub one_stmt : ir.Stmt → ir.Stmts
one_stmt x = ir.more_stmts 0 x ir.no_stmts

-- statements, and others behind them
abbrev pub append_stmts : ir.Stmts → ir.Stmts → ir.Stmts
append_stmts ir.no_stmts ys = ys
append_stmts (ir.more_stmts line x xs) ys = ir.more_stmts line x (append_stmts xs ys)

-- the same, of a pair
abbrev pub joined_stmts : ir.Stmts × ir.Stmts → ir.Stmts
joined_stmts p = append_stmts p.0 p.1

-- a structured value is copied cell by cell
abbrev pub assigned_to : Scene → Location → Meaning → ir.Stmt
assigned_to s l (a_place d) =
    if is_structured s l.shape then ir.CopyCells (desig_of l) d else ir.Assign (desig_of l) (ir.Load d) (range s l.shape)
assigned_to s l m = ir.Assign (desig_of l) (value_of m) (range s l.shape)

-- an assignment of an expression to a variable
abbrev pub assignment_stmts : Scene → Location × Typing → ir.Stmts
assignment_stmts s p = one_stmt (assigned_to s p.0 p.1.meaning)

-- how READ reads a value of this shape
abbrev pub read_as : Scene → ℕ → ReadAs
read_as s shape = if has_integer s shape then reads.Int else reads.Char

-- READ of a variable
abbrev pub read_stmts : Scene → Location → ir.Stmts
read_stmts s l = one_stmt (ir.Read (desig_of l) (read_as s l.shape) (range s l.shape))

-- how WRITE writes a value of this shape
abbrev pub write_as : Scene → ℕ → WriteAs
write_as s shape = if has_integer s shape then writes.Int else if has_char s shape then writes.Char else writes.Bool

-- WRITE of an expression
abbrev pub write_stmts : Scene → Typing → ir.Stmts
write_stmts s t = one_stmt (ir.WriteExpr (value_of t.meaning) (write_as s t.shape))

-- a label of CASE: the base of its type, and its values
pub record Span : Type 0 where
  pub base : ℕ
  pub range : Range

-- a label with this base and these ends, where both have values
abbrev pub span_from : ℕ → Option ℤ → Option ℤ → Option Span
span_from base (Some a) (Some b) = Some (record { base = base; range = record { low = a; high = b } })
span_from base (Some a) None = None
span_from base None b = None

-- the label of two expressions
abbrev pub span_of : Scene → Typing × Typing → Option Span
span_of s p = span_from (base s p.0.shape) p.0.constant p.1.constant

-- the values of labels
abbrev pub ranges_of : List Span → List Range
ranges_of [] = []
ranges_of (x ∷ xs) = x.range ∷ ranges_of xs

-- arms of CASE, and others behind them
abbrev pub append_cases : ir.CaseArms → ir.CaseArms → ir.CaseArms
append_cases ir.no_cases ys = ys
append_cases (ir.more_cases labels body xs) ys = ir.more_cases labels body (append_cases xs ys)
