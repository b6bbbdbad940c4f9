-- The rules on designators and expressions, and those of each node in the order of CheckFault. A rule that needs a type is not
-- broken where that type is Bad (None).
use Rattle.std.specs.Prelude.{ℕ, ℤ, Bool, true, false, ◌&&◌, ◌||◌, not, nat_eq, List, [], ◌∷◌, ◌++◌, length, is_some, Option}
use Rattle.std.specs.Prelude.{None, Some, option_map}
use Rattle.alma_base.specs.Numbers.{within, char_range}
use Rattle.alma_base.specs.declared.fault.CheckFault.{CheckFault}
use Rattle.alma_base.specs.declared.fault.CheckFault.TheVariants as fault
use Rattle.alma_tree.specs.declared.leaf.Relation.{Relation}
use Rattle.alma_tree.specs.declared.leaf.Relation.TheVariants as relations
use Rattle.alma_tree.specs.declared.leaf.Sign.{Sign}
use Rattle.alma_tree.specs.declared.leaf.Mode.{Mode}
use Rattle.alma_tree.specs.declared.leaf.Mode.TheVariants as modes
use Rattle.alma_ir.specs.Tree as ir
use Rattle.alma_rules.specs.Numbered as tree
use Rattle.alma_rules.specs.Judgement.{when, unless, holds}
use Rattle.alma_rules.specs.Scene.{Scene, Heading, FormalOf, Found, absent, bad, constant, named, variable, routine, found, base}
use Rattle.alma_rules.specs.Scene.{is_structured, is_record_in, has_integer, has_boolean, are_compatible, row_at}
use Rattle.alma_rules.specs.Parts.{Typing, Location, Denotation, a_variable, no_array, Callee, Operator, is_logical, Operands, chain_value}
use Rattle.alma_rules.specs.Parts.{chain_typing}
use Rattle.alma_rules.specs.Parts.{field_of}
use Rattle.std.specs.Prelude.{slice_get}

-- what a phrase asks of a designator
pub data Use : Type 0 where
  as_variable : Use
  as_value : Use
  as_procedure : Use

-- a variable is asked for
abbrev pub is_variable_use : Use → Bool
is_variable_use as_variable = true
is_variable_use as_value = false
is_variable_use as_procedure = false

-- a value is asked for
abbrev pub is_value_use : Use → Bool
is_value_use as_variable = false
is_value_use as_value = true
is_value_use as_procedure = false

-- a procedure before an argument list is asked for
abbrev pub is_procedure_use : Use → Bool
is_procedure_use as_variable = false
is_procedure_use as_value = false
is_procedure_use as_procedure = true

-- ---- names and designators

-- Undeclared: a Name in use with no visible declaration
abbrev pub undeclared : Found → Bool
undeclared absent = true
undeclared f = false

-- the rules on a Name in use
abbrev pub name_rules : {A : Type 0} → Found → Option A → List CheckFault
name_rules f v = when (undeclared f) fault.Undeclared

-- NotConst: a Desig in a constant place with selectors, or that names no constant
abbrev pub no_constant : Scene → (selected : Bool) → Found → Bool
no_constant s selected absent = false
no_constant s selected bad = false
no_constant s selected (constant shape v) = s.constant && selected
no_constant s selected f = s.constant

-- there are formals
abbrev pub has_formals : List FormalOf → Bool
has_formals [] = false
has_formals (f ∷ fs) = true

-- a procedure that is not called by its bare name: a function, or one with parameters
abbrev pub wants_arguments : Heading → Bool
wants_arguments h = is_some h.result || has_formals h.formals

-- NotVariable: a Desig that names no variable where one is needed; a Desig used as a value that names a type, a function or a
-- procedure with parameters
abbrev pub not_variable : Use → (selected : Bool) → Found → Bool
not_variable wanted selected absent = false
not_variable wanted selected bad = false
not_variable wanted selected (constant shape v) = selected || is_variable_use wanted
not_variable wanted selected (named shape) = selected || is_variable_use wanted || is_value_use wanted
not_variable wanted selected (variable shape root) = false
not_variable wanted selected (routine r up None) = false
not_variable wanted selected (routine r up (Some h)) = selected || is_variable_use wanted || (is_value_use wanted && wants_arguments h)

-- NotProcedure: the Desig before an argument list that is no bare name of a procedure
abbrev pub not_procedure : Use → (selected : Bool) → Found → Bool
not_procedure wanted selected absent = false
not_procedure wanted selected bad = false
not_procedure wanted selected (routine r up None) = false
not_procedure wanted selected (routine r up (Some h)) = is_procedure_use wanted && selected
not_procedure wanted selected f = is_procedure_use wanted

-- the rules on a Desig
abbrev pub desig_rules : Scene → Use → (selected : Bool) → Found → Option Denotation → List CheckFault
desig_rules s wanted selected f v =
    when (no_constant s selected f) fault.NotConst
    ++ when (not_variable wanted selected f) fault.NotVariable
    ++ when (not_procedure wanted selected f) fault.NotProcedure

-- NotRecord: a field selector on another type
abbrev pub not_record : Scene → Denotation → Bool
not_record s (a_variable l) = not (is_record_in (slice_get s.shapes l.shape))
not_record s d = false

-- NoField: a field selector whose record has no such field
abbrev pub no_field : Scene → List ℕ → Denotation → Bool
no_field s name (a_variable l) = is_record_in (slice_get s.shapes l.shape) && not (is_some (field_of s name l))
no_field s name d = false

-- the rules on a field selector
abbrev pub field_rules : Scene → List ℕ → Option Denotation → List CheckFault
field_rules s name v = when (holds (not_record s) v) fault.NotRecord ++ when (holds (no_field s name) v) fault.NoField

-- NotArray: an index selector on another type
abbrev pub not_array : Denotation → Bool
not_array no_array = true
not_array d = false

-- the rules on an index selector
abbrev pub array_rules : Option Denotation → List CheckFault
array_rules v = when (holds not_array v) fault.NotArray

-- TypeMismatch: an index Expr of another base than the index type
abbrev pub other_index : Scene → Option (ℕ × ℕ) → Typing → Bool
other_index s None t = false
other_index s (Some r) t = not (nat_eq (base s r.0) (base s t.shape))

-- the same, of an index behind this designator
abbrev pub other_index_of : Scene → Option Denotation → Typing → Bool
other_index_of s (Some (a_variable l)) t = other_index s (row_at s l.shape) t
other_index_of s d t = false

-- the rules on an index Expr
abbrev pub index_rules : Scene → Option Denotation → Option Typing → List CheckFault
index_rules s d v = when (holds (other_index_of s d) v) fault.TypeMismatch

-- ---- operands

-- where an operand stands: behind a sign, under a first operator that is logical or not, and behind which operator (the first
-- operand behind the first one); None where it stands alone
pub record Operand : Type 0 where
  pub signed : Bool
  pub sort : Bool
  pub operator : Option Operator

-- an operand that stands alone
abbrev pub alone : Operand
alone = record { signed = false; sort = false; operator = None }

-- NotTest: an operand of AND, OR or NOT that is not BOOLEAN
abbrev pub not_test : Scene → Typing → Bool
not_test s t = not (has_boolean s t.shape)

-- the operator is AND or OR
abbrev pub logical_operand : Option Operator → Bool
logical_operand None = false
logical_operand (Some o) = is_logical o

-- the operator is another one than AND and OR
abbrev pub arithmetic_operand : Option Operator → Bool
arithmetic_operand None = false
arithmetic_operand (Some o) = not (is_logical o)

-- TypeMismatch: an operand after an operator of the other sort
abbrev pub other_sort : Operand → Bool
other_sort o = (o.sort && arithmetic_operand o.operator) || (not o.sort && logical_operand o.operator)

-- TypeMismatch: an operand under + - * DIV MOD, or a signed one, not of base INTEGER; a structured operand
abbrev pub no_operand : Scene → Operand → Typing → Bool
no_operand s o t =
    ((arithmetic_operand o.operator || o.signed) && not (has_integer s t.shape)) || (is_some o.operator && is_structured s t.shape)

-- the rules on an operand
abbrev pub operand_rules : Scene → Operand → Option Typing → List CheckFault
operand_rules s o v =
    when (logical_operand o.operator && holds (not_test s) v) fault.NotTest
    ++ when (other_sort o || holds (no_operand s o) v) fault.TypeMismatch

-- ---- sums, products and NOT

-- ConstRange: a constant operation that overflows or divides by zero
abbrev pub has_no_value : Option Sign → Typing × Operands → Bool
has_no_value sign p = not (is_some (chain_value sign p))

-- ConstRange: in a constant place a Simple or Term without AND and OR has no value
abbrev pub no_constant_sum : Scene → Option Sign → Bool → Option (Typing × Operands) → Bool
no_constant_sum s sign with_logical v = s.constant && not with_logical && holds (has_no_value sign) v

-- a Simple or Term with operators: NotConst where one is AND or OR, and ConstRange
abbrev pub own_chain_rules : Scene → Option Sign → Bool → Option (Typing × Operands) → List CheckFault
own_chain_rules s sign with_logical v =
    when (s.constant && with_logical) fault.NotConst ++ when (no_constant_sum s sign with_logical v) fault.ConstRange

-- the same, with the rules of its place
abbrev pub chain_rules : Scene → (ir.Tests → ir.Test) → Operand → Option Sign → Bool → Option (Typing × Operands) → List CheckFault
chain_rules s join o sign with_logical v =
    when (s.constant && with_logical) fault.NotConst
    ++ operand_rules s o (option_map (chain_typing join sign) (unless (own_chain_rules s sign with_logical v) v))
    ++ when (no_constant_sum s sign with_logical v) fault.ConstRange

-- NotConst: a phrase that may not stand in a constant place
abbrev pub constant_rules : Scene → List CheckFault
constant_rules s = when s.constant fault.NotConst

-- a Factor with NOT: NotConst, and the rules of its place
abbrev pub not_rules : Scene → Operand → Option Typing → List CheckFault
not_rules s o v = constant_rules s ++ operand_rules s o (unless (constant_rules s) v)

-- ---- primaries

-- NotConst and TypeMismatch: a literal of a length other than 1 outside WRITE and WRITELN
abbrev pub literal_rules : Scene → List ℕ → Option Typing → List CheckFault
literal_rules s text v =
    when (s.constant && not (nat_eq (length text) 1)) fault.NotConst ++ when (not (nat_eq (length text) 1)) fault.TypeMismatch

-- ArgCount: another number of arguments than formals
abbrev pub other_count : ℕ → Callee → Bool
other_count count c = not (nat_eq count (length c.heading.formals))

-- a call with an argument list: NotConst, and ArgCount
abbrev pub call_rules : Scene → Option Callee → ℕ → Option (Callee × ir.Args) → List CheckFault
call_rules s c count v = constant_rules s ++ when (holds (other_count count) c) fault.ArgCount

-- TypeMismatch: a structured value in parentheses, under ORD
abbrev pub structured : Scene → Typing → Bool
structured s t = is_structured s t.shape

-- the rules on a value that has to be simple
abbrev pub simple_rules : Scene → Option Typing → List CheckFault
simple_rules s v = when (holds (structured s) v) fault.TypeMismatch

-- the designator is structured
abbrev pub structured_place : Scene → Location → Bool
structured_place s l = is_structured s l.shape

-- KNOWN: NotConst, and TypeMismatch of a structured designator
abbrev pub known_rules : Scene → Option Location → List CheckFault
known_rules s v = constant_rules s ++ when (holds (structured_place s) v) fault.TypeMismatch

-- the base is another one than INTEGER
abbrev pub no_integer : Scene → Typing → Bool
no_integer s t = not (has_integer s t.shape)

-- the number is a CHAR
abbrev pub is_char : ℤ → Bool
is_char v = within char_range v

-- in a constant place, of base INTEGER, and without a value that is a CHAR
abbrev pub no_char : Scene → Typing → Bool
no_char s t = s.constant && has_integer s t.shape && not (holds is_char t.constant)

-- CHR: TypeMismatch of a base other than INTEGER, and ConstRange of a constant that is no CHAR
abbrev pub chr_rules : Scene → Option Typing → List CheckFault
chr_rules s v = when (holds (no_integer s) v) fault.TypeMismatch ++ when (holds (no_char s) v) fault.ConstRange

-- a Boolean sequence: NotConst
abbrev pub sequence_rules : Scene → Option ir.Stmts → List CheckFault
sequence_rules s v = constant_rules s

-- ---- expressions

-- the relation is =
abbrev pub is_equation : Relation → Bool
is_equation relations.Equal = true
is_equation relation = false

-- TypeMismatch: a relation between types that are not compatible, or one other than = on structured types
abbrev pub unlike : Scene → Relation → Typing × Typing → Bool
unlike s relation p =
    not (are_compatible s p.0.shape p.1.shape) || (is_structured s p.0.shape && not (is_equation relation))

-- the rules on a relation: NotConst, and TypeMismatch
abbrev pub relation_rules : Scene → Relation → Option (Typing × Typing) → List CheckFault
relation_rules s relation v = constant_rules s ++ when (holds (unlike s relation) v) fault.TypeMismatch

-- NotTest: an Expr as a statement or condition, or under NOT, that is not BOOLEAN
abbrev pub test_rules : Scene → Option Typing → List CheckFault
test_rules s v = when (holds (not_test s) v) fault.NotTest

-- ---- arguments

-- an argument is no designator; one whose name is Bad or undeclared; one of a variable
pub data Argument : Type 0 where
  other : Argument
  of_bad : Argument
  of_variable : Argument

-- which of the three a designator is, by what its name stands for
abbrev pub argument_found : Scene → Found → Argument
argument_found s absent = of_bad
argument_found s bad = of_bad
argument_found s (constant shape v) = other
argument_found s (named shape) = other
argument_found s (variable shape root) = of_variable
argument_found s (routine r up None) = of_bad
argument_found s (routine r up (Some h)) = other

-- which of the three a designator is
abbrev pub argument_desig : Scene → tree.Desig → Argument
argument_desig s (tree.desig n name more) = argument_found s (found s name)

-- the designator that an expression exactly is
abbrev pub exactly : tree.Expr → Option tree.Desig
exactly (tree.expr n (tree.simple m None (tree.term k (tree.factor i (tree.named j d tree.no_args)) tree.no_factor) tree.no_term)
    tree.no_relation) = Some d
exactly e = None

-- which of the three an expression is, by the designator that it exactly is, if it is one
abbrev pub argument_kind_of : Scene → Option tree.Desig → Argument
argument_kind_of s None = other
argument_kind_of s (Some d) = argument_desig s d

-- which of the three an expression is
abbrev pub argument_kind : Scene → tree.Expr → Argument
argument_kind s e = argument_kind_of s (exactly e)

-- TypeMismatch: a value argument, or a MIX argument that is no designator, that is not compatible with its formal
abbrev pub not_fitting : Scene → FormalOf → Typing → Bool
not_fitting s f t = not (are_compatible s t.shape f.shape)

-- NotDesignator: an argument to a VAR formal that is no designator of a variable
abbrev pub is_var : Option Mode → Bool
is_var (Some modes.Var) = true
is_var mode = false

-- ModeType: a designator of a variable given to a VAR or MIX formal of another type
abbrev pub other_type : FormalOf → Typing → Bool
other_type f t = not (nat_eq t.shape f.shape)

-- the rules on an argument to this formal
abbrev pub argument_rules_of : Scene → FormalOf → Argument → Option Typing → List CheckFault
argument_rules_of s f of_bad v = []
argument_rules_of s f of_variable v =
    when (not (is_some f.mode) && holds (not_fitting s f) v) fault.TypeMismatch
    ++ when (is_some f.mode && holds (other_type f) v) fault.ModeType
argument_rules_of s f other v =
    when (not (is_var f.mode) && holds (not_fitting s f) v) fault.TypeMismatch ++ when (is_var f.mode) fault.NotDesignator

-- the rules on an argument, none where there is no formal for it
abbrev pub argument_rules : Scene → Option FormalOf → Argument → Option Typing → List CheckFault
argument_rules s None kind v = []
argument_rules s (Some f) kind v = argument_rules_of s f kind v
