-- What the walk makes of a node of statements and expressions, from what is judged of its parts.
use Rattle.std.specs.Prelude.{ℕ, ◌+◌, ℤ, pos, Bool, true, false, ◌||◌, nat_eq, List, [], ◌∷◌, ◌++◌, length, Option, None, Some, unwrap_or}
use Rattle.alma_base.specs.Choice.{if_true}
use Rattle.alma_base.specs.declared.fault.CheckFault.{CheckFault}
use Rattle.alma_tree.specs.declared.leaf.Relation.{Relation}
use Rattle.alma_tree.specs.declared.leaf.Sign.{Sign}
use Rattle.alma_ir.specs.Tree as ir
use Rattle.alma_rules.specs.Numbered as tree
use Rattle.alma_rules.specs.Judgement.{Judgement, fine, of_value, at_node, both, after, with, with_some}
use Rattle.alma_names.specs.Shapes.{integer_shape, char_shape}
use Rattle.alma_rules.specs.Scene.{Scene, FormalOf, found, literal_at, range}
use Rattle.alma_rules.specs.Parts.{plain, a_test, Typing, value_of, test_of, without_place, integer_typing, char_typing, boolean_typing}
use Rattle.alma_rules.specs.Parts.{Location, desig_of, Denotation, denotation, select_index, located_in, Callee, argument_of}
use Rattle.alma_rules.specs.Parts.{typing_of_call, relation_typing}
use Rattle.alma_rules.specs.Parts.{Operator, add_operator, mul_operator, is_logical, Operands, chain_typing, one_stmt, append_stmts}
use Rattle.alma_rules.specs.Parts.{read_stmts}
use Rattle.alma_rules.specs.Parts.{write_stmts, Span, span_of, ranges_of, append_cases}
use Rattle.alma_rules.specs.ExprRules.{name_rules, index_rules, Operand, alone, operand_rules, chain_rules, call_rules, simple_rules}
use Rattle.alma_rules.specs.ExprRules.{sequence_rules, relation_rules, constant_rules, test_rules, argument_kind, argument_rules}
use Rattle.alma_rules.specs.StmtRules.{loop_name_rules, loop_rules, by_rules, case_rules, label_rules, return_rules, read_rules}
use Rattle.alma_rules.specs.StmtRules.{write_rules}

-- ---- what a node makes of its parts

-- a name in use, and what it denotes
abbrev pub judge_name : Scene → ℕ → tree.Name → Judgement Denotation
judge_name s n name = at_node name.node (name_rules (found s name)) (of_value n (denotation s (found s name)))

-- there is a selector
abbrev pub is_selected : tree.SelectorTail → Bool
is_selected tree.no_selector = false
is_selected (tree.more_selector x rest) = true

-- an index with the designator in front of it
abbrev pub index_at : Scene → Judgement Denotation → ℕ → Judgement Typing → Judgement Denotation
index_at s d node i =
    after (at_node node (index_rules s d.value) i)
    (λ j. record { faults = d.faults ++ j.faults; next = j.next; value = select_index s d.value j.value })

-- a literal of one byte
abbrev pub byte_of : List ℕ → ℤ
byte_of [] = pos 0
byte_of (b ∷ bs) = pos b

-- a literal stands for its first byte
abbrev pub literal_typing : Scene → ℕ → Typing
literal_typing s t = char_typing (byte_of (literal_at s t))

-- a single expression in parentheses stands for itself
abbrev pub in_parens : Scene → ℕ → Judgement Typing → Judgement Typing
in_parens s k j = with without_place (at_node k (simple_rules s) j)

-- any other sequence of statements in parentheses is a Boolean one
abbrev pub as_sequence : Scene → ℕ → Judgement ir.Stmts → Judgement Typing
as_sequence s k j = with (λ body. boolean_typing (a_test (ir.Seq body))) (at_node k (sequence_rules s) j)

-- a single expression where there is one, and else a sequence
abbrev pub or_sequence : Option (Judgement Typing) → (Judgement Typing → Judgement Typing) → (Unit {0} → Judgement Typing)
    → Judgement Typing
or_sequence (Some j) single sequence = single j
or_sequence None single sequence = sequence tt

-- a first statement's expression, where no statement stands behind it
abbrev pub only_of : tree.StmtTail → Option (Judgement Typing) → Option (Judgement Typing)
only_of tree.no_stmt j = j
only_of (tree.more_stmt x rest) j = None

-- KNOWN of a variable
abbrev pub known_typing : Location → Typing
known_typing l = boolean_typing (plain (ir.Known (desig_of l)))

-- ORD of an expression
abbrev pub ord_typing : Typing → Typing
ord_typing t = record { shape = integer_shape; constant = t.constant; meaning = plain (value_of t.meaning) }

-- CHR of an expression
abbrev pub chr_typing : Typing → Typing
chr_typing t = record { shape = char_shape; constant = t.constant; meaning = plain (ir.Chr (value_of t.meaning)) }

-- NOT of an expression
abbrev pub not_typing : Typing → Typing
not_typing t = boolean_typing (a_test (ir.Not (test_of t.meaning)))

-- the formals of a callee; none where it is Bad
abbrev pub formals_of : Option Callee → List FormalOf
formals_of None = []
formals_of (Some c) = c.heading.formals

-- the number of expressions behind the first
abbrev pub expr_count : tree.ExprTail → ℕ
expr_count tree.no_expr = 0
expr_count (tree.more_expr e rest) = 1 + expr_count rest

-- the number of arguments
abbrev pub argument_count : tree.Exprs → ℕ
argument_count (tree.exprs e rest) = 1 + expr_count rest

-- a call with an argument list
abbrev pub called_at : Scene → ℕ → Judgement Callee → ℕ → Judgement ir.Args → Judgement Typing
called_at s k callee count args = with typing_of_call (at_node k (call_rules s callee.value count) (both callee args))

-- an argument, with the formal of its place
abbrev pub judged_argument : Scene → Option FormalOf → tree.Expr → Judgement Typing → Judgement ir.Arg
judged_argument s f e j = with (argument_of s f) (at_node (tree.expr_node e) (argument_rules s f (argument_kind s e)) j)

-- an argument in front of others
abbrev pub cons_arg : ir.Arg × ir.Args → ir.Args
cons_arg p = ir.more_args p.0 p.1

-- an operand with its operator in front of others
abbrev pub cons_operand : Operator → Typing × Operands → Operands
cons_operand o p = (o, p.0) ∷ p.1

-- a Simple or Term with a sign or with operators
abbrev pub chain_at : Scene → (ir.Tests → ir.Test) → Operand → ℕ → Option Sign → Bool → Judgement (Typing × Operands) → Judgement Typing
chain_at s join o k sign with_logical j = with (chain_typing join sign) (at_node k (chain_rules s join o sign with_logical) j)

-- an operand behind an operator, under a first operator of this sort
abbrev pub operand_behind : Bool → Operator → Operand
operand_behind sort o = record { signed = false; sort = sort; operator = Some o }

-- there is a sign
abbrev pub is_signed : Option Sign → Bool
is_signed None = false
is_signed (Some sign) = true

-- the first operand belongs to the first operator
abbrev pub first_add : Option Sign → tree.TermTail → Operand
first_add sign tree.no_term = record { signed = is_signed sign; sort = false; operator = None }
first_add sign (tree.more_term o t rest) =
    record { signed = is_signed sign; sort = is_logical (add_operator o); operator = Some (add_operator o) }

-- the same of a Term, which has no sign
abbrev pub first_mul : tree.FactorTail → Operand
first_mul tree.no_factor = alone
first_mul (tree.more_factor o f rest) = operand_behind (is_logical (mul_operator o)) (mul_operator o)

-- one of the operators is OR
abbrev pub any_or : tree.TermTail → Bool
any_or tree.no_term = false
any_or (tree.more_term o t rest) = is_logical (add_operator o) || any_or rest

-- one of the operators is AND
abbrev pub any_and : tree.FactorTail → Bool
any_and tree.no_factor = false
any_and (tree.more_factor o f rest) = is_logical (mul_operator o) || any_and rest

-- the first part, where no other stands behind it
abbrev pub alone_in : {A B : Type 0} → Judgement (A × B) → Judgement A
alone_in j = with (λ p. p.0) j

-- a Simple: without sign and operators it is its only part
abbrev pub sum_at : Scene → ℕ → Option Sign → tree.TermTail → Judgement (Typing × Operands) → Judgement Typing
sum_at s k None tree.no_term j = alone_in j
sum_at s k sign rest j = chain_at s ir.Or alone k sign (any_or rest) j

-- a Term in its place: without operators it is its only part
abbrev pub product_at : Scene → Operand → ℕ → tree.FactorTail → Judgement (Typing × Operands) → Judgement Typing
product_at s o k tree.no_factor j = at_node k (operand_rules s o) (alone_in j)
product_at s o k rest j = chain_at s ir.And o k None (any_and rest) j

-- a relation
abbrev pub relation_at : Scene → ℕ → Relation → Judgement (Typing × Typing) → Judgement Typing
relation_at s k relation j = with (relation_typing s relation) (at_node k (relation_rules s relation) j)

-- an expression as a test
abbrev pub as_test : Judgement Typing → Judgement ir.Test
as_test j = with (λ t. test_of t.meaning) j

-- ---- statements

-- a condition, or an expression as a statement
abbrev pub condition_at : Scene → tree.Expr → Judgement Typing → Judgement ir.Test
condition_at s e j = as_test (at_node (tree.expr_node e) (test_rules s) j)

-- the value of a constant
abbrev pub constant_in : Typing → Option ℤ
constant_in t = t.constant

-- the step behind BY
abbrev pub step_at : Scene → tree.Expr → Judgement Typing → Judgement ℤ
step_at s e j = with_some constant_in (at_node (tree.expr_node e) (by_rules s) j)

-- one statement as a list
abbrev pub one : Judgement ir.Stmt → Judgement ir.Stmts
one j = with one_stmt j

-- IF, of its test, its statements, the arms of ELSIF, and ELSE
abbrev pub if_of : ir.Test × (ir.Stmts × (ir.Arms × ir.Stmts)) → ir.Stmt
if_of p = ir.If (ir.more_arms p.0 p.1.0 p.1.1.0) p.1.1.1

-- an arm of IF in front of others
abbrev pub arms_of : ir.Test × (ir.Stmts × ir.Arms) → ir.Arms
arms_of p = ir.more_arms p.0 p.1.0 p.1.1

-- a loop Name, and the variable that it names
abbrev pub loop_variable : Scene → ℕ → tree.Name → Judgement Location
loop_variable s n name =
    at_node name.node (loop_name_rules s (found s name)) (with_some located_in (of_value n (denotation s (found s name))))

-- a loop with the hidden slots n and n + 1, of its variable, its bounds, its step and its body
abbrev pub loop_of : Scene → ℕ → Location × (Typing × (Typing × (ℤ × ir.Stmts))) → ir.Loop
loop_of s n p = ir.a_loop (desig_of p.0) (range s p.0.shape) n (n + 1) (value_of p.1.0.meaning) (value_of p.1.1.0.meaning) p.1.1.1.0
    p.1.1.1.1

-- a loop, of what is judged of its parts
abbrev pub loop_at : Scene → ℕ → ℕ → Judgement Location → Judgement Typing → Judgement Typing → Judgement ℤ → Judgement ir.Stmts
    → Judgement ir.Loop
loop_at s n k var low high by body =
    with (loop_of s n) (at_node k (loop_rules s var.value low.value high.value) (both var (both low (both high (both by body)))))

-- a label with the labels before it in its CASE
abbrev pub label_at : Scene → Option Typing → List Span → ℕ → Judgement Typing → Judgement Typing → Judgement Span
label_at s case earlier k low high =
    with_some (span_of s) (at_node k (label_rules s case earlier (span_of s) low.value high.value) (both low high))

-- a label in front of others
abbrev pub cons_span : Span × List Span → List Span
cons_span p = p.0 ∷ p.1

-- an arm of CASE, and its labels
pub record ArmAndLabels : Type 0 where
  pub arm : Judgement ir.CaseArms
  pub spans : List Span

-- an arm of CASE, of its labels and its body
abbrev pub arm_of : List Span × ir.Stmts → ir.CaseArms
arm_of p = ir.more_cases (ranges_of p.0) p.1 ir.no_cases

-- the same, of what is judged of them
abbrev pub arm_at : Judgement (List Span) → Judgement ir.Stmts → ArmAndLabels
arm_at labels body = record { arm = with arm_of (both labels body); spans = unwrap_or labels.value [] }

-- arms of CASE, and others behind them
abbrev pub joined_cases : ir.CaseArms × ir.CaseArms → ir.CaseArms
joined_cases p = append_cases p.0 p.1

-- CASE, of its value, its arms and ELSE
abbrev pub case_at : Scene → ℕ → Judgement Typing → Judgement ir.CaseArms → Judgement ir.Else → Judgement ir.Stmt
case_at s k case arms other =
    with (λ p. ir.Case (value_of p.0.meaning) p.1.0 p.1.1) (at_node k (case_rules s case.value) (both case (both arms other)))

-- READ of one designator
abbrev pub read_at : Scene → tree.Desig → Judgement Denotation → Judgement ir.Stmts
read_at s d j = with (read_stmts s) (at_node (tree.desig_node d) (read_rules s) (with_some located_in j))

-- a RETURN with a value
abbrev pub return_at : Scene → ℕ → Judgement Typing → Judgement ir.Stmt
return_at s k j = with (λ t. ir.Return (ir.some_result (value_of t.meaning))) (at_node k (return_rules s true) j)

-- the rules on a RETURN without a value
abbrev pub no_result : Scene → Option Typing → List CheckFault
no_result s v = return_rules s false None

-- a RETURN without a value
abbrev pub bare_return_at : Scene → ℕ → ℕ → Judgement ir.Stmt
bare_return_at s n k = with (λ t. ir.Return ir.no_result) (at_node k (no_result s) (fine n (integer_typing (pos 0))))

-- statements, and the end of a line behind them
abbrev pub with_line : ir.Stmts → ir.Stmts
with_line xs = append_stmts xs (one_stmt ir.WriteLine)

-- a literal that is a whole item of WRITE, and not of length 1: its node and token
abbrev pub item_literal : tree.Expr → Option (ℕ × ℕ)
item_literal (tree.expr n (tree.simple m None (tree.term k (tree.factor i (tree.literal j t)) tree.no_factor) tree.no_term)
    tree.no_relation) = Some (j, t)
item_literal e = None

-- the rules on a text that is written
abbrev pub text_rules : {A : Type 0} → Scene → Option A → List CheckFault
text_rules s v = constant_rules s

-- a literal as an item of WRITE: of length 1 it is written as a value, and else as a text
abbrev pub text_item : Scene → ℕ → ℕ → List ℕ → Judgement Typing → ℕ → Judgement ir.Stmts
text_item s n j text item node = if_true (nat_eq (length text) 1)
    (λ _. with (write_stmts s) (at_node node (write_rules s) item))
    (λ _. at_node j (text_rules s) (fine n (one_stmt (ir.WriteText text))))

-- an item of WRITE
abbrev pub item_of : Scene → ℕ → ℕ → Option (ℕ × ℕ) → Judgement Typing → Judgement ir.Stmts
item_of s n node None item = with (write_stmts s) (at_node node (write_rules s) item)
item_of s n node (Some l) item = text_item s n l.0 (literal_at s l.1) item node
