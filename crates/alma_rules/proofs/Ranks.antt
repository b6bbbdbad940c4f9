-- The rules of each node stand in the order of CheckFault.
use Rattle.std.proofs.Common.{ℕ, ◌≤◌, List, [], ◌∷◌, ◌++◌, Bool, Option, None, Some, arith}
use Rattle.std.specs.Prelude.{true, false, ◌&&◌, not, is_some}
use Rattle.alma_base.specs.declared.fault.CheckFault.{CheckFault}
use Rattle.alma_base.specs.declared.fault.CheckFault.TheVariants as fault
use Rattle.alma_tree.specs.declared.leaf.Relation.{Relation}
use Rattle.alma_tree.specs.declared.leaf.Sign.{Sign}
use Rattle.alma_ir.specs.Tree as ir
use Rattle.alma_rules.specs.Judgement.{when, rank}
use Rattle.alma_rules.specs.Scene.{Scene, Found, FormalOf}
use Rattle.alma_rules.specs.Parts.{Typing, Location, Denotation, Callee, Operands, Span}
use Rattle.alma_rules.specs.ExprRules.{is_var, Use, Operand, Argument, other, of_bad, of_variable, name_rules, desig_rules, field_rules}
use Rattle.alma_rules.specs.ExprRules.{array_rules, index_rules, operand_rules, chain_rules, not_rules, literal_rules, call_rules}
use Rattle.alma_rules.specs.ExprRules.{simple_rules, known_rules, chr_rules, sequence_rules, relation_rules, test_rules, argument_rules}
use Rattle.alma_rules.specs.ExprRules.{argument_rules_of}
use Rattle.alma_rules.specs.StmtRules.{assign_rules, loop_name_rules, loop_rules, by_rules, case_rules, label_rules, return_rules}
use Rattle.alma_rules.specs.StmtRules.{read_rules, write_rules}
use Rattle.alma_rules.specs.Nodes.{text_rules}

-- the ranks rise, from r on and up to m
unfoldable pub InOrder : ℕ → ℕ → List CheckFault → Type 0
InOrder r m [] = r ≤ m
InOrder r m (f ∷ fs) = (r ≤ rank f) × InOrder (rank f) m fs

pub order_le : (r m : ℕ) (fs : List CheckFault) → InOrder r m fs → r ≤ m
unfolding InOrder
order_le r m [] h = h
order_le r m (f ∷ fs) h = let a : rank f ≤ m = order_le (rank f) m fs h.1 in omega (arith, h.0, a)

pub empty : (r m : ℕ) → r ≤ m → InOrder r m []
unfolding InOrder
empty r m h = h

lower : (r q m : ℕ) (fs : List CheckFault) → q ≤ r → InOrder r m fs → InOrder q m fs
unfolding InOrder
lower r q m [] le h = omega (arith, le, h)
lower r q m (f ∷ fs) le h = (omega (arith, le, h.0), h.1)

pub append : (r m t : ℕ) (a b : List CheckFault) → InOrder r m a → InOrder m t b → InOrder r t (a ++ b)
unfolding InOrder
append r m t [] b p q = lower m r t b p q
append r m t (f ∷ fs) b p q = (p.0, append (rank f) m t fs b p.1 q)

pub one : (r m : ℕ) (b : Bool) (f : CheckFault) → r ≤ rank f → rank f ≤ m → InOrder r m (when b f)
unfolding InOrder
one r m true f p q = (p, q)
one r m false f p q = omega (arith, p, q)

pub name_order : {A : Type 0} (f : Found) (v : Option A) → InOrder 0 23 (name_rules f v)
name_order f v = one 0 23 _ fault.Undeclared (omega arith) (omega arith)

pub desig_order : (s : Scene) (wanted : Use) (selected : Bool) (f : Found) (v : Option Denotation)
    → InOrder 0 6 (desig_rules s wanted selected f v)
desig_order s wanted selected f v =
    append 0 5 6 _ _ (append 0 4 5 _ _ (one 0 4 _ fault.NotConst (omega arith) (omega arith))
    (one 4 5 _ fault.NotVariable (omega arith) (omega arith)))
    (one 5 6 _ fault.NotProcedure (omega arith) (omega arith))

pub field_order : (s : Scene) (name : List ℕ) (v : Option Denotation) → InOrder 0 23 (field_rules s name v)
field_order s name v = append 0 14 23 _ _ (one 0 14 _ fault.NotRecord (omega arith) (omega arith))
    (one 14 23 _ fault.NoField (omega arith) (omega arith))

pub array_order : (v : Option Denotation) → InOrder 0 23 (array_rules v)
array_order v = one 0 23 _ fault.NotArray (omega arith) (omega arith)

pub index_order : (s : Scene) (d : Option Denotation) (v : Option Typing) → InOrder 0 23 (index_rules s d v)
index_order s d v = one 0 23 _ fault.TypeMismatch (omega arith) (omega arith)

operand_order_in : (s : Scene) (o : Operand) (v : Option Typing) → InOrder 4 8 (operand_rules s o v)
operand_order_in s o v = append 4 7 8 _ _ (one 4 7 _ fault.NotTest (omega arith) (omega arith))
    (one 7 8 _ fault.TypeMismatch (omega arith) (omega arith))

pub operand_order : (s : Scene) (o : Operand) (v : Option Typing) → InOrder 0 23 (operand_rules s o v)
operand_order s o v = append 0 7 23 _ _ (one 0 7 _ fault.NotTest (omega arith) (omega arith))
    (one 7 23 _ fault.TypeMismatch (omega arith) (omega arith))

pub chain_order : (s : Scene) (join : ir.Tests → ir.Test) (o : Operand) (sign : Option Sign) (l : Bool) (v : Option (Typing × Operands))
    → InOrder 0 23 (chain_rules s join o sign l v)
chain_order s join o sign l v =
    append 0 8 23 _ _ (append 0 4 8 _ _ (one 0 4 _ fault.NotConst (omega arith) (omega arith)) (operand_order_in s o _))
    (one 8 23 _ fault.ConstRange (omega arith) (omega arith))

pub not_order : (s : Scene) (o : Operand) (v : Option Typing) → InOrder 0 23 (not_rules s o v)
not_order s o v = append 0 4 23 _ _ (one 0 4 _ fault.NotConst (omega arith) (omega arith))
    (append 4 7 23 _ _ (one 4 7 _ fault.NotTest (omega arith) (omega arith)) (one 7 23 _ fault.TypeMismatch (omega arith) (omega arith)))

pub literal_order : (s : Scene) (text : List ℕ) (v : Option Typing) → InOrder 0 16 (literal_rules s text v)
literal_order s text v = append 0 4 16 _ _ (one 0 4 _ fault.NotConst (omega arith) (omega arith))
    (one 4 16 _ fault.TypeMismatch (omega arith) (omega arith))

pub call_order : (s : Scene) (c : Option Callee) (count : ℕ) (v : Option (Callee × ir.Args)) → InOrder 0 16 (call_rules s c count v)
call_order s c count v = append 0 4 16 _ _ (one 0 4 _ fault.NotConst (omega arith) (omega arith))
    (one 4 16 _ fault.ArgCount (omega arith) (omega arith))

pub simple_order : (s : Scene) (v : Option Typing) → InOrder 0 16 (simple_rules s v)
simple_order s v = one 0 16 _ fault.TypeMismatch (omega arith) (omega arith)

pub known_order : (s : Scene) (v : Option Location) → InOrder 0 16 (known_rules s v)
known_order s v = append 0 4 16 _ _ (one 0 4 _ fault.NotConst (omega arith) (omega arith))
    (one 4 16 _ fault.TypeMismatch (omega arith) (omega arith))

pub chr_order : (s : Scene) (v : Option Typing) → InOrder 0 16 (chr_rules s v)
chr_order s v = append 0 8 16 _ _ (one 0 8 _ fault.TypeMismatch (omega arith) (omega arith))
    (one 8 16 _ fault.ConstRange (omega arith) (omega arith))

pub sequence_order : (s : Scene) (v : Option ir.Stmts) → InOrder 0 16 (sequence_rules s v)
sequence_order s v = one 0 16 _ fault.NotConst (omega arith) (omega arith)

pub relation_order : (s : Scene) (r : Relation) (v : Option (Typing × Typing)) → InOrder 0 8 (relation_rules s r v)
relation_order s r v = append 0 4 8 _ _ (one 0 4 _ fault.NotConst (omega arith) (omega arith))
    (one 4 8 _ fault.TypeMismatch (omega arith) (omega arith))

pub test_order : (s : Scene) (v : Option Typing) → InOrder 0 23 (test_rules s v)
test_order s v = one 0 23 _ fault.NotTest (omega arith) (omega arith)

argument_order_of : (s : Scene) (f : FormalOf) (kind : Argument) (v : Option Typing) → InOrder 0 23 (argument_rules_of s f kind v)
argument_order_of s f other v = append 0 8 23 _ _ (one 0 8 _ fault.TypeMismatch (omega arith) (omega arith))
    (one 8 23 _ fault.NotDesignator (omega arith) (omega arith))
argument_order_of s f of_bad v = empty 0 23 (omega arith)
argument_order_of s f of_variable v = append 0 8 23 _ _ (one 0 8 _ fault.TypeMismatch (omega arith) (omega arith))
    (one 8 23 _ fault.ModeType (omega arith) (omega arith))

pub argument_order : (s : Scene) (f : Option FormalOf) (kind : Argument) (v : Option Typing) → InOrder 0 23 (argument_rules s f kind v)
argument_order s None kind v = empty 0 23 (omega arith)
argument_order s (Some f) kind v = argument_order_of s f kind v

pub assign_order : (s : Scene) (v : Option (Location × Typing)) → InOrder 0 23 (assign_rules s v)
assign_order s v = one 0 23 _ fault.TypeMismatch (omega arith) (omega arith)

pub loop_name_order : (s : Scene) (f : Found) (v : Option Location) → InOrder 0 23 (loop_name_rules s f v)
loop_name_order s f v = append 0 0 23 _ _ (one 0 0 _ fault.Undeclared (omega arith) (omega arith))
    (one 0 23 _ fault.NotVariable (omega arith) (omega arith))

pub loop_order : {A : Type 0} (s : Scene) (var : Option Location) (low high : Option Typing) (v : Option A)
    → InOrder 0 23 (loop_rules s var low high v)
loop_order s var low high v = one 0 23 _ fault.TypeMismatch (omega arith) (omega arith)

pub by_order : (s : Scene) (v : Option Typing) → InOrder 0 23 (by_rules s v)
by_order s v = append 0 8 23 _ _ (one 0 8 _ fault.TypeMismatch (omega arith) (omega arith))
    (one 8 23 _ fault.ConstRange (omega arith) (omega arith))

pub case_order : {A : Type 0} (s : Scene) (c : Option Typing) (v : Option A) → InOrder 0 23 (case_rules s c v)
case_order s c v = one 0 23 _ fault.TypeMismatch (omega arith) (omega arith)

pub label_order : {A : Type 0} (s : Scene) (c : Option Typing) (earlier : List Span) (span : Typing × Typing → Option Span)
    (low high : Option Typing) (v : Option A) → InOrder 0 23 (label_rules s c earlier span low high v)
label_order s c earlier span low high v =
    append 0 16 23 _ _ (append 0 8 16 _ _ (one 0 8 _ fault.TypeMismatch (omega arith) (omega arith))
    (one 8 16 _ fault.ConstRange (omega arith) (omega arith)))
    (one 16 23 _ fault.LabelTwice (omega arith) (omega arith))

pub return_order : (s : Scene) (with_value : Bool) (v : Option Typing) → InOrder 0 23 (return_rules s with_value v)
return_order s with_value v =
    append 0 18 23 _ _ (append 0 8 18 _ _ (one 0 8 _ fault.TypeMismatch (omega arith) (omega arith))
    (one 8 18 _ fault.ReturnForm (omega arith) (omega arith)))
    (one 18 23 _ fault.JumpOut (omega arith) (omega arith))

pub read_order : (s : Scene) (v : Option Location) → InOrder 0 23 (read_rules s v)
read_order s v = one 0 23 _ fault.BadRead (omega arith) (omega arith)

pub write_order : (s : Scene) (v : Option Typing) → InOrder 0 23 (write_rules s v)
write_order s v = one 0 23 _ fault.BadWrite (omega arith) (omega arith)

pub text_order : {A : Type 0} (s : Scene) (v : Option A) → InOrder 0 23 (text_rules s v)
text_order s v = one 0 23 _ fault.NotConst (omega arith) (omega arith)

-- a rule that needs a type, where there is none
never : (r m : ℕ) (b : Bool) (f : CheckFault) → r ≤ m → InOrder r m (when (b && false) f)
never r m true f h = empty r m h
never r m false f h = empty r m h

-- rules of a place that need a type, or come later than all rules of the node itself
pub argument_place : (s : Scene) (f : Option FormalOf) (kind : Argument) → InOrder 9 23 (argument_rules s f kind None)
argument_place s None kind = empty 9 23 (omega arith)
argument_place s (Some f) of_bad = empty 9 23 (omega arith)
argument_place s (Some f) of_variable = append 9 9 23 _ _ (never 9 9 (not (is_some f.mode)) fault.TypeMismatch (omega arith))
    (never 9 23 (is_some f.mode) fault.ModeType (omega arith))
argument_place s (Some f) other = append 9 9 23 _ _ (never 9 9 (not (is_var f.mode)) fault.TypeMismatch (omega arith))
    (one 9 23 (is_var f.mode) fault.NotDesignator (omega arith) (omega arith))
