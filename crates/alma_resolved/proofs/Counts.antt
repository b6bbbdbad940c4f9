-- How many statements there are among the phrases of expressions and designators.
use Rattle.std.proofs.Common.{◌≡◌, ℕ, ◌+◌, ℤ, Bool, true, false, List, [], ◌∷◌, ◌++◌, Option, None, Some, refl, sym, ◌∙◌, subst, arith}
use Rattle.std.specs.Prelude.{◌&&◌, ◌||◌, option_map, if◌then◌else◌}
use Rattle.alma_base.specs.declared.fault.CheckFault.TheVariants as fault
use Rattle.alma_base.specs.declared.number.Range.{Range}
use Rattle.alma_tree.specs.declared.leaf.Relation.{Relation}
use Rattle.alma_tree.specs.declared.leaf.Relation.TheVariants as relations
use Rattle.alma_tree.specs.declared.leaf.Sign.{Sign}
use Rattle.alma_tree.specs.declared.leaf.Sign.TheVariants as signs
use Rattle.alma_tree.specs.declared.leaf.Mode.{Mode}
use Rattle.alma_tree.specs.declared.leaf.Mode.TheVariants as modes
use Rattle.alma_ir.specs.Tree as ir
use Rattle.alma_ir.specs.Phrases.{Phrase, StmtPhrase, TestPhrase, ExprPhrase, ArgPhrase, DesigPhrase, SelPhrase, expr_phrases, test_phrases}
use Rattle.alma_ir.specs.Phrases.{tests_phrases, links_phrases, args_phrases, arg_phrases, desig_phrases, sels_phrases, sel_phrases}
use Rattle.alma_ir.specs.Phrases.{stmts_phrases}
use Rattle.alma_ir.specs.Lines.{stmt_count}
use Rattle.alma_rules.specs.Judgement.{unless, both_of, when, holds}
use Rattle.alma_rules.specs.Scene.{Scene, FormalOf, Found, absent, bad, constant, named, variable, routine, row_at, is_structured, range}
use Rattle.alma_rules.specs.Scene.{in_constant}
use Rattle.alma_rules.specs.Parts.{Meaning, a_place, plain, a_test, Typing, value_of, test_of, no_place, without_place, boolean_typing}
use Rattle.alma_rules.specs.Parts.{Location, desig_of, with_sel, Denotation, a_constant, a_variable, a_routine, no_array, denotation}
use Rattle.alma_rules.specs.Parts.{field_of}
use Rattle.alma_rules.specs.Parts.{field_part, select_field, element_part, select_in, select_index, located_in, typing_in, Callee}
use Rattle.alma_rules.specs.Parts.{callee_in, simple_argument, structured_argument, argument_of, call_typing, equation_of, relation_typing}
use Rattle.alma_rules.specs.Parts.{Operator, arithmetic, logical, Operands, links_of, tests_of, chain_of, chain_typing}
use Rattle.alma_rules.specs.ExprRules.{Use, no_constant, not_variable, not_procedure, name_rules, desig_rules, Operand, other_sort}
use Rattle.alma_rules.specs.ExprRules.{no_operand, not_test, logical_operand, operand_rules, chain_rules}
use Rattle.alma_rules.specs.Nodes.{known_typing, ord_typing, chr_typing, not_typing, cons_operand, operand_behind, cons_arg}
use Rattle.alma_resolved.proofs.Fits.{When, when_some, when_none, when_map, when_node}
use Rattle.alma_resolved.proofs.Scenes.{no_fault, no_fault_alone, no_faults_left, or_left, phrases_with}

-- ---- phrases

-- so many statements
pub record Tally (n : ℕ) (xs : List Phrase) : Type 0 where
  pub count : stmt_count xs ≡ n

count_apart : (xs ys : List Phrase) → stmt_count (xs ++ ys) ≡ stmt_count xs + stmt_count ys
count_apart [] ys = omega arith
count_apart (StmtPhrase x ∷ xs) ys = omega (arith, count_apart xs ys)
count_apart (TestPhrase x ∷ xs) ys = count_apart xs ys
count_apart (ExprPhrase x ∷ xs) ys = count_apart xs ys
count_apart (ArgPhrase x ∷ xs) ys = count_apart xs ys
count_apart (DesigPhrase x ∷ xs) ys = count_apart xs ys
count_apart (SelPhrase x ∷ xs) ys = count_apart xs ys

pub tally_nil : Tally 0 []
tally_nil = record { count = refl }

pub tally_is : {xs : List Phrase} (a b : ℕ) → a ≡ b → Tally a xs → Tally b xs
tally_is {xs} a b e h = record { count = h.count ∙ e }

pub tally_join : {a b : ℕ} {xs ys : List Phrase} → Tally a xs → Tally b ys → Tally (a + b) (xs ++ ys)
tally_join {a} {b} {xs} {ys} h k = record { count = omega (arith, count_apart xs ys, h.count, k.count) }

pub stmt_more : {n : ℕ} {xs : List Phrase} (x : ir.Stmt) → Tally n xs → Tally (1 + n) (StmtPhrase x ∷ xs)
stmt_more x h = record { count = omega (arith, h.count) }

pub test_more : {n : ℕ} {xs : List Phrase} (x : ir.Test) → Tally n xs → Tally n (TestPhrase x ∷ xs)
test_more x h = record { count = h.count }

pub expr_more : {n : ℕ} {xs : List Phrase} (x : ir.Expr) → Tally n xs → Tally n (ExprPhrase x ∷ xs)
expr_more x h = record { count = h.count }

arg_more : {n : ℕ} {xs : List Phrase} (x : ir.Arg) → Tally n xs → Tally n (ArgPhrase x ∷ xs)
arg_more x h = record { count = h.count }

pub desig_more : {n : ℕ} {xs : List Phrase} (x : ir.Desig) → Tally n xs → Tally n (DesigPhrase x ∷ xs)
desig_more x h = record { count = h.count }

sel_more : {n : ℕ} {xs : List Phrase} (x : ir.Sel) → Tally n xs → Tally n (SelPhrase x ∷ xs)
sel_more x h = record { count = h.count }

-- with nothing behind
pub tally_alone : {n : ℕ} {xs : List Phrase} → Tally n xs → Tally n (xs ++ [])
tally_alone {n} {xs} h = tally_is (n + 0) n (omega arith) (tally_join h tally_nil)

-- ---- values

abbrev pub MeaningTally : ℕ → Meaning → Type 0
MeaningTally n (a_place d) = Tally n (desig_phrases d)
MeaningTally n (plain e) = Tally n (expr_phrases e)
MeaningTally n (a_test t) = Tally n (test_phrases t)

pub record TypingTally (n : ℕ) (t : Typing) : Type 0 where
  pub is : MeaningTally n t.meaning

value_in : (n : ℕ) (m : Meaning) → MeaningTally n m → Tally n (expr_phrases (value_of m))
unfolding expr_phrases
value_in n (a_place d) h = expr_more (ir.Load d) h
value_in n (plain e) h = h
value_in n (a_test t) h = expr_more (ir.Truth t) h

pub value_tally : {n : ℕ} {t : Typing} → TypingTally n t → Tally n (expr_phrases (value_of t.meaning))
value_tally {n} {t} h = value_in n t.meaning h.is

test_in : (n : ℕ) (m : Meaning) → MeaningTally n m → Tally n (test_phrases (test_of m))
unfolding expr_phrases
test_in n (a_place d) h = test_more (ir.Value (ir.Load d)) (expr_more (ir.Load d) h)
test_in n (plain e) h = test_more (ir.Value e) h
test_in n (a_test t) h = h

pub test_tally : {n : ℕ} {t : Typing} → TypingTally n t → Tally n (test_phrases (test_of t.meaning))
test_tally {n} {t} h = test_in n t.meaning h.is

-- an assignment's value that is exactly a designator
pub place_tally : {n : ℕ} {t : Typing} (d : ir.Desig) → t.meaning ≡ a_place d → TypingTally n t → Tally n (desig_phrases d)
place_tally {n} {t} d e h = subst (λ m. MeaningTally n m) e h.is

no_place_in : (n : ℕ) (m : Meaning) → MeaningTally n m → MeaningTally n (no_place m)
unfolding expr_phrases
no_place_in n (a_place d) h = expr_more (ir.Load d) h
no_place_in n (plain e) h = h
no_place_in n (a_test t) h = h

pub without_tally : {n : ℕ} (t : Typing) → TypingTally n t → TypingTally n (without_place t)
without_tally {n} t h = record { is = no_place_in n t.meaning h.is }

pub typing_is : {t : Typing} (a b : ℕ) → a ≡ b → TypingTally a t → TypingTally b t
typing_is {t} a b e h = subst (λ n. TypingTally n t) e h

pub constant_tally : (shape : ℕ) (o : Option ℤ) (v : ℤ)
    → TypingTally 0 (record { shape = shape; constant = o; meaning = plain (ir.Const v) })
unfolding expr_phrases
constant_tally shape o v = record { is = expr_more (ir.Const v) tally_nil }

pub seq_tally : {n : ℕ} (x : ir.Stmts) → Tally n (stmts_phrases x) → TypingTally n (boolean_typing (a_test (ir.Seq x)))
unfolding expr_phrases
seq_tally x h = record { is = test_more (ir.Seq x) h }

pub known_tally : {n : ℕ} (l : Location) → Tally n (desig_phrases (desig_of l)) → TypingTally n (known_typing l)
unfolding expr_phrases
known_tally l h = record { is = expr_more (ir.Known (desig_of l)) h }

pub ord_tally : {n : ℕ} (t : Typing) → TypingTally n t → TypingTally n (ord_typing t)
ord_tally t h = record { is = value_tally h }

pub chr_tally : {n : ℕ} (t : Typing) → TypingTally n t → TypingTally n (chr_typing t)
unfolding expr_phrases
chr_tally t h = record { is = expr_more (ir.Chr (value_of t.meaning)) (value_tally h) }

pub not_tally : {n : ℕ} (t : Typing) → TypingTally n t → TypingTally n (not_typing t)
unfolding expr_phrases
not_tally t h = record { is = test_more (ir.Not (test_of t.meaning)) (test_tally h) }

-- ---- designators

-- a name of a constant or of a procedure
abbrev pub OffVariable : Found → Type 0
OffVariable absent = ⊥
OffVariable bad = ⊥
OffVariable (constant shape v) = Unit {0}
OffVariable (named shape) = ⊥
OffVariable (variable shape root) = ⊥
OffVariable (routine q up None) = ⊥
OffVariable (routine q up (Some h)) = Unit {0}

abbrev pub IsVariable : Found → Type 0
IsVariable absent = ⊥
IsVariable bad = ⊥
IsVariable (constant shape v) = ⊥
IsVariable (named shape) = ⊥
IsVariable (variable shape root) = Unit {0}
IsVariable (routine q up h) = ⊥

-- what a name and its selectors denote, with so many statements in the indices of a variable
abbrev pub DenotedIn : Found → ℕ → Denotation → Type 0
DenotedIn f n (a_variable l) = IsVariable f × Tally n (sels_phrases l.sels)
DenotedIn f n (a_constant shape v) = OffVariable f
DenotedIn f n (a_routine q up h) = OffVariable f
DenotedIn f n no_array = IsVariable f

pub record DenotedTally (f : Found) (n : ℕ) (d : Denotation) : Type 0 where
  pub is : DenotedIn f n d

pub denoted_is : {f : Found} {d : Denotation} (a b : ℕ) → a ≡ b → DenotedTally f a d → DenotedTally f b d
denoted_is {f} {d} a b e h = subst (λ n. DenotedTally f n d) e h

anything : {A : Type 0} (v : Option A) → When v (λ x. Unit {0})
anything None = when_none
anything (Some x) = when_some x tt

pub name_tally : (s : Scene) (f : Found) → When (unless (name_rules f (denotation s f)) (denotation s f)) (DenotedTally f 0)
unfolding expr_phrases
name_tally s absent = when_none
name_tally s bad = when_none
name_tally s (constant shape v) = when_some _ (record { is = tt })
name_tally s (named shape) = when_none
name_tally s (variable shape root) = when_some _ (record { is = (tt, tally_nil) })
name_tally s (routine q up None) = when_none
name_tally s (routine q up (Some h)) = when_some _ (record { is = tt })

sels_with : (n m : ℕ) (sels : ir.Sels) (x : ir.Sel) → Tally n (sels_phrases sels) → Tally m (sel_phrases x)
    → Tally (n + m) (sels_phrases (with_sel sels x))
sels_with n m sels x h k = subst (λ ys. Tally (n + m) ys) (sym (phrases_with sels x)) (tally_join h (tally_alone k))

field_part_tally : (s : Scene) (f : Found) (n : ℕ) (l : Location) (p : ℕ × ℕ) → IsVariable f × Tally n (sels_phrases l.sels)
    → DenotedTally f n (field_part s l p)
unfolding expr_phrases
field_part_tally s f n l p h = record { is = (h.0, tally_is (n + 0) n (omega arith) (sels_with n 0 l.sels _ h.1 (sel_more _ tally_nil))) }

pub field_tally : (s : Scene) (f : Found) (n : ℕ) (name : List ℕ) (d : Denotation) → DenotedTally f n d
    → When (select_field s name d) (DenotedTally f n)
field_tally s f n name (a_variable l) h =
    when_map {P = λ p. Unit {0}} (field_part s l) (anything (field_of s name l)) (λ p g. field_part_tally s f n l p h.is)
field_tally s f n name (a_constant shape v) h = when_some _ h
field_tally s f n name (a_routine q up x) h = when_some _ h
field_tally s f n name no_array h = when_some _ h

element_tally : (s : Scene) (f : Found) (n m : ℕ) (l : Location) (r : ℕ × ℕ) (t : Typing) → IsVariable f × Tally n (sels_phrases l.sels)
    → TypingTally m t → DenotedTally f (n + m) (element_part s l r t)
unfolding expr_phrases
element_tally s f n m l r t h g = record { is = (h.0, sels_with n m l.sels _ h.1 (sel_more _ (value_tally g))) }

pub index_tally : (s : Scene) (f : Found) (n m : ℕ) (d : Option Denotation) (i : Option Typing) → When d (DenotedTally f n)
    → When i (TypingTally m) → When (select_index s d i) (DenotedTally f (n + m))
index_tally s f n m None i h g = when_none
index_tally s f n m (Some (a_variable l)) i h g = by (row_at s l.shape) i g
  where
    by : (r : Option (ℕ × ℕ)) (i : Option Typing) → When i (TypingTally m) → When (select_in s l r i) (DenotedTally f (n + m))
    by None i g = when_some _ (record { is = h.gives.is.0 })
    by (Some r) None g = when_none
    by (Some r) (Some t) g = when_some _ (element_tally s f n m l r t h.gives.is g.gives)
index_tally s f n m (Some no_array) i h g = when_some _ (record { is = h.gives.is })
index_tally s f n m (Some (a_constant shape v)) None h g = when_none
index_tally s f n m (Some (a_constant shape v)) (Some t) h g = when_some _ (record { is = h.gives.is })
index_tally s f n m (Some (a_routine q up x)) None h g = when_none
index_tally s f n m (Some (a_routine q up x)) (Some t) h g = when_some _ (record { is = h.gives.is })

-- a whole designator: only that of a variable has indices
abbrev pub DesigIn : ℕ → Denotation → Type 0
DesigIn n (a_variable l) = Tally n (sels_phrases l.sels)
DesigIn n (a_constant shape v) = 0 ≡ n
DesigIn n (a_routine q up h) = 0 ≡ n
DesigIn n no_array = Unit {0}

pub record DesigTally (n : ℕ) (d : Denotation) : Type 0 where
  pub is : DesigIn n d

off_selected : (s : Scene) (w : Use) (f : Found) (v : Option Denotation) → OffVariable f → desig_rules s w true f v ≡ [] → ⊥
off_selected s w absent v h q = h
off_selected s w bad v h q = h
off_selected s w (constant shape x) v h q =
    absurd (let bad : true ≡ false = no_fault_alone (not_variable w true (constant shape x)) fault.NotVariable
    (no_fault (no_constant s true (constant shape x)) fault.NotConst _
    (no_faults_left _ (when (not_procedure w true (constant shape x)) fault.NotProcedure) q)).1 in cc)
off_selected s w (named shape) v h q = h
off_selected s w (variable shape root) v h q = h
off_selected s w (routine r up None) v h q = h
off_selected s w (routine r up (Some x)) v h q =
    absurd (let bad : true ≡ false = no_fault_alone (not_variable w true (routine r up (Some x))) fault.NotVariable
    (no_fault (no_constant s true (routine r up (Some x))) fault.NotConst _
    (no_faults_left _ (when (not_procedure w true (routine r up (Some x))) fault.NotProcedure) q)).1 in cc)

pub bare_end : (f : Found) (d : Denotation) → DenotedTally f 0 d → DesigTally 0 d
bare_end f (a_variable l) h = record { is = h.is.1 }
bare_end f (a_constant shape v) h = record { is = refl }
bare_end f (a_routine q up x) h = record { is = refl }
bare_end f no_array h = record { is = tt }

pub selected_end : (s : Scene) (w : Use) (f : Found) (n : ℕ) (v : Option Denotation) (d : Denotation) → DenotedTally f n d
    → desig_rules s w true f v ≡ [] → DesigTally n d
selected_end s w f n v (a_variable l) h q = record { is = h.is.1 }
selected_end s w f n v (a_constant shape x) h q = absurd (off_selected s w f v h.is q)
selected_end s w f n v (a_routine r up x) h q = absurd (off_selected s w f v h.is q)
selected_end s w f n v no_array h q = record { is = tt }

-- in a constant place nothing is selected
pub constant_end : (s : Scene) (w : Use) (f : Found) (n : ℕ) (v : Option Denotation) (d : Denotation) → DenotedTally f n d
    → desig_rules (in_constant s) w true f v ≡ [] → ⊥
constant_end s w f n v d h q = by f (there d h)
    (no_fault (no_constant (in_constant s) true f) fault.NotConst _
    (no_faults_left _ (when (not_procedure w true f) fault.NotProcedure) q)).0
  where
    there : (d : Denotation) → DenotedTally f n d → (OffVariable f → ⊥) → IsVariable f
    there (a_variable l) h k = h.is.0
    there (a_constant shape x) h k = absurd (k h.is)
    there (a_routine r up x) h k = absurd (k h.is)
    there no_array h k = h.is

    by : (f : Found) → ((OffVariable f → ⊥) → IsVariable f) → no_constant (in_constant s) true f ≡ false → ⊥
    by absent k e = k (λ x. x)
    by bad k e = k (λ x. x)
    by (constant shape x) k e = absurd (let bad : true ≡ false = e in cc)
    by (named shape) k e = k (λ x. x)
    by (variable shape root) k e = absurd (let bad : true ≡ false = e in cc)
    by (routine r up None) k e = k (λ x. x)
    by (routine r up (Some x)) k e = absurd (let bad : true ≡ false = e in cc)

pub typing_tally : (n : ℕ) (d : Denotation) → DesigTally n d → When (typing_in d) (TypingTally n)
unfolding expr_phrases
typing_tally n (a_constant shape v) h = when_some _ (record { is = expr_more (ir.Const v) (tally_is 0 n h.is tally_nil) })
typing_tally n (a_variable l) h = when_some _ (record { is = desig_more (desig_of l) h.is })
typing_tally n (a_routine q up x) h = when_some _ (record { is = test_more (ir.CallTest q ir.no_args up) (tally_is 0 n h.is tally_nil) })
typing_tally n no_array h = when_none

abbrev pub LocatedTally : ℕ → Location → Type 0
LocatedTally n l = Tally n (desig_phrases (desig_of l))

pub located_tally : (n : ℕ) (d : Denotation) → DesigTally n d → When (located_in d) (LocatedTally n)
unfolding expr_phrases
located_tally n (a_constant shape v) h = when_none
located_tally n (a_variable l) h = when_some _ (desig_more (desig_of l) h.is)
located_tally n (a_routine q up x) h = when_none
located_tally n no_array h = when_none

pub callee_tally : (n : ℕ) (d : Denotation) → DesigTally n d → When (callee_in d) (λ c. 0 ≡ n)
callee_tally n (a_constant shape v) h = when_none
callee_tally n (a_variable l) h = when_none
callee_tally n (a_routine q up x) h = when_some _ h.is
callee_tally n no_array h = when_none

-- ---- calls

pub call_tally : (n m : ℕ) (c : Callee) (o : Option ℕ) (args : ir.Args) → 0 ≡ n → Tally m (args_phrases args)
    → TypingTally (n + m) (call_typing c o args)
unfolding expr_phrases
call_tally n m c None args e h = record { is = tally_is m (n + m) (omega (arith, e)) (test_more (ir.CallTest c.number args c.up) h) }
call_tally n m c (Some shape) args e h =
    record { is = tally_is m (n + m) (omega (arith, e)) (expr_more (ir.CallExpr c.number args c.up) h) }

simple_arg : (s : Scene) (n : ℕ) (mode : Option Mode) (shape : ℕ) (m : Meaning) → MeaningTally n m
    → Tally n (arg_phrases (simple_argument s mode shape m))
unfolding expr_phrases
simple_arg s n None shape m h = arg_more _ (value_in n m h)
simple_arg s n (Some modes.Var) shape (a_place d) h = arg_more _ h
simple_arg s n (Some modes.Var) shape (plain e) h = arg_more _ h
simple_arg s n (Some modes.Var) shape (a_test t) h = arg_more _ (expr_more _ h)
simple_arg s n (Some modes.Mix) shape (a_place d) h = arg_more _ h
simple_arg s n (Some modes.Mix) shape (plain e) h = arg_more _ h
simple_arg s n (Some modes.Mix) shape (a_test t) h = arg_more _ (expr_more _ h)

structured_arg : (n : ℕ) (mode : Option Mode) (m : Meaning) → MeaningTally n m → Tally n (arg_phrases (structured_argument mode m))
unfolding expr_phrases
structured_arg n None (a_place d) h = arg_more _ h
structured_arg n (Some m) (a_place d) h = arg_more _ h
structured_arg n None (plain e) h = arg_more _ h
structured_arg n (Some m) (plain e) h = arg_more _ h
structured_arg n None (a_test t) h = arg_more _ (expr_more _ h)
structured_arg n (Some m) (a_test t) h = arg_more _ (expr_more _ h)

pub argument_tally : (s : Scene) (n : ℕ) (f : Option FormalOf) (t : Typing) → TypingTally n t → Tally n (arg_phrases (argument_of s f t))
unfolding expr_phrases
argument_tally s n None t h = arg_more _ (value_tally h)
argument_tally s n (Some f) t h = by (is_structured s f.shape)
  where
    by : (b : Bool) → Tally n (arg_phrases (if b then structured_argument f.mode t.meaning else simple_argument s f.mode f.shape t.meaning))
    by true = structured_arg n f.mode t.meaning h.is
    by false = simple_arg s n f.mode f.shape t.meaning h.is

pub args_none : Tally 0 (args_phrases ir.no_args)
unfolding expr_phrases
args_none = tally_nil

pub args_more : (n m : ℕ) (p : ir.Arg × ir.Args) → Tally n (arg_phrases p.0) → Tally m (args_phrases p.1)
    → Tally (n + m) (args_phrases (cons_arg p))
unfolding expr_phrases
args_more n m p h k = tally_join h k

-- ---- relations

pub related_tally : (s : Scene) (n m : ℕ) (r : Relation) (p : Typing × Typing) → TypingTally n p.0 → TypingTally m p.1
    → TypingTally (n + m) (relation_typing s r p)
unfolding expr_phrases
related_tally s n m relations.Equal p h g = record { is = by p.0.meaning p.1.meaning h.is g.is }
  where
    two : (b : Bool) (d e : ir.Desig) (r1 r2 : Range) → Tally n (desig_phrases d) → Tally m (desig_phrases e)
        → Tally (n + m) (test_phrases (if b then ir.SameCells d e else ir.Unify d r1 e r2))
    two true d e r1 r2 h g = test_more _ (tally_join h g)
    two false d e r1 r2 h g = test_more _ (tally_join h g)

    by : (a b : Meaning) → MeaningTally n a → MeaningTally m b → MeaningTally (n + m) (equation_of s p.0.shape p.1.shape a b)
    by (a_place d) (a_place e) h g = two (is_structured s p.0.shape) d e (range s p.0.shape) (range s p.1.shape) h g
    by (a_place d) (plain e) h g = test_more _ (tally_join h g)
    by (a_place d) (a_test e) h g = test_more _ (tally_join h (expr_more _ g))
    by (plain e) (a_place d) h g = tally_is (m + n) (n + m) (omega arith) (test_more _ (tally_join g h))
    by (a_test e) (a_place d) h g = tally_is (m + n) (n + m) (omega arith) (test_more _ (tally_join g (expr_more _ h)))
    by (plain e) (plain x) h g = expr_more _ (tally_join h g)
    by (plain e) (a_test x) h g = expr_more _ (tally_join h (expr_more _ g))
    by (a_test e) (plain x) h g = expr_more _ (tally_join (expr_more _ h) g)
    by (a_test e) (a_test x) h g = expr_more _ (tally_join (expr_more _ h) (expr_more _ g))
related_tally s n m relations.Unequal p h g = record { is = expr_more _ (tally_join (value_tally h) (value_tally g)) }
related_tally s n m relations.Less p h g = record { is = expr_more _ (tally_join (value_tally h) (value_tally g)) }
related_tally s n m relations.LessEq p h g = record { is = expr_more _ (tally_join (value_tally h) (value_tally g)) }
related_tally s n m relations.Greater p h g = record { is = expr_more _ (tally_join (value_tally h) (value_tally g)) }
related_tally s n m relations.GreaterEq p h g = record { is = expr_more _ (tally_join (value_tally h) (value_tally g)) }

-- ---- sums and products

-- the first operator is of the sort
abbrev HeadKind : Bool → Operands → Type 0
HeadKind sort [] = Unit {0}
HeadKind sort ((arithmetic op, t) ∷ xs) = sort ≡ false
HeadKind sort ((logical, t) ∷ xs) = sort ≡ true

pub record OperandsTally (sort : Bool) (n : ℕ) (xs : Operands) : Type 0 where
  links : sort ≡ false → Tally n (links_phrases (links_of xs))
  tests : sort ≡ true → Tally n (tests_phrases (tests_of xs))
  kind : HeadKind sort xs

-- an operand that stands where its operator is of the sort
pub record TermTally (o : Operand) (n : ℕ) (t : Typing) : Type 0 where
  pub typing : TypingTally n t
  pub sort : other_sort o ≡ false

pub operand_sort : (s : Scene) (o : Operand) (v : Option Typing) → operand_rules s o v ≡ [] → other_sort o ≡ false
operand_sort s o v q = or_left (other_sort o) (holds (no_operand s o) v)
    (no_fault_alone (other_sort o || holds (no_operand s o) v) fault.TypeMismatch
    (no_fault (logical_operand o.operator && holds (not_test s) v) fault.NotTest _ q).1)

pub operands_none : (sort : Bool) → OperandsTally sort 0 []
unfolding expr_phrases
operands_none sort = record { links = λ e. tally_nil; tests = λ e. tally_nil; kind = tt }

pub operands_more : (sort : Bool) (o : Operator) (n m : ℕ) (p : Typing × Operands) → TermTally (operand_behind sort o) n p.0
    → OperandsTally sort m p.1 → OperandsTally sort (n + m) (cons_operand o p)
unfolding expr_phrases
operands_more true (arithmetic op) n m p h g = absurd (let bad : true ≡ false = h.sort in cc)
operands_more false (arithmetic op) n m p h g =
    record {
      links = λ e. tally_join (value_tally h.typing) (g.links e);
      tests = λ e. absurd (let bad : false ≡ true = e in cc);
      kind =
          refl;
    }
operands_more true logical n m p h g = record {
  links = λ e. absurd (let bad : true ≡ false = e in cc);
  tests =
      λ e. tally_join (test_tally h.typing) (g.tests e);
  kind = refl;
}
operands_more false logical n m p h g = absurd (let bad : true ≡ false = h.sort in cc)

-- AND or OR of tests
pub record Joins (join : ir.Tests → ir.Test) : Type 0 where
  pub is : (ts : ir.Tests) → test_phrases (join ts) ≡ TestPhrase (join ts) ∷ tests_phrases ts

pub and_joins : Joins ir.And
unfolding expr_phrases
and_joins = record { is = λ ts. refl }

pub or_joins : Joins ir.Or
unfolding expr_phrases
or_joins = record { is = λ ts. refl }

no_links_left : (sort : Bool) (n : ℕ) → OperandsTally sort n [] → Tally n []
unfolding expr_phrases
no_links_left true n h = h.tests refl
no_links_left false n h = h.links refl

chain_meaning : (join : ir.Tests → ir.Test) → Joins join → (sign : Option Sign) (sort : Bool) (n m : ℕ) (first : Typing) (xs : Operands)
    → TypingTally n first → OperandsTally sort m xs → MeaningTally (n + m) (chain_of join sign (first, xs))
unfolding expr_phrases
chain_meaning join j None sort n m first [] h g = let none = (no_links_left sort m g).count in
    (typing_is n (n + m) (omega (arith, none)) h).is
chain_meaning join j (Some signs.Plus) sort n m first [] h g = let none = (no_links_left sort m g).count in
    no_place_in (n + m) first.meaning (typing_is n (n + m) (omega (arith, none)) h).is
chain_meaning join j (Some signs.Minus) sort n m first [] h g = expr_more _ (tally_join (value_tally h) (no_links_left sort m g))
chain_meaning join j sign sort n m first ((arithmetic op, t) ∷ rest) h g = expr_more _ (tally_join (value_tally h) (g.links g.kind))
chain_meaning join j sign sort n m first ((logical, t) ∷ rest) h g =
    subst (λ ys. Tally (n + m) ys) (sym (j.is (ir.more_tests (test_of first.meaning) (tests_of ((logical, t) ∷ rest)))))
    (test_more _ (tally_join (test_tally h) (g.tests g.kind)))

pub chain_tally : (s : Scene) (join : ir.Tests → ir.Test) → Joins join
    → (o : Operand) (sign : Option Sign) (l sort : Bool) (n m : ℕ) (v : Option (Typing × Operands))
    → When v (λ p. TypingTally n p.0 × OperandsTally sort m p.1)
    → When (option_map (chain_typing join sign) (unless (chain_rules s join o sign l v) v)) (TermTally o (n + m))
chain_tally s join j o sign l sort n m v h =
    when_map {P = λ p. (TypingTally n p.0 × OperandsTally sort m p.1) × (other_sort o ≡ false)} (chain_typing join sign)
    (when_node (chain_rules s join o sign l) v h
    (λ p g q. (g, operand_sort s o _ (no_fault (s.constant && l) fault.NotConst _ (no_faults_left _ (when _ fault.ConstRange) q)).1)))
    (λ p g. record { typing = record { is = chain_meaning join j sign sort n m p.0 p.1 g.0.0 g.0.1 }; sort = g.1 })

pub first_tally_of : {A B : Type 0} {P : A → Type 0} {v : Option A} (w : Option B) → When v P → When (option_map (λ p. p.0) (both_of v w)) P
first_tally_of {A} {B} {P} {v = None} w h = when_none
first_tally_of {A} {B} {P} {v = Some x} None h = when_none
first_tally_of {A} {B} {P} {v = Some x} (Some y) h = when_some x h.gives
