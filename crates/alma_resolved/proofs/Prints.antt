-- How many bytes the texts have that the phrases of expressions and designators print.
use Rattle.std.proofs.Common.{◌≡◌, ℕ, ◌+◌, ◌≤◌, ℤ, Bool, true, false, List, [], ◌∷◌, ◌++◌, Option, None, Some, refl, sym, subst, arith}
use Rattle.std.specs.Prelude.{option_map, sum_by, if◌then◌else◌}
use Rattle.std.proofs.lemmas.List.Sums.{sum_by-cons, sum_by-append}
use Rattle.alma_base.specs.declared.number.Range.{Range}
use Rattle.alma_tree.specs.declared.leaf.Relation.{Relation}
use Rattle.alma_tree.specs.declared.leaf.Relation.TheVariants as relations
use Rattle.alma_tree.specs.declared.leaf.Sign.{Sign}
use Rattle.alma_tree.specs.declared.leaf.Sign.TheVariants as signs
use Rattle.alma_tree.specs.declared.leaf.Mode.{Mode}
use Rattle.alma_tree.specs.declared.leaf.Mode.TheVariants as modes
use Rattle.alma_ir.specs.Tree as ir
use Rattle.alma_ir.specs.Phrases.{Phrase, StmtPhrase, TestPhrase, ExprPhrase, ArgPhrase, DesigPhrase, SelPhrase, expr_phrases, test_phrases}
use Rattle.alma_ir.specs.Phrases.{tests_phrases, links_phrases, args_phrases, arg_phrases, desig_phrases, sels_phrases, sel_phrases}
use Rattle.alma_ir.specs.Phrases.{stmts_phrases}
use Rattle.alma_ir.specs.Checked.{text_bytes}
use Rattle.alma_rules.specs.Judgement.{unless}
use Rattle.alma_rules.specs.Scene.{Scene, FormalOf, Found, absent, bad, constant, named, variable, routine, row_at, is_structured, range}
use Rattle.alma_rules.specs.Parts.{Meaning, a_place, plain, a_test, Typing, value_of, test_of, no_place, without_place, boolean_typing}
use Rattle.alma_rules.specs.Parts.{Location, desig_of, with_sel, Denotation, a_constant, a_variable, a_routine, no_array, denotation}
use Rattle.alma_rules.specs.Parts.{field_of}
use Rattle.alma_rules.specs.Parts.{field_part, select_field, element_part, select_in, select_index, located_in, typing_in, Callee}
use Rattle.alma_rules.specs.Parts.{simple_argument, structured_argument, argument_of, call_typing, equation_of, relation_typing, Operator}
use Rattle.alma_rules.specs.Parts.{arithmetic, logical, Operands, links_of, tests_of, chain_of, chain_typing}
use Rattle.alma_rules.specs.ExprRules.{name_rules, Operand, chain_rules}
use Rattle.alma_rules.specs.Nodes.{known_typing, ord_typing, chr_typing, not_typing, cons_operand, cons_arg}
use Rattle.alma_resolved.proofs.Fits.{When, when_some, when_none, when_map, when_node}
use Rattle.alma_resolved.proofs.Scenes.{phrases_with}
use Rattle.alma_resolved.proofs.Counts.{Joins}

-- ---- phrases

-- the texts that these phrases print have at most so many bytes
pub record Prints (n : ℕ) (xs : List Phrase) : Type 0 where
  pub most : sum_by text_bytes xs ≤ n

pub prints_nil : (n : ℕ) → Prints n []
prints_nil n = record { most = omega arith }

pub prints_up : {xs : List Phrase} (a b : ℕ) → a ≤ b → Prints a xs → Prints b xs
prints_up {xs} a b le h = record { most = omega (arith, h.most, le) }

pub prints_join : {a b : ℕ} {xs ys : List Phrase} → Prints a xs → Prints b ys → Prints (a + b) (xs ++ ys)
prints_join {a} {b} {xs} {ys} h k = record { most = omega (arith, sum_by-append text_bytes xs ys, h.most, k.most) }

prints_more : {n : ℕ} {xs : List Phrase} (x : Phrase) → text_bytes x ≡ 0 → Prints n xs → Prints n (x ∷ xs)
prints_more {n} {xs} x e h = record { most = omega (arith, sum_by-cons text_bytes x xs, e, h.most) }

pub stmt_more : {n : ℕ} {xs : List Phrase} (x : ir.Stmt) → text_bytes (StmtPhrase x) ≡ 0 → Prints n xs → Prints n (StmtPhrase x ∷ xs)
stmt_more x e h = prints_more (StmtPhrase x) e h

test_more : {n : ℕ} {xs : List Phrase} (x : ir.Test) → Prints n xs → Prints n (TestPhrase x ∷ xs)
test_more x h = prints_more (TestPhrase x) refl h

pub expr_more : {n : ℕ} {xs : List Phrase} (x : ir.Expr) → Prints n xs → Prints n (ExprPhrase x ∷ xs)
expr_more x h = prints_more (ExprPhrase x) refl h

arg_more : {n : ℕ} {xs : List Phrase} (x : ir.Arg) → Prints n xs → Prints n (ArgPhrase x ∷ xs)
arg_more x h = prints_more (ArgPhrase x) refl h

pub desig_more : {n : ℕ} {xs : List Phrase} (x : ir.Desig) → Prints n xs → Prints n (DesigPhrase x ∷ xs)
desig_more x h = prints_more (DesigPhrase x) refl h

sel_more : {n : ℕ} {xs : List Phrase} (x : ir.Sel) → Prints n xs → Prints n (SelPhrase x ∷ xs)
sel_more x h = prints_more (SelPhrase x) refl h

-- with nothing behind
pub prints_alone : {n : ℕ} {xs : List Phrase} → Prints n xs → Prints n (xs ++ [])
prints_alone {n} {xs} h = prints_up (n + 0) n (omega arith) (prints_join h (prints_nil 0))

-- ---- values

abbrev pub MeaningPrints : ℕ → Meaning → Type 0
MeaningPrints n (a_place d) = Prints n (desig_phrases d)
MeaningPrints n (plain e) = Prints n (expr_phrases e)
MeaningPrints n (a_test t) = Prints n (test_phrases t)

pub record TypingPrints (n : ℕ) (t : Typing) : Type 0 where
  pub is : MeaningPrints n t.meaning

meaning_up : (a b : ℕ) (m : Meaning) → a ≤ b → MeaningPrints a m → MeaningPrints b m
meaning_up a b (a_place d) le h = prints_up a b le h
meaning_up a b (plain e) le h = prints_up a b le h
meaning_up a b (a_test t) le h = prints_up a b le h

pub typing_up : {t : Typing} (a b : ℕ) → a ≤ b → TypingPrints a t → TypingPrints b t
typing_up {t} a b le h = record { is = meaning_up a b t.meaning le h.is }

value_in : (n : ℕ) (m : Meaning) → MeaningPrints n m → Prints n (expr_phrases (value_of m))
unfolding expr_phrases
value_in n (a_place d) h = expr_more (ir.Load d) h
value_in n (plain e) h = h
value_in n (a_test t) h = expr_more (ir.Truth t) h

pub value_prints : {n : ℕ} {t : Typing} → TypingPrints n t → Prints n (expr_phrases (value_of t.meaning))
value_prints {n} {t} h = value_in n t.meaning h.is

test_in : (n : ℕ) (m : Meaning) → MeaningPrints n m → Prints n (test_phrases (test_of m))
unfolding expr_phrases
test_in n (a_place d) h = test_more (ir.Value (ir.Load d)) (expr_more (ir.Load d) h)
test_in n (plain e) h = test_more (ir.Value e) h
test_in n (a_test t) h = h

pub test_prints : {n : ℕ} {t : Typing} → TypingPrints n t → Prints n (test_phrases (test_of t.meaning))
test_prints {n} {t} h = test_in n t.meaning h.is

no_place_in : (n : ℕ) (m : Meaning) → MeaningPrints n m → MeaningPrints n (no_place m)
unfolding expr_phrases
no_place_in n (a_place d) h = expr_more (ir.Load d) h
no_place_in n (plain e) h = h
no_place_in n (a_test t) h = h

pub without_prints : {n : ℕ} (t : Typing) → TypingPrints n t → TypingPrints n (without_place t)
without_prints {n} t h = record { is = no_place_in n t.meaning h.is }

pub constant_prints : (n shape : ℕ) (o : Option ℤ) (v : ℤ)
    → TypingPrints n (record { shape = shape; constant = o; meaning = plain (ir.Const v) })
unfolding expr_phrases
constant_prints n shape o v = record { is = expr_more (ir.Const v) (prints_nil n) }

pub seq_prints : {n : ℕ} (x : ir.Stmts) → Prints n (stmts_phrases x) → TypingPrints n (boolean_typing (a_test (ir.Seq x)))
unfolding expr_phrases
seq_prints x h = record { is = test_more (ir.Seq x) h }

pub known_prints : {n : ℕ} (l : Location) → Prints n (desig_phrases (desig_of l)) → TypingPrints n (known_typing l)
unfolding expr_phrases
known_prints l h = record { is = expr_more (ir.Known (desig_of l)) h }

pub ord_prints : {n : ℕ} (t : Typing) → TypingPrints n t → TypingPrints n (ord_typing t)
ord_prints t h = record { is = value_prints h }

pub chr_prints : {n : ℕ} (t : Typing) → TypingPrints n t → TypingPrints n (chr_typing t)
unfolding expr_phrases
chr_prints t h = record { is = expr_more (ir.Chr (value_of t.meaning)) (value_prints h) }

pub not_prints : {n : ℕ} (t : Typing) → TypingPrints n t → TypingPrints n (not_typing t)
unfolding expr_phrases
not_prints t h = record { is = test_more (ir.Not (test_of t.meaning)) (test_prints h) }

-- ---- designators

-- the texts in the indices of a variable
abbrev pub DenotedIn : ℕ → Denotation → Type 0
DenotedIn n (a_variable l) = Prints n (sels_phrases l.sels)
DenotedIn n (a_constant shape v) = Unit {0}
DenotedIn n (a_routine q up h) = Unit {0}
DenotedIn n no_array = Unit {0}

pub record DenotedPrints (n : ℕ) (d : Denotation) : Type 0 where
  pub is : DenotedIn n d

pub denoted_up : {d : Denotation} (a b : ℕ) → a ≤ b → DenotedPrints a d → DenotedPrints b d
denoted_up {d} a b le h = by d h.is
  where
    by : (d : Denotation) → DenotedIn a d → DenotedPrints b d
    by (a_variable l) h = record { is = prints_up a b le h }
    by (a_constant shape v) h = record { is = tt }
    by (a_routine q up x) h = record { is = tt }
    by no_array h = record { is = tt }

pub anything : {A : Type 0} (v : Option A) → When v (λ x. Unit {0})
anything None = when_none
anything (Some x) = when_some x tt

pub name_prints : (s : Scene) (f : Found) → When (unless (name_rules f (denotation s f)) (denotation s f)) (DenotedPrints 0)
unfolding expr_phrases
name_prints s absent = when_none
name_prints s bad = when_none
name_prints s (constant shape v) = when_some _ (record { is = tt })
name_prints s (named shape) = when_none
name_prints s (variable shape root) = when_some _ (record { is = prints_nil 0 })
name_prints s (routine q up None) = when_none
name_prints s (routine q up (Some h)) = when_some _ (record { is = tt })

sels_with : (n m : ℕ) (sels : ir.Sels) (x : ir.Sel) → Prints n (sels_phrases sels) → Prints m (sel_phrases x)
    → Prints (n + m) (sels_phrases (with_sel sels x))
sels_with n m sels x h k = subst (λ ys. Prints (n + m) ys) (sym (phrases_with sels x)) (prints_join h (prints_alone k))

field_part_prints : (s : Scene) (n : ℕ) (l : Location) (p : ℕ × ℕ) → Prints n (sels_phrases l.sels) → DenotedPrints n (field_part s l p)
unfolding expr_phrases
field_part_prints s n l p h = record { is = prints_up (n + 0) n (omega arith) (sels_with n 0 l.sels _ h (sel_more _ (prints_nil 0))) }

pub field_prints : (s : Scene) (n : ℕ) (name : List ℕ) (d : Denotation) → DenotedPrints n d → When (select_field s name d) (DenotedPrints n)
field_prints s n name (a_variable l) h =
    when_map {P = λ p. Unit {0}} (field_part s l) (anything (field_of s name l)) (λ p g. field_part_prints s n l p h.is)
field_prints s n name (a_constant shape v) h = when_some _ h
field_prints s n name (a_routine q up x) h = when_some _ h
field_prints s n name no_array h = when_some _ h

element_prints : (s : Scene) (n m : ℕ) (l : Location) (r : ℕ × ℕ) (t : Typing) → Prints n (sels_phrases l.sels) → TypingPrints m t
    → DenotedPrints (n + m) (element_part s l r t)
unfolding expr_phrases
element_prints s n m l r t h g = record { is = sels_with n m l.sels _ h (sel_more _ (value_prints g)) }

pub index_prints : (s : Scene) (n m : ℕ) (d : Option Denotation) (i : Option Typing) → When d (DenotedPrints n) → When i (TypingPrints m)
    → When (select_index s d i) (DenotedPrints (n + m))
index_prints s n m None i h g = when_none
index_prints s n m (Some (a_variable l)) i h g = by (row_at s l.shape) i g
  where
    by : (r : Option (ℕ × ℕ)) (i : Option Typing) → When i (TypingPrints m) → When (select_in s l r i) (DenotedPrints (n + m))
    by None i g = when_some _ (record { is = tt })
    by (Some r) None g = when_none
    by (Some r) (Some t) g = when_some _ (element_prints s n m l r t h.gives.is g.gives)
index_prints s n m (Some no_array) i h g = when_some _ (record { is = tt })
index_prints s n m (Some (a_constant shape v)) None h g = when_none
index_prints s n m (Some (a_constant shape v)) (Some t) h g = when_some _ (record { is = tt })
index_prints s n m (Some (a_routine q up x)) None h g = when_none
index_prints s n m (Some (a_routine q up x)) (Some t) h g = when_some _ (record { is = tt })

pub typing_prints : (n : ℕ) (d : Denotation) → DenotedPrints n d → When (typing_in d) (TypingPrints n)
unfolding expr_phrases
typing_prints n (a_constant shape v) h = when_some _ (constant_prints n shape (Some v) v)
typing_prints n (a_variable l) h = when_some _ (record { is = desig_more (desig_of l) h.is })
typing_prints n (a_routine q up x) h = when_some _ (record { is = test_more (ir.CallTest q ir.no_args up) (prints_nil n) })
typing_prints n no_array h = when_none

abbrev pub LocatedPrints : ℕ → Location → Type 0
LocatedPrints n l = Prints n (desig_phrases (desig_of l))

pub located_prints : (n : ℕ) (d : Denotation) → DenotedPrints n d → When (located_in d) (LocatedPrints n)
unfolding expr_phrases
located_prints n (a_constant shape v) h = when_none
located_prints n (a_variable l) h = when_some _ (desig_more (desig_of l) h.is)
located_prints n (a_routine q up x) h = when_none
located_prints n no_array h = when_none

-- ---- calls

pub call_prints : (n : ℕ) (c : Callee) (o : Option ℕ) (args : ir.Args) → Prints n (args_phrases args)
    → TypingPrints n (call_typing c o args)
unfolding expr_phrases
call_prints n c None args h = record { is = test_more (ir.CallTest c.number args c.up) h }
call_prints n c (Some shape) args h = record { is = expr_more (ir.CallExpr c.number args c.up) h }

simple_arg : (s : Scene) (n : ℕ) (mode : Option Mode) (shape : ℕ) (m : Meaning) → MeaningPrints n m
    → Prints n (arg_phrases (simple_argument s mode shape m))
unfolding expr_phrases
simple_arg s n None shape m h = arg_more _ (value_in n m h)
simple_arg s n (Some modes.Var) shape (a_place d) h = arg_more _ h
simple_arg s n (Some modes.Var) shape (plain e) h = arg_more _ h
simple_arg s n (Some modes.Var) shape (a_test t) h = arg_more _ (expr_more _ h)
simple_arg s n (Some modes.Mix) shape (a_place d) h = arg_more _ h
simple_arg s n (Some modes.Mix) shape (plain e) h = arg_more _ h
simple_arg s n (Some modes.Mix) shape (a_test t) h = arg_more _ (expr_more _ h)

structured_arg : (n : ℕ) (mode : Option Mode) (m : Meaning) → MeaningPrints n m → Prints n (arg_phrases (structured_argument mode m))
unfolding expr_phrases
structured_arg n None (a_place d) h = arg_more _ h
structured_arg n (Some m) (a_place d) h = arg_more _ h
structured_arg n None (plain e) h = arg_more _ h
structured_arg n (Some m) (plain e) h = arg_more _ h
structured_arg n None (a_test t) h = arg_more _ (expr_more _ h)
structured_arg n (Some m) (a_test t) h = arg_more _ (expr_more _ h)

pub argument_prints : (s : Scene) (n : ℕ) (f : Option FormalOf) (t : Typing) → TypingPrints n t → Prints n (arg_phrases (argument_of s f t))
unfolding expr_phrases
argument_prints s n None t h = arg_more _ (value_prints h)
argument_prints s n (Some f) t h = by (is_structured s f.shape)
  where
    by : (b : Bool) → Prints n (arg_phrases
        (if b then structured_argument f.mode t.meaning else simple_argument s f.mode f.shape t.meaning))
    by true = structured_arg n f.mode t.meaning h.is
    by false = simple_arg s n f.mode f.shape t.meaning h.is

pub args_none : (n : ℕ) → Prints n (args_phrases ir.no_args)
unfolding expr_phrases
args_none n = prints_nil n

pub args_more : (n m : ℕ) (p : ir.Arg × ir.Args) → Prints n (arg_phrases p.0) → Prints m (args_phrases p.1)
    → Prints (n + m) (args_phrases (cons_arg p))
unfolding expr_phrases
args_more n m p h k = prints_join h k

-- ---- relations

pub related_prints : (s : Scene) (n m : ℕ) (r : Relation) (p : Typing × Typing) → TypingPrints n p.0 → TypingPrints m p.1
    → TypingPrints (n + m) (relation_typing s r p)
unfolding expr_phrases
related_prints s n m relations.Equal p h g = record { is = by p.0.meaning p.1.meaning h.is g.is }
  where
    two : (b : Bool) (d e : ir.Desig) (r1 r2 : Range) → Prints n (desig_phrases d) → Prints m (desig_phrases e)
        → Prints (n + m) (test_phrases (if b then ir.SameCells d e else ir.Unify d r1 e r2))
    two true d e r1 r2 h g = test_more _ (prints_join h g)
    two false d e r1 r2 h g = test_more _ (prints_join h g)

    by : (a b : Meaning) → MeaningPrints n a → MeaningPrints m b → MeaningPrints (n + m) (equation_of s p.0.shape p.1.shape a b)
    by (a_place d) (a_place e) h g = two (is_structured s p.0.shape) d e (range s p.0.shape) (range s p.1.shape) h g
    by (a_place d) (plain e) h g = test_more _ (prints_join h g)
    by (a_place d) (a_test e) h g = test_more _ (prints_join h (expr_more _ g))
    by (plain e) (a_place d) h g = prints_up (m + n) (n + m) (omega arith) (test_more _ (prints_join g h))
    by (a_test e) (a_place d) h g = prints_up (m + n) (n + m) (omega arith) (test_more _ (prints_join g (expr_more _ h)))
    by (plain e) (plain x) h g = expr_more _ (prints_join h g)
    by (plain e) (a_test x) h g = expr_more _ (prints_join h (expr_more _ g))
    by (a_test e) (plain x) h g = expr_more _ (prints_join (expr_more _ h) g)
    by (a_test e) (a_test x) h g = expr_more _ (prints_join (expr_more _ h) (expr_more _ g))
related_prints s n m relations.Unequal p h g = record { is = expr_more _ (prints_join (value_prints h) (value_prints g)) }
related_prints s n m relations.Less p h g = record { is = expr_more _ (prints_join (value_prints h) (value_prints g)) }
related_prints s n m relations.LessEq p h g = record { is = expr_more _ (prints_join (value_prints h) (value_prints g)) }
related_prints s n m relations.Greater p h g = record { is = expr_more _ (prints_join (value_prints h) (value_prints g)) }
related_prints s n m relations.GreaterEq p h g = record { is = expr_more _ (prints_join (value_prints h) (value_prints g)) }

-- ---- sums and products

-- operands behind operators of either sort
pub record OperandsPrint (n : ℕ) (xs : Operands) : Type 0 where
  links : Prints n (links_phrases (links_of xs))
  tests : Prints n (tests_phrases (tests_of xs))

pub operands_none : OperandsPrint 0 []
unfolding expr_phrases
operands_none = record { links = prints_nil 0; tests = prints_nil 0 }

pub operands_more : (o : Operator) (n m : ℕ) (p : Typing × Operands) → TypingPrints n p.0 → OperandsPrint m p.1
    → OperandsPrint (n + m) (cons_operand o p)
unfolding expr_phrases
operands_more (arithmetic op) n m p h g =
    record { links = prints_join (value_prints h) g.links; tests = prints_join (test_prints h) g.tests }
operands_more logical n m p h g = record { links = prints_up m (n + m) (omega arith) g.links; tests = prints_join (test_prints h) g.tests }

chain_meaning : (join : ir.Tests → ir.Test) → Joins join → (sign : Option Sign) (n m : ℕ) (first : Typing) (xs : Operands)
    → TypingPrints n first → OperandsPrint m xs → MeaningPrints (n + m) (chain_of join sign (first, xs))
unfolding expr_phrases
chain_meaning join j None n m first [] h g = meaning_up n (n + m) first.meaning (omega arith) h.is
chain_meaning join j (Some signs.Plus) n m first [] h g =
    no_place_in (n + m) first.meaning (meaning_up n (n + m) first.meaning (omega arith) h.is)
chain_meaning join j (Some signs.Minus) n m first [] h g = expr_more _ (prints_join (value_prints h) g.links)
chain_meaning join j sign n m first ((arithmetic op, t) ∷ rest) h g = expr_more _ (prints_join (value_prints h) g.links)
chain_meaning join j sign n m first ((logical, t) ∷ rest) h g =
    subst (λ ys. Prints (n + m) ys) (sym (j.is (ir.more_tests (test_of first.meaning) (tests_of ((logical, t) ∷ rest)))))
    (test_more _ (prints_join (test_prints h) g.tests))

pub chain_prints : (s : Scene) (join : ir.Tests → ir.Test) → Joins join
    → (o : Operand) (sign : Option Sign) (l : Bool) (n m : ℕ) (v : Option (Typing × Operands))
    → When v (λ p. TypingPrints n p.0 × OperandsPrint m p.1)
    → When (option_map (chain_typing join sign) (unless (chain_rules s join o sign l v) v)) (TypingPrints (n + m))
chain_prints s join j o sign l n m v h =
    when_map {P = λ p. TypingPrints n p.0 × OperandsPrint m p.1} (chain_typing join sign)
    (when_node (chain_rules s join o sign l) v h (λ p g q. g))
    (λ p g. record { is = chain_meaning join j sign n m p.0 p.1 g.0 g.1 })
