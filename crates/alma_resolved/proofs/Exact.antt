-- An expression is exactly a designator of a variable, or it means no place.
use Rattle.std.proofs.Common.{◌≡◌, ℕ, Bool, true, false, List, [], ◌∷◌, Option, None, Some, refl, sym, ap, subst}
use Rattle.std.specs.Prelude.{option_map, option_and_then}
use Rattle.alma_tree.specs.declared.leaf.Relation.{Relation}
use Rattle.alma_tree.specs.declared.leaf.Relation.TheVariants as relations
use Rattle.alma_tree.specs.declared.leaf.Sign.{Sign}
use Rattle.alma_tree.specs.declared.leaf.Sign.TheVariants as signs
use Rattle.alma_tree.specs.declared.leaf.AddOperator.{AddOperator}
use Rattle.alma_tree.specs.declared.leaf.MulOperator.{MulOperator}
use Rattle.alma_ir.specs.Tree as ir
use Rattle.alma_rules.specs.Numbered as tree
use Rattle.alma_rules.specs.Judgement.{Judgement, unless, both_of, both, and_then}
use Rattle.alma_rules.specs.Scene.{Scene, Found, absent, bad, constant, named, variable, routine, found, inside_of, text_at, row_at}
use Rattle.alma_rules.specs.Scene.{literal_at}
use Rattle.alma_rules.specs.Parts.{Meaning, a_place, plain, a_test, Typing, no_place, without_place, boolean_typing, Denotation, a_constant}
use Rattle.alma_rules.specs.Parts.{a_variable, a_routine, no_array, denotation, field_of, field_part, select_field, select_in, select_index}
use Rattle.alma_rules.specs.Parts.{typing_in, typing_of_call, Callee, callee_in, call_typing, relation_typing, relation_of, equation_of}
use Rattle.alma_rules.specs.Parts.{Operator}
use Rattle.alma_rules.specs.Parts.{arithmetic, logical, Operands, add_operator, mul_operator, desig_of, chain_of, chain_typing}
use Rattle.alma_rules.specs.ExprRules.{as_value, as_procedure, exactly, alone, argument_desig, argument_kind_of, literal_rules, not_rules}
use Rattle.alma_rules.specs.ExprRules.{chain_rules, call_rules, Argument, other, of_variable, argument_kind, argument_found, Operand}
use Rattle.alma_rules.specs.ExprRules.{operand_rules, name_rules, desig_rules}
use Rattle.alma_rules.specs.Nodes.{is_selected, index_at, judge_name, or_sequence, in_parens, as_sequence, known_typing, ord_typing}
use Rattle.alma_rules.specs.Nodes.{chr_typing, not_typing, cons_operand, any_and, any_or, argument_count, formals_of, operand_behind}
use Rattle.alma_rules.specs.Nodes.{first_mul, first_add, sum_at, product_at}
use Rattle.alma_rules.specs.Walk.{judge_expr, judge_term, judge_terms, judge_factor, judge_factors, judge_primary, judge_desig}
use Rattle.alma_rules.specs.Walk.{judge_selectors, judge_selector, judge_indices, judge_index_tail, judge_only, judge_stmts}
use Rattle.alma_rules.specs.Walk.{judge_arguments}
use Rattle.alma_resolved.proofs.Fits.{When, when_some, when_none, when_all, when_map, when_then, when_both, when_node, when_weaker}
use Rattle.alma_resolved.proofs.ExprNodes.{KindFits}

-- the meaning is no place
abbrev pub NoPlace : Meaning → Type 0
NoPlace (a_place d) = ⊥
NoPlace (plain x) = Unit {0}
NoPlace (a_test t) = Unit {0}

-- what is denoted is a variable, or is none
abbrev Varies : Bool → Denotation → Type 0
Varies true (a_variable l) = Unit {0}
Varies true no_array = Unit {0}
Varies true (a_constant shape v) = ⊥
Varies true (a_routine q up h) = ⊥
Varies false (a_variable l) = ⊥
Varies false no_array = Unit {0}
Varies false (a_constant shape v) = Unit {0}
Varies false (a_routine q up h) = Unit {0}

-- the kind of argument that a variable is, or another
abbrev kind_of : Bool → Argument
kind_of true = of_variable
kind_of false = other

record Sort (kind : Argument) (b : Bool) (d : Denotation) : Type 0 where
  varies : Varies b d
  is_kind : kind ≡ kind_of b

field_sort : (s : Scene) (a : Argument) (b : Bool) (name : List ℕ) (d : Denotation) → Sort a b d → When (select_field s name d) (Sort a b)
field_sort s a true name (a_variable l) h =
    when_map {P = λ p. Unit {0}} (field_part s l) (when_all (field_of s name l) (λ p e. tt))
    (λ p g. record { varies = tt; is_kind = h.is_kind })
field_sort s a false name (a_variable l) h = absurd h.varies
field_sort s a b name (a_constant shape v) h = when_some _ h
field_sort s a b name (a_routine q up x) h = when_some _ h
field_sort s a b name no_array h = when_some _ h

index_sort : (s : Scene) (a : Argument) (b : Bool) (d : Option Denotation) (i : Option Typing) → When d (Sort a b)
    → When (select_index s d i) (Sort a b)
index_sort s a b None i h = when_none
index_sort s a true (Some (a_variable l)) i h = by (row_at s l.shape) i
  where
    by : (r : Option (ℕ × ℕ)) (i : Option Typing) → When (select_in s l r i) (Sort a true)
    by None i = when_some _ (record { varies = tt; is_kind = h.gives.is_kind })
    by (Some r) None = when_none
    by (Some r) (Some t) = when_some _ (record { varies = tt; is_kind = h.gives.is_kind })
index_sort s a false (Some (a_variable l)) i h = absurd h.gives.varies
index_sort s a b (Some no_array) i h = when_some _ h.gives
index_sort s a b (Some (a_constant shape v)) None h = when_none
index_sort s a b (Some (a_constant shape v)) (Some t) h = when_some _ h.gives
index_sort s a b (Some (a_routine q up x)) None h = when_none
index_sort s a b (Some (a_routine q up x)) (Some t) h = when_some _ h.gives

mutual
  unfolding judge_expr

  selectors_sort : (s : Scene) (a : Argument) (b : Bool) (d : Judgement Denotation) (x : tree.SelectorTail) → When d.value (Sort a b)
      → When (judge_selectors s d x).value (Sort a b)
  selectors_sort s a b d tree.no_selector h = h
  selectors_sort s a b d (tree.more_selector x rest) h = selectors_sort s a b (judge_selector s d x) rest (selector_sort s a b d x h)

  selector_sort : (s : Scene) (a : Argument) (b : Bool) (d : Judgement Denotation) (x : tree.Selector) → When d.value (Sort a b)
      → When (judge_selector s d x).value (Sort a b)
  selector_sort s a b d (tree.field k name) h =
      when_then (select_field s (text_at s name.token))
      (when_node (Rattle.alma_rules.specs.ExprRules.field_rules s (text_at s name.token)) d.value h (λ x g q. g))
      (λ x g. field_sort s a b (text_at s name.token) x g)
  selector_sort s a b d (tree.index k items) h =
      when_node Rattle.alma_rules.specs.ExprRules.array_rules (judge_indices s d items).value (indices_sort s a b d items h) (λ x g q. g)

  indices_sort : (s : Scene) (a : Argument) (b : Bool) (d : Judgement Denotation) (x : tree.Exprs) → When d.value (Sort a b)
      → When (judge_indices s d x).value (Sort a b)
  indices_sort s a b d (tree.exprs e rest) h =
      index_tail_sort s a b (index_at s d (tree.expr_node e) (judge_expr s d.next e)) rest (index_sort s a b d.value _ h)

  index_tail_sort : (s : Scene) (a : Argument) (b : Bool) (d : Judgement Denotation) (x : tree.ExprTail) → When d.value (Sort a b)
      → When (judge_index_tail s d x).value (Sort a b)
  index_tail_sort s a b d tree.no_expr h = h
  index_tail_sort s a b d (tree.more_expr e rest) h =
      index_tail_sort s a b (index_at s d (tree.expr_node e) (judge_expr s d.next e)) rest (index_sort s a b d.value _ h)

-- a designator as a value
typing_kind : (kind : Argument) (b : Bool) (d : Denotation) → Sort kind b d → When (typing_in d) (λ t. KindFits kind t.meaning)
typing_kind kind true (a_variable l) h = when_some _ (subst (λ x. KindFits x (a_place (desig_of l))) (sym h.is_kind) tt)
typing_kind kind false (a_variable l) h = absurd h.varies
typing_kind kind true (a_constant shape v) h = absurd h.varies
typing_kind kind false (a_constant shape v) h = when_some _ (subst (λ x. KindFits x (plain (ir.Const v))) (sym h.is_kind) tt)
typing_kind kind true (a_routine q up x) h = absurd h.varies
typing_kind kind false (a_routine q up x) h =
    when_some _ (subst (λ y. KindFits y (a_test (ir.CallTest q ir.no_args up))) (sym h.is_kind) tt)
typing_kind kind b no_array h = when_none

abbrev varies_in : Found → Bool
varies_in (variable shape root) = true
varies_in f = false

name_sort : (s : Scene) (f : Found) → When (unless (name_rules f (denotation s f)) (denotation s f))
    (Sort (argument_found s f) (varies_in f))
name_sort s absent = when_none
name_sort s bad = when_none
name_sort s (constant shape v) = when_some _ (record { varies = tt; is_kind = refl })
name_sort s (named shape) = when_none
name_sort s (variable shape root) = when_some _ (record { varies = tt; is_kind = refl })
name_sort s (routine q up None) = when_none
name_sort s (routine q up (Some h)) = when_some _ (record { varies = tt; is_kind = refl })

-- ---- an expression that is exactly a designator

desig_kind : (s : Scene) (n : ℕ) (d : tree.Desig)
    → When (option_and_then typing_in (judge_desig s n as_value d).value) (λ t. KindFits (argument_desig s d) t.meaning)
unfolding judge_expr
desig_kind s n (tree.desig k name more) =
    when_then typing_in (when_node (desig_rules s as_value (is_selected more) (found s name)) _
    (selectors_sort s (argument_found s (found s name)) (varies_in (found s name)) (judge_name s n name) more
    (name_sort s (found s name))) (λ d g q. g))
    (λ d g. typing_kind (argument_found s (found s name)) (varies_in (found s name)) d g)

abbrev TypingNoPlace : Typing → Type 0
TypingNoPlace t = NoPlace t.meaning

alone_first : {A B : Type 0} {P : A → Type 0} {v : Option A} (w : Option B) → When v P → When (option_map (λ p. p.0) (both_of v w)) P
alone_first {A} {B} {P} {v = None} w h = when_none
alone_first {A} {B} {P} {v = Some x} None h = when_none
alone_first {A} {B} {P} {v = Some x} (Some y) h = when_some x h.gives

kind_exact : (s : Scene) (n : ℕ) (x : tree.Expr) (d : tree.Desig) → exactly x ≡ Some d
    → When (judge_expr s n x).value (λ t. KindFits (argument_desig s d) t.meaning)
unfolding judge_expr
kind_exact s n (tree.expr j (tree.simple m None (tree.term k (tree.factor i (tree.named h d tree.no_args)) tree.no_factor) tree.no_term)
    tree.no_relation) x e =
    let same : argument_desig s d ≡ argument_desig s x = ap (argument_kind_of s) e in
    subst (λ a. When (judge_expr s n (tree.expr j
    (tree.simple m None (tree.term k (tree.factor i (tree.named h d tree.no_args)) tree.no_factor) tree.no_term)
    tree.no_relation)).value (λ t. KindFits a t.meaning)) same
    (alone_first _ (when_node (operand_rules s (record { signed = false; sort = false; operator = None })) _
    (alone_first _ (when_node (operand_rules s alone) _ (desig_kind s n d) (λ t g q. g))) (λ t g q. g)))
kind_exact s n x d e = absurd (cc)

-- ---- and any other

related_other : (s : Scene) (r : Relation) (p : Typing × Typing) → NoPlace (relation_of s r p)
related_other s relations.Equal p = by p.0.meaning p.1.meaning
  where
    by : (a b : Meaning) → NoPlace (equation_of s p.0.shape p.1.shape a b)
    by (a_place d) (a_place x) = tt
    by (a_place d) (plain x) = tt
    by (a_place d) (a_test x) = tt
    by (plain y) (a_place x) = tt
    by (plain y) (plain x) = tt
    by (plain y) (a_test x) = tt
    by (a_test y) (a_place x) = tt
    by (a_test y) (plain x) = tt
    by (a_test y) (a_test x) = tt
related_other s relations.Unequal p = tt
related_other s relations.Less p = tt
related_other s relations.LessEq p = tt
related_other s relations.Greater p = tt
related_other s relations.GreaterEq p = tt

no_place_other : (m : Meaning) → NoPlace (no_place m)
no_place_other (a_place d) = tt
no_place_other (plain x) = tt
no_place_other (a_test t) = tt

-- a sum or product with a sign or with operators
abbrev IsChain : Option Sign → Operands → Type 0
IsChain None [] = ⊥
IsChain None (x ∷ xs) = Unit {0}
IsChain (Some g) xs = Unit {0}

chain_other : (join : ir.Tests → ir.Test) (sign : Option Sign) (first : Typing) (xs : Operands) → IsChain sign xs
    → NoPlace (chain_of join sign (first, xs))
chain_other join None first [] h = absurd h
chain_other join (Some signs.Plus) first [] h = no_place_other first.meaning
chain_other join (Some signs.Minus) first [] h = tt
chain_other join sign first ((arithmetic op, t) ∷ rest) h = tt
chain_other join sign first ((logical, t) ∷ rest) h = tt

chained_other : (s : Scene) (join : ir.Tests → ir.Test) (o : Operand) (sign : Option Sign) (l : Bool) (v : Option (Typing × Operands))
    → When v (λ p. IsChain sign p.1) → When (option_map (chain_typing join sign) (unless (chain_rules s join o sign l v) v)) TypingNoPlace
chained_other s join o sign l v h = when_map {P = λ p. IsChain sign p.1} (chain_typing join sign)
    (when_node (chain_rules s join o sign l) v h (λ p g q. g)) (λ p g. chain_other join sign p.0 p.1 g)

anything : {A : Type 0} (v : Option A) → When v (λ x. Unit {0})
anything None = when_none
anything (Some x) = when_some x tt

some_operands : (o : Operator) (v : Option (Typing × Operands)) → When (option_map (cons_operand o) v) (λ xs. IsChain None xs)
some_operands o None = when_none
some_operands o (Some p) = when_some _ tt

called_other : (s : Scene) (c : Option Callee) (count : ℕ) (args : Option ir.Args)
    → When (option_map typing_of_call (unless (call_rules s c count (both_of c args)) (both_of c args))) TypingNoPlace
called_other s c count args = when_map {P = λ x. Unit {0}} typing_of_call (anything _) (λ p g. by p.0 p.0.heading.result p.1)
  where
    by : (c : Callee) (o : Option ℕ) (args : ir.Args) → TypingNoPlace (call_typing c o args)
    by c None args = tt
    by c (Some shape) args = tt

-- the designator that it exactly is
abbrev bare_of : tree.Primary → Option tree.Desig
bare_of (tree.named j d tree.no_args) = Some d
bare_of p = None

abbrev bare_factor : tree.Factor → Option tree.Desig
bare_factor (tree.factor i p) = bare_of p
bare_factor (tree.not_factor i p) = None

abbrev bare_term : tree.Term → Option tree.Desig
bare_term (tree.term k f tree.no_factor) = bare_factor f
bare_term (tree.term k f (tree.more_factor o g rest)) = None

primary_other : (s : Scene) (n : ℕ) (x : tree.Primary) → bare_of x ≡ None → When (judge_primary s n x).value TypingNoPlace
unfolding judge_expr
primary_other s n (tree.number k t) e = when_some _ tt
primary_other s n (tree.literal k t) e = when_node (literal_rules s (literal_at s t)) _ (when_some {P = TypingNoPlace} _ tt) (λ x g q. g)
primary_other s n (tree.named k d tree.no_args) e = absurd (cc)
primary_other s n (tree.named k d tree.empty_args) e =
    called_other s (option_and_then callee_in (judge_desig s n as_procedure d).value) 0 (Some ir.no_args)
primary_other s n (tree.named k d (tree.args items)) e =
    called_other s (option_and_then callee_in (judge_desig s n as_procedure d).value) (argument_count items)
    (judge_arguments s (judge_desig s n as_procedure d).next (formals_of (option_and_then callee_in (judge_desig s n as_procedure d).value))
    items).value
primary_other s n (tree.paren k body) e = by (judge_only s n body)
  where
    by : (o : Option (Judgement Typing)) → When
        (or_sequence o (in_parens s k) (λ u. as_sequence s k (judge_stmts (inside_of s) n body))).value
        TypingNoPlace
    by None = when_map {P = λ x. Unit {0}} (λ body. boolean_typing (a_test (ir.Seq body))) (anything _) (λ x g. tt)
    by (Some j) = when_map {P = λ x. Unit {0}} without_place (anything _) (λ x g. no_place_other x.meaning)
primary_other s n (tree.known k d) e = when_map {P = λ x. Unit {0}} known_typing (anything _) (λ x g. tt)
primary_other s n (tree.ord k x) e = when_map {P = λ x. Unit {0}} ord_typing (anything _) (λ x g. tt)
primary_other s n (tree.chr k x) e = when_map {P = λ x. Unit {0}} chr_typing (anything _) (λ x g. tt)

factor_other : (s : Scene) (n : ℕ) (o : Operand) (x : tree.Factor) → bare_factor x ≡ None → When (judge_factor s n o x).value TypingNoPlace
unfolding judge_expr
factor_other s n o (tree.not_factor k p) e =
    when_node (not_rules s o) _ (when_map {P = λ x. Unit {0}} not_typing (anything _) (λ x g. tt)) (λ t g q. g)
factor_other s n o (tree.factor k p) e = when_node (operand_rules s o) _ (primary_other s n p e) (λ t g q. g)

factors_chain : (s : Scene) (n : ℕ) (sort : Bool) (m : MulOperator) (f : tree.Factor) (rest : tree.FactorTail)
    → When (judge_factors s n sort (tree.more_factor m f rest)).value (λ xs. IsChain None xs)
unfolding judge_expr
factors_chain s n sort m f rest =
    some_operands (mul_operator m) (both_of (judge_factor s n (operand_behind sort (mul_operator m)) f).value
    (judge_factors s (judge_factor s n (operand_behind sort (mul_operator m)) f).next sort rest).value)

terms_chain : (s : Scene) (n : ℕ) (sort : Bool) (m : AddOperator) (t : tree.Term) (rest : tree.TermTail)
    → When (judge_terms s n sort (tree.more_term m t rest)).value (λ xs. IsChain None xs)
unfolding judge_expr
terms_chain s n sort m t rest =
    some_operands (add_operator m) (both_of (judge_term s n (operand_behind sort (add_operator m)) t).value
    (judge_terms s (judge_term s n (operand_behind sort (add_operator m)) t).next sort rest).value)

product_other : (s : Scene) (k : ℕ) (o : Operand) (m : MulOperator) (f : tree.Factor) (rest : tree.FactorTail) (a : Judgement Typing)
    (b : Judgement Operands) → When b.value (λ xs. IsChain None xs)
    → When (product_at s o k (tree.more_factor m f rest) (both a b)).value TypingNoPlace
product_other s k o m f rest a b h = chained_other s ir.And o None (any_and (tree.more_factor m f rest)) (both_of a.value b.value)
    (when_weaker (when_both (anything a.value) h) (λ p g. g.1))

sum_other : (s : Scene) (k : ℕ) (m : AddOperator) (t : tree.Term) (rest : tree.TermTail) (a : Judgement Typing) (b : Judgement Operands)
    → When b.value (λ xs. IsChain None xs)
    → When (sum_at s k None (tree.more_term m t rest) (both a b)).value TypingNoPlace
sum_other s k m t rest a b h = chained_other s ir.Or alone None (any_or (tree.more_term m t rest)) (both_of a.value b.value)
    (when_weaker (when_both (anything a.value) h) (λ p g. g.1))

signed_other : (s : Scene) (k : ℕ) (g : Sign) (rest : tree.TermTail) (j : Judgement (Typing × Operands))
    → When (sum_at s k (Some g) rest j).value TypingNoPlace
signed_other s k g tree.no_term j = chained_other s ir.Or alone (Some g) (any_or tree.no_term) j.value
    (when_weaker (anything j.value) (λ p x. tt))
signed_other s k g (tree.more_term o t rest) j =
    chained_other s ir.Or alone (Some g) (any_or (tree.more_term o t rest)) j.value (when_weaker (anything j.value) (λ p x. tt))

term_other : (s : Scene) (n : ℕ) (o : Operand) (x : tree.Term) → bare_term x ≡ None → When (judge_term s n o x).value TypingNoPlace
unfolding judge_expr
term_other s n o (tree.term k first tree.no_factor) e =
    when_node (operand_rules s o) _ (alone_first _ (factor_other s n alone first e)) (λ t g q. g)
term_other s n o (tree.term k first (tree.more_factor m f rest)) e =
    product_other s k o m f rest (judge_factor s n (first_mul (tree.more_factor m f rest)) first)
    (judge_factors s (judge_factor s n (first_mul (tree.more_factor m f rest)) first).next (first_mul (tree.more_factor m f rest)).sort
    (tree.more_factor m f rest)) (factors_chain s _ _ m f rest)

kind_other : (s : Scene) (n : ℕ) (x : tree.Expr) → exactly x ≡ None → When (judge_expr s n x).value TypingNoPlace
unfolding judge_expr
kind_other s n (tree.expr j left (tree.compared r right)) e =
    when_map {P = λ x. Unit {0}} (relation_typing s r) (anything _) (λ p g. related_other s r p)
kind_other s n (tree.expr j (tree.simple m (Some g) t rest) tree.no_relation) e =
    signed_other s m g rest (and_then (judge_term s n (first_add (Some g) rest) t)
    (λ i. judge_terms s i (first_add (Some g) rest).sort rest))
kind_other s n (tree.expr j (tree.simple m None t (tree.more_term o u rest)) tree.no_relation) e =
    sum_other s m o u rest (judge_term s n (first_add None (tree.more_term o u rest)) t)
    (judge_terms s (judge_term s n (first_add None (tree.more_term o u rest)) t).next (first_add None (tree.more_term o u rest)).sort
    (tree.more_term o u rest)) (terms_chain s _ _ o u rest)
kind_other s n (tree.expr j (tree.simple m None t tree.no_term) tree.no_relation) e =
    alone_first _ (term_other s n (record { signed = false; sort = false; operator = None }) t (bare j m t e))
  where
    bare : (j m : ℕ) (t : tree.Term) → exactly (tree.expr j (tree.simple m None t tree.no_term) tree.no_relation) ≡ None
        → bare_term t ≡ None
    bare j m (tree.term k f (tree.more_factor o g rest)) e = refl
    bare j m (tree.term k (tree.not_factor i p) tree.no_factor) e = refl
    bare j m (tree.term k (tree.factor i p) tree.no_factor) e = by p e
      where
        by : (p : tree.Primary) → exactly (tree.expr j (tree.simple m None (tree.term k (tree.factor i p) tree.no_factor) tree.no_term)
            tree.no_relation) ≡ None → bare_of p ≡ None
        by (tree.named h d tree.no_args) e = absurd (cc)
        by p e = refl

-- an expression as an argument of its kind
pub kind_fits : (s : Scene) (n : ℕ) (x : tree.Expr) → When (judge_expr s n x).value (λ t. KindFits (argument_kind s x) t.meaning)
kind_fits s n x = by (exactly x) refl
  where
    plainly : (m : Meaning) → NoPlace m → KindFits other m
    plainly (a_place d) h = h
    plainly (plain x) h = h
    plainly (a_test t) h = h

    by : (o : Option tree.Desig) → exactly x ≡ o → When (judge_expr s n x).value (λ t. KindFits (argument_kind_of s o) t.meaning)
    by None e = when_weaker (kind_other s n x e) (λ t g. plainly t.meaning g)
    by (Some d) e = kind_exact s n x d e
