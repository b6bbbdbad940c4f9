-- An expression with a constant value is of a simple type, where each constant that has a name is.
use Rattle.std.proofs.Common.{◌≡◌, ℕ, ◌<◌, ℤ, false, List, [], ◌∷◌, Option, None, Some, arith}
use Rattle.std.specs.Prelude.{option_map}
use Rattle.alma_tree.specs.declared.leaf.Sign.{Sign}
use Rattle.alma_ir.specs.Tree as ir
use Rattle.alma_rules.specs.Numbered as tree
use Rattle.alma_rules.specs.Judgement.{Judgement, unless, both_of}
use Rattle.alma_rules.specs.Scene.{Scene, Found, absent, bad, constant, named, variable, routine, found, is_structured, inside_of, text_at}
use Rattle.alma_rules.specs.Scene.{row_at, literal_at}
use Rattle.alma_rules.specs.Parts.{a_test, Typing, without_place, boolean_typing, Denotation, a_constant, a_variable, a_routine, no_array}
use Rattle.alma_rules.specs.Parts.{denotation, field_of, field_part, select_field, select_in, select_index, typing_in, typing_of_call}
use Rattle.alma_rules.specs.Parts.{Callee}
use Rattle.alma_rules.specs.Parts.{call_typing, relation_typing, arithmetic, logical, Operands, chain_shape, chain_typing}
use Rattle.alma_rules.specs.ExprRules.{Use, as_value, alone, literal_rules, not_rules, Operand, operand_rules, field_rules, array_rules}
use Rattle.alma_rules.specs.ExprRules.{simple_rules, name_rules, desig_rules}
use Rattle.alma_rules.specs.Nodes.{is_selected, index_at, judge_name, only_of, or_sequence, in_parens, as_sequence, known_typing}
use Rattle.alma_rules.specs.Nodes.{ord_typing}
use Rattle.alma_rules.specs.Nodes.{chr_typing, not_typing, first_add}
use Rattle.alma_rules.specs.Walk.{judge_expr, judge_simple, judge_term, judge_factor, judge_primary, judge_desig, judge_selectors}
use Rattle.alma_rules.specs.Walk.{judge_selector, judge_indices, judge_index_tail, judge_only, judge_value, judge_stmts}
use Rattle.alma_resolved.proofs.Fits.{When, when_some, when_none, when_map, when_then, when_node}

-- a constant that a name stands for is of a simple type
abbrev pub ConstantFound : Scene → Found → Type 0
ConstantFound s absent = Unit {0}
ConstantFound s bad = Unit {0}
ConstantFound s (constant shape v) = is_structured s shape ≡ false
ConstantFound s (named shape) = Unit {0}
ConstantFound s (variable shape root) = Unit {0}
ConstantFound s (routine q up h) = Unit {0}

-- the first types are simple, and so is each constant that has a name
pub record Simples (s : Scene) : Type 0 where
  pub firsts : (a : ℕ) → a < 3 → is_structured s a ≡ false
  pub names : (name : tree.Name) → ConstantFound s (found s name)

-- what has a constant value is of a simple type
abbrev pub Plainly : Scene → Typing → Type 0
Plainly s t = (v : ℤ) → t.constant ≡ Some v → is_structured s t.shape ≡ false

abbrev DenotedPlainly : Scene → Denotation → Type 0
DenotedPlainly s (a_constant shape v) = is_structured s shape ≡ false
DenotedPlainly s (a_variable l) = Unit {0}
DenotedPlainly s (a_routine q up h) = Unit {0}
DenotedPlainly s no_array = Unit {0}

anything : {A : Type 0} (v : Option A) → When v (λ x. Unit {0})
anything None = when_none
anything (Some x) = when_some x tt

-- ---- designators

field_plainly : (s : Scene) (name : List ℕ) (d : Denotation) → DenotedPlainly s d → When (select_field s name d) (DenotedPlainly s)
field_plainly s name (a_variable l) h = when_map {P = λ p. Unit {0}} (field_part s l) (anything (field_of s name l)) (λ p g. tt)
field_plainly s name (a_constant shape v) h = when_some _ h
field_plainly s name (a_routine q up x) h = when_some _ h
field_plainly s name no_array h = when_some _ h

index_plainly : (s : Scene) (d : Option Denotation) (i : Option Typing) → When d (DenotedPlainly s)
    → When (select_index s d i) (DenotedPlainly s)
index_plainly s None i h = when_none
index_plainly s (Some (a_variable l)) i h = by (row_at s l.shape) i
  where
    by : (r : Option (ℕ × ℕ)) (i : Option Typing) → When (select_in s l r i) (DenotedPlainly s)
    by None i = when_some _ tt
    by (Some r) None = when_none
    by (Some r) (Some t) = when_some _ tt
index_plainly s (Some no_array) i h = when_some _ h.gives
index_plainly s (Some (a_constant shape v)) None h = when_none
index_plainly s (Some (a_constant shape v)) (Some t) h = when_some _ h.gives
index_plainly s (Some (a_routine q up x)) None h = when_none
index_plainly s (Some (a_routine q up x)) (Some t) h = when_some _ h.gives

mutual
  unfolding judge_expr

  selectors_plainly : (s : Scene) (d : Judgement Denotation) (x : tree.SelectorTail) → When d.value (DenotedPlainly s)
      → When (judge_selectors s d x).value (DenotedPlainly s)
  selectors_plainly s d tree.no_selector h = h
  selectors_plainly s d (tree.more_selector x rest) h = selectors_plainly s (judge_selector s d x) rest (selector_plainly s d x h)

  selector_plainly : (s : Scene) (d : Judgement Denotation) (x : tree.Selector) → When d.value (DenotedPlainly s)
      → When (judge_selector s d x).value (DenotedPlainly s)
  selector_plainly s d (tree.field k name) h =
      when_then (select_field s (text_at s name.token)) (when_node (field_rules s (text_at s name.token)) d.value h (λ x g q. g))
      (λ x g. field_plainly s (text_at s name.token) x g)
  selector_plainly s d (tree.index k items) h =
      when_node array_rules (judge_indices s d items).value (indices_plainly s d items h) (λ x g q. g)

  indices_plainly : (s : Scene) (d : Judgement Denotation) (x : tree.Exprs) → When d.value (DenotedPlainly s)
      → When (judge_indices s d x).value (DenotedPlainly s)
  indices_plainly s d (tree.exprs e rest) h =
      index_tail_plainly s (index_at s d (tree.expr_node e) (judge_expr s d.next e)) rest (index_plainly s d.value _ h)

  index_tail_plainly : (s : Scene) (d : Judgement Denotation) (x : tree.ExprTail) → When d.value (DenotedPlainly s)
      → When (judge_index_tail s d x).value (DenotedPlainly s)
  index_tail_plainly s d tree.no_expr h = h
  index_tail_plainly s d (tree.more_expr e rest) h =
      index_tail_plainly s (index_at s d (tree.expr_node e) (judge_expr s d.next e)) rest (index_plainly s d.value _ h)

name_plainly : (s : Scene) (f : Found) → ConstantFound s f
    → When (unless (name_rules f (denotation s f)) (denotation s f)) (DenotedPlainly s)
name_plainly s absent h = when_none
name_plainly s bad h = when_none
name_plainly s (constant shape v) h = when_some _ h
name_plainly s (named shape) h = when_none
name_plainly s (variable shape root) h = when_some _ tt
name_plainly s (routine q up None) h = when_none
name_plainly s (routine q up (Some x)) h = when_some _ tt

desig_plainly : (s : Scene) → Simples s → (n : ℕ) (wanted : Use) (d : tree.Desig) → When (judge_desig s n wanted d).value (DenotedPlainly s)
unfolding judge_expr
desig_plainly s h n wanted (tree.desig k name more) =
    when_node (desig_rules s wanted (is_selected more) (found s name)) _
    (selectors_plainly s (judge_name s n name) more (name_plainly s (found s name) (h.names name))) (λ d g q. g)

typing_plainly : (s : Scene) (d : Denotation) → DenotedPlainly s d → When (typing_in d) (Plainly s)
typing_plainly s (a_constant shape v) h = when_some _ (λ w e. h)
typing_plainly s (a_variable l) h = when_some _ (λ w e. absurd (cc))
typing_plainly s (a_routine q up x) h = when_some _ (λ w e. absurd (cc))
typing_plainly s no_array h = when_none

-- ---- sums, products and calls

alone_first : {A B : Type 0} {P : A → Type 0} {v : Option A} (w : Option B) → When v P → When (option_map (λ p. p.0) (both_of v w)) P
alone_first {A} {B} {P} {v = None} w h = when_none
alone_first {A} {B} {P} {v = Some x} None h = when_none
alone_first {A} {B} {P} {v = Some x} (Some y) h = when_some x h.gives

chain_simple : (s : Scene) → Simples s → (xs : Operands) → is_structured s (chain_shape xs) ≡ false
chain_simple s h [] = h.firsts 0 (omega arith)
chain_simple s h ((arithmetic op, t) ∷ rest) = h.firsts 0 (omega arith)
chain_simple s h ((logical, t) ∷ rest) = h.firsts 2 (omega arith)

chained_plainly : (s : Scene) → Simples s → (join : ir.Tests → ir.Test) (sign : Option Sign) (v : Option (Typing × Operands))
    → When (option_map (chain_typing join sign) v) (Plainly s)
chained_plainly s h join sign v = when_map {P = λ x. Unit {0}} (chain_typing join sign) (anything v) (λ p g w e. chain_simple s h p.1)

called_plainly : (s : Scene) (v : Option (Callee × ir.Args)) → When (option_map typing_of_call v) (Plainly s)
called_plainly s v = when_map {P = λ x. Unit {0}} typing_of_call (anything v) (λ p g. by p.0 p.0.heading.result p.1)
  where
    by : (c : Callee) (o : Option ℕ) (args : ir.Args) → Plainly s (call_typing c o args)
    by c None args w e = absurd (cc)
    by c (Some shape) args w e = absurd (cc)

abbrev OnlyPlainly : Scene → Option (Judgement Typing) → Type 0
OnlyPlainly s None = Unit {0}
OnlyPlainly s (Some j) = When j.value (Plainly s)

only_plainly : (s : Scene) (rest : tree.StmtTail) (o : Option (Judgement Typing)) → OnlyPlainly s o → OnlyPlainly s (only_of rest o)
only_plainly s tree.no_stmt o h = h
only_plainly s (tree.more_stmt x rest) o h = tt

paren_plainly : (s : Scene) (k : ℕ) (o : Option (Judgement Typing)) (j : Judgement ir.Stmts) → OnlyPlainly s o
    → When (or_sequence o (in_parens s k) (λ u. as_sequence s k j)).value (Plainly s)
paren_plainly s k None j h = when_map {P = λ x. Unit {0}} (λ body. boolean_typing (a_test (ir.Seq body))) (anything _)
    (λ x g w e. absurd (cc))
paren_plainly s k (Some i) j h = when_map {P = Plainly s} without_place (when_node (simple_rules s) i.value h (λ t g q. g)) (λ t g. g)

-- ---- the walk

mutual
  unfolding judge_expr

  pub expr_plainly : (s : Scene) → Simples s → (n : ℕ) (x : tree.Expr) → When (judge_expr s n x).value (Plainly s)
  expr_plainly s h n (tree.expr k left tree.no_relation) = simple_plainly s h n left
  expr_plainly s h n (tree.expr k left (tree.compared r right)) =
      when_map {P = λ x. Unit {0}} (relation_typing s r) (anything _) (λ p g w e. absurd (cc))

  simple_plainly : (s : Scene) → Simples s → (n : ℕ) (x : tree.Simple) → When (judge_simple s n x).value (Plainly s)
  simple_plainly s h n (tree.simple k None first tree.no_term) = alone_first _ (term_plainly s h n (first_add None tree.no_term) first)
  simple_plainly s h n (tree.simple k None first (tree.more_term o t rest)) = chained_plainly s h ir.Or None _
  simple_plainly s h n (tree.simple k (Some sign) first tree.no_term) = chained_plainly s h ir.Or (Some sign) _
  simple_plainly s h n (tree.simple k (Some sign) first (tree.more_term o t rest)) = chained_plainly s h ir.Or (Some sign) _

  term_plainly : (s : Scene) → Simples s → (n : ℕ) (o : Operand) (x : tree.Term) → When (judge_term s n o x).value (Plainly s)
  term_plainly s h n o (tree.term k first tree.no_factor) =
      when_node (operand_rules s o) _ (alone_first _ (factor_plainly s h n alone first)) (λ t g q. g)
  term_plainly s h n o (tree.term k first (tree.more_factor m f rest)) = chained_plainly s h ir.And None _

  factor_plainly : (s : Scene) → Simples s → (n : ℕ) (o : Operand) (x : tree.Factor) → When (judge_factor s n o x).value (Plainly s)
  factor_plainly s h n o (tree.not_factor k p) =
      when_node (not_rules s o) _ (when_map {P = λ x. Unit {0}} not_typing (anything _) (λ x g w e. absurd (cc))) (λ t g q. g)
  factor_plainly s h n o (tree.factor k p) = when_node (operand_rules s o) _ (primary_plainly s h n p) (λ t g q. g)

  primary_plainly : (s : Scene) → Simples s → (n : ℕ) (x : tree.Primary) → When (judge_primary s n x).value (Plainly s)
  primary_plainly s h n (tree.number k t) = when_some _ (λ w e. h.firsts 0 (omega arith))
  primary_plainly s h n (tree.literal k t) =
      when_node (literal_rules s (literal_at s t)) _ (when_some {P = Plainly s} _ (λ w e. h.firsts 1 (omega arith))) (λ x g q. g)
  primary_plainly s h n (tree.named k d tree.no_args) = when_then typing_in (desig_plainly s h n as_value d) (λ x g. typing_plainly s x g)
  primary_plainly s h n (tree.named k d tree.empty_args) = called_plainly s _
  primary_plainly s h n (tree.named k d (tree.args items)) = called_plainly s _
  primary_plainly s h n (tree.paren k body) =
      paren_plainly s k (judge_only s n body) (judge_stmts (inside_of s) n body) (body_plainly s h n body)
  primary_plainly s h n (tree.known k d) = when_map {P = λ x. Unit {0}} known_typing (anything _) (λ x g w e. absurd (cc))
  primary_plainly s h n (tree.ord k x) = when_map {P = λ x. Unit {0}} ord_typing (anything _) (λ x g w e. h.firsts 0 (omega arith))
  primary_plainly s h n (tree.chr k x) = when_map {P = λ x. Unit {0}} chr_typing (anything _) (λ x g w e. h.firsts 1 (omega arith))

  body_plainly : (s : Scene) → Simples s → (n : ℕ) (x : tree.Stmts) → OnlyPlainly s (judge_only s n x)
  body_plainly s h n (tree.stmts k x rest) = only_plainly s rest (judge_value s n x) (value_plainly s h n x)

  value_plainly : (s : Scene) → Simples s → (n : ℕ) (x : tree.Stmt) → OnlyPlainly s (judge_value s n x)
  value_plainly s h n (tree.value k e) = expr_plainly s h n e
  value_plainly s h n x = tt
