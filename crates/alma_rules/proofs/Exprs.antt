-- What the walk says of expressions, as the code meets them.
use Rattle.std.proofs.Common.{◌≡◌, ℕ, ◌+◌, ◌<◌, ◌≤◌, List, [], ◌∷◌, Option, None, Some, Box, Global, length, get_or, drop, drop-cons}
use Rattle.std.proofs.Common.{add-one, suc, Result, refl, sym, subst, ap, ◌∙◌, arith}
use Rattle.std.specs.Prelude.{slice_get}
use Rattle.std.proofs.lemmas.List.{drop_all}
use Rattle.alma_tree.specs.declared.phrase.Stmts as ds
use Rattle.alma_tree.specs.declared.phrase.Stmt as dt
use Rattle.alma_tree.specs.declared.phrase.Expr as de
use Rattle.alma_tree.specs.declared.phrase.Compared as dc
use Rattle.alma_tree.specs.declared.phrase.Simple as di
use Rattle.alma_tree.specs.declared.phrase.AddLink as dk
use Rattle.alma_tree.specs.declared.phrase.Term as dm
use Rattle.alma_tree.specs.declared.phrase.MulLink as dn
use Rattle.alma_tree.specs.declared.phrase.Factor as dr
use Rattle.alma_tree.specs.declared.phrase.Primary as dp
use Rattle.alma_tree.specs.declared.phrase.Exprs as dx
use Rattle.alma_rules.specs.declared.error.Stop.{Stop}
use Rattle.alma_ir.specs.Tree as ir
use Rattle.alma_rules.specs.Numbered as tree
use Rattle.alma_rules.specs.View as view
use Rattle.alma_rules.specs.Judgement.{Judgement, fine, of_value, at_node, both, and_then, with, with_some}
use Rattle.alma_rules.specs.Answers.{Stops, Answers}
use Rattle.alma_rules.specs.Scene.{Scene, FormalOf, literal_at, number_at, inside_of}
use Rattle.alma_rules.specs.Parts as parts
use Rattle.alma_rules.specs.ExprRules as rules
use Rattle.alma_rules.specs.Nodes as nodes
use Rattle.alma_rules.specs.Walk.{judge_stmts, judge_expr, judge_compared, judge_simple, judge_terms, judge_term, judge_factors}
use Rattle.alma_rules.specs.Walk.{judge_factor, judge_primary, judge_only, judge_value, judge_desig, judge_arguments, judge_argument_tail}
use Rattle.alma_rules.proofs.Rows as rows
use Rattle.alma_rules.proofs.Judging.{stops_more}
use Rattle.alma_rules.proofs.Onwards.{first_fine}

-- an element of a list, and what is behind it
pub next_of : {A : Type 0} (all : List A) (i : ℕ) (x : A) → i < length all → x ≡ get_or all i x → drop i all ≡ x ∷ drop (i + 1) all
next_of all i x h is = rw (add-one, drop-cons all i x) (ap (λ y. y ∷ drop (suc i) all) (sym is))

module _ (s : Scene) where
  -- ---- relations
  expr_at : (n k : ℕ) (x : tree.Simple) (r : tree.Compared) → judge_expr s n (tree.expr k x r) ≡ judge_compared s k (judge_simple s n x) r
  unfolding judge_expr
  expr_at n k x r = refl

  no_relation_at : (k : ℕ) (j : Judgement parts.Typing) → judge_compared s k j tree.no_relation ≡ j
  unfolding judge_expr
  no_relation_at k j = refl

  relation_at_is : (k : ℕ) (j : Judgement parts.Typing) (o : _) (x : tree.Simple)
      → judge_compared s k j (tree.compared o x) ≡ nodes.relation_at s k o (and_then j (λ m. judge_simple s m x))
  unfolding judge_expr
  relation_at_is k j o x = refl

  pub expr_alone : (n : ℕ) (e : de.Expr) → (de.out-Expr e).right ≡ None
      → judge_expr s n (view.view_expr e) ≡ judge_simple s n (view.view_simple (de.out-Expr e).left)
  expr_alone n e h =
      ap (judge_expr s n) (rows.expr_is e) ∙ expr_at n _ _ _
      ∙ ap (λ r. judge_compared s (de.out-Expr e).node (judge_simple s n (view.view_simple (de.out-Expr e).left)) (view.compared_of r)) h
      ∙ no_relation_at _ _

  pub expr_pair : (n : ℕ) (e : de.Expr) (b : Box dc.Compared Global) → (de.out-Expr e).right ≡ Some b → judge_expr s n (view.view_expr e)
      ≡ nodes.relation_at s (de.out-Expr e).node (dc.out-Compared b.value).relation
      (and_then (judge_simple s n (view.view_simple (de.out-Expr e).left))
      (λ m. judge_simple s m (view.view_simple (dc.out-Compared b.value).right)))
  expr_pair n e b h =
      ap (judge_expr s n) (rows.expr_is e) ∙ expr_at n _ _ _
      ∙ ap (λ r. judge_compared s (de.out-Expr e).node (judge_simple s n (view.view_simple (de.out-Expr e).left)) (view.compared_of r)) h
      ∙ relation_at_is _ _ _ _

  pub expr_stops : (n : ℕ) (e : de.Expr) (x : Stop) → Stops (judge_simple s n (view.view_simple (de.out-Expr e).left)).faults x
      → Stops (judge_expr s n (view.view_expr e)).faults x
  expr_stops n e x h = by (de.out-Expr e).right refl
    where
      by : (r : Option (Box dc.Compared Global)) → (de.out-Expr e).right ≡ r → Stops (judge_expr s n (view.view_expr e)).faults x
      by None p = rw (expr_alone n e p) h
      by (Some b) p = rw (expr_pair n e b p) (stops_more _ _ x (stops_more _ _ x h))

  -- ---- sums
  simple_at : (n k : ℕ) (sign : _) (first : tree.Term) (rest : tree.TermTail) → judge_simple s n (tree.simple k sign first rest)
      ≡ nodes.sum_at s k sign rest (and_then (judge_term s n (nodes.first_add sign rest) first)
      (λ m. judge_terms s m (nodes.first_add sign rest).sort rest))
  unfolding judge_expr
  simple_at n k sign first rest = refl

  simple_whole : (n : ℕ) (t : di.Simple) → judge_simple s n (view.view_simple t)
      ≡ nodes.sum_at s (di.out-Simple t).node (di.out-Simple t).sign (view.terms_of (di.out-Simple t).more.items)
      (and_then (judge_term s n (nodes.first_add (di.out-Simple t).sign (view.terms_of (di.out-Simple t).more.items))
      (view.view_term (di.out-Simple t).first.value))
      (λ m. judge_terms s m (nodes.first_add (di.out-Simple t).sign (view.terms_of (di.out-Simple t).more.items)).sort
      (view.terms_of (di.out-Simple t).more.items)))
  simple_whole n t = ap (judge_simple s n) (rows.simple_is t) ∙ simple_at n _ _ _ _

  sum_stops : (k : ℕ) (sign : _) (rest : tree.TermTail) (j : Judgement (parts.Typing × parts.Operands)) (x : Stop) → Stops j.faults x
      → Stops (nodes.sum_at s k sign rest j).faults x
  sum_stops k None tree.no_term j x h = h
  sum_stops k None (tree.more_term o t rest) j x h = stops_more _ _ x h
  sum_stops k (Some g) tree.no_term j x h = stops_more _ _ x h
  sum_stops k (Some g) (tree.more_term o t rest) j x h = stops_more _ _ x h

  pub simple_stops : (n : ℕ) (t : di.Simple) (o : rules.Operand) (x : Stop)
      → o ≡ nodes.first_add (di.out-Simple t).sign (view.terms_of (di.out-Simple t).more.items)
      → Stops (judge_term s n o (view.view_term (di.out-Simple t).first.value)).faults x
      → Stops (judge_simple s n (view.view_simple t)).faults x
  simple_stops n t o x is h =
      let h2 = subst (λ p. Stops (judge_term s n p (view.view_term (di.out-Simple t).first.value)).faults x) is h in
      rw (simple_whole n t) (sum_stops _ _ _ _ x (stops_more _ _ x h2))

  pub simple_fine : {X : Type 0} (n : ℕ) (t : di.Simple) (o : rules.Operand) (w : X → parts.Typing) (m k : ℕ) (v : Option parts.Typing)
      (r : Result (Option X) Stop)
      → o ≡ nodes.first_add (di.out-Simple t).sign (view.terms_of (di.out-Simple t).more.items)
      → judge_term s n o (view.view_term (di.out-Simple t).first.value) ≡ of_value m v
      → Answers (nodes.sum_at s (di.out-Simple t).node (di.out-Simple t).sign (view.terms_of (di.out-Simple t).more.items)
      (both (of_value m v) (judge_terms s m o.sort (view.terms_of (di.out-Simple t).more.items)))) w k r
      → Answers (judge_simple s n (view.view_simple t)) w k r
  simple_fine {X} n t o w m k v r is h a =
      let rest = view.terms_of (di.out-Simple t).more.items in
      let first = view.view_term (di.out-Simple t).first.value in
      let h2 = subst (λ p. judge_term s n p first ≡ of_value m v) is h in
      let a2 = subst (λ (p : rules.Operand). Answers
      (nodes.sum_at s (di.out-Simple t).node (di.out-Simple t).sign rest (both (of_value m v) (judge_terms s m p.sort rest))) w k r) is
      a in
      first_fine (nodes.sum_at s (di.out-Simple t).node (di.out-Simple t).sign rest) (judge_simple s n (view.view_simple t))
      (judge_term s n (nodes.first_add (di.out-Simple t).sign rest) first)
      (λ i. judge_terms s i (nodes.first_add (di.out-Simple t).sign rest).sort rest) w m k v r (simple_whole n t) h2 a2

  terms_at : (n : ℕ) (sort : _) (o : _) (t : tree.Term) (rest : tree.TermTail) → judge_terms s n sort (tree.more_term o t rest)
      ≡ with (nodes.cons_operand (parts.add_operator o))
      (and_then (judge_term s n (nodes.operand_behind sort (parts.add_operator o)) t) (λ m. judge_terms s m sort rest))
  unfolding judge_expr
  terms_at n sort o t rest = refl

  pub terms_next : (n i : ℕ) (sort : _) (all : List dk.AddLink) (l : dk.AddLink) (o : parts.Operator) (p : rules.Operand) → i < length all
      → l ≡ get_or all i l
      → o ≡ parts.add_operator (dk.out-AddLink l).operator → p ≡ nodes.operand_behind sort o
      → judge_terms s n sort (view.terms_of (drop i all))
      ≡ with (nodes.cons_operand o) (and_then (judge_term s n p (view.view_term (dk.out-AddLink l).operand))
      (λ m. judge_terms s m sort (view.terms_of (drop (i + 1) all))))
  terms_next n i sort all l o p h is e f =
      ap (λ xs. judge_terms s n sort (view.terms_of xs)) (next_of all i l h is) ∙ terms_at n sort _ _ _
      ∙ rw (f, e) refl

  pub terms_end : (n i : ℕ) (sort : _) (all : List dk.AddLink) → length all ≤ i
      → judge_terms s n sort (view.terms_of (drop i all)) ≡ fine n []
  unfolding judge_expr
  terms_end n i sort all h = ap (λ xs. judge_terms s n sort (view.terms_of xs)) (drop_all i all h)

  -- ---- products
  term_at : (n k : ℕ) (o : rules.Operand) (first : tree.Factor) (rest : tree.FactorTail) → judge_term s n o (tree.term k first rest)
      ≡ nodes.product_at s o k rest (and_then (judge_factor s n (nodes.first_mul rest) first)
      (λ m. judge_factors s m (nodes.first_mul rest).sort rest))
  unfolding judge_expr
  term_at n k o first rest = refl

  term_whole : (n : ℕ) (o : rules.Operand) (t : dm.Term) → judge_term s n o (view.view_term t)
      ≡ nodes.product_at s o (dm.out-Term t).node (view.factors_of (dm.out-Term t).more.items)
      (and_then (judge_factor s n (nodes.first_mul (view.factors_of (dm.out-Term t).more.items)) (view.view_factor (dm.out-Term t).first))
      (λ m. judge_factors s m (nodes.first_mul (view.factors_of (dm.out-Term t).more.items)).sort
      (view.factors_of (dm.out-Term t).more.items)))
  term_whole n o t = ap (judge_term s n o) (rows.term_is t) ∙ term_at n _ o _ _

  product_stops : (k : ℕ) (o : rules.Operand) (rest : tree.FactorTail) (j : Judgement (parts.Typing × parts.Operands)) (x : Stop)
      → Stops j.faults x → Stops (nodes.product_at s o k rest j).faults x
  product_stops k o tree.no_factor j x h = stops_more _ _ x h
  product_stops k o (tree.more_factor y f rest) j x h = stops_more _ _ x h

  pub term_stops : (n : ℕ) (o : rules.Operand) (t : dm.Term) (p : rules.Operand) (x : Stop)
      → p ≡ nodes.first_mul (view.factors_of (dm.out-Term t).more.items)
      → Stops (judge_factor s n p (view.view_factor (dm.out-Term t).first)).faults x → Stops (judge_term s n o (view.view_term t)).faults x
  term_stops n o t p x is h =
      let h2 = subst (λ q. Stops (judge_factor s n q (view.view_factor (dm.out-Term t).first)).faults x) is h in
      rw (term_whole n o t) (product_stops _ o _ _ x (stops_more _ _ x h2))

  pub term_fine : {X : Type 0} (n : ℕ) (o : rules.Operand) (t : dm.Term) (p : rules.Operand) (w : X → parts.Typing) (m k : ℕ)
      (v : Option parts.Typing) (r : Result (Option X) Stop)
      → p ≡ nodes.first_mul (view.factors_of (dm.out-Term t).more.items)
      → judge_factor s n p (view.view_factor (dm.out-Term t).first) ≡ of_value m v
      → Answers (nodes.product_at s o (dm.out-Term t).node (view.factors_of (dm.out-Term t).more.items)
      (both (of_value m v) (judge_factors s m p.sort (view.factors_of (dm.out-Term t).more.items)))) w k r
      → Answers (judge_term s n o (view.view_term t)) w k r
  term_fine {X} n o t p w m k v r is h a =
      let rest = view.factors_of (dm.out-Term t).more.items in
      let first = view.view_factor (dm.out-Term t).first in
      let h2 = subst (λ q. judge_factor s n q first ≡ of_value m v) is h in
      let a2 = subst (λ (q : rules.Operand). Answers
      (nodes.product_at s o (dm.out-Term t).node rest (both (of_value m v) (judge_factors s m q.sort rest))) w k r) is a in
      first_fine (nodes.product_at s o (dm.out-Term t).node rest) (judge_term s n o (view.view_term t))
      (judge_factor s n (nodes.first_mul rest) first) (λ i. judge_factors s i (nodes.first_mul rest).sort rest) w m k v r (term_whole n o t)
      h2 a2

  factors_at : (n : ℕ) (sort : _) (o : _) (f : tree.Factor) (rest : tree.FactorTail) → judge_factors s n sort (tree.more_factor o f rest)
      ≡ with (nodes.cons_operand (parts.mul_operator o))
      (and_then (judge_factor s n (nodes.operand_behind sort (parts.mul_operator o)) f) (λ m. judge_factors s m sort rest))
  unfolding judge_expr
  factors_at n sort o f rest = refl

  pub factors_next : (n i : ℕ) (sort : _) (all : List dn.MulLink) (l : dn.MulLink) (o : parts.Operator) (p : rules.Operand) → i < length all
      → l ≡ get_or all i l
      → o ≡ parts.mul_operator l.operator → p ≡ nodes.operand_behind sort o
      → judge_factors s n sort (view.factors_of (drop i all))
      ≡ with (nodes.cons_operand o) (and_then (judge_factor s n p (view.view_factor l.operand))
      (λ m. judge_factors s m sort (view.factors_of (drop (i + 1) all))))
  factors_next n i sort all l o p h is e f =
      ap (λ xs. judge_factors s n sort (view.factors_of xs)) (next_of all i l h is) ∙ factors_at n sort _ _ _
      ∙ rw (f, e) refl

  pub factors_end : (n i : ℕ) (sort : _) (all : List dn.MulLink) → length all ≤ i
      → judge_factors s n sort (view.factors_of (drop i all)) ≡ fine n []
  unfolding judge_expr
  factors_end n i sort all h = ap (λ xs. judge_factors s n sort (view.factors_of xs)) (drop_all i all h)

  -- ---- factors
  pub not_at : (n : ℕ) (o : rules.Operand) (k : ℕ) (p : dp.Primary) → judge_factor s n o (view.view_factor (dr.Not k p))
      ≡ at_node k (rules.not_rules s o) (with nodes.not_typing
      (at_node (tree.primary_node (view.view_primary p)) (rules.test_rules s) (judge_primary (inside_of s) n (view.view_primary p))))
  unfolding judge_expr
  not_at n o k p = refl

  pub plain_at : (n : ℕ) (o : rules.Operand) (k : ℕ) (p : dp.Primary)
      → judge_factor s n o (view.view_factor (dr.Plain k p)) ≡ at_node k (rules.operand_rules s o) (judge_primary s n (view.view_primary p))
  unfolding judge_expr
  plain_at n o k p = refl

  -- ---- primaries
  pub number_is : (n k t : ℕ) → judge_primary s n (tree.number k t) ≡ fine n (parts.integer_typing (number_at s t))
  unfolding judge_expr
  number_is n k t = refl

  pub literal_is : (n k t : ℕ) → judge_primary s n (tree.literal k t) ≡ at_node k (rules.literal_rules s (literal_at s t))
      (fine n (nodes.literal_typing s t))
  unfolding judge_expr
  literal_is n k t = refl

  pub known_at : (n k : ℕ) (d : tree.Desig) → judge_primary s n (tree.known k d)
      ≡ with nodes.known_typing (at_node k (rules.known_rules s) (with_some parts.located_in (judge_desig s n rules.as_variable d)))
  unfolding judge_expr
  known_at n k d = refl

  pub ord_at : (n k : ℕ) (e : tree.Expr) → judge_primary s n (tree.ord k e) ≡ with nodes.ord_typing
      (at_node k (rules.simple_rules s) (judge_expr s n e))
  unfolding judge_expr
  ord_at n k e = refl

  pub chr_at : (n k : ℕ) (e : tree.Expr) → judge_primary s n (tree.chr k e) ≡ with nodes.chr_typing
      (at_node k (rules.chr_rules s) (judge_expr s n e))
  unfolding judge_expr
  chr_at n k e = refl

  -- ---- calls
  pub value_at : (n k : ℕ) (d : tree.Desig)
      → judge_primary s n (tree.named k d tree.no_args) ≡ with_some parts.typing_in (judge_desig s n rules.as_value d)
  unfolding judge_expr
  value_at n k d = refl

  call_none_at : (n k : ℕ) (d : tree.Desig) → judge_primary s n (tree.named k d tree.empty_args)
      ≡ nodes.called_at s k (with_some parts.callee_in (judge_desig s n rules.as_procedure d)) 0
      (fine (judge_desig s n rules.as_procedure d).next ir.no_args)
  unfolding judge_expr
  call_none_at n k d = refl

  call_some_at : (n k : ℕ) (d : tree.Desig) (items : tree.Exprs) → judge_primary s n (tree.named k d (tree.args items))
      ≡ nodes.called_at s k (with_some parts.callee_in (judge_desig s n rules.as_procedure d)) (nodes.argument_count items)
      (judge_arguments s (judge_desig s n rules.as_procedure d).next
      (nodes.formals_of (with_some parts.callee_in (judge_desig s n rules.as_procedure d)).value) items)
  unfolding judge_expr
  call_some_at n k d items = refl

  call_by : (k : ℕ) (c : Judgement parts.Callee) (m count : ℕ) (v : Option parts.Callee) (f : ℕ → Option parts.Callee → Judgement ir.Args)
      → c ≡ of_value m v
      → nodes.called_at s k c count (f c.next c.value) ≡ nodes.called_at s k (of_value m v) count (f m v)
  call_by k c m count v f h = rw h refl

  pub call_none : (n k m : ℕ) (d : tree.Desig) (v : Option parts.Callee)
      → with_some parts.callee_in (judge_desig s n rules.as_procedure d) ≡ of_value m v
      → judge_primary s n (tree.named k d tree.empty_args) ≡ nodes.called_at s k (of_value m v) 0 (fine m ir.no_args)
  call_none n k m d v h = call_none_at n k d
      ∙ call_by k (with_some parts.callee_in (judge_desig s n rules.as_procedure d)) m 0 v (λ i c. fine i ir.no_args) h

  pub call_some : (n k m : ℕ) (d : tree.Desig) (items : tree.Exprs) (v : Option parts.Callee)
      → with_some parts.callee_in (judge_desig s n rules.as_procedure d) ≡ of_value m v
      → judge_primary s n (tree.named k d (tree.args items)) ≡ nodes.called_at s k (of_value m v) (nodes.argument_count items)
      (judge_arguments s m (nodes.formals_of v) items)
  call_some n k m d items v h =
      call_some_at n k d items
      ∙ call_by k (with_some parts.callee_in (judge_desig s n rules.as_procedure d)) m (nodes.argument_count items) v
      (λ i c. judge_arguments s i (nodes.formals_of c) items) h

  pub call_stops : (n k : ℕ) (d : tree.Desig) (values : Option dx.Exprs) (x : Stop)
      → Stops (with_some parts.callee_in (judge_desig s n rules.as_procedure d)).faults x
      → Stops (judge_primary s n (tree.named k d (view.args_values values))).faults x
  call_stops n k d None x h = rw (call_none_at n k d) (stops_more _ _ x (stops_more _ _ x h))
  call_stops n k d (Some items) x h = rw (call_some_at n k d (view.view_exprs items)) (stops_more _ _ x (stops_more _ _ x h))

  pub count_is : (xs : List de.Expr) → nodes.expr_count (view.exprs_of xs) ≡ length xs
  count_is [] = refl
  count_is (x ∷ xs) = omega (arith, count_is xs)

  pub arguments_at : (n : ℕ) (formals : List FormalOf) (t : dx.Exprs) → judge_arguments s n formals (view.view_exprs t)
      ≡ with nodes.cons_arg (and_then
      (nodes.judged_argument s (slice_get formals 0) (view.view_expr (dx.out-Exprs t).first.value)
      (judge_expr s n (view.view_expr (dx.out-Exprs t).first.value)))
      (λ m. judge_argument_tail s m (drop 1 formals) (view.exprs_of (dx.out-Exprs t).more.items)))
  unfolding judge_expr
  arguments_at n formals t = ap (judge_arguments s n formals) (rows.exprs_is t)

  argument_tail_at : (n : ℕ) (formals : List FormalOf) (e : tree.Expr) (rest : tree.ExprTail)
      → judge_argument_tail s n formals (tree.more_expr e rest)
      ≡ with nodes.cons_arg (and_then (nodes.judged_argument s (slice_get formals 0) e (judge_expr s n e))
      (λ m. judge_argument_tail s m (drop 1 formals) rest))
  unfolding judge_expr
  argument_tail_at n formals e rest = refl

  pub arguments_next : (n i : ℕ) (formals : List FormalOf) (all : List de.Expr) (e : de.Expr) → i < length all → e ≡ get_or all i e
      → judge_argument_tail s n formals (view.exprs_of (drop i all))
      ≡ with nodes.cons_arg (and_then (nodes.judged_argument s (slice_get formals 0) (view.view_expr e) (judge_expr s n (view.view_expr e)))
      (λ m. judge_argument_tail s m (drop 1 formals) (view.exprs_of (drop (i + 1) all))))
  arguments_next n i formals all e h is =
      ap (λ xs. judge_argument_tail s n formals (view.exprs_of xs)) (next_of all i e h is) ∙ argument_tail_at n formals _ _

  pub arguments_end : (n i : ℕ) (formals : List FormalOf) (all : List de.Expr) → length all ≤ i
      → judge_argument_tail s n formals (view.exprs_of (drop i all)) ≡ fine n ir.no_args
  unfolding judge_expr
  arguments_end n i formals all h = ap (λ xs. judge_argument_tail s n formals (view.exprs_of xs)) (drop_all i all h)

  -- ---- parentheses
  paren_at : (n k : ℕ) (t : tree.Stmts) → judge_primary s n (tree.paren k t)
      ≡ nodes.or_sequence (judge_only s n t) (nodes.in_parens s k) (λ u. nodes.as_sequence s k (judge_stmts (inside_of s) n t))
  unfolding judge_expr
  paren_at n k t = refl

  only_one : (n k : ℕ) (x : tree.Stmt) → judge_only s n (tree.stmts k x tree.no_stmt) ≡ judge_value s n x
  unfolding judge_expr
  only_one n k x = refl

  only_more : (n k : ℕ) (x y : tree.Stmt) (rest : tree.StmtTail) → judge_only s n (tree.stmts k x (tree.more_stmt y rest)) ≡ None
  unfolding judge_expr
  only_more n k x y rest = refl

  value_one : (n k : ℕ) (e : tree.Expr) → judge_value s n (tree.value k e) ≡ Some (judge_expr s n e)
  unfolding judge_expr
  value_one n k e = refl

  by_only : (n k : ℕ) (t : tree.Stmts) (o : Option (Judgement parts.Typing)) → judge_only s n t ≡ o
      → judge_primary s n (tree.paren k t) ≡ nodes.or_sequence o (nodes.in_parens s k)
      (λ u. nodes.as_sequence s k (judge_stmts (inside_of s) n t))
  by_only n k t o h = paren_at n k t ∙ ap (λ j. nodes.or_sequence j (nodes.in_parens s k)
      (λ u. nodes.as_sequence s k (judge_stmts (inside_of s) n t))) h

  pub paren_value : (n k m : ℕ) (t : ds.Stmts) (e : de.Expr) → t.more.items ≡ [] → t.first.value ≡ dt.Value m e
      → judge_primary s n (tree.paren k (view.view_stmts t)) ≡ nodes.in_parens s k (judge_expr s n (view.view_expr e))
  paren_value n k m t e none is =
      by_only n k (view.view_stmts t) (Some (judge_expr s n (view.view_expr e)))
      (ap (λ rest. judge_only s n (tree.stmts t.node (view.view_stmt t.first.value) (view.stmts_of rest))) none
      ∙ only_one n t.node (view.view_stmt t.first.value) ∙ ap (λ y. judge_value s n (view.view_stmt y)) is
      ∙ value_one n m (view.view_expr e))

  pub paren_more : (n k : ℕ) (t : ds.Stmts) → (t.more.items ≡ [] → ⊥)
      → judge_primary s n (tree.paren k (view.view_stmts t)) ≡ nodes.as_sequence s k (judge_stmts (inside_of s) n (view.view_stmts t))
  paren_more n k t some = by_only n k (view.view_stmts t) None (by t.more.items some)
    where
      by : (rest : List dt.Stmt) → (rest ≡ [] → ⊥)
          → judge_only s n (tree.stmts t.node (view.view_stmt t.first.value) (view.stmts_of rest)) ≡ None
      by [] h = absurd (h refl)
      by (y ∷ ys) h = only_more n t.node _ _ _

  value_not : (n : ℕ) (x : dt.Stmt) → ((m : ℕ) (e : de.Expr) → x ≡ dt.Value m e → ⊥) → judge_value s n (view.view_stmt x) ≡ None
  unfolding judge_expr
  value_not n (dt.Nothing k) h = refl
  value_not n (dt.Assign' k m l shape row e) h = refl
  value_not n (dt.Value k e) h = absurd (h k e refl)
  value_not n (dt.If' k e m b y shape row shape2 row2 o) h = refl
  value_not n (dt.While' k e m b y shape row) h = refl
  value_not n (dt.Repeat' k m b y shape row e) h = refl
  value_not n (dt.For' k l low high by m b y shape row) h = refl
  value_not n (dt.Some' k l low high m b y shape row) h = refl
  value_not n (dt.Case' k e b a shape row o) h = refl
  value_not n (dt.Either' k m b y shape row shape2 row2) h = refl
  value_not n (dt.Forall' k m b y shape row m2 b2 y2 shape2 row2) h = refl
  value_not n (dt.Commit' k m b y shape row) h = refl
  value_not n (dt.Return' k e) h = refl
  value_not n (dt.Read' k m l shape row shape2 row2) h = refl
  value_not n (dt.Write k es) h = refl
  value_not n (dt.Writeln' k a) h = refl

  pub paren_other : (n k : ℕ) (t : ds.Stmts) → t.more.items ≡ [] → ((m : ℕ) (e : de.Expr) → t.first.value ≡ dt.Value m e → ⊥)
      → judge_primary s n (tree.paren k (view.view_stmts t)) ≡ nodes.as_sequence s k (judge_stmts (inside_of s) n (view.view_stmts t))
  paren_other n k t none h =
      by_only n k (view.view_stmts t) None
      (ap (λ rest. judge_only s n (tree.stmts t.node (view.view_stmt t.first.value) (view.stmts_of rest))) none
      ∙ only_one n t.node (view.view_stmt t.first.value) ∙ value_not n t.first.value h)
