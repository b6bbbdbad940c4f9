-- What the walk says of designators, as the code meets them.
use Rattle.std.proofs.Common.{◌≡◌, ℕ, ◌+◌, ◌<◌, ◌≤◌, List, Option, length, get_or, drop, refl, ap, ◌∙◌}
use Rattle.std.proofs.lemmas.List.{drop_all}
use Rattle.alma_tree.specs.declared.phrase.Expr as de
use Rattle.alma_tree.specs.declared.phrase.Exprs as dx
use Rattle.alma_tree.specs.declared.phrase.Desig as dd
use Rattle.alma_tree.specs.declared.phrase.Selector as dj
use Rattle.alma_rules.specs.declared.error.Stop.{Stop}
use Rattle.alma_rules.specs.Numbered as tree
use Rattle.alma_rules.specs.View as view
use Rattle.alma_rules.specs.Judgement.{Judgement, of_value, at_node, with_some}
use Rattle.alma_rules.specs.Answers.{Stops}
use Rattle.alma_rules.specs.Scene.{Scene, Found, found, text_at}
use Rattle.alma_rules.specs.Parts as parts
use Rattle.alma_rules.specs.ExprRules as rules
use Rattle.alma_rules.specs.Nodes as nodes
use Rattle.alma_rules.specs.Walk.{judge_expr, judge_desig, judge_selectors, judge_selector, judge_indices, judge_index_tail}
use Rattle.alma_rules.proofs.Rows as rows
use Rattle.alma_rules.proofs.Judging.{stops_more}
use Rattle.alma_rules.proofs.Exprs.{next_of}

module _ (s : Scene) where
  -- ---- a designator
  desig_at : (n : ℕ) (wanted : rules.Use) (k : ℕ) (name : tree.Name) (more : tree.SelectorTail)
      → judge_desig s n wanted (tree.desig k name more)
      ≡ at_node k (rules.desig_rules s wanted (nodes.is_selected more) (found s name)) (judge_selectors s (nodes.judge_name s n name) more)
  unfolding judge_desig
  desig_at n wanted k name more = refl

  selectors_at : (d : Judgement parts.Denotation) (x : tree.Selector) (rest : tree.SelectorTail)
      → judge_selectors s d (tree.more_selector x rest) ≡ judge_selectors s (judge_selector s d x) rest
  unfolding judge_desig
  selectors_at d x rest = refl

  no_selectors_at : (d : Judgement parts.Denotation) → judge_selectors s d tree.no_selector ≡ d
  unfolding judge_desig
  no_selectors_at d = refl

  pub field_at_is : (d : Judgement parts.Denotation) (k : ℕ) (name : tree.Name) → judge_selector s d (tree.field k name)
      ≡ with_some (parts.select_field s (text_at s name.token)) (at_node k (rules.field_rules s (text_at s name.token)) d)
  unfolding judge_desig
  field_at_is d k name = refl

  pub index_at_is : (d : Judgement parts.Denotation) (k : ℕ) (items : tree.Exprs)
      → judge_selector s d (tree.index k items) ≡ at_node k rules.array_rules (judge_indices s d items)
  unfolding judge_desig
  index_at_is d k items = refl

  indices_whole : (d : Judgement parts.Denotation) (e : tree.Expr) (rest : tree.ExprTail) → judge_indices s d (tree.exprs e rest)
      ≡ judge_index_tail s (nodes.index_at s d (tree.expr_node e) (judge_expr s d.next e)) rest
  unfolding judge_desig
  indices_whole d e rest = refl

  index_tail_at : (d : Judgement parts.Denotation) (e : tree.Expr) (rest : tree.ExprTail) → judge_index_tail s d (tree.more_expr e rest)
      ≡ judge_index_tail s (nodes.index_at s d (tree.expr_node e) (judge_expr s d.next e)) rest
  unfolding judge_desig
  index_tail_at d e rest = refl

  no_index_at : (d : Judgement parts.Denotation) → judge_index_tail s d tree.no_expr ≡ d
  unfolding judge_desig
  no_index_at d = refl

  -- ---- a fault in front stays the first
  pub index_tail_stops : (rest : tree.ExprTail) (d : Judgement parts.Denotation) (x : Stop) → Stops d.faults x
      → Stops (judge_index_tail s d rest).faults x
  index_tail_stops tree.no_expr d x h = rw (no_index_at d) h
  index_tail_stops (tree.more_expr e rest) d x h =
      rw (index_tail_at d e rest) (index_tail_stops rest (nodes.index_at s d (tree.expr_node e) (judge_expr s d.next e)) x
      (stops_more d.faults _ x h))

  pub indices_stops : (items : tree.Exprs) (d : Judgement parts.Denotation) (x : Stop) → Stops d.faults x
      → Stops (judge_indices s d items).faults x
  indices_stops (tree.exprs e rest) d x h =
      rw (indices_whole d e rest) (index_tail_stops rest (nodes.index_at s d (tree.expr_node e) (judge_expr s d.next e)) x
      (stops_more d.faults _ x h))

  selector_stops : (y : tree.Selector) (d : Judgement parts.Denotation) (x : Stop) → Stops d.faults x
      → Stops (judge_selector s d y).faults x
  selector_stops (tree.field k name) d x h = rw (field_at_is d k name) (stops_more d.faults _ x h)
  selector_stops (tree.index k items) d x h = rw (index_at_is d k items) (stops_more _ _ x (indices_stops items d x h))

  pub selectors_stops : (rest : tree.SelectorTail) (d : Judgement parts.Denotation) (x : Stop) → Stops d.faults x
      → Stops (judge_selectors s d rest).faults x
  selectors_stops tree.no_selector d x h = rw (no_selectors_at d) h
  selectors_stops (tree.more_selector y rest) d x h =
      rw (selectors_at d y rest) (selectors_stops rest (judge_selector s d y) x (selector_stops y d x h))

  -- ---- selectors in order
  pub selectors_next : (d : Judgement parts.Denotation) (i : ℕ) (all : List dj.Selector) (y : dj.Selector) → i < length all
      → y ≡ get_or all i y
      → judge_selectors s d (view.selectors_of (drop i all)) ≡ judge_selectors s (judge_selector s d (view.view_selector y))
      (view.selectors_of (drop (i + 1) all))
  selectors_next d i all y h is = ap (λ xs. judge_selectors s d (view.selectors_of xs)) (next_of all i y h is) ∙ selectors_at d _ _

  pub selectors_end : (d : Judgement parts.Denotation) (i : ℕ) (all : List dj.Selector) → length all ≤ i
      → judge_selectors s d (view.selectors_of (drop i all)) ≡ d
  selectors_end d i all h = ap (λ xs. judge_selectors s d (view.selectors_of xs)) (drop_all i all h) ∙ no_selectors_at d

  -- ---- indices in order
  pub indices_at : (d : Judgement parts.Denotation) (t : dx.Exprs) → judge_indices s d (view.view_exprs t)
      ≡ judge_index_tail s (nodes.index_at s d (tree.expr_node (view.view_expr (dx.out-Exprs t).first.value))
      (judge_expr s d.next (view.view_expr (dx.out-Exprs t).first.value))) (view.exprs_of (dx.out-Exprs t).more.items)
  indices_at d t = ap (judge_indices s d) (rows.exprs_is t) ∙ indices_whole d _ _

  pub index_next : (d : Judgement parts.Denotation) (i : ℕ) (all : List de.Expr) (e : de.Expr) → i < length all → e ≡ get_or all i e
      → judge_index_tail s d (view.exprs_of (drop i all))
      ≡ judge_index_tail s (nodes.index_at s d (tree.expr_node (view.view_expr e)) (judge_expr s d.next (view.view_expr e)))
      (view.exprs_of (drop (i + 1) all))
  index_next d i all e h is = ap (λ xs. judge_index_tail s d (view.exprs_of xs)) (next_of all i e h is) ∙ index_tail_at d _ _

  pub index_end : (d : Judgement parts.Denotation) (i : ℕ) (all : List de.Expr) → length all ≤ i
      → judge_index_tail s d (view.exprs_of (drop i all)) ≡ d
  index_end d i all h = ap (λ xs. judge_index_tail s d (view.exprs_of xs)) (drop_all i all h) ∙ no_index_at d

  -- ---- a designator, by what its name stands for
  pub desig_whole : (n : ℕ) (wanted : rules.Use) (t : dd.Desig) (f : Found) → f ≡ found s (view.view_name t.name)
      → judge_desig s n wanted (view.view_desig t)
      ≡ at_node t.node (rules.desig_rules s wanted (nodes.is_selected (view.selectors_of t.more.items)) f)
      (judge_selectors s (at_node t.name.node (rules.name_rules f) (of_value n (parts.denotation s f))) (view.selectors_of t.more.items))
  desig_whole n wanted t f h = rw h (desig_at n wanted t.node (view.view_name t.name) (view.selectors_of t.more.items))

  pub desig_stops : (n : ℕ) (wanted : rules.Use) (t : dd.Desig) (f : Found) (x : Stop) → f ≡ found s (view.view_name t.name)
      → Stops (at_node t.name.node (rules.name_rules f) (of_value n (parts.denotation s f))).faults x
      → Stops (judge_desig s n wanted (view.view_desig t)).faults x
  desig_stops n wanted t f x is h =
      rw (desig_whole n wanted t f is) (stops_more _ _ x
      (selectors_stops (view.selectors_of t.more.items) (at_node t.name.node (rules.name_rules f) (of_value n (parts.denotation s f))) x
      h))

  pub desig_fine : (n : ℕ) (wanted : rules.Use) (t : dd.Desig) (f : Found) (m : ℕ) (v : Option parts.Denotation)
      → f ≡ found s (view.view_name t.name)
      → at_node t.name.node (rules.name_rules f) (of_value n (parts.denotation s f)) ≡ of_value m v
      → judge_desig s n wanted (view.view_desig t)
      ≡ at_node t.node (rules.desig_rules s wanted (nodes.is_selected (view.selectors_of t.more.items)) f)
      (judge_selectors s (of_value m v) (view.selectors_of t.more.items))
  desig_fine n wanted t f m v is h =
      desig_whole n wanted t f is
      ∙ ap (λ d. at_node t.node (rules.desig_rules s wanted (nodes.is_selected (view.selectors_of t.more.items)) f)
      (judge_selectors s d (view.selectors_of t.more.items))) h
