-- A phrase that has a value breaks no rule: where a rule is broken in a statement or an expression, it is Bad.
use Rattle.std.proofs.Common.{◌≡◌, ℕ, List, [], ◌∷◌, ◌++◌, Bool, Option, None, Some, refl}
use Rattle.std.specs.Prelude.{true, false, option_map, option_and_then, pos, nat_eq, length}
use Rattle.alma_base.specs.Choice.{if_true}
use Rattle.alma_base.specs.declared.fault.CheckFault.{CheckFault}
use Rattle.alma_tree.specs.declared.leaf.Sign.{Sign}
use Rattle.alma_ir.specs.Tree as ir
use Rattle.alma_rules.specs.Numbered as tree
use Rattle.alma_rules.specs.Judgement.{Judgement, BrokenRule, at_node, broken_at, unless, both_of, both, with, fine}
use Rattle.alma_rules.specs.Scene.{Scene, FormalOf, found, in_constant, inside_of, literal_at, row_at}
use Rattle.alma_rules.specs.Parts.{Typing, Denotation, denotation, a_constant, a_variable, a_routine, no_array, Operands, Span, select_in}
use Rattle.alma_rules.specs.Parts.{select_index, located_in, write_stmts, one_stmt}
use Rattle.alma_rules.specs.ExprRules.{as_variable, as_value, as_procedure, Use, Operand, array_rules}
use Rattle.alma_rules.specs.StmtRules.{write_rules}
use Rattle.alma_rules.specs.Nodes.{condition_at, read_at, first_add, first_mul, index_at, in_parens, as_sequence, or_sequence, only_of}
use Rattle.alma_rules.specs.Nodes.{sum_at, product_at, loop_variable, text_item, item_of, item_literal, text_rules}
use Rattle.alma_rules.specs.Walk.{judge_stmts, judge_stmt_tail, judge_stmt, judge_elsifs, judge_else, judge_by, judge_arm, judge_arm_tail}
use Rattle.alma_rules.specs.Walk.{judge_label, judge_high, judge_labels, judge_case_else, judge_orelses, judge_returned, judge_reads}
use Rattle.alma_rules.specs.Walk.{judge_items, judge_item_tail, judge_line_items, judge_expr, judge_compared, judge_simple, judge_terms}
use Rattle.alma_rules.specs.Walk.{judge_term, judge_factors, judge_factor, judge_primary, judge_only, judge_value, judge_arguments}
use Rattle.alma_rules.specs.Walk.{judge_argument_tail, judge_desig, judge_selectors, judge_selector, judge_indices, judge_index_tail}

-- there is a value
abbrev pub IsThere : {A : Type 0} → Option A → Type 0
IsThere None = ⊥
IsThere (Some x) = Unit {0}

-- where there is a value no rule is broken
unfoldable pub Whole : {A : Type 0} → List BrokenRule → Option A → Type 0
Whole a v = IsThere v → a ≡ []

pub whole_gives : {A : Type 0} (a : List BrokenRule) (v : Option A) → Whole a v → IsThere v → a ≡ []
unfolding Whole
whole_gives a v p t = p t

whole_fine : {A : Type 0} (v : Option A) → Whole [] v
unfolding Whole
whole_fine v t = refl

whole_map : {A B : Type 0} (a : List BrokenRule) (f : A → B) (v : Option A) → Whole a v → Whole a (option_map f v)
unfolding Whole
whole_map a f None p t = absurd t
whole_map a f (Some x) p t = p tt

whole_some : {A B : Type 0} (a : List BrokenRule) (f : A → Option B) (v : Option A) → Whole a v → Whole a (option_and_then f v)
unfolding Whole
whole_some a f None p t = absurd t
whole_some a f (Some x) p t = p tt

whole_both : {A B : Type 0} (a b : List BrokenRule) (v : Option A) (w : Option B) → Whole a v → Whole b w → Whole (a ++ b) (both_of v w)
unfolding Whole
whole_both a b (Some x) (Some y) p q t = rw (p tt, q tt) refl
whole_both a b (Some x) None p q t = absurd t
whole_both a b None w p q t = absurd t

whole_node : {A : Type 0} (n : ℕ) (a : List BrokenRule) (fs : List CheckFault) (v : Option A) → Whole a v
    → Whole (a ++ broken_at n fs) (unless fs v)
unfolding Whole
whole_node n a [] v p t = rw (p t) refl
whole_node n a (f ∷ fs) v p t = absurd t

-- ---- designators

-- a value that is no index on another type than an array
abbrev pub IsPlace : Option Denotation → Type 0
IsPlace None = ⊥
IsPlace (Some (a_constant shape v)) = Unit {0}
IsPlace (Some (a_variable l)) = Unit {0}
IsPlace (Some (a_routine number up heading)) = Unit {0}
IsPlace (Some no_array) = ⊥

unfoldable pub Placed : List BrokenRule → Option Denotation → Type 0
Placed a v = IsPlace v → a ≡ []

place_there : (v : Option Denotation) → IsPlace v → IsThere v
place_there None p = p
place_there (Some (a_constant shape v)) p = tt
place_there (Some (a_variable l)) p = tt
place_there (Some (a_routine number up heading)) p = tt
place_there (Some no_array) p = absurd p

placed : (a : List BrokenRule) (v : Option Denotation) → Whole a v → Placed a v
unfolding Whole Placed
placed a v p t = p (place_there v t)

array_whole : (k : ℕ) (a : List BrokenRule) (v : Option Denotation) → Placed a v
    → Whole (a ++ broken_at k (array_rules v)) (unless (array_rules v) v)
unfolding Whole Placed
array_whole k a None p t = absurd t
array_whole k a (Some (a_constant shape v)) p t = rw (p tt) refl
array_whole k a (Some (a_variable l)) p t = rw (p tt) refl
array_whole k a (Some (a_routine number up heading)) p t = rw (p tt) refl
array_whole k a (Some no_array) p t = absurd t

index_placed : (s : Scene) (a b : List BrokenRule) (v : Option Denotation) (i : Option Typing) → Placed a v → Whole b i
    → Placed (a ++ b) (select_index s v i)
unfolding Whole Placed
index_placed s a b None i p q t = absurd t
index_placed s a b (Some (a_constant shape v)) None p q t = absurd t
index_placed s a b (Some (a_constant shape v)) (Some x) p q t = rw (p tt, q tt) refl
index_placed s a b (Some (a_routine number up heading)) None p q t = absurd t
index_placed s a b (Some (a_routine number up heading)) (Some x) p q t = rw (p tt, q tt) refl
index_placed s a b (Some no_array) i p q t = absurd t
index_placed s a b (Some (a_variable l)) i p q t = go (row_at s l.shape) i q t
  where
    go : (r : Option (ℕ × ℕ)) (j : Option Typing) → (IsThere j → b ≡ []) → IsPlace (select_in s l r j) → a ++ b ≡ []
    go None j q t = absurd t
    go (Some r) None q t = absurd t
    go (Some r) (Some x) q t = rw (p tt, q tt) refl

-- ---- nodes

sum_whole : (s : Scene) (k : ℕ) (sign : Option Sign) (rest : tree.TermTail) (j : Judgement (Typing × Operands)) → Whole j.faults j.value
    → Whole (sum_at s k sign rest j).faults (sum_at s k sign rest j).value
sum_whole s k None tree.no_term j p = whole_map _ _ _ p
sum_whole s k None (tree.more_term o t rest) j p = whole_map _ _ _ (whole_node k _ _ _ p)
sum_whole s k (Some sign) tree.no_term j p = whole_map _ _ _ (whole_node k _ _ _ p)
sum_whole s k (Some sign) (tree.more_term o t rest) j p = whole_map _ _ _ (whole_node k _ _ _ p)

product_whole : (s : Scene) (o : Operand) (k : ℕ) (rest : tree.FactorTail) (j : Judgement (Typing × Operands)) → Whole j.faults j.value
    → Whole (product_at s o k rest j).faults (product_at s o k rest j).value
product_whole s o k tree.no_factor j p = whole_node k _ _ _ (whole_map _ _ _ p)
product_whole s o k (tree.more_factor q f rest) j p = whole_map _ _ _ (whole_node k _ _ _ p)

abbrev IfWhole : Option (Judgement Typing) → Type 0
IfWhole None = Unit {0}
IfWhole (Some j) = Whole j.faults j.value

only_whole : (rest : tree.StmtTail) (o : Option (Judgement Typing)) → IfWhole o → IfWhole (only_of rest o)
only_whole tree.no_stmt o p = p
only_whole (tree.more_stmt x rest) o p = tt

paren_whole : (s : Scene) (k : ℕ) (o : Option (Judgement Typing)) (j : Judgement ir.Stmts) → IfWhole o → Whole j.faults j.value
    → Whole (or_sequence o (in_parens s k) (λ u. as_sequence s k j)).faults (or_sequence o (in_parens s k) (λ u. as_sequence s k j)).value
paren_whole s k None j p q = whole_map _ _ _ (whole_node k _ _ _ q)
paren_whole s k (Some i) j p q = whole_map _ _ _ (whole_node k _ _ _ p)

text_whole : (s : Scene) (n j : ℕ) (text : List ℕ) (item : Judgement Typing) (node : ℕ) → Whole item.faults item.value
    → Whole (text_item s n j text item node).faults (text_item s n j text item node).value
text_whole s n j text item node p = go (nat_eq (length text) 1)
  where
    choice : Bool → Judgement ir.Stmts
    choice b = if_true b (λ _. with (write_stmts s) (at_node node (write_rules s) item))
        (λ _. at_node j (text_rules s) (fine n (one_stmt (ir.WriteText text))))

    go : (b : Bool) → Whole (choice b).faults (choice b).value
    go true = whole_map _ _ _ (whole_node node _ _ _ p)
    go false = whole_node j [] _ _ (whole_fine _)

item_whole : (s : Scene) (n node : ℕ) (l : Option (ℕ × ℕ)) (item : Judgement Typing) → Whole item.faults item.value
    → Whole (item_of s n node l item).faults (item_of s n node l item).value
item_whole s n node None item p = whole_map _ _ _ (whole_node node _ _ _ p)
item_whole s n node (Some l) item p = text_whole s n l.0 (literal_at s l.1) item node p

-- what is judged, but for the next free slot
abbrev judged_as : {A : Type 0} → List BrokenRule → Option A → Judgement A
judged_as a v = record { faults = a; next = 0; value = v }

condition_whole : (s : Scene) (e : tree.Expr) (a : List BrokenRule) (v : Option Typing) → Whole a v
    → Whole (condition_at s e (judged_as a v)).faults (condition_at s e (judged_as a v)).value
condition_whole s e a v p = whole_map _ _ _ (whole_node (tree.expr_node e) _ _ _ p)

read_whole : (s : Scene) (d : tree.Desig) (a : List BrokenRule) (v : Option Denotation) → Whole a v
    → Whole (read_at s d (judged_as a v)).faults (read_at s d (judged_as a v)).value
read_whole s d a v p = whole_map _ _ _ (whole_node (tree.desig_node d) _ _ _ (whole_some _ _ _ p))

loop_name_whole : (s : Scene) (n : ℕ) (name : tree.Name) → Whole (loop_variable s n name).faults (loop_variable s n name).value
loop_name_whole s n name = whole_node name.node [] _ _
    (whole_some [] located_in (denotation s (found s name)) (whole_fine (denotation s (found s name))))

-- ---- the walk

mutual
  unfolding judge_expr

  pub stmts_whole : (s : Scene) (n : ℕ) (x : tree.Stmts) → Whole (judge_stmts s n x).faults (judge_stmts s n x).value
  stmts_whole s n (tree.stmts k x rest) = whole_map _ _ _ (whole_both _ _ _ _ (stmt_whole s n x) (stmt_tail_whole s _ rest))

  stmt_tail_whole : (s : Scene) (n : ℕ) (x : tree.StmtTail) → Whole (judge_stmt_tail s n x).faults (judge_stmt_tail s n x).value
  stmt_tail_whole s n tree.no_stmt = whole_fine _
  stmt_tail_whole s n (tree.more_stmt x rest) = whole_map _ _ _ (whole_both _ _ _ _ (stmt_whole s n x) (stmt_tail_whole s _ rest))

  stmt_whole : (s : Scene) (n : ℕ) (x : tree.Stmt) → Whole (judge_stmt s n x).faults (judge_stmt s n x).value
  stmt_whole s n (tree.nothing k) = whole_fine _
  stmt_whole s n (tree.assign k d e) =
      whole_map _ _ _ (whole_node k _ _ _ (whole_both _ _ _ _ (whole_some _ _ _ (desig_whole s n as_variable d)) (expr_whole s _ e)))
  stmt_whole s n (tree.value k e) = whole_map _ _ _ (whole_map _ _ _ (condition_whole s e _ _ (expr_whole s n e)))
  stmt_whole s n (tree.if_stmt k e body elsifs other) =
      whole_map _ _ _ (whole_map _ _ _ (whole_both _ _ _ _ (condition_whole s e _ _ (expr_whole s n e))
      (whole_both _ _ _ _ (stmts_whole s _ body) (whole_both _ _ _ _ (elsifs_whole s _ elsifs) (else_whole s _ other)))))
  stmt_whole s n (tree.while_stmt k e body) =
      whole_map _ _ _ (whole_map _ _ _ (whole_both _ _ _ _ (condition_whole s e _ _ (expr_whole s n e)) (stmts_whole s _ body)))
  stmt_whole s n (tree.repeat_stmt k body e) =
      whole_map _ _ _ (whole_map _ _ _ (whole_both _ _ _ _ (stmts_whole s n body) (condition_whole s e _ _ (expr_whole s _ e))))
  stmt_whole s n (tree.for_stmt k name low high by body) =
      whole_map _ _ _ (whole_map _ _ _ (whole_map _ _ _
      (whole_node k _ _ _ (whole_both _ _ _ _ (loop_name_whole s n name) (whole_both _ _ _ _ (expr_whole s _ low)
      (whole_both _ _ _ _ (expr_whole s _ high) (whole_both _ _ _ _ (by_whole s _ by) (stmts_whole s _ body))))))))
  stmt_whole s n (tree.some_stmt k name low high body) =
      whole_map _ _ _ (whole_map _ _ _ (whole_map _ _ _
      (whole_node k _ _ _ (whole_both _ _ _ _ (loop_name_whole s n name) (whole_both _ _ _ _ (expr_whole s _ low)
      (whole_both _ _ _ _ (expr_whole s _ high) (whole_both _ _ _ _ (whole_fine (Some (pos 1))) (stmts_whole s _ body))))))))
  stmt_whole s n (tree.case_stmt k e first rest other) =
      whole_map _ _ _ (whole_map _ _ _ (whole_node k _ _ _ (whole_both _ _ _ _ (expr_whole s n e) (whole_both _ _ _ _
      (whole_map _ _ _ (whole_both _ _ _ _ (arm_whole s _ _ [] first) (arm_tail_whole s _ _ _ rest))) (case_else_whole s _ other)))))
  stmt_whole s n (tree.either_stmt k body rest) =
      whole_map _ _ _ (whole_map _ _ _ (whole_both _ _ _ _ (stmts_whole s n body) (orelses_whole s _ rest)))
  stmt_whole s n (tree.forall_stmt k choice body) =
      whole_map _ _ _ (whole_map _ _ _ (whole_both _ _ _ _ (stmts_whole (inside_of s) n choice) (stmts_whole (inside_of s) _ body)))
  stmt_whole s n (tree.commit_stmt k body) = whole_map _ _ _ (whole_map _ _ _ (stmts_whole (inside_of s) n body))
  stmt_whole s n (tree.return_stmt k e) = whole_map _ _ _ (returned_whole s n k e)
  stmt_whole s n (tree.read_stmt k d rest) =
      whole_map _ _ _ (whole_both _ _ _ _ (read_whole s d _ _ (desig_whole s n as_variable d)) (reads_whole s _ rest))
  stmt_whole s n (tree.write_stmt k items) = items_whole s n items
  stmt_whole s n (tree.writeln_stmt k items) = whole_map _ _ _ (line_items_whole s n items)

  elsifs_whole : (s : Scene) (n : ℕ) (x : tree.ElsifTail) → Whole (judge_elsifs s n x).faults (judge_elsifs s n x).value
  elsifs_whole s n tree.no_elsif = whole_fine _
  elsifs_whole s n (tree.more_elsif e body rest) =
      whole_map _ _ _ (whole_both _ _ _ _ (condition_whole s e _ _ (expr_whole s n e))
      (whole_both _ _ _ _ (stmts_whole s _ body) (elsifs_whole s _ rest)))

  else_whole : (s : Scene) (n : ℕ) (x : tree.Else) → Whole (judge_else s n x).faults (judge_else s n x).value
  else_whole s n tree.no_else = whole_fine _
  else_whole s n (tree.else_stmts body) = stmts_whole s n body

  by_whole : (s : Scene) (n : ℕ) (x : tree.By) → Whole (judge_by s n x).faults (judge_by s n x).value
  by_whole s n tree.no_by = whole_fine _
  by_whole s n (tree.by_expr e) = whole_some _ _ _ (whole_node (tree.expr_node e) _ _ _ (expr_whole (in_constant s) n e))

  arm_whole : (s : Scene) (n : ℕ) (case : Option Typing) (earlier : List Span) (x : tree.Arm)
      → Whole (judge_arm s n case earlier x).arm.faults (judge_arm s n case earlier x).arm.value
  arm_whole s n case earlier (tree.empty_arm k) = whole_fine _
  arm_whole s n case earlier (tree.arm k first rest body) =
      whole_map _ _ _ (whole_both _ _ _ _ (whole_map _ _ _
      (whole_both _ _ _ _ (label_whole s n case earlier first) (labels_whole s _ case _ rest))) (stmts_whole s _ body))

  arm_tail_whole : (s : Scene) (n : ℕ) (case : Option Typing) (earlier : List Span) (x : tree.ArmTail)
      → Whole (judge_arm_tail s n case earlier x).faults (judge_arm_tail s n case earlier x).value
  arm_tail_whole s n case earlier tree.no_arm = whole_fine _
  arm_tail_whole s n case earlier (tree.more_arm x rest) =
      whole_map _ _ _ (whole_both _ _ _ _ (arm_whole s n case earlier x) (arm_tail_whole s _ case _ rest))

  label_whole : (s : Scene) (n : ℕ) (case : Option Typing) (earlier : List Span) (x : tree.Label)
      → Whole (judge_label s n case earlier x).faults (judge_label s n case earlier x).value
  label_whole s n case earlier (tree.label k low high) =
      whole_some _ _ _ (whole_node k _ _ _ (whole_both _ _ _ _ (expr_whole (in_constant s) n low) (high_whole (in_constant s) _ _ high)))

  high_whole : (s : Scene) (n : ℕ) (low : Option Typing) (x : tree.High) → Whole (judge_high s n low x).faults (judge_high s n low x).value
  high_whole s n low tree.no_high = whole_fine low
  high_whole s n low (tree.high_expr e) = expr_whole s n e

  labels_whole : (s : Scene) (n : ℕ) (case : Option Typing) (earlier : List Span) (x : tree.LabelTail)
      → Whole (judge_labels s n case earlier x).faults (judge_labels s n case earlier x).value
  labels_whole s n case earlier tree.no_label = whole_fine _
  labels_whole s n case earlier (tree.more_label x rest) =
      whole_map _ _ _ (whole_both _ _ _ _ (label_whole s n case earlier x) (labels_whole s _ case _ rest))

  case_else_whole : (s : Scene) (n : ℕ) (x : tree.Else) → Whole (judge_case_else s n x).faults (judge_case_else s n x).value
  case_else_whole s n tree.no_else = whole_fine _
  case_else_whole s n (tree.else_stmts body) = whole_map _ _ _ (stmts_whole s n body)

  orelses_whole : (s : Scene) (n : ℕ) (x : tree.OrelseTail) → Whole (judge_orelses s n x).faults (judge_orelses s n x).value
  orelses_whole s n tree.no_orelse = whole_fine _
  orelses_whole s n (tree.more_orelse body rest) = whole_map _ _ _ (whole_both _ _ _ _ (stmts_whole s n body) (orelses_whole s _ rest))

  returned_whole : (s : Scene) (n k : ℕ) (x : tree.Returned) → Whole (judge_returned s n k x).faults (judge_returned s n k x).value
  returned_whole s n k tree.no_value = whole_map _ _ _ (whole_node k [] _ _ (whole_fine _))
  returned_whole s n k (tree.returned e) = whole_map _ _ _ (whole_node k _ _ _ (expr_whole s n e))

  reads_whole : (s : Scene) (n : ℕ) (x : tree.DesigTail) → Whole (judge_reads s n x).faults (judge_reads s n x).value
  reads_whole s n tree.no_desig = whole_fine _
  reads_whole s n (tree.more_desig d rest) =
      whole_map _ _ _ (whole_both _ _ _ _ (read_whole s d _ _ (desig_whole s n as_variable d)) (reads_whole s _ rest))

  items_whole : (s : Scene) (n : ℕ) (x : tree.Exprs) → Whole (judge_items s n x).faults (judge_items s n x).value
  items_whole s n (tree.exprs e rest) =
      whole_map _ _ _ (whole_both _ _ _ _ (item_whole s n (tree.expr_node e) (item_literal e) (judge_expr s n e) (expr_whole s n e))
      (item_tail_whole s _ rest))

  item_tail_whole : (s : Scene) (n : ℕ) (x : tree.ExprTail) → Whole (judge_item_tail s n x).faults (judge_item_tail s n x).value
  item_tail_whole s n tree.no_expr = whole_fine _
  item_tail_whole s n (tree.more_expr e rest) =
      whole_map _ _ _ (whole_both _ _ _ _ (item_whole s n (tree.expr_node e) (item_literal e) (judge_expr s n e) (expr_whole s n e))
      (item_tail_whole s _ rest))

  line_items_whole : (s : Scene) (n : ℕ) (x : tree.Args) → Whole (judge_line_items s n x).faults (judge_line_items s n x).value
  line_items_whole s n tree.no_args = whole_fine _
  line_items_whole s n tree.empty_args = whole_fine _
  line_items_whole s n (tree.args items) = items_whole s n items

  pub expr_whole : (s : Scene) (n : ℕ) (e : tree.Expr) → Whole (judge_expr s n e).faults (judge_expr s n e).value
  expr_whole s n (tree.expr k left right) = compared_whole s k (judge_simple s n left) right (simple_whole s n left)

  compared_whole : (s : Scene) (k : ℕ) (j : Judgement Typing) (c : tree.Compared) → Whole j.faults j.value
      → Whole (judge_compared s k j c).faults (judge_compared s k j c).value
  compared_whole s k j tree.no_relation p = p
  compared_whole s k j (tree.compared r right) p = whole_map _ _ _ (whole_node k _ _ _ (whole_both _ _ _ _ p (simple_whole s j.next right)))

  simple_whole : (s : Scene) (n : ℕ) (e : tree.Simple) → Whole (judge_simple s n e).faults (judge_simple s n e).value
  simple_whole s n (tree.simple k sign first rest) =
      sum_whole s k sign rest (both (judge_term s n (first_add sign rest) first)
      (judge_terms s (judge_term s n (first_add sign rest) first).next (first_add sign rest).sort rest))
      (whole_both _ _ _ _ (term_whole s n _ first) (terms_whole s _ _ rest))

  terms_whole : (s : Scene) (n : ℕ) (sort : Bool) (x : tree.TermTail) → Whole (judge_terms s n sort x).faults (judge_terms s n sort x).value
  terms_whole s n sort tree.no_term = whole_fine _
  terms_whole s n sort (tree.more_term o t rest) = whole_map _ _ _ (whole_both _ _ _ _ (term_whole s n _ t) (terms_whole s _ sort rest))

  term_whole : (s : Scene) (n : ℕ) (o : Operand) (x : tree.Term) → Whole (judge_term s n o x).faults (judge_term s n o x).value
  term_whole s n o (tree.term k first rest) =
      product_whole s o k rest (both (judge_factor s n (first_mul rest) first)
      (judge_factors s (judge_factor s n (first_mul rest) first).next (first_mul rest).sort rest))
      (whole_both _ _ _ _ (factor_whole s n _ first) (factors_whole s _ _ rest))

  factors_whole : (s : Scene) (n : ℕ) (sort : Bool) (x : tree.FactorTail)
      → Whole (judge_factors s n sort x).faults (judge_factors s n sort x).value
  factors_whole s n sort tree.no_factor = whole_fine _
  factors_whole s n sort (tree.more_factor o f rest) =
      whole_map _ _ _ (whole_both _ _ _ _ (factor_whole s n _ f) (factors_whole s _ sort rest))

  factor_whole : (s : Scene) (n : ℕ) (o : Operand) (x : tree.Factor) → Whole (judge_factor s n o x).faults (judge_factor s n o x).value
  factor_whole s n o (tree.not_factor k p) =
      whole_node k _ _ _ (whole_map _ _ _ (whole_node (tree.primary_node p) _ _ _ (primary_whole (inside_of s) n p)))
  factor_whole s n o (tree.factor k p) = whole_node k _ _ _ (primary_whole s n p)

  primary_whole : (s : Scene) (n : ℕ) (x : tree.Primary) → Whole (judge_primary s n x).faults (judge_primary s n x).value
  primary_whole s n (tree.number k t) = whole_fine _
  primary_whole s n (tree.literal k t) = whole_node k [] _ _ (whole_fine _)
  primary_whole s n (tree.named k d tree.no_args) = whole_some _ _ _ (desig_whole s n as_value d)
  primary_whole s n (tree.named k d tree.empty_args) =
      whole_map _ _ _ (whole_node k _ _ _ (whole_both _ _ _ _ (whole_some _ _ _ (desig_whole s n as_procedure d))
      (whole_fine (Some ir.no_args))))
  primary_whole s n (tree.named k d (tree.args items)) =
      whole_map _ _ _ (whole_node k _ _ _ (whole_both _ _ _ _ (whole_some _ _ _ (desig_whole s n as_procedure d))
      (arguments_whole s _ _ items)))
  primary_whole s n (tree.paren k body) =
      paren_whole s k (judge_only s n body) (judge_stmts (inside_of s) n body) (only_is_whole s n body) (stmts_whole (inside_of s) n body)
  primary_whole s n (tree.known k d) = whole_map _ _ _ (whole_node k _ _ _ (whole_some _ _ _ (desig_whole s n as_variable d)))
  primary_whole s n (tree.ord k e) = whole_map _ _ _ (whole_node k _ _ _ (expr_whole s n e))
  primary_whole s n (tree.chr k e) = whole_map _ _ _ (whole_node k _ _ _ (expr_whole s n e))

  only_is_whole : (s : Scene) (n : ℕ) (x : tree.Stmts) → IfWhole (judge_only s n x)
  only_is_whole s n (tree.stmts k x rest) = only_whole rest (judge_value s n x) (value_is_whole s n x)

  value_is_whole : (s : Scene) (n : ℕ) (x : tree.Stmt) → IfWhole (judge_value s n x)
  value_is_whole s n (tree.value k e) = expr_whole s n e
  value_is_whole s n x = tt

  arguments_whole : (s : Scene) (n : ℕ) (formals : List FormalOf) (x : tree.Exprs)
      → Whole (judge_arguments s n formals x).faults (judge_arguments s n formals x).value
  arguments_whole s n formals (tree.exprs e rest) =
      whole_map _ _ _ (whole_both _ _ _ _ (whole_map _ _ _ (whole_node (tree.expr_node e) _ _ _ (expr_whole s n e)))
      (argument_tail_whole s _ _ rest))

  argument_tail_whole : (s : Scene) (n : ℕ) (formals : List FormalOf) (x : tree.ExprTail)
      → Whole (judge_argument_tail s n formals x).faults (judge_argument_tail s n formals x).value
  argument_tail_whole s n formals tree.no_expr = whole_fine _
  argument_tail_whole s n formals (tree.more_expr e rest) =
      whole_map _ _ _ (whole_both _ _ _ _ (whole_map _ _ _ (whole_node (tree.expr_node e) _ _ _ (expr_whole s n e)))
      (argument_tail_whole s _ _ rest))

  desig_whole : (s : Scene) (n : ℕ) (wanted : Use) (x : tree.Desig)
      → Whole (judge_desig s n wanted x).faults (judge_desig s n wanted x).value
  desig_whole s n wanted (tree.desig k name more) =
      whole_node k _ _ _ (selectors_whole s (Rattle.alma_rules.specs.Nodes.judge_name s n name) more
      (whole_node name.node [] _ _ (whole_fine _)))

  selectors_whole : (s : Scene) (d : Judgement Denotation) (x : tree.SelectorTail) → Whole d.faults d.value
      → Whole (judge_selectors s d x).faults (judge_selectors s d x).value
  selectors_whole s d tree.no_selector p = p
  selectors_whole s d (tree.more_selector x rest) p = selectors_whole s (judge_selector s d x) rest (selector_whole s d x p)

  selector_whole : (s : Scene) (d : Judgement Denotation) (x : tree.Selector) → Whole d.faults d.value
      → Whole (judge_selector s d x).faults (judge_selector s d x).value
  selector_whole s d (tree.field k name) p = whole_some _ _ _ (whole_node k _ _ _ p)
  selector_whole s d (tree.index k items) p = array_whole k _ _ (indices_placed s d items (placed _ _ p))

  indices_placed : (s : Scene) (d : Judgement Denotation) (x : tree.Exprs) → Placed d.faults d.value
      → Placed (judge_indices s d x).faults (judge_indices s d x).value
  indices_placed s d (tree.exprs e rest) p =
      index_tail_placed s (index_at s d (tree.expr_node e) (judge_expr s d.next e)) rest
      (index_placed s _ _ _ _ p (whole_node (tree.expr_node e) _ _ _ (expr_whole s d.next e)))

  index_tail_placed : (s : Scene) (d : Judgement Denotation) (x : tree.ExprTail) → Placed d.faults d.value
      → Placed (judge_index_tail s d x).faults (judge_index_tail s d x).value
  index_tail_placed s d tree.no_expr p = p
  index_tail_placed s d (tree.more_expr e rest) p =
      index_tail_placed s (index_at s d (tree.expr_node e) (judge_expr s d.next e)) rest
      (index_placed s _ _ _ _ p (whole_node (tree.expr_node e) _ _ _ (expr_whole s d.next e)))
