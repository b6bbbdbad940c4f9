-- The hidden slots of the loops of a phrase are at most two for each of its leaves, whatever is broken.
use Rattle.std.proofs.Common.{ℕ, ◌+◌, ◌*◌, ◌≤◌, Bool, true, false, List, [], length, Option, None, Some, arith}
use Rattle.std.specs.Prelude.{nat_eq}
use Rattle.alma_base.specs.Choice.{if_true}
use Rattle.alma_tree.specs.declared.leaf.Sign.{Sign}
use Rattle.alma_ir.specs.Tree as ir
use Rattle.alma_rules.specs.Numbered as tree
use Rattle.alma_rules.specs.Judgement.{Judgement, at_node, with, fine}
use Rattle.alma_rules.specs.Scene.{Scene, FormalOf, in_constant, inside_of, literal_at}
use Rattle.alma_rules.specs.Parts.{Typing, Denotation, Span, Operands, write_stmts, one_stmt}
use Rattle.alma_rules.specs.ExprRules.{Use, as_variable, as_value, as_procedure, Operand}
use Rattle.alma_rules.specs.StmtRules.{write_rules}
use Rattle.alma_rules.specs.Nodes.{judge_name, index_at, first_add, first_mul, operand_behind, sum_at, product_at, in_parens, as_sequence}
use Rattle.alma_rules.specs.Nodes.{or_sequence, only_of, item_of, item_literal, text_rules}
use Rattle.alma_rules.specs.Parts.{add_operator, mul_operator}
use Rattle.alma_rules.specs.Walk.{judge_stmts, judge_stmt_tail, judge_stmt, judge_elsifs, judge_else, judge_by, judge_arm, judge_arm_tail}
use Rattle.alma_rules.specs.Walk.{judge_label, judge_high, judge_labels, judge_case_else, judge_orelses, judge_returned, judge_reads}
use Rattle.alma_rules.specs.Walk.{judge_items, judge_item_tail, judge_line_items, judge_expr, judge_compared, judge_simple, judge_terms}
use Rattle.alma_rules.specs.Walk.{judge_term, judge_factors, judge_factor, judge_primary, judge_only, judge_value, judge_arguments}
use Rattle.alma_rules.specs.Walk.{judge_argument_tail, judge_desig, judge_selectors, judge_selector, judge_indices, judge_index_tail}
use Rattle.alma_resolved.proofs.Weights.{weigh_args, weigh_arm, weigh_arms, weigh_by, weigh_compared, weigh_desig, weigh_desigs, weigh_else}
use Rattle.alma_resolved.proofs.Weights.{weigh_elsifs, weigh_expr, weigh_expr_tail, weigh_exprs, weigh_factor, weigh_factors, weigh_high}
use Rattle.alma_resolved.proofs.Weights.{weigh_label, weigh_labels, weigh_orelses, weigh_primary, weigh_returned, weigh_selector}
use Rattle.alma_resolved.proofs.Weights.{weigh_selectors, weigh_simple, weigh_stmt, weigh_stmt_tail, weigh_stmts, weigh_term, weigh_terms}

-- each token weighs one
abbrev pub ones : ℕ → ℕ
ones t = 1

-- from one slot to another there are at most two for each of so many
pub record Takes (a w b : ℕ) : Type 0 where
  pub le : b ≤ a + 2 * w

takes_none : (a w : ℕ) → Takes a w a
takes_none a w = record { le = omega arith }

takes_same : (a : ℕ) → Takes a 0 a
takes_same a = takes_none a 0

takes_two : (a : ℕ) → Takes a 1 (a + 2)
takes_two a = record { le = omega arith }

takes_then : {a b c v w : ℕ} → Takes a v b → Takes b w c → Takes a (v + w) c
takes_then {a} {b} {c} {v} {w} p q = record { le = omega (arith, p.le, q.le) }

-- nothing is behind
takes_alone : {a b v : ℕ} → Takes a v b → Takes a (v + 0) b
takes_alone {a} {b} {v} p = record { le = omega (arith, p.le) }

sum_takes : (s : Scene) (k a w : ℕ) (sign : Option Sign) (rest : tree.TermTail) (j : Judgement (Typing × Operands)) → Takes a w j.next
    → Takes a w (sum_at s k sign rest j).next
sum_takes s k a w None tree.no_term j h = h
sum_takes s k a w None (tree.more_term o t rest) j h = h
sum_takes s k a w (Some g) tree.no_term j h = h
sum_takes s k a w (Some g) (tree.more_term o t rest) j h = h

product_takes : (s : Scene) (o : Operand) (k a w : ℕ) (rest : tree.FactorTail) (j : Judgement (Typing × Operands)) → Takes a w j.next
    → Takes a w (product_at s o k rest j).next
product_takes s o k a w tree.no_factor j h = h
product_takes s o k a w (tree.more_factor m f rest) j h = h

abbrev OnlyTakes : (n w : ℕ) → Option (Judgement Typing) → Type 0
OnlyTakes n w None = Unit {0}
OnlyTakes n w (Some j) = Takes n w j.next

paren_takes : (s : Scene) (n k w : ℕ) (o : Option (Judgement Typing)) (b : Judgement ir.Stmts) → OnlyTakes n w o → Takes n w b.next
    → Takes n w (or_sequence o (in_parens s k) (λ u. as_sequence s k b)).next
paren_takes s n k w None b h g = g
paren_takes s n k w (Some j) b h g = h

only_takes : (n w : ℕ) (rest : tree.StmtTail) (o : Option (Judgement Typing)) → OnlyTakes n w o
    → OnlyTakes n (w + weigh_stmt_tail ones rest) (only_of rest o)
unfolding weigh_stmts
only_takes n w tree.no_stmt None h = tt
only_takes n w tree.no_stmt (Some j) h = takes_alone h
only_takes n w (tree.more_stmt x rest) o h = tt

item_takes : (s : Scene) (n node w : ℕ) (o : Option (ℕ × ℕ)) (j : Judgement Typing) → Takes n w j.next
    → Takes n w (item_of s n node o j).next
item_takes s n node w None j h = h
item_takes s n node w (Some l) j h = by (nat_eq (length (literal_at s l.1)) 1)
  where
    by : (c : Bool) → Takes n w (if_true c (λ u. with (write_stmts s) (at_node node (write_rules s) j))
        (λ u. at_node l.0 (text_rules s) (fine n (one_stmt (ir.WriteText (literal_at s l.1)))))).next
    by true = h
    by false = takes_none n w

mutual
  unfolding judge_expr weigh_stmts

  pub stmts_takes : (s : Scene) (n : ℕ) (x : tree.Stmts) → Takes n (weigh_stmts ones x) (judge_stmts s n x).next
  stmts_takes s n (tree.stmts k x rest) = takes_then (stmt_takes s n x) (stmt_tail_takes s _ rest)

  stmt_tail_takes : (s : Scene) (n : ℕ) (x : tree.StmtTail) → Takes n (weigh_stmt_tail ones x) (judge_stmt_tail s n x).next
  stmt_tail_takes s n tree.no_stmt = takes_same n
  stmt_tail_takes s n (tree.more_stmt x rest) = takes_then (stmt_takes s n x) (stmt_tail_takes s _ rest)

  stmt_takes : (s : Scene) (n : ℕ) (x : tree.Stmt) → Takes n (weigh_stmt ones x) (judge_stmt s n x).next
  stmt_takes s n (tree.nothing k) = takes_same n
  stmt_takes s n (tree.assign k d e) = takes_then (desig_takes s n as_variable d) (expr_takes s _ e)
  stmt_takes s n (tree.value k e) = expr_takes s n e
  stmt_takes s n (tree.if_stmt k e body elsifs other) =
      takes_then (expr_takes s n e) (takes_then (stmts_takes s _ body) (takes_then (elsifs_takes s _ elsifs) (else_takes s _ other)))
  stmt_takes s n (tree.while_stmt k e body) = takes_then (expr_takes s n e) (stmts_takes s _ body)
  stmt_takes s n (tree.repeat_stmt k body e) = takes_then (stmts_takes s n body) (expr_takes s _ e)
  stmt_takes s n (tree.for_stmt k name low high by body) =
      takes_then (takes_two n) (takes_then (expr_takes s (n + 2) low)
      (takes_then (expr_takes s _ high) (takes_then (by_takes s _ by) (stmts_takes s _ body))))
  stmt_takes s n (tree.some_stmt k name low high body) =
      takes_then (takes_two n) (takes_then (expr_takes s (n + 2) low) (takes_then (expr_takes s _ high) (stmts_takes s _ body)))
  stmt_takes s n (tree.case_stmt k e first rest other) =
      takes_then (expr_takes s n e) (takes_then (arm_takes s _ _ [] first)
      (takes_then (arm_tail_takes s _ _ _ rest) (case_else_takes s _ other)))
  stmt_takes s n (tree.either_stmt k body rest) = takes_then (stmts_takes s n body) (orelses_takes s _ rest)
  stmt_takes s n (tree.forall_stmt k choice body) = takes_then (stmts_takes (inside_of s) n choice) (stmts_takes (inside_of s) _ body)
  stmt_takes s n (tree.commit_stmt k body) = stmts_takes (inside_of s) n body
  stmt_takes s n (tree.return_stmt k e) = returned_takes s n k e
  stmt_takes s n (tree.read_stmt k d rest) = takes_then (desig_takes s n as_variable d) (reads_takes s _ rest)
  stmt_takes s n (tree.write_stmt k items) = items_takes s n items
  stmt_takes s n (tree.writeln_stmt k items) = line_items_takes s n items

  elsifs_takes : (s : Scene) (n : ℕ) (x : tree.ElsifTail) → Takes n (weigh_elsifs ones x) (judge_elsifs s n x).next
  elsifs_takes s n tree.no_elsif = takes_same n
  elsifs_takes s n (tree.more_elsif e body rest) = takes_then (expr_takes s n e) (takes_then (stmts_takes s _ body) (elsifs_takes s _ rest))

  else_takes : (s : Scene) (n : ℕ) (x : tree.Else) → Takes n (weigh_else ones x) (judge_else s n x).next
  else_takes s n tree.no_else = takes_same n
  else_takes s n (tree.else_stmts body) = stmts_takes s n body

  by_takes : (s : Scene) (n : ℕ) (x : tree.By) → Takes n (weigh_by ones x) (judge_by s n x).next
  by_takes s n tree.no_by = takes_same n
  by_takes s n (tree.by_expr e) = expr_takes (in_constant s) n e

  arm_takes : (s : Scene) (n : ℕ) (case : Option Typing) (earlier : List Span) (x : tree.Arm)
      → Takes n (weigh_arm ones x) (judge_arm s n case earlier x).arm.next
  arm_takes s n case earlier (tree.empty_arm k) = takes_same n
  arm_takes s n case earlier (tree.arm k first rest body) =
      takes_then (label_takes s n case earlier first) (takes_then (labels_takes s _ case _ rest) (stmts_takes s _ body))

  arm_tail_takes : (s : Scene) (n : ℕ) (case : Option Typing) (earlier : List Span) (x : tree.ArmTail)
      → Takes n (weigh_arms ones x) (judge_arm_tail s n case earlier x).next
  arm_tail_takes s n case earlier tree.no_arm = takes_same n
  arm_tail_takes s n case earlier (tree.more_arm x rest) = takes_then (arm_takes s n case earlier x) (arm_tail_takes s _ case _ rest)

  label_takes : (s : Scene) (n : ℕ) (case : Option Typing) (earlier : List Span) (x : tree.Label)
      → Takes n (weigh_label ones x) (judge_label s n case earlier x).next
  label_takes s n case earlier (tree.label k low high) = takes_then (expr_takes (in_constant s) n low) (high_takes (in_constant s) _ _ high)

  high_takes : (s : Scene) (n : ℕ) (low : Option Typing) (x : tree.High) → Takes n (weigh_high ones x) (judge_high s n low x).next
  high_takes s n low tree.no_high = takes_same n
  high_takes s n low (tree.high_expr e) = expr_takes s n e

  labels_takes : (s : Scene) (n : ℕ) (case : Option Typing) (earlier : List Span) (x : tree.LabelTail)
      → Takes n (weigh_labels ones x) (judge_labels s n case earlier x).next
  labels_takes s n case earlier tree.no_label = takes_same n
  labels_takes s n case earlier (tree.more_label x rest) = takes_then (label_takes s n case earlier x) (labels_takes s _ case _ rest)

  case_else_takes : (s : Scene) (n : ℕ) (x : tree.Else) → Takes n (weigh_else ones x) (judge_case_else s n x).next
  case_else_takes s n tree.no_else = takes_same n
  case_else_takes s n (tree.else_stmts body) = stmts_takes s n body

  orelses_takes : (s : Scene) (n : ℕ) (x : tree.OrelseTail) → Takes n (weigh_orelses ones x) (judge_orelses s n x).next
  orelses_takes s n tree.no_orelse = takes_same n
  orelses_takes s n (tree.more_orelse body rest) = takes_then (stmts_takes s n body) (orelses_takes s _ rest)

  returned_takes : (s : Scene) (n k : ℕ) (x : tree.Returned) → Takes n (weigh_returned ones x) (judge_returned s n k x).next
  returned_takes s n k tree.no_value = takes_same n
  returned_takes s n k (tree.returned e) = expr_takes s n e

  reads_takes : (s : Scene) (n : ℕ) (x : tree.DesigTail) → Takes n (weigh_desigs ones x) (judge_reads s n x).next
  reads_takes s n tree.no_desig = takes_same n
  reads_takes s n (tree.more_desig d rest) = takes_then (desig_takes s n as_variable d) (reads_takes s _ rest)

  items_takes : (s : Scene) (n : ℕ) (x : tree.Exprs) → Takes n (weigh_exprs ones x) (judge_items s n x).next
  items_takes s n (tree.exprs e rest) = takes_then
      (item_takes s n (tree.expr_node e) (weigh_expr ones e) (item_literal e) (judge_expr s n e) (expr_takes s n e))
      (item_tail_takes s _ rest)

  item_tail_takes : (s : Scene) (n : ℕ) (x : tree.ExprTail) → Takes n (weigh_expr_tail ones x) (judge_item_tail s n x).next
  item_tail_takes s n tree.no_expr = takes_same n
  item_tail_takes s n (tree.more_expr e rest) =
      takes_then (item_takes s n (tree.expr_node e) (weigh_expr ones e) (item_literal e) (judge_expr s n e) (expr_takes s n e))
      (item_tail_takes s _ rest)

  line_items_takes : (s : Scene) (n : ℕ) (x : tree.Args) → Takes n (weigh_args ones x) (judge_line_items s n x).next
  line_items_takes s n tree.no_args = takes_same n
  line_items_takes s n tree.empty_args = takes_same n
  line_items_takes s n (tree.args items) = items_takes s n items

  expr_takes : (s : Scene) (n : ℕ) (x : tree.Expr) → Takes n (weigh_expr ones x) (judge_expr s n x).next
  expr_takes s n (tree.expr k left right) =
      compared_takes s n k (weigh_simple ones left) (judge_simple s n left) right (simple_takes s n left)

  compared_takes : (s : Scene) (n k w : ℕ) (left : Judgement Typing) (x : tree.Compared) → Takes n w left.next
      → Takes n (w + weigh_compared ones x) (judge_compared s k left x).next
  compared_takes s n k w left tree.no_relation h = takes_alone h
  compared_takes s n k w left (tree.compared r right) h = takes_then h (simple_takes s _ right)

  simple_takes : (s : Scene) (n : ℕ) (x : tree.Simple) → Takes n (weigh_simple ones x) (judge_simple s n x).next
  simple_takes s n (tree.simple k sign first rest) =
      sum_takes s k n (weigh_term ones first + weigh_terms ones rest) sign rest _
      (takes_then (term_takes s n (first_add sign rest) first) (terms_takes s _ (first_add sign rest).sort rest))

  terms_takes : (s : Scene) (n : ℕ) (sort : Bool) (x : tree.TermTail) → Takes n (weigh_terms ones x) (judge_terms s n sort x).next
  terms_takes s n sort tree.no_term = takes_same n
  terms_takes s n sort (tree.more_term o t rest) =
      takes_then (term_takes s n (operand_behind sort (add_operator o)) t) (terms_takes s _ sort rest)

  term_takes : (s : Scene) (n : ℕ) (o : Operand) (x : tree.Term) → Takes n (weigh_term ones x) (judge_term s n o x).next
  term_takes s n o (tree.term k first rest) =
      product_takes s o k n (weigh_factor ones first + weigh_factors ones rest) rest _
      (takes_then (factor_takes s n (first_mul rest) first) (factors_takes s _ (first_mul rest).sort rest))

  factors_takes : (s : Scene) (n : ℕ) (sort : Bool) (x : tree.FactorTail) → Takes n (weigh_factors ones x) (judge_factors s n sort x).next
  factors_takes s n sort tree.no_factor = takes_same n
  factors_takes s n sort (tree.more_factor o f rest) =
      takes_then (factor_takes s n (operand_behind sort (mul_operator o)) f) (factors_takes s _ sort rest)

  factor_takes : (s : Scene) (n : ℕ) (o : Operand) (x : tree.Factor) → Takes n (weigh_factor ones x) (judge_factor s n o x).next
  factor_takes s n o (tree.not_factor k p) = primary_takes (inside_of s) n p
  factor_takes s n o (tree.factor k p) = primary_takes s n p

  primary_takes : (s : Scene) (n : ℕ) (x : tree.Primary) → Takes n (weigh_primary ones x) (judge_primary s n x).next
  primary_takes s n (tree.number k t) = takes_same n
  primary_takes s n (tree.literal k t) = takes_none n 1
  primary_takes s n (tree.named k d tree.no_args) = takes_alone (desig_takes s n as_value d)
  primary_takes s n (tree.named k d tree.empty_args) = takes_alone (desig_takes s n as_procedure d)
  primary_takes s n (tree.named k d (tree.args items)) = takes_then (desig_takes s n as_procedure d) (arguments_takes s _ _ items)
  primary_takes s n (tree.paren k body) = paren_takes s n k (weigh_stmts ones body) (judge_only s n body) (judge_stmts (inside_of s) n body)
      (only_is s n body) (stmts_takes (inside_of s) n body)
  primary_takes s n (tree.known k d) = desig_takes s n as_variable d
  primary_takes s n (tree.ord k e) = expr_takes s n e
  primary_takes s n (tree.chr k e) = expr_takes s n e

  only_is : (s : Scene) (n : ℕ) (x : tree.Stmts) → OnlyTakes n (weigh_stmts ones x) (judge_only s n x)
  only_is s n (tree.stmts k x rest) = only_takes n (weigh_stmt ones x) rest (judge_value s n x) (value_is s n x)

  value_is : (s : Scene) (n : ℕ) (x : tree.Stmt) → OnlyTakes n (weigh_stmt ones x) (judge_value s n x)
  value_is s n (tree.value k e) = expr_takes s n e
  value_is s n x = tt

  arguments_takes : (s : Scene) (n : ℕ) (fs : List FormalOf) (x : tree.Exprs) → Takes n (weigh_exprs ones x) (judge_arguments s n fs x).next
  arguments_takes s n fs (tree.exprs e rest) = takes_then (expr_takes s n e) (argument_tail_takes s _ _ rest)

  argument_tail_takes : (s : Scene) (n : ℕ) (fs : List FormalOf) (x : tree.ExprTail)
      → Takes n (weigh_expr_tail ones x) (judge_argument_tail s n fs x).next
  argument_tail_takes s n fs tree.no_expr = takes_same n
  argument_tail_takes s n fs (tree.more_expr e rest) = takes_then (expr_takes s n e) (argument_tail_takes s _ _ rest)

  desig_takes : (s : Scene) (n : ℕ) (w : Use) (x : tree.Desig) → Takes n (weigh_desig ones x) (judge_desig s n w x).next
  desig_takes s n w (tree.desig k name more) = selectors_takes s (judge_name s n name) more

  selectors_takes : (s : Scene) (d : Judgement Denotation) (x : tree.SelectorTail)
      → Takes d.next (weigh_selectors ones x) (judge_selectors s d x).next
  selectors_takes s d tree.no_selector = takes_same d.next
  selectors_takes s d (tree.more_selector x rest) = takes_then (selector_takes s d x) (selectors_takes s (judge_selector s d x) rest)

  selector_takes : (s : Scene) (d : Judgement Denotation) (x : tree.Selector)
      → Takes d.next (weigh_selector ones x) (judge_selector s d x).next
  selector_takes s d (tree.field k name) = takes_same d.next
  selector_takes s d (tree.index k items) = indices_takes s d items

  indices_takes : (s : Scene) (d : Judgement Denotation) (x : tree.Exprs) → Takes d.next (weigh_exprs ones x) (judge_indices s d x).next
  indices_takes s d (tree.exprs e rest) = takes_then (expr_takes s d.next e)
      (index_tail_takes s (index_at s d (tree.expr_node e) (judge_expr s d.next e)) rest)

  index_tail_takes : (s : Scene) (d : Judgement Denotation) (x : tree.ExprTail)
      → Takes d.next (weigh_expr_tail ones x) (judge_index_tail s d x).next
  index_tail_takes s d tree.no_expr = takes_same d.next
  index_tail_takes s d (tree.more_expr e rest) =
      takes_then (expr_takes s d.next e) (index_tail_takes s (index_at s d (tree.expr_node e) (judge_expr s d.next e)) rest)
