-- The next free hidden slot behind a phrase is not before the one in front of it, whatever is broken.
use Rattle.std.proofs.Common.{ℕ, ◌+◌, ◌≤◌, Bool, true, false, List, [], length, Option, None, Some, arith}
use Rattle.std.specs.Prelude.{nat_eq}
use Rattle.alma_base.specs.Choice.{if_true}
use Rattle.alma_tree.specs.declared.leaf.Sign.{Sign}
use Rattle.alma_ir.specs.Tree as ir
use Rattle.alma_rules.specs.Numbered as tree
use Rattle.alma_rules.specs.Judgement.{Judgement, at_node, with, fine}
use Rattle.alma_rules.specs.Scene.{Scene, FormalOf, in_constant, inside_of, literal_at}
use Rattle.alma_rules.specs.Parts.{Typing, Denotation, Span, Operands, write_stmts, one_stmt}
use Rattle.alma_rules.specs.ExprRules.{Use, as_variable, as_value, as_procedure, Operand}
use Rattle.alma_rules.specs.StmtRules.{write_rules}
use Rattle.alma_rules.specs.Nodes.{judge_name, index_at, first_add, first_mul, operand_behind, sum_at, product_at, in_parens, as_sequence}
use Rattle.alma_rules.specs.Nodes.{or_sequence, only_of, item_of, item_literal, text_rules}
use Rattle.alma_rules.specs.Parts.{add_operator, mul_operator}
use Rattle.alma_rules.specs.Walk.{judge_stmts, judge_stmt_tail, judge_stmt, judge_elsifs, judge_else, judge_by, judge_arm, judge_arm_tail}
use Rattle.alma_rules.specs.Walk.{judge_label, judge_high, judge_labels, judge_case_else, judge_orelses, judge_returned, judge_reads}
use Rattle.alma_rules.specs.Walk.{judge_items, judge_item_tail, judge_line_items, judge_expr, judge_compared, judge_simple, judge_terms}
use Rattle.alma_rules.specs.Walk.{judge_term, judge_factors, judge_factor, judge_primary, judge_only, judge_value, judge_arguments}
use Rattle.alma_rules.specs.Walk.{judge_argument_tail, judge_desig, judge_selectors, judge_selector, judge_indices, judge_index_tail}

-- from one slot up to another
pub record Up (a b : ℕ) : Type 0 where
  pub le : a ≤ b

up_same : (a : ℕ) → Up a a
up_same a = record { le = omega arith }

up_two : (a : ℕ) → Up a (a + 2)
up_two a = record { le = omega arith }

up_then : {a b c : ℕ} → Up a b → Up b c → Up a c
up_then {a} {b} {c} p q = record { le = omega (arith, p.le, q.le) }

sum_up : (s : Scene) (k a : ℕ) (sign : Option Sign) (rest : tree.TermTail) (j : Judgement (Typing × Operands)) → Up a j.next
    → Up a (sum_at s k sign rest j).next
sum_up s k a None tree.no_term j h = h
sum_up s k a None (tree.more_term o t rest) j h = h
sum_up s k a (Some g) tree.no_term j h = h
sum_up s k a (Some g) (tree.more_term o t rest) j h = h

product_up : (s : Scene) (o : Operand) (k a : ℕ) (rest : tree.FactorTail) (j : Judgement (Typing × Operands)) → Up a j.next
    → Up a (product_at s o k rest j).next
product_up s o k a tree.no_factor j h = h
product_up s o k a (tree.more_factor m f rest) j h = h

abbrev OnlyUp : ℕ → Option (Judgement Typing) → Type 0
OnlyUp n None = Unit {0}
OnlyUp n (Some j) = Up n j.next

paren_up : (s : Scene) (n k : ℕ) (o : Option (Judgement Typing)) (b : Judgement ir.Stmts) → OnlyUp n o → Up n b.next
    → Up n (or_sequence o (in_parens s k) (λ u. as_sequence s k b)).next
paren_up s n k None b h g = g
paren_up s n k (Some j) b h g = h

only_up : (n : ℕ) (rest : tree.StmtTail) (o : Option (Judgement Typing)) → OnlyUp n o → OnlyUp n (only_of rest o)
only_up n tree.no_stmt None h = h
only_up n tree.no_stmt (Some j) h = h
only_up n (tree.more_stmt x rest) o h = tt

item_up : (s : Scene) (n node : ℕ) (o : Option (ℕ × ℕ)) (j : Judgement Typing) → Up n j.next → Up n (item_of s n node o j).next
item_up s n node None j h = h
item_up s n node (Some l) j h = by (nat_eq (length (literal_at s l.1)) 1)
  where
    by : (c : Bool) → Up n (if_true c (λ u. with (write_stmts s) (at_node node (write_rules s) j))
        (λ u. at_node l.0 (text_rules s) (fine n (one_stmt (ir.WriteText (literal_at s l.1)))))).next
    by true = h
    by false = up_same n

mutual
  unfolding judge_expr

  pub stmts_up : (s : Scene) (n : ℕ) (x : tree.Stmts) → Up n (judge_stmts s n x).next
  stmts_up s n (tree.stmts k x rest) = up_then (stmt_up s n x) (stmt_tail_up s _ rest)

  stmt_tail_up : (s : Scene) (n : ℕ) (x : tree.StmtTail) → Up n (judge_stmt_tail s n x).next
  stmt_tail_up s n tree.no_stmt = up_same n
  stmt_tail_up s n (tree.more_stmt x rest) = up_then (stmt_up s n x) (stmt_tail_up s _ rest)

  stmt_up : (s : Scene) (n : ℕ) (x : tree.Stmt) → Up n (judge_stmt s n x).next
  stmt_up s n (tree.nothing k) = up_same n
  stmt_up s n (tree.assign k d e) = up_then (desig_up s n as_variable d) (expr_up s _ e)
  stmt_up s n (tree.value k e) = expr_up s n e
  stmt_up s n (tree.if_stmt k e body elsifs other) =
      up_then (expr_up s n e) (up_then (stmts_up s _ body) (up_then (elsifs_up s _ elsifs) (else_up s _ other)))
  stmt_up s n (tree.while_stmt k e body) = up_then (expr_up s n e) (stmts_up s _ body)
  stmt_up s n (tree.repeat_stmt k body e) = up_then (stmts_up s n body) (expr_up s _ e)
  stmt_up s n (tree.for_stmt k name low high by body) =
      up_then (up_two n) (up_then (expr_up s (n + 2) low) (up_then (expr_up s _ high) (up_then (by_up s _ by) (stmts_up s _ body))))
  stmt_up s n (tree.some_stmt k name low high body) =
      up_then (up_two n) (up_then (expr_up s (n + 2) low) (up_then (expr_up s _ high) (stmts_up s _ body)))
  stmt_up s n (tree.case_stmt k e first rest other) =
      up_then (expr_up s n e) (up_then (arm_up s _ _ [] first) (up_then (arm_tail_up s _ _ _ rest) (case_else_up s _ other)))
  stmt_up s n (tree.either_stmt k body rest) = up_then (stmts_up s n body) (orelses_up s _ rest)
  stmt_up s n (tree.forall_stmt k choice body) = up_then (stmts_up (inside_of s) n choice) (stmts_up (inside_of s) _ body)
  stmt_up s n (tree.commit_stmt k body) = stmts_up (inside_of s) n body
  stmt_up s n (tree.return_stmt k e) = returned_up s n k e
  stmt_up s n (tree.read_stmt k d rest) = up_then (desig_up s n as_variable d) (reads_up s _ rest)
  stmt_up s n (tree.write_stmt k items) = items_up s n items
  stmt_up s n (tree.writeln_stmt k items) = line_items_up s n items

  elsifs_up : (s : Scene) (n : ℕ) (x : tree.ElsifTail) → Up n (judge_elsifs s n x).next
  elsifs_up s n tree.no_elsif = up_same n
  elsifs_up s n (tree.more_elsif e body rest) = up_then (expr_up s n e) (up_then (stmts_up s _ body) (elsifs_up s _ rest))

  else_up : (s : Scene) (n : ℕ) (x : tree.Else) → Up n (judge_else s n x).next
  else_up s n tree.no_else = up_same n
  else_up s n (tree.else_stmts body) = stmts_up s n body

  by_up : (s : Scene) (n : ℕ) (x : tree.By) → Up n (judge_by s n x).next
  by_up s n tree.no_by = up_same n
  by_up s n (tree.by_expr e) = expr_up (in_constant s) n e

  arm_up : (s : Scene) (n : ℕ) (case : Option Typing) (earlier : List Span) (x : tree.Arm) → Up n (judge_arm s n case earlier x).arm.next
  arm_up s n case earlier (tree.empty_arm k) = up_same n
  arm_up s n case earlier (tree.arm k first rest body) =
      up_then (label_up s n case earlier first) (up_then (labels_up s _ case _ rest) (stmts_up s _ body))

  arm_tail_up : (s : Scene) (n : ℕ) (case : Option Typing) (earlier : List Span) (x : tree.ArmTail)
      → Up n (judge_arm_tail s n case earlier x).next
  arm_tail_up s n case earlier tree.no_arm = up_same n
  arm_tail_up s n case earlier (tree.more_arm x rest) = up_then (arm_up s n case earlier x) (arm_tail_up s _ case _ rest)

  label_up : (s : Scene) (n : ℕ) (case : Option Typing) (earlier : List Span) (x : tree.Label) → Up n (judge_label s n case earlier x).next
  label_up s n case earlier (tree.label k low high) = up_then (expr_up (in_constant s) n low) (high_up (in_constant s) _ _ high)

  high_up : (s : Scene) (n : ℕ) (low : Option Typing) (x : tree.High) → Up n (judge_high s n low x).next
  high_up s n low tree.no_high = up_same n
  high_up s n low (tree.high_expr e) = expr_up s n e

  labels_up : (s : Scene) (n : ℕ) (case : Option Typing) (earlier : List Span) (x : tree.LabelTail)
      → Up n (judge_labels s n case earlier x).next
  labels_up s n case earlier tree.no_label = up_same n
  labels_up s n case earlier (tree.more_label x rest) = up_then (label_up s n case earlier x) (labels_up s _ case _ rest)

  case_else_up : (s : Scene) (n : ℕ) (x : tree.Else) → Up n (judge_case_else s n x).next
  case_else_up s n tree.no_else = up_same n
  case_else_up s n (tree.else_stmts body) = stmts_up s n body

  orelses_up : (s : Scene) (n : ℕ) (x : tree.OrelseTail) → Up n (judge_orelses s n x).next
  orelses_up s n tree.no_orelse = up_same n
  orelses_up s n (tree.more_orelse body rest) = up_then (stmts_up s n body) (orelses_up s _ rest)

  returned_up : (s : Scene) (n k : ℕ) (x : tree.Returned) → Up n (judge_returned s n k x).next
  returned_up s n k tree.no_value = up_same n
  returned_up s n k (tree.returned e) = expr_up s n e

  reads_up : (s : Scene) (n : ℕ) (x : tree.DesigTail) → Up n (judge_reads s n x).next
  reads_up s n tree.no_desig = up_same n
  reads_up s n (tree.more_desig d rest) = up_then (desig_up s n as_variable d) (reads_up s _ rest)

  items_up : (s : Scene) (n : ℕ) (x : tree.Exprs) → Up n (judge_items s n x).next
  items_up s n (tree.exprs e rest) = up_then (item_up s n (tree.expr_node e) (item_literal e) (judge_expr s n e) (expr_up s n e))
      (item_tail_up s _ rest)

  item_tail_up : (s : Scene) (n : ℕ) (x : tree.ExprTail) → Up n (judge_item_tail s n x).next
  item_tail_up s n tree.no_expr = up_same n
  item_tail_up s n (tree.more_expr e rest) =
      up_then (item_up s n (tree.expr_node e) (item_literal e) (judge_expr s n e) (expr_up s n e)) (item_tail_up s _ rest)

  line_items_up : (s : Scene) (n : ℕ) (x : tree.Args) → Up n (judge_line_items s n x).next
  line_items_up s n tree.no_args = up_same n
  line_items_up s n tree.empty_args = up_same n
  line_items_up s n (tree.args items) = items_up s n items

  expr_up : (s : Scene) (n : ℕ) (x : tree.Expr) → Up n (judge_expr s n x).next
  expr_up s n (tree.expr k left right) = compared_up s n k (judge_simple s n left) right (simple_up s n left)

  compared_up : (s : Scene) (n k : ℕ) (left : Judgement Typing) (x : tree.Compared) → Up n left.next → Up n (judge_compared s k left x).next
  compared_up s n k left tree.no_relation h = h
  compared_up s n k left (tree.compared r right) h = up_then h (simple_up s _ right)

  simple_up : (s : Scene) (n : ℕ) (x : tree.Simple) → Up n (judge_simple s n x).next
  simple_up s n (tree.simple k sign first rest) =
      sum_up s k n sign rest _ (up_then (term_up s n (first_add sign rest) first) (terms_up s _ (first_add sign rest).sort rest))

  terms_up : (s : Scene) (n : ℕ) (sort : Bool) (x : tree.TermTail) → Up n (judge_terms s n sort x).next
  terms_up s n sort tree.no_term = up_same n
  terms_up s n sort (tree.more_term o t rest) = up_then (term_up s n (operand_behind sort (add_operator o)) t) (terms_up s _ sort rest)

  term_up : (s : Scene) (n : ℕ) (o : Operand) (x : tree.Term) → Up n (judge_term s n o x).next
  term_up s n o (tree.term k first rest) =
      product_up s o k n rest _ (up_then (factor_up s n (first_mul rest) first) (factors_up s _ (first_mul rest).sort rest))

  factors_up : (s : Scene) (n : ℕ) (sort : Bool) (x : tree.FactorTail) → Up n (judge_factors s n sort x).next
  factors_up s n sort tree.no_factor = up_same n
  factors_up s n sort (tree.more_factor o f rest) =
      up_then (factor_up s n (operand_behind sort (mul_operator o)) f) (factors_up s _ sort rest)

  factor_up : (s : Scene) (n : ℕ) (o : Operand) (x : tree.Factor) → Up n (judge_factor s n o x).next
  factor_up s n o (tree.not_factor k p) = primary_up (inside_of s) n p
  factor_up s n o (tree.factor k p) = primary_up s n p

  primary_up : (s : Scene) (n : ℕ) (x : tree.Primary) → Up n (judge_primary s n x).next
  primary_up s n (tree.number k t) = up_same n
  primary_up s n (tree.literal k t) = up_same n
  primary_up s n (tree.named k d tree.no_args) = desig_up s n as_value d
  primary_up s n (tree.named k d tree.empty_args) = desig_up s n as_procedure d
  primary_up s n (tree.named k d (tree.args items)) = up_then (desig_up s n as_procedure d) (arguments_up s _ _ items)
  primary_up s n (tree.paren k body) = paren_up s n k (judge_only s n body) (judge_stmts (inside_of s) n body) (only_is s n body)
      (stmts_up (inside_of s) n body)
  primary_up s n (tree.known k d) = desig_up s n as_variable d
  primary_up s n (tree.ord k e) = expr_up s n e
  primary_up s n (tree.chr k e) = expr_up s n e

  only_is : (s : Scene) (n : ℕ) (x : tree.Stmts) → OnlyUp n (judge_only s n x)
  only_is s n (tree.stmts k x rest) = only_up n rest (judge_value s n x) (value_is s n x)

  value_is : (s : Scene) (n : ℕ) (x : tree.Stmt) → OnlyUp n (judge_value s n x)
  value_is s n (tree.value k e) = expr_up s n e
  value_is s n x = tt

  arguments_up : (s : Scene) (n : ℕ) (fs : List FormalOf) (x : tree.Exprs) → Up n (judge_arguments s n fs x).next
  arguments_up s n fs (tree.exprs e rest) = up_then (expr_up s n e) (argument_tail_up s _ _ rest)

  argument_tail_up : (s : Scene) (n : ℕ) (fs : List FormalOf) (x : tree.ExprTail) → Up n (judge_argument_tail s n fs x).next
  argument_tail_up s n fs tree.no_expr = up_same n
  argument_tail_up s n fs (tree.more_expr e rest) = up_then (expr_up s n e) (argument_tail_up s _ _ rest)

  desig_up : (s : Scene) (n : ℕ) (w : Use) (x : tree.Desig) → Up n (judge_desig s n w x).next
  desig_up s n w (tree.desig k name more) = selectors_up s (judge_name s n name) more

  selectors_up : (s : Scene) (d : Judgement Denotation) (x : tree.SelectorTail) → Up d.next (judge_selectors s d x).next
  selectors_up s d tree.no_selector = up_same d.next
  selectors_up s d (tree.more_selector x rest) = up_then (selector_up s d x) (selectors_up s (judge_selector s d x) rest)

  selector_up : (s : Scene) (d : Judgement Denotation) (x : tree.Selector) → Up d.next (judge_selector s d x).next
  selector_up s d (tree.field k name) = up_same d.next
  selector_up s d (tree.index k items) = indices_up s d items

  indices_up : (s : Scene) (d : Judgement Denotation) (x : tree.Exprs) → Up d.next (judge_indices s d x).next
  indices_up s d (tree.exprs e rest) = up_then (expr_up s d.next e)
      (index_tail_up s (index_at s d (tree.expr_node e) (judge_expr s d.next e)) rest)

  index_tail_up : (s : Scene) (d : Judgement Denotation) (x : tree.ExprTail) → Up d.next (judge_index_tail s d x).next
  index_tail_up s d tree.no_expr = up_same d.next
  index_tail_up s d (tree.more_expr e rest) =
      up_then (expr_up s d.next e) (index_tail_up s (index_at s d (tree.expr_node e) (judge_expr s d.next e)) rest)
