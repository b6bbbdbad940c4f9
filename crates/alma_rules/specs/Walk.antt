-- One walk over statements and expressions, which judges each node and never stops: the rules broken at and below it, and its
-- resolved part. `n` is the first free hidden slot, of which each loop takes two in the order of the words FOR and SOME.
use Rattle.std.specs.Prelude.{ℕ, ℤ, ◌+◌, pos, Bool, List, [], ◌++◌, drop, slice_get, option_to_list, Option, None, Some}
use Rattle.alma_ir.specs.Tree as ir
use Rattle.alma_rules.specs.Numbered as tree
use Rattle.alma_rules.specs.Judgement.{Judgement, fine, at_node, and_then, after, with, with_some}
use Rattle.alma_rules.specs.Scene.{Scene, FormalOf, in_constant, inside_of, found, text_at, literal_at, number_at}
use Rattle.alma_rules.specs.Parts.{Typing, integer_typing, Denotation, select_field, located_in, typing_in, callee_in, add_operator}
use Rattle.alma_rules.specs.Parts.{mul_operator, Operands, joined_stmts, assignment_stmts, Span}
use Rattle.alma_rules.specs.ExprRules.{Use, as_variable, as_value, as_procedure, desig_rules, field_rules, array_rules, Operand}
use Rattle.alma_rules.specs.ExprRules.{operand_rules, not_rules, literal_rules, simple_rules, known_rules, chr_rules, test_rules}
use Rattle.alma_rules.specs.StmtRules.{assign_rules}
use Rattle.alma_rules.specs.Nodes.{judge_name, is_selected, index_at, literal_typing, in_parens, as_sequence, or_sequence, only_of}
use Rattle.alma_rules.specs.Nodes.{known_typing, ord_typing, chr_typing, not_typing, formals_of, argument_count, called_at, judged_argument}
use Rattle.alma_rules.specs.Nodes.{cons_arg, cons_operand, operand_behind, first_add, first_mul, sum_at, product_at, relation_at}
use Rattle.alma_rules.specs.Nodes.{condition_at, step_at, one, if_of, arms_of, loop_variable, loop_at, label_at, cons_span, ArmAndLabels}
use Rattle.alma_rules.specs.Nodes.{arm_at}
use Rattle.alma_rules.specs.Nodes.{joined_cases, case_at, read_at, return_at, bare_return_at, with_line, item_literal, item_of}

unfoldable mutual
  -- ---- statements

  -- a list of statements
  pub judge_stmts : Scene → ℕ → tree.Stmts → Judgement ir.Stmts
  judge_stmts s n (tree.stmts k x rest) = with joined_stmts (and_then (judge_stmt s n x) (λ m. judge_stmt_tail s m rest))

  -- further statements
  pub judge_stmt_tail : Scene → ℕ → tree.StmtTail → Judgement ir.Stmts
  judge_stmt_tail s n tree.no_stmt = fine n ir.no_stmts
  judge_stmt_tail s n (tree.more_stmt x rest) = with joined_stmts (and_then (judge_stmt s n x) (λ m. judge_stmt_tail s m rest))

  -- a statement: of an empty one none, and of READ and WRITE one for each item
  pub judge_stmt : Scene → ℕ → tree.Stmt → Judgement ir.Stmts
  judge_stmt s n (tree.nothing k) = fine n ir.no_stmts
  judge_stmt s n (tree.assign k d e) =
      with (assignment_stmts s) (at_node k (assign_rules s)
      (and_then (with_some located_in (judge_desig s n as_variable d)) (λ m. judge_expr s m e)))
  judge_stmt s n (tree.value k e) = one (with ir.TestStmt (condition_at s e (judge_expr s n e)))
  judge_stmt s n (tree.if_stmt k e body elsifs other) =
      one (with if_of (and_then (condition_at s e (judge_expr s n e))
      (λ m. and_then (judge_stmts s m body) (λ i. and_then (judge_elsifs s i elsifs) (λ j. judge_else s j other)))))
  judge_stmt s n (tree.while_stmt k e body) =
      one (with (λ p. ir.While p.0 p.1) (and_then (condition_at s e (judge_expr s n e)) (λ m. judge_stmts s m body)))
  judge_stmt s n (tree.repeat_stmt k body e) =
      one (with (λ p. ir.Repeat p.0 p.1) (and_then (judge_stmts s n body) (λ m. condition_at s e (judge_expr s m e))))
  judge_stmt s n (tree.for_stmt k name low high by body) =
      after (judge_expr s (n + 2) low) (λ a. after (judge_expr s a.next high) (λ b. after (judge_by s b.next by) (λ c.
      one (with ir.ForTo (loop_at s n k (loop_variable s n name) a b c (judge_stmts s c.next body))))))
  judge_stmt s n (tree.some_stmt k name low high body) =
      after (judge_expr s (n + 2) low) (λ a. after (judge_expr s a.next high) (λ b.
      one (with ir.SomeOf (loop_at s n k (loop_variable s n name) a b (fine b.next (pos 1)) (judge_stmts s b.next body)))))
  judge_stmt s n (tree.case_stmt k e first rest other) =
      after (judge_expr s n e) (λ v. after (judge_arm s v.next v.value [] first) (λ a.
      after (with joined_cases (and_then a.arm (λ m. judge_arm_tail s m v.value a.spans rest))) (λ arms.
      one (case_at s k v arms (judge_case_else s arms.next other)))))
  judge_stmt s n (tree.either_stmt k body rest) =
      one (with (λ p. ir.Either (ir.more_branches p.0 p.1)) (and_then (judge_stmts s n body) (λ m. judge_orelses s m rest)))
  judge_stmt s n (tree.forall_stmt k choice body) =
      one (with (λ p. ir.Forall p.0 p.1) (and_then (judge_stmts (inside_of s) n choice) (λ m. judge_stmts (inside_of s) m body)))
  judge_stmt s n (tree.commit_stmt k body) = one (with ir.Commit (judge_stmts (inside_of s) n body))
  judge_stmt s n (tree.return_stmt k e) = one (judge_returned s n k e)
  judge_stmt s n (tree.read_stmt k d rest) =
      with joined_stmts (and_then (read_at s d (judge_desig s n as_variable d)) (λ m. judge_reads s m rest))
  judge_stmt s n (tree.write_stmt k items) = judge_items s n items
  judge_stmt s n (tree.writeln_stmt k items) = with with_line (judge_line_items s n items)

  -- the ELSIF parts
  pub judge_elsifs : Scene → ℕ → tree.ElsifTail → Judgement ir.Arms
  judge_elsifs s n tree.no_elsif = fine n ir.no_arms
  judge_elsifs s n (tree.more_elsif e body rest) =
      with arms_of (and_then (condition_at s e (judge_expr s n e)) (λ m. and_then (judge_stmts s m body) (λ i. judge_elsifs s i rest)))

  -- the ELSE part of IF, empty where there is none
  pub judge_else : Scene → ℕ → tree.Else → Judgement ir.Stmts
  judge_else s n tree.no_else = fine n ir.no_stmts
  judge_else s n (tree.else_stmts body) = judge_stmts s n body

  -- the step of FOR, which is 1 without BY
  pub judge_by : Scene → ℕ → tree.By → Judgement ℤ
  judge_by s n tree.no_by = fine n (pos 1)
  judge_by s n (tree.by_expr e) = step_at (in_constant s) e (judge_expr (in_constant s) n e)

  -- an arm of CASE, behind labels with these values
  pub judge_arm : Scene → ℕ → (case : Option Typing) → (earlier : List Span) → tree.Arm → ArmAndLabels
  judge_arm s n case earlier (tree.empty_arm k) = record { arm = fine n ir.no_cases; spans = [] }
  judge_arm s n case earlier (tree.arm k first rest body) =
      after (judge_label s n case earlier first) (λ x.
      after (with cons_span (and_then x (λ m. judge_labels s m case (earlier ++ option_to_list x.value) rest))) (λ labels.
      arm_at labels (judge_stmts s labels.next body)))

  -- further arms of CASE, behind labels with these values
  pub judge_arm_tail : Scene → ℕ → (case : Option Typing) → (earlier : List Span) → tree.ArmTail → Judgement ir.CaseArms
  judge_arm_tail s n case earlier tree.no_arm = fine n ir.no_cases
  judge_arm_tail s n case earlier (tree.more_arm x rest) =
      after (judge_arm s n case earlier x) (λ a.
      with joined_cases (and_then a.arm (λ m. judge_arm_tail s m case (earlier ++ a.spans) rest)))

  -- a label of CASE, behind labels with these values
  pub judge_label : Scene → ℕ → (case : Option Typing) → (earlier : List Span) → tree.Label → Judgement Span
  judge_label s n case earlier (tree.label k low high) =
      after (judge_expr (in_constant s) n low) (λ a. label_at s case earlier k a (judge_high (in_constant s) a.next a.value high))

  -- without `..` both ends are one
  pub judge_high : Scene → ℕ → (low : Option Typing) → tree.High → Judgement Typing
  judge_high s n low tree.no_high = record { faults = []; next = n; value = low }
  judge_high s n low (tree.high_expr e) = judge_expr s n e

  -- further labels of an arm, behind labels with these values
  pub judge_labels : Scene → ℕ → (case : Option Typing) → (earlier : List Span) → tree.LabelTail → Judgement (List Span)
  judge_labels s n case earlier tree.no_label = fine n []
  judge_labels s n case earlier (tree.more_label x rest) =
      after (judge_label s n case earlier x) (λ a.
      with cons_span (and_then a (λ m. judge_labels s m case (earlier ++ option_to_list a.value) rest)))

  -- the ELSE part of CASE, if there is one
  pub judge_case_else : Scene → ℕ → tree.Else → Judgement ir.Else
  judge_case_else s n tree.no_else = fine n ir.no_else
  judge_case_else s n (tree.else_stmts body) = with ir.else_part (judge_stmts s n body)

  -- the ORELSE parts
  pub judge_orelses : Scene → ℕ → tree.OrelseTail → Judgement ir.Branches
  judge_orelses s n tree.no_orelse = fine n ir.no_branches
  judge_orelses s n (tree.more_orelse body rest) =
      with (λ p. ir.more_branches p.0 p.1) (and_then (judge_stmts s n body) (λ m. judge_orelses s m rest))

  -- RETURN, with its value, if there is one
  pub judge_returned : Scene → ℕ → ℕ → tree.Returned → Judgement ir.Stmt
  judge_returned s n k tree.no_value = bare_return_at s n k
  judge_returned s n k (tree.returned e) = return_at s k (judge_expr s n e)

  -- further designators of READ
  pub judge_reads : Scene → ℕ → tree.DesigTail → Judgement ir.Stmts
  judge_reads s n tree.no_desig = fine n ir.no_stmts
  judge_reads s n (tree.more_desig d rest) =
      with joined_stmts (and_then (read_at s d (judge_desig s n as_variable d)) (λ m. judge_reads s m rest))

  -- the items of WRITE and WRITELN
  pub judge_items : Scene → ℕ → tree.Exprs → Judgement ir.Stmts
  judge_items s n (tree.exprs e rest) =
      with joined_stmts (and_then (item_of s n (tree.expr_node e) (item_literal e) (judge_expr s n e)) (λ m. judge_item_tail s m rest))

  -- further items
  pub judge_item_tail : Scene → ℕ → tree.ExprTail → Judgement ir.Stmts
  judge_item_tail s n tree.no_expr = fine n ir.no_stmts
  judge_item_tail s n (tree.more_expr e rest) =
      with joined_stmts (and_then (item_of s n (tree.expr_node e) (item_literal e) (judge_expr s n e)) (λ m. judge_item_tail s m rest))

  -- the items of WRITELN, if there are any
  pub judge_line_items : Scene → ℕ → tree.Args → Judgement ir.Stmts
  judge_line_items s n tree.no_args = fine n ir.no_stmts
  judge_line_items s n tree.empty_args = fine n ir.no_stmts
  judge_line_items s n (tree.args items) = judge_items s n items

  -- ---- expressions

  -- an expression
  pub judge_expr : Scene → ℕ → tree.Expr → Judgement Typing
  judge_expr s n (tree.expr k left right) = judge_compared s k (judge_simple s n left) right

  -- a left side, with the relation and the right side behind it, if there are any
  pub judge_compared : Scene → ℕ → Judgement Typing → tree.Compared → Judgement Typing
  judge_compared s k left tree.no_relation = left
  judge_compared s k left (tree.compared relation right) = relation_at s k relation (and_then left (λ m. judge_simple s m right))

  -- a Simple
  pub judge_simple : Scene → ℕ → tree.Simple → Judgement Typing
  judge_simple s n (tree.simple k sign first rest) =
      sum_at s k sign rest (and_then (judge_term s n (first_add sign rest) first) (λ m. judge_terms s m (first_add sign rest).sort rest))

  -- the operands behind + - and OR, under a first operator of this sort
  pub judge_terms : Scene → ℕ → (sort : Bool) → tree.TermTail → Judgement Operands
  judge_terms s n sort tree.no_term = fine n []
  judge_terms s n sort (tree.more_term o t rest) =
      with (cons_operand (add_operator o)) (and_then (judge_term s n (operand_behind sort (add_operator o)) t)
      (λ m. judge_terms s m sort rest))

  -- a Term in its place
  pub judge_term : Scene → ℕ → Operand → tree.Term → Judgement Typing
  judge_term s n o (tree.term k first rest) =
      product_at s o k rest (and_then (judge_factor s n (first_mul rest) first) (λ m. judge_factors s m (first_mul rest).sort rest))

  -- the operands behind * DIV MOD and AND, under a first operator of this sort
  pub judge_factors : Scene → ℕ → (sort : Bool) → tree.FactorTail → Judgement Operands
  judge_factors s n sort tree.no_factor = fine n []
  judge_factors s n sort (tree.more_factor o f rest) =
      with (cons_operand (mul_operator o)) (and_then (judge_factor s n (operand_behind sort (mul_operator o)) f)
      (λ m. judge_factors s m sort rest))

  -- a Factor in its place
  pub judge_factor : Scene → ℕ → Operand → tree.Factor → Judgement Typing
  judge_factor s n o (tree.not_factor k p) =
      at_node k (not_rules s o) (with not_typing (at_node (tree.primary_node p) (test_rules s) (judge_primary (inside_of s) n p)))
  judge_factor s n o (tree.factor k p) = at_node k (operand_rules s o) (judge_primary s n p)

  -- a Primary
  pub judge_primary : Scene → ℕ → tree.Primary → Judgement Typing
  judge_primary s n (tree.number k t) = fine n (integer_typing (number_at s t))
  judge_primary s n (tree.literal k t) = at_node k (literal_rules s (literal_at s t)) (fine n (literal_typing s t))
  judge_primary s n (tree.named k d tree.no_args) = with_some typing_in (judge_desig s n as_value d)
  judge_primary s n (tree.named k d tree.empty_args) =
      after (with_some callee_in (judge_desig s n as_procedure d)) (λ c. called_at s k c 0 (fine c.next ir.no_args))
  judge_primary s n (tree.named k d (tree.args items)) =
      after (with_some callee_in (judge_desig s n as_procedure d)) (λ c.
      called_at s k c (argument_count items) (judge_arguments s c.next (formals_of c.value) items))
  judge_primary s n (tree.paren k body) =
      or_sequence (judge_only s n body) (in_parens s k) (λ u. as_sequence s k (judge_stmts (inside_of s) n body))
  judge_primary s n (tree.known k d) = with known_typing (at_node k (known_rules s) (with_some located_in (judge_desig s n as_variable d)))
  judge_primary s n (tree.ord k e) = with ord_typing (at_node k (simple_rules s) (judge_expr s n e))
  judge_primary s n (tree.chr k e) = with chr_typing (at_node k (chr_rules s) (judge_expr s n e))

  -- the one statement that is an expression
  pub judge_only : Scene → ℕ → tree.Stmts → Option (Judgement Typing)
  judge_only s n (tree.stmts k x rest) = only_of rest (judge_value s n x)

  -- the expression that a statement is, if it is one
  pub judge_value : Scene → ℕ → tree.Stmt → Option (Judgement Typing)
  judge_value s n (tree.value k e) = Some (judge_expr s n e)
  judge_value s n x = None

  -- arguments with the formals of their places, as far as there are any
  pub judge_arguments : Scene → ℕ → List FormalOf → tree.Exprs → Judgement ir.Args
  judge_arguments s n formals (tree.exprs e rest) =
      with cons_arg (and_then (judged_argument s (slice_get formals 0) e (judge_expr s n e))
      (λ m. judge_argument_tail s m (drop 1 formals) rest))

  -- further arguments
  pub judge_argument_tail : Scene → ℕ → List FormalOf → tree.ExprTail → Judgement ir.Args
  judge_argument_tail s n formals tree.no_expr = fine n ir.no_args
  judge_argument_tail s n formals (tree.more_expr e rest) =
      with cons_arg (and_then (judged_argument s (slice_get formals 0) e (judge_expr s n e))
      (λ m. judge_argument_tail s m (drop 1 formals) rest))

  -- ---- designators

  -- a designator, of which this is asked
  pub judge_desig : Scene → ℕ → Use → tree.Desig → Judgement Denotation
  judge_desig s n wanted (tree.desig k name more) =
      at_node k (desig_rules s wanted (is_selected more) (found s name)) (judge_selectors s (judge_name s n name) more)

  -- a designator with the selectors behind it
  pub judge_selectors : Scene → Judgement Denotation → tree.SelectorTail → Judgement Denotation
  judge_selectors s d tree.no_selector = d
  judge_selectors s d (tree.more_selector x rest) = judge_selectors s (judge_selector s d x) rest

  -- a designator with one selector behind it
  pub judge_selector : Scene → Judgement Denotation → tree.Selector → Judgement Denotation
  judge_selector s d (tree.field k name) =
      with_some (select_field s (text_at s name.token)) (at_node k (field_rules s (text_at s name.token)) d)
  judge_selector s d (tree.index k items) = at_node k array_rules (judge_indices s d items)

  -- a designator with the indices of one selector behind it
  pub judge_indices : Scene → Judgement Denotation → tree.Exprs → Judgement Denotation
  judge_indices s d (tree.exprs e rest) = judge_index_tail s (index_at s d (tree.expr_node e) (judge_expr s d.next e)) rest

  -- a designator with further indices behind it
  pub judge_index_tail : Scene → Judgement Denotation → tree.ExprTail → Judgement Denotation
  judge_index_tail s d tree.no_expr = d
  judge_index_tail s d (tree.more_expr e rest) = judge_index_tail s (index_at s d (tree.expr_node e) (judge_expr s d.next e)) rest
