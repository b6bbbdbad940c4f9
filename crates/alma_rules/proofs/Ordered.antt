-- The rules that are broken in statements and expressions stand in the order of their nodes and, at one node, of CheckFault.
use Rattle.std.proofs.Common.{inl, ℕ, ◌<◌, ◌≤◌, List, [], Bool, Option, None, Some, arith}
use Rattle.std.specs.Prelude.{true, false, nat_eq, length, slice_get}
use Rattle.alma_ir.specs.Tree as ir
use Rattle.alma_rules.specs.Numbered as tree
use Rattle.alma_rules.specs.Judgement.{Judgement, at_node, with, with_some, and_then, both, fine}
use Rattle.alma_rules.specs.Scene.{Scene, FormalOf, in_constant, inside_of, literal_at, found, text_at}
use Rattle.alma_rules.specs.StmtRules.{write_rules, by_rules, read_rules}
use Rattle.alma_rules.specs.Parts.{span_of, Typing, Denotation, Span, Callee, callee_in, typing_of_call, located_in, denotation}
use Rattle.alma_rules.specs.Parts.{relation_typing, boolean_typing}
use Rattle.alma_rules.specs.Parts.{a_test, without_place, write_stmts, one_stmt}
use Rattle.alma_rules.specs.ExprRules.{alone, sequence_rules, simple_rules, relation_rules, literal_rules, call_rules, test_rules}
use Rattle.alma_rules.specs.ExprRules.{index_rules, argument_rules, argument_kind, Use, as_variable, as_value, as_procedure, Operand}
use Rattle.alma_rules.specs.Nodes.{formals_of, any_or, any_and, is_selected, literal_typing, known_typing, ord_typing, chr_typing}
use Rattle.alma_rules.specs.Nodes.{argument_count, called_at, judge_name, index_at, text_rules, or_sequence, in_parens, as_sequence, sum_at}
use Rattle.alma_rules.specs.Nodes.{product_at, only_of, item_of, item_literal, text_item}
use Rattle.alma_base.specs.Choice.{if_true}
use Rattle.alma_tree.specs.declared.leaf.Sign.{Sign}
use Rattle.alma_rules.specs.Parts.{Operands}
use Rattle.alma_rules.specs.Walk.{judge_stmts, judge_stmt_tail, judge_stmt, judge_elsifs, judge_else, judge_by, judge_arm, judge_arm_tail}
use Rattle.alma_rules.specs.Walk.{judge_label, judge_high, judge_labels, judge_case_else, judge_orelses, judge_returned, judge_reads}
use Rattle.alma_rules.specs.Walk.{judge_items, judge_item_tail, judge_line_items, judge_expr, judge_compared, judge_simple, judge_terms}
use Rattle.alma_rules.specs.Walk.{judge_term, judge_factors, judge_factor, judge_primary, judge_only, judge_value, judge_arguments}
use Rattle.alma_rules.specs.Walk.{judge_argument_tail, judge_desig, judge_selectors, judge_selector, judge_indices, judge_index_tail}
use Rattle.alma_rules.specs.Rising.{rise_stmts, rise_stmt_tail, rise_stmt, rise_elsifs, rise_else, rise_by, rise_arm, rise_arms, rise_label}
use Rattle.alma_rules.specs.Rising.{rise_high, rise_labels, rise_orelses, rise_returned, rise_desigs, rise_exprs, rise_expr_tail, rise_args}
use Rattle.alma_rules.specs.Rising.{rise_expr, rise_compared, rise_simple, rise_terms, rise_term, rise_factors, rise_factor, rise_primary}
use Rattle.alma_rules.specs.Rising.{rise_desig, rise_selectors, rise_selector}
use Rattle.alma_rules.proofs.Ranks.{empty, name_order, desig_order, field_order, array_order, index_order, operand_order, chain_order}
use Rattle.alma_rules.proofs.Ranks.{not_order, literal_order, call_order, simple_order, known_order, chr_order, sequence_order}
use Rattle.alma_rules.proofs.Ranks.{relation_order, test_order, argument_order, argument_place, assign_order, loop_name_order, loop_order}
use Rattle.alma_rules.proofs.Ranks.{by_order, case_order, label_order, return_order, read_order, write_order, text_order}
use Rattle.alma_rules.proofs.Within.{Within, none, ordered, higher, up, joined, alone_at, node_end, Ends, below, own, ends_map, ends_then}
use Rattle.alma_rules.proofs.Within.{placed}

abbrev IfThere : ℕ → ℕ → Option (Judgement Typing) → Type 0
IfThere lo hi None = Unit {0}
IfThere lo hi (Some j) = Within lo hi j.faults

in_paren : (s : Scene) (lo n hi : ℕ) (j : Option (Judgement Typing)) (k : Judgement ir.Stmts) → IfThere lo n j → Within lo n k.faults
    → lo ≤ n
    → n < hi
    → Ends 16 lo n hi (or_sequence j (in_parens s n) (λ u. as_sequence s n k)).faults
    (or_sequence j (in_parens s n) (λ u. as_sequence s n k)).value
in_paren s lo n hi None k p q le h =
    ends_map 16 lo n hi _ (λ body. boolean_typing (a_test (ir.Seq body))) _
    (own 16 lo n hi k.faults (sequence_rules s k.value) k.value (sequence_order s k.value) q le h)
in_paren s lo n hi (Some j) k p q le h =
    ends_map 16 lo n hi _ without_place _ (own 16 lo n hi j.faults (simple_rules s j.value) j.value (simple_order s j.value) p le h)

in_only : (lo mid hi : ℕ) (rest : tree.StmtTail) (j : Option (Judgement Typing)) → IfThere lo mid j → mid ≤ hi
    → IfThere lo hi (only_of rest j)
in_only lo mid hi tree.no_stmt None p le = tt
in_only lo mid hi tree.no_stmt (Some j) p le = higher lo mid hi j.faults p le
in_only lo mid hi (tree.more_stmt x rest) j p le = tt

in_sum : (s : Scene) (lo k hi : ℕ) (sign : Option Sign) (rest : tree.TermTail) (j : Judgement (Typing × Operands)) → Within lo k j.faults
    → k < hi → Within lo hi (sum_at s k sign rest j).faults
in_sum s lo k hi None tree.no_term j h le = higher lo k hi j.faults h (omega (arith, le))
in_sum s lo k hi None (tree.more_term o t rest) j h le =
    node_end lo k hi 23 j.faults _ (chain_order s ir.Or alone None (any_or (tree.more_term o t rest)) j.value) (omega arith) h le
in_sum s lo k hi (Some g) tree.no_term j h le =
    node_end lo k hi 23 j.faults _ (chain_order s ir.Or alone (Some g) (any_or tree.no_term) j.value) (omega arith) h le
in_sum s lo k hi (Some g) (tree.more_term o t rest) j h le =
    node_end lo k hi 23 j.faults _ (chain_order s ir.Or alone (Some g) (any_or (tree.more_term o t rest)) j.value) (omega arith) h le

in_product : (s : Scene) (lo k hi : ℕ) (o : Operand) (rest : tree.FactorTail) (j : Judgement (Typing × Operands)) → Within lo k j.faults
    → k < hi → Within lo hi (product_at s o k rest j).faults
in_product s lo k hi o tree.no_factor j h le = node_end lo k hi 23 j.faults _ (operand_order s o _) (omega arith) h le
in_product s lo k hi o (tree.more_factor p t rest) j h le =
    node_end lo k hi 23 j.faults _ (chain_order s ir.And o None (any_and (tree.more_factor p t rest)) j.value) (omega arith) h le

-- the literal that an item is stands in it
abbrev Inside : ℕ → ℕ → Option (ℕ × ℕ) → Type 0
Inside lo hi None = Unit {0}
Inside lo hi (Some l) = (lo ≤ l.0) × (l.0 < hi)

literal_inside : (lo hi : ℕ) (e : tree.Expr) → rise_expr e lo hi → Inside lo hi (item_literal e)
unfolding rise_expr
literal_inside lo hi (tree.expr n (tree.simple m None (tree.term k (tree.factor i (tree.literal j t)) tree.no_factor) tree.no_term)
    tree.no_relation) h =
    (h.0.1.0.1.0.1.0.0, omega (arith, h.0.1.0.1.0.1.0.1, h.0.1.0.1.0.1.1, h.0.1.0.1.0.2, h.0.1.0.1.1, h.0.1.0.2, h.0.1.1, h.0.2, h.1))
literal_inside lo hi e h = tt

in_text : (s : Scene) (n j lo hi : ℕ) (text : List ℕ) (item : Judgement Typing) (node : ℕ) → Ends 8 lo node hi item.faults item.value
    → lo ≤ j
    → j < hi → Within lo hi (text_item s n j text item node).faults
in_text s n j lo hi text item node w le h = go (nat_eq (length text) 1)
  where
    go : (b : Bool) → Within lo hi (if_true b (λ _. with (write_stmts s) (at_node node (write_rules s) item))
        (λ _. at_node j (text_rules s) (fine n (one_stmt (ir.WriteText text))))).faults
    go true = placed 8 lo node hi item.faults item.value (write_rules s) (omega arith) (empty 9 23 (omega arith)) (write_order s) w
    go false = alone_at lo j hi 23 _ (text_order s (Some (one_stmt (ir.WriteText text)))) (omega arith) le h

in_item : (s : Scene) (n lo hi node : ℕ) (l : Option (ℕ × ℕ)) (item : Judgement Typing) → Ends 8 lo node hi item.faults item.value
    → Inside lo hi l → Within lo hi (item_of s n node l item).faults
in_item s n lo hi node None item w h = placed 8 lo node hi item.faults item.value (write_rules s) (omega arith) (empty 9 23 (omega arith))
    (write_order s) w
in_item s n lo hi node (Some l) item w h = in_text s n l.0 lo hi (literal_at s l.1) item node w h.0 h.1

called_in : (s : Scene) (k lo mid hi : ℕ) (c : Judgement Callee) (count : ℕ) (args : Judgement ir.Args) → Within lo mid c.faults
    → Within mid k args.faults → lo ≤ k → k < hi
    → Ends 16 lo k hi (called_at s k c count args).faults (called_at s k c count args).value
called_in s k lo mid hi c count args w v le h =
    ends_map 16 lo k hi _ typing_of_call _ (own 16 lo k hi _ (call_rules s c.value count (both c args).value) (both c args).value
    (call_order s c.value count (both c args).value) (joined lo mid k _ _ w v) le h)

mutual
  unfolding judge_expr rise_expr

  pub stmts_in : (s : Scene) (n lo hi : ℕ) (x : tree.Stmts) → rise_stmts x lo hi → Within lo hi (judge_stmts s n x).faults
  stmts_in s n lo hi (tree.stmts k x rest) h =
      up lo k hi _ (joined lo h.0.0 k _ _ (stmt_in s n lo h.0.0 x h.0.1) (stmt_tail_in s _ h.0.0 k rest h.0.2)) h.1

  stmt_tail_in : (s : Scene) (n lo hi : ℕ) (x : tree.StmtTail) → rise_stmt_tail x lo hi → Within lo hi (judge_stmt_tail s n x).faults
  stmt_tail_in s n lo hi tree.no_stmt h = none lo hi h
  stmt_tail_in s n lo hi (tree.more_stmt x rest) h = joined lo h.0 hi _ _ (stmt_in s n lo h.0 x h.1) (stmt_tail_in s _ h.0 hi rest h.2)

  stmt_in : (s : Scene) (n lo hi : ℕ) (x : tree.Stmt) → rise_stmt x lo hi → Within lo hi (judge_stmt s n x).faults
  stmt_in s n lo hi (tree.nothing k) h = none lo hi (omega (arith, h.0, h.1))
  stmt_in s n lo hi (tree.assign k d e) h =
      node_end lo k hi 23 _ _ (assign_order s _) (omega arith)
      (joined lo h.0.0 k _ _ (below 6 lo (tree.desig_node d) h.0.0 _ _ (omega arith) (desig_in s n as_variable lo h.0.0 d h.0.1))
      (below 8 h.0.0 (tree.expr_node e) k _ _ (omega arith) (expr_in s _ h.0.0 k e h.0.2))) h.1
  stmt_in s n lo hi (tree.value k e) h = up lo k hi _
      (placed 8 lo (tree.expr_node e) k _ _ (test_rules s) (omega arith) (empty 9 23 (omega arith)) (test_order s) (expr_in s n lo k e h.0))
      h.1
  stmt_in s n lo hi (tree.if_stmt k e body elsifs other) h =
      up lo k hi _ (joined lo h.0.0 k _ _ (placed 8 lo (tree.expr_node e) h.0.0 _ _ (test_rules s) (omega arith) (empty 9 23 (omega arith))
      (test_order s) (expr_in s n lo h.0.0 e h.0.1))
      (joined h.0.0 h.0.2.0 k _ _ (stmts_in s _ h.0.0 h.0.2.0 body h.0.2.1)
      (joined h.0.2.0 h.0.2.2.0 k _ _ (elsifs_in s _ h.0.2.0 h.0.2.2.0 elsifs h.0.2.2.1) (else_in s _ h.0.2.2.0 k other h.0.2.2.2)))) h.1
  stmt_in s n lo hi (tree.while_stmt k e body) h =
      up lo k hi _ (joined lo h.0.0 k _ _ (placed 8 lo (tree.expr_node e) h.0.0 _ _ (test_rules s) (omega arith) (empty 9 23 (omega arith))
      (test_order s) (expr_in s n lo h.0.0 e h.0.1)) (stmts_in s _ h.0.0 k body h.0.2)) h.1
  stmt_in s n lo hi (tree.repeat_stmt k body e) h =
      up lo k hi _ (joined lo h.0.0 k _ _ (stmts_in s n lo h.0.0 body h.0.1)
      (placed 8 h.0.0 (tree.expr_node e) k _ _ (test_rules s) (omega arith) (empty 9 23 (omega arith)) (test_order s)
      (expr_in s _ h.0.0 k e h.0.2))) h.1
  stmt_in s n lo hi (tree.for_stmt k name low high by body) h =
      node_end lo k hi 23 _ _ (loop_order {A = Unit {0}} s _ _ _ None) (omega arith)
      (joined lo h.0.0 k _ _ (alone_at lo name.node h.0.0 23 _ (loop_name_order s (found s name) None) (omega arith) h.0.1.0 h.0.1.1)
      (joined h.0.0 h.0.2.0 k _ _ (below 8 h.0.0 (tree.expr_node low) h.0.2.0 _ _ (omega arith) (expr_in s _ h.0.0 h.0.2.0 low h.0.2.1))
      (joined h.0.2.0 h.0.2.2.0 k _ _ (below 8 h.0.2.0 (tree.expr_node high) h.0.2.2.0 _ _ (omega arith)
      (expr_in s _ h.0.2.0 h.0.2.2.0 high h.0.2.2.1))
      (joined h.0.2.2.0 h.0.2.2.2.0 k _ _ (by_in s _ h.0.2.2.0 h.0.2.2.2.0 by h.0.2.2.2.1) (stmts_in s _ h.0.2.2.2.0 k body h.0.2.2.2.2)))))
      h.1
  stmt_in s n lo hi (tree.some_stmt k name low high body) h =
      node_end lo k hi 23 _ _ (loop_order {A = Unit {0}} s _ _ _ None) (omega arith)
      (joined lo h.0.0 k _ _ (alone_at lo name.node h.0.0 23 _ (loop_name_order s (found s name) None) (omega arith) h.0.1.0 h.0.1.1)
      (joined h.0.0 h.0.2.0 k _ _ (below 8 h.0.0 (tree.expr_node low) h.0.2.0 _ _ (omega arith) (expr_in s _ h.0.0 h.0.2.0 low h.0.2.1))
      (joined h.0.2.0 h.0.2.2.0 k _ _ (below 8 h.0.2.0 (tree.expr_node high) h.0.2.2.0 _ _ (omega arith)
      (expr_in s _ h.0.2.0 h.0.2.2.0 high h.0.2.2.1))
      (stmts_in s _ h.0.2.2.0 k body h.0.2.2.2)))) h.1
  stmt_in s n lo hi (tree.case_stmt k e first rest other) h =
      node_end lo k hi 23 _ _ (case_order {A = Unit {0}} s _ None) (omega arith)
      (joined lo h.0.0 k _ _ (below 8 lo (tree.expr_node e) h.0.0 _ _ (omega arith) (expr_in s n lo h.0.0 e h.0.1))
      (joined h.0.0 h.0.2.2.0 k _ _
      (joined h.0.0 h.0.2.0 h.0.2.2.0 _ _ (arm_in s _ _ [] h.0.0 h.0.2.0 first h.0.2.1)
      (arm_tail_in s _ _ _ h.0.2.0 h.0.2.2.0 rest h.0.2.2.1))
      (case_else_in s _ h.0.2.2.0 k other h.0.2.2.2))) h.1
  stmt_in s n lo hi (tree.either_stmt k body rest) h =
      up lo k hi _ (joined lo h.0.0 k _ _ (stmts_in s n lo h.0.0 body h.0.1) (orelses_in s _ h.0.0 k rest h.0.2)) h.1
  stmt_in s n lo hi (tree.forall_stmt k choice body) h =
      up lo k hi _ (joined lo h.0.0 k _ _ (stmts_in (inside_of s) n lo h.0.0 choice h.0.1) (stmts_in (inside_of s) _ h.0.0 k body h.0.2))
      h.1
  stmt_in s n lo hi (tree.commit_stmt k body) h = up lo k hi _ (stmts_in (inside_of s) n lo k body h.0) h.1
  stmt_in s n lo hi (tree.return_stmt k e) h = returned_in s n k lo hi e h.0 h.1
  stmt_in s n lo hi (tree.read_stmt k d rest) h =
      up lo k hi _ (joined lo h.0.0 k _ _ (placed 6 lo (tree.desig_node d) h.0.0 _ _ (read_rules s) (omega arith) (empty 7 23 (omega arith))
      (read_order s) (ends_then 6 lo (tree.desig_node d) h.0.0 _ located_in _ (desig_in s n as_variable lo h.0.0 d h.0.1)))
      (reads_in s _ h.0.0 k rest h.0.2)) h.1
  stmt_in s n lo hi (tree.write_stmt k items) h = up lo k hi _ (items_in s n lo k items h.0) h.1
  stmt_in s n lo hi (tree.writeln_stmt k items) h = up lo k hi _ (line_items_in s n lo k items h.0) h.1

  elsifs_in : (s : Scene) (n lo hi : ℕ) (x : tree.ElsifTail) → rise_elsifs x lo hi → Within lo hi (judge_elsifs s n x).faults
  elsifs_in s n lo hi tree.no_elsif h = none lo hi h
  elsifs_in s n lo hi (tree.more_elsif e body rest) h =
      joined lo h.0 hi _ _ (placed 8 lo (tree.expr_node e) h.0 _ _ (test_rules s) (omega arith) (empty 9 23 (omega arith)) (test_order s)
      (expr_in s n lo h.0 e h.1))
      (joined h.0 h.2.0 hi _ _ (stmts_in s _ h.0 h.2.0 body h.2.1) (elsifs_in s _ h.2.0 hi rest h.2.2))

  else_in : (s : Scene) (n lo hi : ℕ) (x : tree.Else) → rise_else x lo hi → Within lo hi (judge_else s n x).faults
  else_in s n lo hi tree.no_else h = none lo hi h
  else_in s n lo hi (tree.else_stmts body) h = stmts_in s n lo hi body h

  by_in : (s : Scene) (n lo hi : ℕ) (x : tree.By) → rise_by x lo hi → Within lo hi (judge_by s n x).faults
  by_in s n lo hi tree.no_by h = none lo hi h
  by_in s n lo hi (tree.by_expr e) h = placed 8 lo (tree.expr_node e) hi _ _ (by_rules (in_constant s)) (omega arith)
      (empty 9 23 (omega arith)) (by_order (in_constant s)) (expr_in (in_constant s) n lo hi e h)

  arm_in : (s : Scene) (n : ℕ) (case : Option Typing) (earlier : List Span) (lo hi : ℕ) (x : tree.Arm) → rise_arm x lo hi
      → Within lo hi (judge_arm s n case earlier x).arm.faults
  arm_in s n case earlier lo hi (tree.empty_arm k) h = none lo hi (omega (arith, h.0, h.1))
  arm_in s n case earlier lo hi (tree.arm k first rest body) h =
      up lo k hi _ (joined lo h.0.2.0 k _ _ (joined lo h.0.0 h.0.2.0 _ _ (label_in s n case earlier lo h.0.0 first h.0.1)
      (labels_in s _ case _ h.0.0 h.0.2.0 rest h.0.2.1))
      (stmts_in s _ h.0.2.0 k body h.0.2.2)) h.1

  arm_tail_in : (s : Scene) (n : ℕ) (case : Option Typing) (earlier : List Span) (lo hi : ℕ) (x : tree.ArmTail) → rise_arms x lo hi
      → Within lo hi (judge_arm_tail s n case earlier x).faults
  arm_tail_in s n case earlier lo hi tree.no_arm h = none lo hi h
  arm_tail_in s n case earlier lo hi (tree.more_arm x rest) h =
      joined lo h.0 hi _ _ (arm_in s n case earlier lo h.0 x h.1) (arm_tail_in s _ case _ h.0 hi rest h.2)

  label_in : (s : Scene) (n : ℕ) (case : Option Typing) (earlier : List Span) (lo hi : ℕ) (x : tree.Label) → rise_label x lo hi
      → Within lo hi (judge_label s n case earlier x).faults
  label_in s n case earlier lo hi (tree.label k low high) h =
      node_end lo k hi 23 _ _ (label_order {A = Unit {0}} s case earlier (span_of s) _ _ None) (omega arith)
      (joined lo h.0.0 k _ _ (below 8 lo (tree.expr_node low) h.0.0 _ _ (omega arith) (expr_in (in_constant s) n lo h.0.0 low h.0.1))
      (high_in (in_constant s) _ _ h.0.0 k high h.0.2)) h.1

  high_in : (s : Scene) (n : ℕ) (low : Option Typing) (lo hi : ℕ) (x : tree.High) → rise_high x lo hi
      → Within lo hi (judge_high s n low x).faults
  high_in s n low lo hi tree.no_high h = none lo hi h
  high_in s n low lo hi (tree.high_expr e) h = below 8 lo (tree.expr_node e) hi _ _ (omega arith) (expr_in s n lo hi e h)

  labels_in : (s : Scene) (n : ℕ) (case : Option Typing) (earlier : List Span) (lo hi : ℕ) (x : tree.LabelTail) → rise_labels x lo hi
      → Within lo hi (judge_labels s n case earlier x).faults
  labels_in s n case earlier lo hi tree.no_label h = none lo hi h
  labels_in s n case earlier lo hi (tree.more_label x rest) h =
      joined lo h.0 hi _ _ (label_in s n case earlier lo h.0 x h.1) (labels_in s _ case _ h.0 hi rest h.2)

  case_else_in : (s : Scene) (n lo hi : ℕ) (x : tree.Else) → rise_else x lo hi → Within lo hi (judge_case_else s n x).faults
  case_else_in s n lo hi tree.no_else h = none lo hi h
  case_else_in s n lo hi (tree.else_stmts body) h = stmts_in s n lo hi body h

  orelses_in : (s : Scene) (n lo hi : ℕ) (x : tree.OrelseTail) → rise_orelses x lo hi → Within lo hi (judge_orelses s n x).faults
  orelses_in s n lo hi tree.no_orelse h = none lo hi h
  orelses_in s n lo hi (tree.more_orelse body rest) h = joined lo h.0 hi _ _ (stmts_in s n lo h.0 body h.1) (orelses_in s _ h.0 hi rest h.2)

  returned_in : (s : Scene) (n k lo hi : ℕ) (x : tree.Returned) → rise_returned x lo k → k < hi
      → Within lo hi (judge_returned s n k x).faults
  returned_in s n k lo hi tree.no_value h le = alone_at lo k hi 23 _ (return_order s false None) (omega arith) h le
  returned_in s n k lo hi (tree.returned e) h le =
      node_end lo k hi 23 _ _ (return_order s true _) (omega arith)
      (below 8 lo (tree.expr_node e) k _ _ (omega arith) (expr_in s n lo k e h)) le

  reads_in : (s : Scene) (n lo hi : ℕ) (x : tree.DesigTail) → rise_desigs x lo hi → Within lo hi (judge_reads s n x).faults
  reads_in s n lo hi tree.no_desig h = none lo hi h
  reads_in s n lo hi (tree.more_desig d rest) h =
      joined lo h.0 hi _ _ (placed 6 lo (tree.desig_node d) h.0 _ _ (read_rules s) (omega arith) (empty 7 23 (omega arith)) (read_order s)
      (ends_then 6 lo (tree.desig_node d) h.0 _ located_in _ (desig_in s n as_variable lo h.0 d h.1))) (reads_in s _ h.0 hi rest h.2)

  items_in : (s : Scene) (n lo hi : ℕ) (x : tree.Exprs) → rise_exprs x lo hi → Within lo hi (judge_items s n x).faults
  items_in s n lo hi (tree.exprs e rest) h =
      joined lo h.0 hi _ _ (in_item s n lo h.0 (tree.expr_node e) (item_literal e) (judge_expr s n e) (expr_in s n lo h.0 e h.1)
      (literal_inside lo h.0 e h.1)) (item_tail_in s _ h.0 hi rest h.2)

  item_tail_in : (s : Scene) (n lo hi : ℕ) (x : tree.ExprTail) → rise_expr_tail x lo hi → Within lo hi (judge_item_tail s n x).faults
  item_tail_in s n lo hi tree.no_expr h = none lo hi h
  item_tail_in s n lo hi (tree.more_expr e rest) h =
      joined lo h.0 hi _ _ (in_item s n lo h.0 (tree.expr_node e) (item_literal e) (judge_expr s n e) (expr_in s n lo h.0 e h.1)
      (literal_inside lo h.0 e h.1)) (item_tail_in s _ h.0 hi rest h.2)

  line_items_in : (s : Scene) (n lo hi : ℕ) (x : tree.Args) → rise_args x lo hi → Within lo hi (judge_line_items s n x).faults
  line_items_in s n lo hi tree.no_args h = none lo hi h
  line_items_in s n lo hi tree.empty_args h = none lo hi h
  line_items_in s n lo hi (tree.args items) h = items_in s n lo hi items h

  pub expr_in : (s : Scene) (n lo hi : ℕ) (e : tree.Expr) → rise_expr e lo hi
      → Ends 8 lo (tree.expr_node e) hi (judge_expr s n e).faults (judge_expr s n e).value
  expr_in s n lo hi (tree.expr k left right) h =
      let a : Within lo h.0.0 (judge_simple s n left).faults = simple_in s n lo h.0.0 left h.0.1 in
      let l : lo ≤ h.0.0 = ordered lo h.0.0 _ a in
      let r : h.0.0 ≤ k = compared_le s h.0.0 k right h.0.2 in
      compared_in s k lo h.0.0 hi (judge_simple s n left) right a h.0.2 (omega (arith, l, r)) h.1

  compared_in : (s : Scene) (k lo mid hi : ℕ) (j : Judgement Typing) (c : tree.Compared) → Within lo mid j.faults → rise_compared c mid k
      → lo ≤ k → k < hi
      → Ends 8 lo k hi (judge_compared s k j c).faults (judge_compared s k j c).value
  compared_in s k lo mid hi j tree.no_relation w h le top = (inl (higher lo mid k j.faults w h), le, top)
  compared_in s k lo mid hi j (tree.compared relation right) w h le top =
      let all : Judgement (Typing × Typing) = and_then j (λ m. judge_simple s m right) in
      ends_map 8 lo k hi _ (relation_typing s relation) _
      (own 8 lo k hi all.faults (relation_rules s relation all.value) all.value (relation_order s relation all.value)
      (joined lo mid k _ _ w (simple_in s _ mid k right h)) le top)

  compared_le : (s : Scene) (lo hi : ℕ) (c : tree.Compared) → rise_compared c lo hi → lo ≤ hi
  compared_le s lo hi tree.no_relation h = h
  compared_le s lo hi (tree.compared relation right) h = ordered lo hi _ (simple_in s 0 lo hi right h)

  simple_in : (s : Scene) (n lo hi : ℕ) (e : tree.Simple) → rise_simple e lo hi → Within lo hi (judge_simple s n e).faults
  simple_in s n lo hi (tree.simple k sign first rest) h =
      in_sum s lo k hi sign rest _ (joined lo h.0.0 k _ _ (term_in s n _ lo h.0.0 first h.0.1) (terms_in s _ _ h.0.0 k rest h.0.2)) h.1

  terms_in : (s : Scene) (n : ℕ) (sort : Bool) (lo hi : ℕ) (x : tree.TermTail) → rise_terms x lo hi
      → Within lo hi (judge_terms s n sort x).faults
  terms_in s n sort lo hi tree.no_term h = none lo hi h
  terms_in s n sort lo hi (tree.more_term o t rest) h =
      joined lo h.0 hi _ _ (term_in s n _ lo h.0 t h.1) (terms_in s _ sort h.0 hi rest h.2)

  term_in : (s : Scene) (n : ℕ) (o : Operand) (lo hi : ℕ) (x : tree.Term) → rise_term x lo hi → Within lo hi (judge_term s n o x).faults
  term_in s n o lo hi (tree.term k first rest) h =
      in_product s lo k hi o rest _ (joined lo h.0.0 k _ _ (factor_in s n _ lo h.0.0 first h.0.1) (factors_in s _ _ h.0.0 k rest h.0.2)) h.1

  factors_in : (s : Scene) (n : ℕ) (sort : Bool) (lo hi : ℕ) (x : tree.FactorTail) → rise_factors x lo hi
      → Within lo hi (judge_factors s n sort x).faults
  factors_in s n sort lo hi tree.no_factor h = none lo hi h
  factors_in s n sort lo hi (tree.more_factor o t rest) h =
      joined lo h.0 hi _ _ (factor_in s n _ lo h.0 t h.1) (factors_in s _ sort h.0 hi rest h.2)

  factor_in : (s : Scene) (n : ℕ) (o : Operand) (lo hi : ℕ) (x : tree.Factor) → rise_factor x lo hi
      → Within lo hi (judge_factor s n o x).faults
  factor_in s n o lo hi (tree.not_factor k p) h =
      node_end lo k hi 23 _ _ (not_order s o _) (omega arith)
      (placed 16 lo (tree.primary_node p) k _ _ (test_rules s) (omega arith) (empty 17 23 (omega arith)) (test_order s)
      (primary_in (inside_of s) n lo k p h.0)) h.1
  factor_in s n o lo hi (tree.factor k p) h =
      node_end lo k hi 23 _ _ (operand_order s o _) (omega arith)
      (below 16 lo (tree.primary_node p) k _ _ (omega arith) (primary_in s n lo k p h.0)) h.1

  primary_in : (s : Scene) (n lo hi : ℕ) (x : tree.Primary) → rise_primary x lo hi
      → Ends 16 lo (tree.primary_node x) hi (judge_primary s n x).faults (judge_primary s n x).value
  primary_in s n lo hi (tree.number k t) h = (inl (none lo k h.0), h.0, h.1)
  primary_in s n lo hi (tree.literal k t) h =
      own 16 lo k hi [] (literal_rules s (literal_at s t) (Some (literal_typing s t))) (Some (literal_typing s t))
      (literal_order s (literal_at s t) None) (none lo k h.0) h.0 h.1
  primary_in s n lo hi (tree.named k d tree.no_args) h =
      let a : Within lo h.0.0 (judge_desig s n as_value d).faults =
      below 6 lo (tree.desig_node d) h.0.0 _ _ (omega arith) (desig_in s n as_value lo h.0.0 d h.0.1) in
      let l : lo ≤ h.0.0 = ordered lo h.0.0 _ a in
      (inl (higher lo h.0.0 k _ a h.0.2), omega (arith, l, h.0.2), h.1)
  primary_in s n lo hi (tree.named k d tree.empty_args) h =
      let a : Within lo h.0.0 (judge_desig s n as_procedure d).faults =
      below 6 lo (tree.desig_node d) h.0.0 _ _ (omega arith) (desig_in s n as_procedure lo h.0.0 d h.0.1) in
      let l : lo ≤ h.0.0 = ordered lo h.0.0 _ a in
      called_in s k lo h.0.0 hi (with_some callee_in (judge_desig s n as_procedure d)) 0
      (fine (judge_desig s n as_procedure d).next ir.no_args) a (none h.0.0 k h.0.2) (omega (arith, l, h.0.2)) h.1
  primary_in s n lo hi (tree.named k d (tree.args items)) h =
      let a : Within lo h.0.0 (judge_desig s n as_procedure d).faults =
      below 6 lo (tree.desig_node d) h.0.0 _ _ (omega arith) (desig_in s n as_procedure lo h.0.0 d h.0.1) in
      let l : lo ≤ h.0.0 = ordered lo h.0.0 _ a in
      let r : h.0.0 ≤ k = ordered h.0.0 k _ (arguments_in s 0 [] h.0.0 k items h.0.2) in
      called_in s k lo h.0.0 hi (with_some callee_in (judge_desig s n as_procedure d)) (argument_count items)
      (judge_arguments s (judge_desig s n as_procedure d).next (formals_of (with_some callee_in (judge_desig s n as_procedure d)).value)
      items) a (arguments_in s _ _ h.0.0 k items h.0.2) (omega (arith, l, r)) h.1
  primary_in s n lo hi (tree.paren k body) h =
      let a : Within lo k (judge_stmts (inside_of s) n body).faults = stmts_in (inside_of s) n lo k body h.0 in
      in_paren s lo k hi (judge_only s n body) (judge_stmts (inside_of s) n body) (only_in s n lo k body h.0) a (ordered lo k _ a) h.1
  primary_in s n lo hi (tree.known k d) h =
      let a : Within lo k (judge_desig s n as_variable d).faults =
      below 6 lo (tree.desig_node d) k _ _ (omega arith) (desig_in s n as_variable lo k d h.0) in
      ends_map 16 lo k hi _ known_typing _ (own 16 lo k hi _ _ _
      (known_order s (with_some located_in (judge_desig s n as_variable d)).value) a (ordered lo k _ a) h.1)
  primary_in s n lo hi (tree.ord k e) h =
      let a : Within lo k (judge_expr s n e).faults = below 8 lo (tree.expr_node e) k _ _ (omega arith) (expr_in s n lo k e h.0) in
      ends_map 16 lo k hi _ ord_typing _ (own 16 lo k hi _ _ _ (simple_order s (judge_expr s n e).value) a (ordered lo k _ a) h.1)
  primary_in s n lo hi (tree.chr k e) h =
      let a : Within lo k (judge_expr s n e).faults = below 8 lo (tree.expr_node e) k _ _ (omega arith) (expr_in s n lo k e h.0) in
      ends_map 16 lo k hi _ chr_typing _ (own 16 lo k hi _ _ _ (chr_order s (judge_expr s n e).value) a (ordered lo k _ a) h.1)

  only_in : (s : Scene) (n lo hi : ℕ) (x : tree.Stmts) → rise_stmts x lo hi → IfThere lo hi (judge_only s n x)
  only_in s n lo hi (tree.stmts k x rest) h =
      let r : h.0.0 ≤ k = ordered h.0.0 k _ (stmt_tail_in s 0 h.0.0 k rest h.0.2) in
      in_only lo h.0.0 hi rest (judge_value s n x) (value_in s n lo h.0.0 x h.0.1) (omega (arith, r, h.1))

  value_in : (s : Scene) (n lo hi : ℕ) (x : tree.Stmt) → rise_stmt x lo hi → IfThere lo hi (judge_value s n x)
  value_in s n lo hi (tree.value k e) h = up lo k hi _ (below 8 lo (tree.expr_node e) k _ _ (omega arith) (expr_in s n lo k e h.0)) h.1
  value_in s n lo hi x h = tt

  arguments_in : (s : Scene) (n : ℕ) (formals : List FormalOf) (lo hi : ℕ) (x : tree.Exprs) → rise_exprs x lo hi
      → Within lo hi (judge_arguments s n formals x).faults
  arguments_in s n formals lo hi (tree.exprs e rest) h =
      joined lo h.0 hi _ _ (placed 8 lo (tree.expr_node e) h.0 _ _ (argument_rules s (slice_get formals 0) (argument_kind s e))
      (omega arith) (argument_place s (slice_get formals 0) (argument_kind s e))
      (argument_order s (slice_get formals 0) (argument_kind s e)) (expr_in s n lo h.0 e h.1)) (argument_tail_in s _ _ h.0 hi rest h.2)

  argument_tail_in : (s : Scene) (n : ℕ) (formals : List FormalOf) (lo hi : ℕ) (x : tree.ExprTail) → rise_expr_tail x lo hi
      → Within lo hi (judge_argument_tail s n formals x).faults
  argument_tail_in s n formals lo hi tree.no_expr h = none lo hi h
  argument_tail_in s n formals lo hi (tree.more_expr e rest) h =
      joined lo h.0 hi _ _ (placed 8 lo (tree.expr_node e) h.0 _ _ (argument_rules s (slice_get formals 0) (argument_kind s e))
      (omega arith) (argument_place s (slice_get formals 0) (argument_kind s e))
      (argument_order s (slice_get formals 0) (argument_kind s e)) (expr_in s n lo h.0 e h.1)) (argument_tail_in s _ _ h.0 hi rest h.2)

  desig_in : (s : Scene) (n : ℕ) (wanted : Use) (lo hi : ℕ) (x : tree.Desig) → rise_desig x lo hi
      → Ends 6 lo (tree.desig_node x) hi (judge_desig s n wanted x).faults (judge_desig s n wanted x).value
  desig_in s n wanted lo hi (tree.desig k name more) h =
      let d : Judgement Denotation = judge_selectors s (judge_name s n name) more in
      let a : Within lo k d.faults =
      selectors_in s lo h.0.0 k (judge_name s n name) more
      (alone_at lo name.node h.0.0 23 _ (name_order (found s name) (denotation s (found s name))) (omega arith) h.0.1.0 h.0.1.1) h.0.2 in
      own 6 lo k hi d.faults _ d.value (desig_order s wanted (is_selected more) (found s name) d.value) a (ordered lo k _ a) h.1

  selectors_in : (s : Scene) (lo mid hi : ℕ) (d : Judgement Denotation) (x : tree.SelectorTail) → Within lo mid d.faults
      → rise_selectors x mid hi
      → Within lo hi (judge_selectors s d x).faults
  selectors_in s lo mid hi d tree.no_selector w h = higher lo mid hi d.faults w h
  selectors_in s lo mid hi d (tree.more_selector x rest) w h =
      selectors_in s lo h.0 hi (judge_selector s d x) rest (selector_in s lo mid h.0 d x w h.1) h.2

  selector_in : (s : Scene) (lo mid hi : ℕ) (d : Judgement Denotation) (x : tree.Selector) → Within lo mid d.faults → rise_selector x mid hi
      → Within lo hi (judge_selector s d x).faults
  selector_in s lo mid hi d (tree.field k name) w h =
      node_end lo k hi 23 _ _ (field_order s (text_at s name.token) d.value) (omega arith)
      (higher lo mid k d.faults w (omega (arith, h.0.0, h.0.1))) h.1
  selector_in s lo mid hi d (tree.index k items) w h =
      node_end lo k hi 23 _ _ (array_order _) (omega arith) (indices_in s lo mid k d items w h.0) h.1

  indices_in : (s : Scene) (lo mid hi : ℕ) (d : Judgement Denotation) (x : tree.Exprs) → Within lo mid d.faults → rise_exprs x mid hi
      → Within lo hi (judge_indices s d x).faults
  indices_in s lo mid hi d (tree.exprs e rest) w h =
      index_tail_in s lo h.0 hi (index_at s d (tree.expr_node e) (judge_expr s d.next e)) rest
      (joined lo mid h.0 _ _ w (placed 8 mid (tree.expr_node e) h.0 _ _ (index_rules s d.value) (omega arith) (empty 9 23 (omega arith))
      (index_order s d.value) (expr_in s d.next mid h.0 e h.1))) h.2

  index_tail_in : (s : Scene) (lo mid hi : ℕ) (d : Judgement Denotation) (x : tree.ExprTail) → Within lo mid d.faults
      → rise_expr_tail x mid hi
      → Within lo hi (judge_index_tail s d x).faults
  index_tail_in s lo mid hi d tree.no_expr w h = higher lo mid hi d.faults w h
  index_tail_in s lo mid hi d (tree.more_expr e rest) w h =
      index_tail_in s lo h.0 hi (index_at s d (tree.expr_node e) (judge_expr s d.next e)) rest
      (joined lo mid h.0 _ _ w (placed 8 mid (tree.expr_node e) h.0 _ _ (index_rules s d.value) (omega arith) (empty 9 23 (omega arith))
      (index_order s d.value) (expr_in s d.next mid h.0 e h.1))) h.2
