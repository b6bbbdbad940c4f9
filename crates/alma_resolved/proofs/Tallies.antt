-- How many statements of the resolved program a phrase of a tree stands for, and that the walk over its tokens marks as many.
use Rattle.std.proofs.Common.{◌≡◌, ℕ, ◌+◌, List, [], ◌∷◌, ◌++◌, length, Option, None, Some, refl, arith}
use Rattle.alma_tree.specs.declared.leaf.Sign.{Sign}
use Rattle.alma_rules.specs.Numbered as tree
use Rattle.alma_rules.specs.Places.{Mark, node_at, stmt_at, Step, stay, token, ◌>>◌, whole, statement, statement_of, from_here, mark_name}
use Rattle.alma_rules.specs.Places.{mark_sign, first_step, only_step, stmt_tokens, mark_stmts, mark_stmt_tail, mark_stmt, mark_elsifs}
use Rattle.alma_rules.specs.Places.{mark_else, mark_by, mark_orelses, mark_returned, mark_desigs, mark_arm, mark_arms, mark_label}
use Rattle.alma_rules.specs.Places.{mark_high, mark_labels, mark_expr, mark_compared, mark_simple, mark_terms, mark_term, mark_factors}
use Rattle.alma_rules.specs.Places.{mark_factor, mark_primary, mark_only, mark_value, mark_args, mark_exprs, mark_expr_tail, mark_items}
use Rattle.alma_rules.specs.Places.{mark_item_tail, mark_line_items, mark_desig, mark_selectors, mark_selector}

-- ---- how many

abbrev pub only_tally : tree.StmtTail → Option ℕ → Option ℕ
only_tally tree.no_stmt o = o
only_tally (tree.more_stmt x rest) o = None

abbrev pub first_tally : Option ℕ → ℕ → ℕ
first_tally None n = n
first_tally (Some m) n = m

unfoldable mutual
  pub tally_stmts : tree.Stmts → ℕ
  tally_stmts (tree.stmts n x rest) = tally_stmt x + tally_stmt_tail rest

  pub tally_stmt_tail : tree.StmtTail → ℕ
  tally_stmt_tail tree.no_stmt = 0
  tally_stmt_tail (tree.more_stmt x rest) = tally_stmt x + tally_stmt_tail rest

  pub tally_stmt : tree.Stmt → ℕ
  tally_stmt (tree.nothing n) = 0
  tally_stmt (tree.assign n d e) = 1 + (tally_desig d + tally_expr e)
  tally_stmt (tree.value n e) = 1 + tally_expr e
  tally_stmt (tree.if_stmt n e body elsifs other) = 1 + (tally_expr e + (tally_stmts body + (tally_elsifs elsifs + tally_else other)))
  tally_stmt (tree.while_stmt n e body) = 1 + (tally_expr e + tally_stmts body)
  tally_stmt (tree.repeat_stmt n body e) = 1 + (tally_stmts body + tally_expr e)
  tally_stmt (tree.for_stmt n name low high by body) = 1 + (tally_expr low + (tally_expr high + (tally_by by + tally_stmts body)))
  tally_stmt (tree.some_stmt n name low high body) = 1 + (tally_expr low + (tally_expr high + tally_stmts body))
  tally_stmt (tree.case_stmt n e first rest other) = 1 + (tally_expr e + (tally_arm first + (tally_arms rest + tally_else other)))
  tally_stmt (tree.either_stmt n body rest) = 1 + (tally_stmts body + tally_orelses rest)
  tally_stmt (tree.forall_stmt n choice body) = 1 + (tally_stmts choice + tally_stmts body)
  tally_stmt (tree.commit_stmt n body) = 1 + tally_stmts body
  tally_stmt (tree.return_stmt n e) = 1 + tally_returned e
  tally_stmt (tree.read_stmt n d rest) = 1 + (tally_desig d + tally_desigs rest)
  tally_stmt (tree.write_stmt n items) = tally_items items
  tally_stmt (tree.writeln_stmt n items) = tally_line_items items + 1

  pub tally_elsifs : tree.ElsifTail → ℕ
  tally_elsifs tree.no_elsif = 0
  tally_elsifs (tree.more_elsif e body rest) = tally_expr e + (tally_stmts body + tally_elsifs rest)

  pub tally_else : tree.Else → ℕ
  tally_else tree.no_else = 0
  tally_else (tree.else_stmts body) = tally_stmts body

  pub tally_by : tree.By → ℕ
  tally_by tree.no_by = 0
  tally_by (tree.by_expr e) = tally_expr e

  pub tally_orelses : tree.OrelseTail → ℕ
  tally_orelses tree.no_orelse = 0
  tally_orelses (tree.more_orelse body rest) = tally_stmts body + tally_orelses rest

  pub tally_returned : tree.Returned → ℕ
  tally_returned tree.no_value = 0
  tally_returned (tree.returned e) = tally_expr e

  pub tally_desigs : tree.DesigTail → ℕ
  tally_desigs tree.no_desig = 0
  tally_desigs (tree.more_desig d rest) = 1 + (tally_desig d + tally_desigs rest)

  pub tally_arm : tree.Arm → ℕ
  tally_arm (tree.empty_arm n) = 0
  tally_arm (tree.arm n first rest body) = tally_label first + (tally_labels rest + tally_stmts body)

  pub tally_arms : tree.ArmTail → ℕ
  tally_arms tree.no_arm = 0
  tally_arms (tree.more_arm x rest) = tally_arm x + tally_arms rest

  pub tally_label : tree.Label → ℕ
  tally_label (tree.label n low high) = tally_expr low + tally_high high

  pub tally_high : tree.High → ℕ
  tally_high tree.no_high = 0
  tally_high (tree.high_expr e) = tally_expr e

  pub tally_labels : tree.LabelTail → ℕ
  tally_labels tree.no_label = 0
  tally_labels (tree.more_label x rest) = tally_label x + tally_labels rest

  pub tally_expr : tree.Expr → ℕ
  tally_expr (tree.expr n left right) = tally_simple left + tally_compared right

  pub tally_compared : tree.Compared → ℕ
  tally_compared tree.no_relation = 0
  tally_compared (tree.compared relation right) = tally_simple right

  pub tally_simple : tree.Simple → ℕ
  tally_simple (tree.simple n sign first rest) = tally_term first + tally_terms rest

  pub tally_terms : tree.TermTail → ℕ
  tally_terms tree.no_term = 0
  tally_terms (tree.more_term o t rest) = tally_term t + tally_terms rest

  pub tally_term : tree.Term → ℕ
  tally_term (tree.term n first rest) = tally_factor first + tally_factors rest

  pub tally_factors : tree.FactorTail → ℕ
  tally_factors tree.no_factor = 0
  tally_factors (tree.more_factor o f rest) = tally_factor f + tally_factors rest

  pub tally_factor : tree.Factor → ℕ
  tally_factor (tree.not_factor n p) = tally_primary p
  tally_factor (tree.factor n p) = tally_primary p

  pub tally_primary : tree.Primary → ℕ
  tally_primary (tree.number n t) = 0
  tally_primary (tree.literal n t) = 0
  tally_primary (tree.named n d given) = tally_desig d + tally_args given
  tally_primary (tree.paren n body) = first_tally (tally_only body) (tally_stmts body)
  tally_primary (tree.known n d) = tally_desig d
  tally_primary (tree.ord n e) = tally_expr e
  tally_primary (tree.chr n e) = tally_expr e

  pub tally_args : tree.Args → ℕ
  tally_args tree.no_args = 0
  tally_args tree.empty_args = 0
  tally_args (tree.args items) = tally_exprs items

  pub tally_exprs : tree.Exprs → ℕ
  tally_exprs (tree.exprs e rest) = tally_expr e + tally_expr_tail rest

  pub tally_expr_tail : tree.ExprTail → ℕ
  tally_expr_tail tree.no_expr = 0
  tally_expr_tail (tree.more_expr e rest) = tally_expr e + tally_expr_tail rest

  pub tally_items : tree.Exprs → ℕ
  tally_items (tree.exprs e rest) = 1 + (tally_expr e + tally_item_tail rest)

  pub tally_item_tail : tree.ExprTail → ℕ
  tally_item_tail tree.no_expr = 0
  tally_item_tail (tree.more_expr e rest) = 1 + (tally_expr e + tally_item_tail rest)

  pub tally_line_items : tree.Args → ℕ
  tally_line_items tree.no_args = 0
  tally_line_items tree.empty_args = 0
  tally_line_items (tree.args items) = tally_items items

  pub tally_desig : tree.Desig → ℕ
  tally_desig (tree.desig n name more) = tally_selectors more

  pub tally_selectors : tree.SelectorTail → ℕ
  tally_selectors tree.no_selector = 0
  tally_selectors (tree.more_selector x rest) = tally_selector x + tally_selectors rest

  pub tally_selector : tree.Selector → ℕ
  tally_selector (tree.field n name) = 0
  tally_selector (tree.index n items) = tally_exprs items

  -- a single expression in parentheses is no statement
  pub tally_only : tree.Stmts → Option ℕ
  tally_only (tree.stmts n x rest) = only_tally rest (tally_value x)

  pub tally_value : tree.Stmt → Option ℕ
  tally_value (tree.value n e) = Some (tally_expr e)
  tally_value x = None

-- ---- as many are marked

-- the step marks so many statements, wherever it begins
unfoldable pub Tallies : Step → ℕ → Type 0
Tallies f n = (at : ℕ) → length (stmt_tokens (f at).marks) ≡ n

stmts_apart : (xs ys : List Mark) → length (stmt_tokens (xs ++ ys)) ≡ length (stmt_tokens xs) + length (stmt_tokens ys)
stmts_apart [] ys = omega arith
stmts_apart (node_at m t ∷ xs) ys = stmts_apart xs ys
stmts_apart (stmt_at t ∷ xs) ys = omega (arith, stmts_apart xs ys)

tally_stay : Tallies stay 0
unfolding Tallies
tally_stay at = refl

tally_token : Tallies token 0
unfolding Tallies
tally_token at = refl

tally_statement : Tallies statement 1
unfolding Tallies
tally_statement at = refl

tally_statement_of : (t : ℕ) → Tallies (statement_of t) 1
unfolding Tallies
tally_statement_of t at = refl

tally_both : (f g : Step) (a b : ℕ) → Tallies f a → Tallies g b → Tallies (f >> g) (a + b)
unfolding Tallies
tally_both f g a b p q at = omega (arith, stmts_apart (f at).marks (g (f at).end).marks, p at, q (f at).end)

tally_after : (f g : Step) (b : ℕ) → Tallies f 0 → Tallies g b → Tallies (f >> g) b
unfolding Tallies
tally_after f g b p q at = omega (arith, stmts_apart (f at).marks (g (f at).end).marks, p at, q (f at).end)

tally_before : (f g : Step) (a : ℕ) → Tallies f a → Tallies g 0 → Tallies (f >> g) a
unfolding Tallies
tally_before f g a p q at = omega (arith, stmts_apart (f at).marks (g (f at).end).marks, p at, q (f at).end)

tally_none : (f g : Step) → Tallies f 0 → Tallies g 0 → Tallies (f >> g) 0
unfolding Tallies
tally_none f g p q at = omega (arith, stmts_apart (f at).marks (g (f at).end).marks, p at, q (f at).end)

tally_whole : (n : ℕ) (f : Step) (a : ℕ) → Tallies f a → Tallies (whole n f) a
unfolding Tallies
tally_whole n f a p at = omega (arith, stmts_apart (f at).marks (node_at n at ∷ []), p at)

tally_from_here : (f : ℕ → Step) (a : ℕ) → ((at : ℕ) → Tallies (f at) a) → Tallies (from_here f) a
unfolding Tallies
tally_from_here f a p at = p at at

tally_name : (name : tree.Name) → Tallies (mark_name name) 0
tally_name name = tally_whole name.node _ _ tally_token

tally_sign : (sign : Option Sign) → Tallies (mark_sign sign) 0
tally_sign None = tally_stay
tally_sign (Some s) = tally_token

-- of the one statement that is an expression
abbrev OnlyTallies : Option Step → Option ℕ → Type 0
OnlyTallies None None = Unit {0}
OnlyTallies None (Some n) = ⊥
OnlyTallies (Some f) None = ⊥
OnlyTallies (Some f) (Some n) = Tallies f n

only_case : (m : ℕ) (rest : tree.StmtTail) (f : Option Step) (n : Option ℕ) → OnlyTallies f n
    → OnlyTallies (only_step m rest f) (only_tally rest n)
only_case m tree.no_stmt None None h = tt
only_case m tree.no_stmt None (Some n) h = h
only_case m tree.no_stmt (Some f) None h = h
only_case m tree.no_stmt (Some f) (Some n) h = tally_whole m f n h
only_case m (tree.more_stmt x rest) f n h = tt

first_tallies : (f : Option Step) (n : Option ℕ) (g : Step) (m : ℕ) → OnlyTallies f n → Tallies g m
    → Tallies (first_step f g) (first_tally n m)
first_tallies None None g m h k = k
first_tallies None (Some n) g m h k = absurd h
first_tallies (Some f) None g m h k = absurd h
first_tallies (Some f) (Some n) g m h k = h

mutual
  unfolding mark_stmts tally_stmts

  pub stmts_tallied : (x : tree.Stmts) → Tallies (mark_stmts x) (tally_stmts x)
  stmts_tallied (tree.stmts n x rest) = tally_whole n _ _ (tally_both _ _ _ _ (stmt_tallied x) (stmt_tail_tallied rest))

  stmt_tail_tallied : (x : tree.StmtTail) → Tallies (mark_stmt_tail x) (tally_stmt_tail x)
  stmt_tail_tallied tree.no_stmt = tally_stay
  stmt_tail_tallied (tree.more_stmt x rest) = tally_after _ _ _ tally_token (tally_both _ _ _ _ (stmt_tallied x) (stmt_tail_tallied rest))

  stmt_tallied : (x : tree.Stmt) → Tallies (mark_stmt x) (tally_stmt x)
  stmt_tallied (tree.nothing n) = tally_whole n _ _ tally_stay
  stmt_tallied (tree.assign n d e) = tally_whole n _ _
      (tally_both _ _ _ _ tally_statement (tally_both _ _ _ _ (desig_tallied d) (tally_after _ _ _ tally_token (expr_tallied e))))
  stmt_tallied (tree.value n e) = tally_whole n _ _ (tally_both _ _ _ _ tally_statement (expr_tallied e))
  stmt_tallied (tree.if_stmt n e body elsifs other) =
      tally_whole n _ _ (tally_both _ _ _ _ tally_statement
      (tally_after _ _ _ tally_token (tally_both _ _ _ _ (expr_tallied e)
      (tally_after _ _ _ tally_token (tally_both _ _ _ _ (stmts_tallied body)
      (tally_both _ _ _ _ (elsifs_tallied elsifs) (tally_before _ _ _ (else_tallied other) tally_token)))))))
  stmt_tallied (tree.while_stmt n e body) =
      tally_whole n _ _ (tally_both _ _ _ _ tally_statement
      (tally_after _ _ _ tally_token (tally_both _ _ _ _ (expr_tallied e)
      (tally_after _ _ _ tally_token (tally_before _ _ _ (stmts_tallied body) tally_token)))))
  stmt_tallied (tree.repeat_stmt n body e) =
      tally_whole n _ _ (tally_both _ _ _ _ tally_statement
      (tally_after _ _ _ tally_token (tally_both _ _ _ _ (stmts_tallied body) (tally_after _ _ _ tally_token (expr_tallied e)))))
  stmt_tallied (tree.for_stmt n name low high by body) =
      tally_whole n _ _ (tally_both _ _ _ _ tally_statement
      (tally_after _ _ _ tally_token (tally_after _ _ _ (tally_name name)
      (tally_after _ _ _ tally_token (tally_both _ _ _ _ (expr_tallied low)
      (tally_after _ _ _ tally_token (tally_both _ _ _ _ (expr_tallied high)
      (tally_both _ _ _ _ (by_tallied by) (tally_after _ _ _ tally_token (tally_before _ _ _ (stmts_tallied body) tally_token))))))))))
  stmt_tallied (tree.some_stmt n name low high body) =
      tally_whole n _ _ (tally_both _ _ _ _ tally_statement
      (tally_after _ _ _ tally_token (tally_after _ _ _ (tally_name name)
      (tally_after _ _ _ tally_token (tally_both _ _ _ _ (expr_tallied low)
      (tally_after _ _ _ tally_token (tally_both _ _ _ _ (expr_tallied high)
      (tally_after _ _ _ tally_token (tally_before _ _ _ (stmts_tallied body) tally_token)))))))))
  stmt_tallied (tree.case_stmt n e first rest other) =
      tally_whole n _ _ (tally_both _ _ _ _ tally_statement
      (tally_after _ _ _ tally_token (tally_both _ _ _ _ (expr_tallied e)
      (tally_after _ _ _ tally_token (tally_both _ _ _ _ (arm_tallied first)
      (tally_both _ _ _ _ (arms_tallied rest) (tally_before _ _ _ (else_tallied other) tally_token)))))))
  stmt_tallied (tree.either_stmt n body rest) =
      tally_whole n _ _ (tally_both _ _ _ _ tally_statement
      (tally_after _ _ _ tally_token (tally_both _ _ _ _ (stmts_tallied body) (tally_before _ _ _ (orelses_tallied rest) tally_token))))
  stmt_tallied (tree.forall_stmt n choice body) =
      tally_whole n _ _ (tally_both _ _ _ _ tally_statement
      (tally_after _ _ _ tally_token (tally_both _ _ _ _ (stmts_tallied choice)
      (tally_after _ _ _ tally_token (tally_before _ _ _ (stmts_tallied body) tally_token)))))
  stmt_tallied (tree.commit_stmt n body) =
      tally_whole n _ _ (tally_both _ _ _ _ tally_statement
      (tally_after _ _ _ tally_token (tally_before _ _ _ (stmts_tallied body) tally_token)))
  stmt_tallied (tree.return_stmt n e) = tally_whole n _ _
      (tally_both _ _ _ _ tally_statement (tally_after _ _ _ tally_token (returned_tallied e)))
  stmt_tallied (tree.read_stmt n d rest) =
      tally_whole n _ _ (tally_from_here _ _
      (λ at. (tally_after _ _ _ tally_token (tally_after _ _ _ tally_token
      (tally_both _ _ _ _ (tally_statement_of at)
      (tally_both _ _ _ _ (desig_tallied d) (tally_before _ _ _ (desigs_tallied at rest) tally_token)))))))
  stmt_tallied (tree.write_stmt n items) =
      tally_whole n _ _ (tally_from_here _ _
      (λ at. (tally_after _ _ _ tally_token (tally_after _ _ _ tally_token (tally_before _ _ _ (items_tallied at items) tally_token)))))
  stmt_tallied (tree.writeln_stmt n items) =
      tally_whole n _ _ (tally_from_here _ _
      (λ at. (tally_after _ _ _ tally_token (tally_both _ _ _ _ (line_items_tallied at items) (tally_statement_of at)))))

  elsifs_tallied : (x : tree.ElsifTail) → Tallies (mark_elsifs x) (tally_elsifs x)
  elsifs_tallied tree.no_elsif = tally_stay
  elsifs_tallied (tree.more_elsif e body rest) =
      tally_after _ _ _ tally_token (tally_both _ _ _ _ (expr_tallied e)
      (tally_after _ _ _ tally_token (tally_both _ _ _ _ (stmts_tallied body) (elsifs_tallied rest))))

  else_tallied : (x : tree.Else) → Tallies (mark_else x) (tally_else x)
  else_tallied tree.no_else = tally_stay
  else_tallied (tree.else_stmts body) = tally_after _ _ _ tally_token (stmts_tallied body)

  by_tallied : (x : tree.By) → Tallies (mark_by x) (tally_by x)
  by_tallied tree.no_by = tally_stay
  by_tallied (tree.by_expr e) = tally_after _ _ _ tally_token (expr_tallied e)

  orelses_tallied : (x : tree.OrelseTail) → Tallies (mark_orelses x) (tally_orelses x)
  orelses_tallied tree.no_orelse = tally_stay
  orelses_tallied (tree.more_orelse body rest) =
      tally_after _ _ _ tally_token (tally_both _ _ _ _ (stmts_tallied body) (orelses_tallied rest))

  returned_tallied : (x : tree.Returned) → Tallies (mark_returned x) (tally_returned x)
  returned_tallied tree.no_value = tally_stay
  returned_tallied (tree.returned e) = expr_tallied e

  desigs_tallied : (at : ℕ) (x : tree.DesigTail) → Tallies (mark_desigs at x) (tally_desigs x)
  desigs_tallied at tree.no_desig = tally_stay
  desigs_tallied at (tree.more_desig d rest) =
      tally_after _ _ _ tally_token (tally_both _ _ _ _ (tally_statement_of at)
      (tally_both _ _ _ _ (desig_tallied d) (desigs_tallied at rest)))

  arm_tallied : (x : tree.Arm) → Tallies (mark_arm x) (tally_arm x)
  arm_tallied (tree.empty_arm n) = tally_whole n _ _ tally_stay
  arm_tallied (tree.arm n first rest body) =
      tally_whole n _ _ (tally_both _ _ _ _ (label_tallied first)
      (tally_both _ _ _ _ (labels_tallied rest) (tally_after _ _ _ tally_token (stmts_tallied body))))

  arms_tallied : (x : tree.ArmTail) → Tallies (mark_arms x) (tally_arms x)
  arms_tallied tree.no_arm = tally_stay
  arms_tallied (tree.more_arm x rest) = tally_after _ _ _ tally_token (tally_both _ _ _ _ (arm_tallied x) (arms_tallied rest))

  label_tallied : (x : tree.Label) → Tallies (mark_label x) (tally_label x)
  label_tallied (tree.label n low high) = tally_whole n _ _ (tally_both _ _ _ _ (expr_tallied low) (high_tallied high))

  high_tallied : (x : tree.High) → Tallies (mark_high x) (tally_high x)
  high_tallied tree.no_high = tally_stay
  high_tallied (tree.high_expr e) = tally_after _ _ _ tally_token (expr_tallied e)

  labels_tallied : (x : tree.LabelTail) → Tallies (mark_labels x) (tally_labels x)
  labels_tallied tree.no_label = tally_stay
  labels_tallied (tree.more_label x rest) = tally_after _ _ _ tally_token (tally_both _ _ _ _ (label_tallied x) (labels_tallied rest))

  expr_tallied : (x : tree.Expr) → Tallies (mark_expr x) (tally_expr x)
  expr_tallied (tree.expr n left right) = tally_whole n _ _ (tally_both _ _ _ _ (simple_tallied left) (compared_tallied right))

  compared_tallied : (x : tree.Compared) → Tallies (mark_compared x) (tally_compared x)
  compared_tallied tree.no_relation = tally_stay
  compared_tallied (tree.compared relation right) = tally_after _ _ _ tally_token (simple_tallied right)

  simple_tallied : (x : tree.Simple) → Tallies (mark_simple x) (tally_simple x)
  simple_tallied (tree.simple n sign first rest) =
      tally_whole n _ _ (tally_after _ _ _ (tally_sign sign) (tally_both _ _ _ _ (term_tallied first) (terms_tallied rest)))

  terms_tallied : (x : tree.TermTail) → Tallies (mark_terms x) (tally_terms x)
  terms_tallied tree.no_term = tally_stay
  terms_tallied (tree.more_term o t rest) = tally_after _ _ _ tally_token (tally_both _ _ _ _ (term_tallied t) (terms_tallied rest))

  term_tallied : (x : tree.Term) → Tallies (mark_term x) (tally_term x)
  term_tallied (tree.term n first rest) = tally_whole n _ _ (tally_both _ _ _ _ (factor_tallied first) (factors_tallied rest))

  factors_tallied : (x : tree.FactorTail) → Tallies (mark_factors x) (tally_factors x)
  factors_tallied tree.no_factor = tally_stay
  factors_tallied (tree.more_factor o f rest) = tally_after _ _ _ tally_token (tally_both _ _ _ _ (factor_tallied f) (factors_tallied rest))

  factor_tallied : (x : tree.Factor) → Tallies (mark_factor x) (tally_factor x)
  factor_tallied (tree.not_factor n p) = tally_whole n _ _ (tally_after _ _ _ tally_token (primary_tallied p))
  factor_tallied (tree.factor n p) = tally_whole n _ _ (primary_tallied p)

  primary_tallied : (x : tree.Primary) → Tallies (mark_primary x) (tally_primary x)
  primary_tallied (tree.number n t) = tally_whole n _ _ tally_token
  primary_tallied (tree.literal n t) = tally_whole n _ _ tally_token
  primary_tallied (tree.named n d given) = tally_whole n _ _ (tally_both _ _ _ _ (desig_tallied d) (args_tallied given))
  primary_tallied (tree.paren n body) = tally_whole n _ _
      (tally_after _ _ _ tally_token (tally_before _ _ _ (first_tallies _ _ _ _ (only_tallied body) (stmts_tallied body)) tally_token))
  primary_tallied (tree.known n d) = tally_whole n _ _
      (tally_after _ _ _ tally_token (tally_after _ _ _ tally_token (tally_before _ _ _ (desig_tallied d) tally_token)))
  primary_tallied (tree.ord n e) = tally_whole n _ _
      (tally_after _ _ _ tally_token (tally_after _ _ _ tally_token (tally_before _ _ _ (expr_tallied e) tally_token)))
  primary_tallied (tree.chr n e) = tally_whole n _ _
      (tally_after _ _ _ tally_token (tally_after _ _ _ tally_token (tally_before _ _ _ (expr_tallied e) tally_token)))

  args_tallied : (x : tree.Args) → Tallies (mark_args x) (tally_args x)
  args_tallied tree.no_args = tally_stay
  args_tallied tree.empty_args = tally_none _ _ tally_token tally_token
  args_tallied (tree.args items) = tally_after _ _ _ tally_token (tally_before _ _ _ (exprs_tallied items) tally_token)

  exprs_tallied : (x : tree.Exprs) → Tallies (mark_exprs x) (tally_exprs x)
  exprs_tallied (tree.exprs e rest) = tally_both _ _ _ _ (expr_tallied e) (expr_tail_tallied rest)

  expr_tail_tallied : (x : tree.ExprTail) → Tallies (mark_expr_tail x) (tally_expr_tail x)
  expr_tail_tallied tree.no_expr = tally_stay
  expr_tail_tallied (tree.more_expr e rest) = tally_after _ _ _ tally_token (tally_both _ _ _ _ (expr_tallied e) (expr_tail_tallied rest))

  items_tallied : (at : ℕ) (x : tree.Exprs) → Tallies (mark_items at x) (tally_items x)
  items_tallied at (tree.exprs e rest) = tally_both _ _ _ _ (tally_statement_of at)
      (tally_both _ _ _ _ (expr_tallied e) (item_tail_tallied at rest))

  item_tail_tallied : (at : ℕ) (x : tree.ExprTail) → Tallies (mark_item_tail at x) (tally_item_tail x)
  item_tail_tallied at tree.no_expr = tally_stay
  item_tail_tallied at (tree.more_expr e rest) =
      tally_after _ _ _ tally_token (tally_both _ _ _ _ (tally_statement_of at)
      (tally_both _ _ _ _ (expr_tallied e) (item_tail_tallied at rest)))

  line_items_tallied : (at : ℕ) (x : tree.Args) → Tallies (mark_line_items at x) (tally_line_items x)
  line_items_tallied at tree.no_args = tally_stay
  line_items_tallied at tree.empty_args = tally_none _ _ tally_token tally_token
  line_items_tallied at (tree.args items) = tally_after _ _ _ tally_token (tally_before _ _ _ (items_tallied at items) tally_token)

  desig_tallied : (x : tree.Desig) → Tallies (mark_desig x) (tally_desig x)
  desig_tallied (tree.desig n name more) = tally_whole n _ _ (tally_after _ _ _ (tally_name name) (selectors_tallied more))

  selectors_tallied : (x : tree.SelectorTail) → Tallies (mark_selectors x) (tally_selectors x)
  selectors_tallied tree.no_selector = tally_stay
  selectors_tallied (tree.more_selector x rest) = tally_both _ _ _ _ (selector_tallied x) (selectors_tallied rest)

  selector_tallied : (x : tree.Selector) → Tallies (mark_selector x) (tally_selector x)
  selector_tallied (tree.field n name) = tally_whole n _ _ (tally_none _ _ tally_token (tally_name name))
  selector_tallied (tree.index n items) = tally_whole n _ _
      (tally_after _ _ _ tally_token (tally_before _ _ _ (exprs_tallied items) tally_token))

  only_tallied : (x : tree.Stmts) → OnlyTallies (mark_only x) (tally_only x)
  only_tallied (tree.stmts n x rest) = only_case n rest (mark_value x) (tally_value x) (value_tallied x)

  value_tallied : (x : tree.Stmt) → OnlyTallies (mark_value x) (tally_value x)
  value_tallied (tree.value n e) = tally_whole n _ _ (expr_tallied e)
  value_tallied x = tt
