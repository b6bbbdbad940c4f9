-- Counting gives each phrase with the numbers that the parser gave it: statements and expressions.
use Rattle.alma_tree.specs.declared.phrase.Stmt as dt
use Rattle.alma_tree.specs.declared.phrase.Elsif as df
use Rattle.alma_tree.specs.declared.phrase.Arm as da
use Rattle.alma_tree.specs.declared.phrase.Label as dl
use Rattle.alma_tree.specs.declared.phrase.Expr as de
use Rattle.alma_tree.specs.declared.phrase.Compared as dc
use Rattle.alma_tree.specs.declared.phrase.Simple as di
use Rattle.alma_tree.specs.declared.phrase.AddLink as dk
use Rattle.alma_tree.specs.declared.phrase.Term as dm
use Rattle.alma_tree.specs.declared.phrase.Factor as dr
use Rattle.alma_tree.specs.declared.phrase.Primary as dp
use Rattle.alma_tree.specs.declared.phrase.Args as dg
use Rattle.alma_tree.specs.declared.phrase.Exprs as dx
use Rattle.alma_tree.specs.declared.phrase.Desig as dd
use Rattle.alma_tree.specs.declared.phrase.Selector as dj
use Rattle.alma_tree.specs.Numbers as number
use Rattle.alma_tree.specs.View as plain
use Rattle.alma_rules.specs.View as view
use Rattle.alma_resolved.proofs.Recount as count
use Rattle.alma_resolved.proofs.Steps.{Makes, stays, one_token, closes, behind_token, behind_leaf, behind_sign, both, last, name_made}

mutual
  pub stmt_made : (x : dt.Stmt) → Makes (number.number_stmt x) (count.count_stmt (plain.view_stmt x)) (view.view_stmt x)
  stmt_made (dt.Nothing n) = closes n _
  stmt_made (dt.Assign' n m l shape row e) =
      both _ (both _ (name_made l) (both _ (selectors_made row) (closes m _))) (behind_token (both _ (expr_made e) (closes n _)))
  stmt_made (dt.Value n e) = both _ (expr_made e) (closes n _)
  stmt_made (dt.If' n e m b s shape row shape' row' other) =
      behind_token (both _ (expr_made e) (behind_token
      (both _ (both _ (stmt_made s) (both _ (stmts_made row) (closes m _))) (both _ (elsifs_made row')
      (both _ (else_made other) (behind_token (closes n _)))))))
  stmt_made (dt.While' n e m b s shape row) =
      behind_token (both _ (expr_made e) (behind_token
      (both _ (both _ (stmt_made s) (both _ (stmts_made row) (closes m _))) (behind_token (closes n _)))))
  stmt_made (dt.Repeat' n m b s shape row e) =
      behind_token (both _ (both _ (stmt_made s) (both _ (stmts_made row) (closes m _))) (behind_token (both _ (expr_made e) (closes n _))))
  stmt_made (dt.For' n l low high by m b s shape row) =
      behind_token (both _ (name_made l) (behind_token (both _ (expr_made low) (behind_token (both _ (expr_made high) (both _ (by_made by)
      (behind_token (both _ (both _ (stmt_made s) (both _ (stmts_made row) (closes m _))) (behind_token (closes n _))))))))))
  stmt_made (dt.Some' n l low high m b s shape row) =
      behind_token (both _ (name_made l) (behind_token
      (both _ (expr_made low) (behind_token (both _ (expr_made high) (behind_token (both _ (both _
      (stmt_made s) (both _ (stmts_made row) (closes m _))) (behind_token (closes n _)))))))))
  stmt_made (dt.Case' n e b a shape row other) =
      behind_token (both _ (expr_made e) (behind_token
      (both _ (arm_made a) (both _ (arms_made row) (both _ (else_made other) (behind_token (closes n _)))))))
  stmt_made (dt.Either' n m b s shape row shape' row') =
      behind_token (both _ (both _ (stmt_made s) (both _ (stmts_made row) (closes m _)))
      (both _ (orelses_made row') (behind_token (closes n _))))
  stmt_made (dt.Forall' n m b s shape row m' b' s' shape' row') =
      behind_token (both _ (both _ (stmt_made s) (both _ (stmts_made row) (closes m _)))
      (behind_token (both _ (both _ (stmt_made s') (both _
      (stmts_made row') (closes m' _))) (behind_token (closes n _)))))
  stmt_made (dt.Commit' n m b s shape row) =
      behind_token (both _ (both _ (stmt_made s) (both _ (stmts_made row) (closes m _))) (behind_token (closes n _)))
  stmt_made (dt.Return' n e) = behind_token (both _ (returned_made e) (closes n _))
  stmt_made (dt.Read' n m l shape row shape' row') =
      behind_token (behind_token (both _ (both _ (name_made l) (both _ (selectors_made row) (closes m _)))
      (both _ (desigs_made row') (behind_token
      (closes n _)))))
  stmt_made (dt.Write n es) = behind_token (behind_token (both _ (exprs_made es) (behind_token (closes n _))))
  stmt_made (dt.Writeln' n a) = behind_token (both _ (args_made a) (closes n _))

  pub stmts_made : {n : _} (x : da.Row_of-Stmt n)
      → Makes (number.number_stmts_row x) (count.count_stmt_tail (plain.view_stmts_row x)) (view.view_stmts_row x)
  stmts_made da.end_of-Stmt = stays _
  stmts_made (da.more_of-Stmt s rest) = behind_token (both _ (stmt_made s) (last _ (stmts_made rest)))

  pub elsifs_made : {n : _} (x : dt.Row_of-Elsif n)
      → Makes (number.number_elsifs x) (count.count_elsifs (plain.view_elsifs x)) (view.view_elsifs x)
  elsifs_made dt.end_of-Elsif = stays _
  elsifs_made (dt.more_of-Elsif (df.Elsif' e m b s shape row) rest) =
      behind_token (both _ (expr_made e) (behind_token
      (both _ (both _ (stmt_made s) (both _ (stmts_made row) (closes m _))) (last _ (elsifs_made rest)))))

  pub else_made : (x : dt.Held-Stmt-If-4) → Makes (number.number_else x) (count.count_else (plain.view_else x)) (view.view_else x)
  else_made dt.Stmt-If-4-None' = stays _
  else_made (dt.Stmt-If-4-Some' m b s shape row) = behind_token (last _ (both _ (stmt_made s) (both _ (stmts_made row) (closes m _))))

  pub by_made : (x : dl.Held-Stmt-For-4) → Makes (number.number_by x) (count.count_by (plain.view_by x)) (view.view_by x)
  by_made dl.Stmt-For-4-None' = stays _
  by_made (dl.Stmt-For-4-Some' e) = behind_token (last _ (expr_made e))

  pub orelses_made : {n : _} (x : dt.Row_of-Stmts n)
      → Makes (number.number_orelses x) (count.count_orelses (plain.view_orelses x)) (view.view_orelses x)
  orelses_made dt.end_of-Stmts = stays _
  orelses_made (dt.more_of-Stmts m b s shape row rest) =
      behind_token (both _ (both _ (stmt_made s) (both _ (stmts_made row) (closes m _))) (last _ (orelses_made rest)))

  pub returned_made : (x : dl.Held-Stmt-For-4)
      → Makes (number.number_returned x) (count.count_returned (plain.view_returned x)) (view.view_returned x)
  returned_made dl.Stmt-For-4-None' = stays _
  returned_made (dl.Stmt-For-4-Some' e) = last _ (expr_made e)

  pub desigs_made : {n : _} (x : dt.Row_of-Desig n)
      → Makes (number.number_desigs x) (count.count_desigs (plain.view_desigs x)) (view.view_desigs x)
  desigs_made dt.end_of-Desig = stays _
  desigs_made (dt.more_of-Desig m l shape row rest) =
      behind_token (both _ (both _ (name_made l) (both _ (selectors_made row) (closes m _))) (last _ (desigs_made rest)))

  pub arm_made : (x : da.Arm) → Makes (number.number_arm x) (count.count_arm (plain.view_arm x)) (view.view_arm x)
  arm_made (da.Empty n) = closes n _
  arm_made (da.Labelled' n l shape row m b s shape' row') =
      both _ (label_made l) (both _ (labels_made row)
      (behind_token (both _ (both _ (stmt_made s) (both _ (stmts_made row') (closes m _))) (closes n _))))

  pub arms_made : {n : _} (x : dt.Row_of-Arm n) → Makes (number.number_arms x) (count.count_arms (plain.view_arms x)) (view.view_arm_row x)
  arms_made dt.end_of-Arm = stays _
  arms_made (dt.more_of-Arm a rest) = behind_token (both _ (arm_made a) (last _ (arms_made rest)))

  pub label_made : (x : dl.Label) → Makes (number.number_label x) (count.count_label (plain.view_label x)) (view.view_label x)
  label_made (dl.Label' n e h) = both _ (expr_made e) (both _ (high_made h) (closes n _))

  pub high_made : (x : dl.Held-Stmt-For-4) → Makes (number.number_high x) (count.count_high (plain.view_high x)) (view.view_high x)
  high_made dl.Stmt-For-4-None' = stays _
  high_made (dl.Stmt-For-4-Some' e) = behind_token (last _ (expr_made e))

  pub labels_made : {n : _} (x : da.Row_of-Label n)
      → Makes (number.number_labels x) (count.count_labels (plain.view_labels x)) (view.view_labels x)
  labels_made da.end_of-Label = stays _
  labels_made (da.more_of-Label l rest) = behind_token (both _ (label_made l) (last _ (labels_made rest)))

  pub expr_made : (x : de.Expr) → Makes (number.number_expr x) (count.count_expr (plain.view_expr x)) (view.view_expr x)
  expr_made (de.Expr' n s right) = both _ (simple_made s) (both _ (compared_made right) (closes n _))

  pub compared_made : (x : de.Held-Expr-right)
      → Makes (number.number_compared x) (count.count_compared (plain.view_compared x)) (view.view_compared x)
  compared_made de.Expr-right-None' = stays _
  compared_made (de.Expr-right-Some' b (dc.Compared' r s)) = behind_token (last _ (simple_made s))

  pub simple_made : (x : di.Simple) → Makes (number.number_simple x) (count.count_simple (plain.view_simple x)) (view.view_simple x)
  simple_made (di.Simple' n sign b t shape row) = behind_sign sign (both _ (term_made t) (both _ (terms_made row) (closes n _)))

  pub terms_made : {n : _} (x : di.Row_of-AddLink n)
      → Makes (number.number_terms x) (count.count_terms (plain.view_terms x)) (view.view_terms x)
  terms_made di.end_of-AddLink = stays _
  terms_made (di.more_of-AddLink (dk.AddLink' o t) rest) = behind_token (both _ (term_made t) (last _ (terms_made rest)))

  pub term_made : (x : dm.Term) → Makes (number.number_term x) (count.count_term (plain.view_term x)) (view.view_term x)
  term_made (dm.Term' n f shape row) = both _ (factor_made f) (both _ (factors_made row) (closes n _))

  pub factors_made : {n : _} (x : dm.Row_of-MulLink n)
      → Makes (number.number_factors x) (count.count_factors (plain.view_factors x)) (view.view_factors x)
  factors_made dm.end_of-MulLink = stays _
  factors_made (dm.more_of-MulLink o f rest) = behind_token (both _ (factor_made f) (last _ (factors_made rest)))

  pub factor_made : (x : dr.Factor) → Makes (number.number_factor x) (count.count_factor (plain.view_factor x)) (view.view_factor x)
  factor_made (dr.Not n p) = behind_token (both _ (primary_made p) (closes n _))
  factor_made (dr.Plain n p) = both _ (primary_made p) (closes n _)

  pub primary_made : (x : dp.Primary) → Makes (number.number_primary x) (count.count_primary (plain.view_primary x)) (view.view_primary x)
  primary_made (dp.Number n l) = behind_leaf l.token _ (closes n _)
  primary_made (dp.Literal n l) = behind_leaf l.token _ (closes n _)
  primary_made (dp.Desig' n m l shape row a) =
      both _ (both _ (name_made l) (both _ (selectors_made row) (closes m _))) (both _ (args_made a) (closes n _))
  primary_made (dp.Paren' n b m b' s shape row) =
      behind_token (both _ (both _ (stmt_made s) (both _ (stmts_made row) (closes m _))) (behind_token (closes n _)))
  primary_made (dp.Known' n m l shape row) =
      behind_token (behind_token (both _ (both _ (name_made l) (both _ (selectors_made row) (closes m _))) (behind_token (closes n _))))
  primary_made (dp.Ord' n b e) = behind_token (behind_token (both _ (expr_made e) (behind_token (closes n _))))
  primary_made (dp.Chr' n b e) = behind_token (behind_token (both _ (expr_made e) (behind_token (closes n _))))

  pub args_made : (x : dp.Held-Primary-Desig-2) → Makes (number.number_args x) (count.count_args (plain.view_args x)) (view.view_args x)
  args_made dp.Primary-Desig-2-None' = stays _
  args_made (dp.Primary-Desig-2-Some' (dg.Args' dg.Args-values-None')) = behind_token (one_token _)
  args_made (dp.Primary-Desig-2-Some' (dg.Args' (dg.Args-values-Some' es))) = behind_token (both _ (exprs_made es) (one_token _))

  pub exprs_made : (x : dx.Exprs) → Makes (number.number_exprs x) (count.count_exprs (plain.view_exprs x)) (view.view_exprs x)
  exprs_made (dx.Exprs' b e shape row) = both _ (expr_made e) (last _ (expr_row_made row))

  pub expr_row_made : {n : _} (x : dx.Row_of-Expr n)
      → Makes (number.number_exprs_row x) (count.count_expr_tail (plain.view_exprs_row x)) (view.view_exprs_row x)
  expr_row_made dx.end_of-Expr = stays _
  expr_row_made (dx.more_of-Expr e rest) = behind_token (both _ (expr_made e) (last _ (expr_row_made rest)))

  pub selectors_made : {n : _} (x : dd.Row_of-Selector n)
      → Makes (number.number_selectors x) (count.count_selectors (plain.view_selectors x)) (view.view_selectors x)
  selectors_made dd.end_of-Selector = stays _
  selectors_made (dd.more_of-Selector s rest) = both _ (selector_made s) (last _ (selectors_made rest))

  pub selector_made : (x : dj.Selector) → Makes (number.number_selector x) (count.count_selector (plain.view_selector x))
      (view.view_selector x)
  selector_made (dj.Field n l) = behind_token (both _ (name_made l) (closes n _))
  selector_made (dj.Index n es) = behind_token (both _ (exprs_made es) (behind_token (closes n _)))
