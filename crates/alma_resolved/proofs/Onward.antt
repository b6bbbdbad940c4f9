-- A numbered tree takes its tokens one after another: behind a phrase no earlier token follows.
use Rattle.std.proofs.Common.{◌≡◌, ℕ, suc, ◌≤◌, List, [], ◌∷◌, Bool, true, false, Option, None, Some, refl, ap, arith}
use Rattle.std.specs.Prelude.{nat_eq}
use Rattle.alma_tree.specs.declared.leaf.Sign.{Sign}
use Rattle.alma_tree.specs.declared.leaf.Name.{Name}
use Rattle.alma_tree.specs.declared.phrase.Stmts as ds
use Rattle.alma_tree.specs.declared.phrase.Stmt as dt
use Rattle.alma_tree.specs.declared.phrase.Elsif as df
use Rattle.alma_tree.specs.declared.phrase.Arm as da
use Rattle.alma_tree.specs.declared.phrase.Label as dl
use Rattle.alma_tree.specs.declared.phrase.Expr as de
use Rattle.alma_tree.specs.declared.phrase.Compared as dc
use Rattle.alma_tree.specs.declared.phrase.Simple as di
use Rattle.alma_tree.specs.declared.phrase.AddLink as dk
use Rattle.alma_tree.specs.declared.phrase.Term as dm
use Rattle.alma_tree.specs.declared.phrase.Factor as dr
use Rattle.alma_tree.specs.declared.phrase.Primary as dp
use Rattle.alma_tree.specs.declared.phrase.Args as dg
use Rattle.alma_tree.specs.declared.phrase.Exprs as dx
use Rattle.alma_tree.specs.declared.phrase.Desig as dd
use Rattle.alma_tree.specs.declared.phrase.Selector as dj
use Rattle.alma_tree.specs.Numbers as number
use Rattle.alma_tree.specs.Numbers.{Cursor, Step, where_so, token, node, leaf, stay, and_then, ◌>>◌}

-- the step leads to no earlier token
unfoldable pub Up : Step → Type 0
Up f = (at b : Cursor) → f at ≡ Some b → at.token ≤ b.token

pub same_token : (a b : Cursor) → Some a ≡ Some b → a.token ≡ b.token
same_token a b h = ap (λ (o : Option Cursor). get o) h
  where
    get : Option Cursor → ℕ
    get None = 0
    get (Some c) = c.token

-- where two steps part
pub parts : (o : Option Cursor) (g : Step) (b : Cursor) → and_then o g ≡ Some b → (mid : Cursor) × (o ≡ Some mid) × (g mid ≡ Some b)
parts None g b h = absurd (cc)
parts (Some c) g b h = (c, refl, h)

pub up_stay : Up stay
unfolding Up
up_stay at b h = omega (arith, same_token at b h)

pub up_token : Up token
unfolding Up
up_token at b h = omega (arith, same_token (record { token = suc at.token; node = at.node }) b h)

where_up : (at next b : Cursor) (c : Bool) → at.token ≤ next.token → where_so c next ≡ Some b → at.token ≤ b.token
where_up at next b true le h = omega (arith, le, same_token next b h)
where_up at next b false le h = absurd (cc)

pub up_node : (n : ℕ) → Up (node n)
unfolding Up
up_node n at b h = where_up at (record { token = at.token; node = suc at.node }) b (nat_eq n at.node) (omega arith) h

pub up_leaf : (n : ℕ) → Up (leaf n)
unfolding Up
up_leaf n at b h = where_up at (record { token = suc at.token; node = at.node }) b (nat_eq n at.token) (omega arith) h

pub up_then : (f g : Step) → Up f → Up g → Up (f >> g)
unfolding Up
up_then f g p q at b h =
    let m : (mid : Cursor) × (f at ≡ Some mid) × (g mid ≡ Some b) = parts (f at) g b h in
    omega (arith, p at m.0 m.1, q m.0 b m.2)

-- ---- statements and expressions

pub name_up : (x : Name) → Up (number.number_name x)
name_up l = up_then _ _ (up_leaf l.token) (up_node l.node)

pub sign_up : (x : Option Sign) → Up (number.number_sign x)
sign_up None = up_stay
sign_up (Some s) = up_token

mutual
  pub stmt_up : (x : dt.Stmt) → Up (number.number_stmt x)
  stmt_up (dt.Nothing n) = up_node n
  stmt_up (dt.Assign' n m l shape row e) =
      up_then _ _ (up_then _ _ (name_up l) (up_then _ _ (selectors_up row) (up_node m)))
      (up_then _ _ up_token (up_then _ _ (expr_up e) (up_node n)))
  stmt_up (dt.Value n e) = up_then _ _ (expr_up e) (up_node n)
  stmt_up (dt.If' n e m b s shape row shape' row' other) =
      up_then _ _ up_token (up_then _ _ (expr_up e)
      (up_then _ _ up_token (up_then _ _ (up_then _ _ (stmt_up s) (up_then _ _ (stmts_row_up row) (up_node m)))
      (up_then _ _ (elsifs_up row') (up_then _ _ (else_up other) (up_then _ _ up_token (up_node n)))))))
  stmt_up (dt.While' n e m b s shape row) =
      up_then _ _ up_token (up_then _ _ (expr_up e)
      (up_then _ _ up_token (up_then _ _ (up_then _ _ (stmt_up s) (up_then _ _ (stmts_row_up row) (up_node m)))
      (up_then _ _ up_token (up_node n)))))
  stmt_up (dt.Repeat' n m b s shape row e) =
      up_then _ _ up_token (up_then _ _ (up_then _ _ (stmt_up s) (up_then _ _ (stmts_row_up row) (up_node m)))
      (up_then _ _ up_token (up_then _ _ (expr_up e) (up_node n))))
  stmt_up (dt.For' n l low high by m b s shape row) =
      up_then _ _ up_token (up_then _ _ (name_up l)
      (up_then _ _ up_token (up_then _ _ (expr_up low)
      (up_then _ _ up_token (up_then _ _ (expr_up high)
      (up_then _ _ (by_up by) (up_then _ _ up_token
      (up_then _ _ (up_then _ _ (stmt_up s) (up_then _ _ (stmts_row_up row) (up_node m))) (up_then _ _ up_token (up_node n))))))))))
  stmt_up (dt.Some' n l low high m b s shape row) =
      up_then _ _ up_token (up_then _ _ (name_up l)
      (up_then _ _ up_token (up_then _ _ (expr_up low)
      (up_then _ _ up_token (up_then _ _ (expr_up high)
      (up_then _ _ up_token (up_then _ _ (up_then _ _ (stmt_up s) (up_then _ _ (stmts_row_up row) (up_node m)))
      (up_then _ _ up_token (up_node n)))))))))
  stmt_up (dt.Case' n e b a shape row other) =
      up_then _ _ up_token (up_then _ _ (expr_up e)
      (up_then _ _ up_token (up_then _ _ (arm_up a)
      (up_then _ _ (arms_up row) (up_then _ _ (else_up other) (up_then _ _ up_token (up_node n)))))))
  stmt_up (dt.Either' n m b s shape row shape' row') =
      up_then _ _ up_token (up_then _ _ (up_then _ _ (stmt_up s) (up_then _ _ (stmts_row_up row) (up_node m)))
      (up_then _ _ (orelses_up row') (up_then _ _ up_token (up_node n))))
  stmt_up (dt.Forall' n m b s shape row m' b' s' shape' row') =
      up_then _ _ up_token (up_then _ _ (up_then _ _ (stmt_up s) (up_then _ _ (stmts_row_up row) (up_node m)))
      (up_then _ _ up_token (up_then _ _ (up_then _ _ (stmt_up s') (up_then _ _ (stmts_row_up row') (up_node m')))
      (up_then _ _ up_token (up_node n)))))
  stmt_up (dt.Commit' n m b s shape row) =
      up_then _ _ up_token (up_then _ _ (up_then _ _ (stmt_up s) (up_then _ _ (stmts_row_up row) (up_node m)))
      (up_then _ _ up_token (up_node n)))
  stmt_up (dt.Return' n e) = up_then _ _ up_token (up_then _ _ (returned_up e) (up_node n))
  stmt_up (dt.Read' n m l shape row shape' row') =
      up_then _ _ up_token (up_then _ _ up_token
      (up_then _ _ (up_then _ _ (name_up l) (up_then _ _ (selectors_up row) (up_node m)))
      (up_then _ _ (desigs_up row') (up_then _ _ up_token (up_node n)))))
  stmt_up (dt.Write n es) = up_then _ _ up_token (up_then _ _ up_token (up_then _ _ (exprs_up es) (up_then _ _ up_token (up_node n))))
  stmt_up (dt.Writeln' n a) = up_then _ _ up_token (up_then _ _ (args_up a) (up_node n))

  pub stmts_row_up : {n : _} (x : da.Row_of-Stmt n) → Up (number.number_stmts_row x)
  stmts_row_up da.end_of-Stmt = up_stay
  stmts_row_up (da.more_of-Stmt s rest) = up_then _ _ up_token (up_then _ _ (stmt_up s) (stmts_row_up rest))

  pub elsifs_up : {n : _} (x : dt.Row_of-Elsif n) → Up (number.number_elsifs x)
  elsifs_up dt.end_of-Elsif = up_stay
  elsifs_up (dt.more_of-Elsif (df.Elsif' e m b s shape row) rest) =
      up_then _ _ up_token (up_then _ _ (expr_up e)
      (up_then _ _ up_token (up_then _ _ (up_then _ _ (stmt_up s) (up_then _ _ (stmts_row_up row) (up_node m))) (elsifs_up rest))))

  pub else_up : (x : dt.Held-Stmt-If-4) → Up (number.number_else x)
  else_up dt.Stmt-If-4-None' = up_stay
  else_up (dt.Stmt-If-4-Some' m b s shape row) = up_then _ _ up_token (up_then _ _ (stmt_up s) (up_then _ _ (stmts_row_up row) (up_node m)))

  pub by_up : (x : dl.Held-Stmt-For-4) → Up (number.number_by x)
  by_up dl.Stmt-For-4-None' = up_stay
  by_up (dl.Stmt-For-4-Some' e) = up_then _ _ up_token (expr_up e)

  pub orelses_up : {n : _} (x : dt.Row_of-Stmts n) → Up (number.number_orelses x)
  orelses_up dt.end_of-Stmts = up_stay
  orelses_up (dt.more_of-Stmts m b s shape row rest) =
      up_then _ _ up_token (up_then _ _ (up_then _ _ (stmt_up s) (up_then _ _ (stmts_row_up row) (up_node m))) (orelses_up rest))

  pub returned_up : (x : dl.Held-Stmt-For-4) → Up (number.number_returned x)
  returned_up dl.Stmt-For-4-None' = up_stay
  returned_up (dl.Stmt-For-4-Some' e) = expr_up e

  pub desigs_up : {n : _} (x : dt.Row_of-Desig n) → Up (number.number_desigs x)
  desigs_up dt.end_of-Desig = up_stay
  desigs_up (dt.more_of-Desig m l shape row rest) =
      up_then _ _ up_token (up_then _ _ (up_then _ _ (name_up l) (up_then _ _ (selectors_up row) (up_node m))) (desigs_up rest))

  pub arm_up : (x : da.Arm) → Up (number.number_arm x)
  arm_up (da.Empty n) = up_node n
  arm_up (da.Labelled' n l shape row m b s shape' row') =
      up_then _ _ (label_up l) (up_then _ _ (labels_up row)
      (up_then _ _ up_token (up_then _ _ (up_then _ _ (stmt_up s) (up_then _ _ (stmts_row_up row') (up_node m))) (up_node n))))

  pub arms_up : {n : _} (x : dt.Row_of-Arm n) → Up (number.number_arms x)
  arms_up dt.end_of-Arm = up_stay
  arms_up (dt.more_of-Arm a rest) = up_then _ _ up_token (up_then _ _ (arm_up a) (arms_up rest))

  pub label_up : (x : dl.Label) → Up (number.number_label x)
  label_up (dl.Label' n e h) = up_then _ _ (expr_up e) (up_then _ _ (high_up h) (up_node n))

  pub high_up : (x : dl.Held-Stmt-For-4) → Up (number.number_high x)
  high_up dl.Stmt-For-4-None' = up_stay
  high_up (dl.Stmt-For-4-Some' e) = up_then _ _ up_token (expr_up e)

  pub labels_up : {n : _} (x : da.Row_of-Label n) → Up (number.number_labels x)
  labels_up da.end_of-Label = up_stay
  labels_up (da.more_of-Label l rest) = up_then _ _ up_token (up_then _ _ (label_up l) (labels_up rest))

  pub expr_up : (x : de.Expr) → Up (number.number_expr x)
  expr_up (de.Expr' n s right) = up_then _ _ (simple_up s) (up_then _ _ (compared_up right) (up_node n))

  pub compared_up : (x : de.Held-Expr-right) → Up (number.number_compared x)
  compared_up de.Expr-right-None' = up_stay
  compared_up (de.Expr-right-Some' b (dc.Compared' r s)) = up_then _ _ up_token (simple_up s)

  pub simple_up : (x : di.Simple) → Up (number.number_simple x)
  simple_up (di.Simple' n sign b t shape row) =
      up_then _ _ (sign_up sign) (up_then _ _ (term_up t) (up_then _ _ (terms_up row) (up_node n)))

  pub terms_up : {n : _} (x : di.Row_of-AddLink n) → Up (number.number_terms x)
  terms_up di.end_of-AddLink = up_stay
  terms_up (di.more_of-AddLink (dk.AddLink' o t) rest) = up_then _ _ up_token (up_then _ _ (term_up t) (terms_up rest))

  pub term_up : (x : dm.Term) → Up (number.number_term x)
  term_up (dm.Term' n f shape row) = up_then _ _ (factor_up f) (up_then _ _ (factors_up row) (up_node n))

  pub factors_up : {n : _} (x : dm.Row_of-MulLink n) → Up (number.number_factors x)
  factors_up dm.end_of-MulLink = up_stay
  factors_up (dm.more_of-MulLink o f rest) = up_then _ _ up_token (up_then _ _ (factor_up f) (factors_up rest))

  pub factor_up : (x : dr.Factor) → Up (number.number_factor x)
  factor_up (dr.Not n p) = up_then _ _ up_token (up_then _ _ (primary_up p) (up_node n))
  factor_up (dr.Plain n p) = up_then _ _ (primary_up p) (up_node n)

  pub primary_up : (x : dp.Primary) → Up (number.number_primary x)
  primary_up (dp.Number n l) = up_then _ _ (up_leaf l.token) (up_node n)
  primary_up (dp.Literal n l) = up_then _ _ (up_leaf l.token) (up_node n)
  primary_up (dp.Desig' n m l shape row a) =
      up_then _ _ (up_then _ _ (name_up l) (up_then _ _ (selectors_up row) (up_node m))) (up_then _ _ (args_up a) (up_node n))
  primary_up (dp.Paren' n b m b' s shape row) =
      up_then _ _ up_token (up_then _ _ (up_then _ _ (stmt_up s) (up_then _ _ (stmts_row_up row) (up_node m)))
      (up_then _ _ up_token (up_node n)))
  primary_up (dp.Known' n m l shape row) =
      up_then _ _ up_token (up_then _ _ up_token
      (up_then _ _ (up_then _ _ (name_up l) (up_then _ _ (selectors_up row) (up_node m))) (up_then _ _ up_token (up_node n))))
  primary_up (dp.Ord' n b e) = up_then _ _ up_token (up_then _ _ up_token (up_then _ _ (expr_up e) (up_then _ _ up_token (up_node n))))
  primary_up (dp.Chr' n b e) = up_then _ _ up_token (up_then _ _ up_token (up_then _ _ (expr_up e) (up_then _ _ up_token (up_node n))))

  pub args_up : (x : dp.Held-Primary-Desig-2) → Up (number.number_args x)
  args_up dp.Primary-Desig-2-None' = up_stay
  args_up (dp.Primary-Desig-2-Some' (dg.Args' dg.Args-values-None')) = up_then _ _ up_token up_token
  args_up (dp.Primary-Desig-2-Some' (dg.Args' (dg.Args-values-Some' es))) = up_then _ _ up_token (up_then _ _ (exprs_up es) up_token)

  pub exprs_up : (x : dx.Exprs) → Up (number.number_exprs x)
  exprs_up (dx.Exprs' b e shape row) = up_then _ _ (expr_up e) (exprs_row_up row)

  pub exprs_row_up : {n : _} (x : dx.Row_of-Expr n) → Up (number.number_exprs_row x)
  exprs_row_up dx.end_of-Expr = up_stay
  exprs_row_up (dx.more_of-Expr e rest) = up_then _ _ up_token (up_then _ _ (expr_up e) (exprs_row_up rest))

  pub selectors_up : {n : _} (x : dd.Row_of-Selector n) → Up (number.number_selectors x)
  selectors_up dd.end_of-Selector = up_stay
  selectors_up (dd.more_of-Selector s rest) = up_then _ _ (selector_up s) (selectors_up rest)

  pub selector_up : (x : dj.Selector) → Up (number.number_selector x)
  selector_up (dj.Field n l) = up_then _ _ up_token (up_then _ _ (name_up l) (up_node n))
  selector_up (dj.Index n es) = up_then _ _ up_token (up_then _ _ (exprs_up es) (up_then _ _ up_token (up_node n)))

pub list_stmts_up : (x : List dt.Stmt) → Up (number.numbers_of_stmts x)
list_stmts_up [] = up_stay
list_stmts_up (s ∷ rest) = up_then _ _ up_token (up_then _ _ (stmt_up s) (list_stmts_up rest))

pub stmts_up : (x : ds.Stmts) → Up (number.number_stmts x)
stmts_up s = up_then _ _ (stmt_up s.first.value) (up_then _ _ (list_stmts_up s.more.items) (up_node s.node))
