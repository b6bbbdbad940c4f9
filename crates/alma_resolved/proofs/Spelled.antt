-- A numbered tree names the tokens of its spelling: each leaf that is a Name is one of that kind.
use Rattle.std.proofs.Common.{◌≡◌, ℕ, zero, suc, List, [], ◌∷◌, Bool, true, false, Option, None, Some, sym, ap, ◌∙◌}
use Rattle.std.specs.Prelude.{nat_eq, drop}
use Rattle.alma_tree.specs.declared.kind.Kind.{Kind}
use Rattle.alma_tree.specs.declared.kind.Kind.TheVariants as kinds
use Rattle.alma_tree.specs.declared.leaf.Sign.{Sign}
use Rattle.alma_tree.specs.declared.leaf.Sign.TheVariants as signs
use Rattle.alma_tree.specs.declared.leaf.Name.{Name}
use Rattle.alma_tree.specs.declared.phrase.Stmt as dt
use Rattle.alma_tree.specs.declared.phrase.Elsif as df
use Rattle.alma_tree.specs.declared.phrase.Arm as da
use Rattle.alma_tree.specs.declared.phrase.Label as dl
use Rattle.alma_tree.specs.declared.phrase.Expr as de
use Rattle.alma_tree.specs.declared.phrase.Compared as dc
use Rattle.alma_tree.specs.declared.phrase.Simple as di
use Rattle.alma_tree.specs.declared.phrase.AddLink as dk
use Rattle.alma_tree.specs.declared.phrase.Term as dm
use Rattle.alma_tree.specs.declared.phrase.Factor as dr
use Rattle.alma_tree.specs.declared.phrase.Primary as dp
use Rattle.alma_tree.specs.declared.phrase.Args as dg
use Rattle.alma_tree.specs.declared.phrase.Exprs as dx
use Rattle.alma_tree.specs.declared.phrase.Desig as dd
use Rattle.alma_tree.specs.declared.phrase.Selector as dj
use Rattle.alma_tree.specs.Numbers as number
use Rattle.alma_tree.specs.Numbers.{Cursor, Step, where_so, token, node, leaf, stay, ◌>>◌}
use Rattle.alma_tree.specs.Spelling as spell
use Rattle.alma_tree.specs.View as view
use Rattle.alma_resolved.proofs.Onward.{same_token, parts}

-- where these kinds are next in the list, behind the step the rest is
unfoldable pub Spelled : Step → (List Kind → List Kind) → Type 0
Spelled f sp = (all : List Kind) (at b : Cursor) (rest : List Kind) → f at ≡ Some b → drop at.token all ≡ sp rest → drop b.token all ≡ rest

next_kind : (all : List Kind) (n : ℕ) (k : Kind) (rest : List Kind) → drop n all ≡ k ∷ rest → drop (suc n) all ≡ rest
next_kind [] n k rest h = absurd (none n h)
  where
    none : (n : ℕ) → drop n [] ≡ k ∷ rest → ⊥
    none zero h = absurd (cc)
    none (suc n) h = absurd (cc)
next_kind (x ∷ xs) zero k rest h = cc
next_kind (x ∷ xs) (suc n) k rest h = next_kind xs n k rest h

pub spelled_stay : Spelled stay (λ rest. rest)
unfolding Spelled
spelled_stay all at b rest h e = ap (λ n. drop n all) (sym (same_token at b h)) ∙ e

pub spelled_token : (k : Kind) → Spelled token (λ rest. k ∷ rest)
unfolding Spelled
spelled_token k all at b rest h e = ap (λ n. drop n all) (sym (same_token (record { token = suc at.token; node = at.node }) b h))
    ∙ next_kind all at.token k rest e

where_spelled : (c : Bool) (next b : Cursor) → where_so c next ≡ Some b → next.token ≡ b.token
where_spelled true next b h = same_token next b h
where_spelled false next b h = absurd (cc)

pub spelled_node : (n : ℕ) → Spelled (node n) (λ rest. rest)
unfolding Spelled
spelled_node n all at b rest h e = ap (λ m. drop m all)
    (sym (where_spelled (nat_eq n at.node) (record { token = at.token; node = suc at.node }) b h)) ∙ e

pub spelled_leaf : (n : ℕ) (k : Kind) → Spelled (leaf n) (λ rest. k ∷ rest)
unfolding Spelled
spelled_leaf n k all at b rest h e = ap (λ m. drop m all)
    (sym (where_spelled (nat_eq n at.token) (record { token = suc at.token; node = at.node }) b h)) ∙ next_kind all at.token k rest e

pub spelled_then : (f g : Step) (p q : List Kind → List Kind) → Spelled f p → Spelled g q → Spelled (f >> g) (λ rest. p (q rest))
unfolding Spelled
spelled_then f g p q h k all at b rest i e =
    let m : (mid : Cursor) × (f at ≡ Some mid) × (g mid ≡ Some b) = parts (f at) g b i in
    k all m.0 b rest m.2 (h all at m.0 (q rest) m.1 e)

pub name_spelled : (l : Name) → Spelled (number.number_name l) (λ rest. kinds.Name ∷ rest)
name_spelled l = spelled_then _ _ _ _ (spelled_leaf l.token kinds.Name) (spelled_node l.node)

pub sign_spelled : (x : Option Sign) → Spelled (number.number_sign x) (spell.spell_sign x)
sign_spelled None = spelled_stay
sign_spelled (Some signs.Plus) = spelled_token kinds.Plus
sign_spelled (Some signs.Minus) = spelled_token kinds.Minus

mutual
  pub stmt_spelled : (x : dt.Stmt) → Spelled (number.number_stmt x) (spell.spell_stmt (view.view_stmt x))
  stmt_spelled (dt.Nothing n) = spelled_node n
  stmt_spelled (dt.Assign' n m l shape row e) =
      spelled_then _ _ _ _ (spelled_then _ _ _ _ (name_spelled l) (spelled_then _ _ _ _ (selectors_spelled row) (spelled_node m)))
      (spelled_then _ _ _ _ (spelled_token _) (spelled_then _ _ _ _ (expr_spelled e) (spelled_node n)))
  stmt_spelled (dt.Value n e) = spelled_then _ _ _ _ (expr_spelled e) (spelled_node n)
  stmt_spelled (dt.If' n e m b s shape row shape' row' other) =
      spelled_then _ _ _ _ (spelled_token _) (spelled_then _ _ _ _ (expr_spelled e)
      (spelled_then _ _ _ _ (spelled_token _) (spelled_then _ _ _ _
      (spelled_then _ _ _ _ (stmt_spelled s) (spelled_then _ _ _ _ (stmts_row_spelled row) (spelled_node m)))
      (spelled_then _ _ _ _ (elsifs_spelled row')
      (spelled_then _ _ _ _ (else_spelled other) (spelled_then _ _ _ _ (spelled_token _) (spelled_node n)))))))
  stmt_spelled (dt.While' n e m b s shape row) =
      spelled_then _ _ _ _ (spelled_token _) (spelled_then _ _ _ _ (expr_spelled e)
      (spelled_then _ _ _ _ (spelled_token _) (spelled_then _ _ _ _
      (spelled_then _ _ _ _ (stmt_spelled s) (spelled_then _ _ _ _ (stmts_row_spelled row) (spelled_node m)))
      (spelled_then _ _ _ _ (spelled_token _) (spelled_node n)))))
  stmt_spelled (dt.Repeat' n m b s shape row e) =
      spelled_then _ _ _ _ (spelled_token _) (spelled_then _ _ _ _
      (spelled_then _ _ _ _ (stmt_spelled s) (spelled_then _ _ _ _ (stmts_row_spelled row) (spelled_node m)))
      (spelled_then _ _ _ _ (spelled_token _) (spelled_then _ _ _ _ (expr_spelled e) (spelled_node n))))
  stmt_spelled (dt.For' n l low high by m b s shape row) =
      spelled_then _ _ _ _ (spelled_token _) (spelled_then _ _ _ _ (name_spelled l)
      (spelled_then _ _ _ _ (spelled_token _) (spelled_then _ _ _ _ (expr_spelled low)
      (spelled_then _ _ _ _ (spelled_token _) (spelled_then _ _ _ _ (expr_spelled high)
      (spelled_then _ _ _ _ (by_spelled by) (spelled_then _ _ _ _ (spelled_token _)
      (spelled_then _ _ _ _ (spelled_then _ _ _ _ (stmt_spelled s) (spelled_then _ _ _ _ (stmts_row_spelled row) (spelled_node m)))
      (spelled_then _ _ _ _ (spelled_token _) (spelled_node n))))))))))
  stmt_spelled (dt.Some' n l low high m b s shape row) =
      spelled_then _ _ _ _ (spelled_token _) (spelled_then _ _ _ _ (name_spelled l)
      (spelled_then _ _ _ _ (spelled_token _) (spelled_then _ _ _ _ (expr_spelled low)
      (spelled_then _ _ _ _ (spelled_token _) (spelled_then _ _ _ _ (expr_spelled high)
      (spelled_then _ _ _ _ (spelled_token _) (spelled_then _ _ _ _
      (spelled_then _ _ _ _ (stmt_spelled s) (spelled_then _ _ _ _ (stmts_row_spelled row) (spelled_node m)))
      (spelled_then _ _ _ _ (spelled_token _) (spelled_node n)))))))))
  stmt_spelled (dt.Case' n e b a shape row other) =
      spelled_then _ _ _ _ (spelled_token _) (spelled_then _ _ _ _ (expr_spelled e)
      (spelled_then _ _ _ _ (spelled_token _) (spelled_then _ _ _ _ (arm_spelled a)
      (spelled_then _ _ _ _ (arms_spelled row)
      (spelled_then _ _ _ _ (else_spelled other) (spelled_then _ _ _ _ (spelled_token _) (spelled_node n)))))))
  stmt_spelled (dt.Either' n m b s shape row shape' row') =
      spelled_then _ _ _ _ (spelled_token _) (spelled_then _ _ _ _
      (spelled_then _ _ _ _ (stmt_spelled s) (spelled_then _ _ _ _ (stmts_row_spelled row) (spelled_node m)))
      (spelled_then _ _ _ _ (orelses_spelled row') (spelled_then _ _ _ _ (spelled_token _) (spelled_node n))))
  stmt_spelled (dt.Forall' n m b s shape row m' b' s' shape' row') =
      spelled_then _ _ _ _ (spelled_token _) (spelled_then _ _ _ _
      (spelled_then _ _ _ _ (stmt_spelled s) (spelled_then _ _ _ _ (stmts_row_spelled row) (spelled_node m)))
      (spelled_then _ _ _ _ (spelled_token _) (spelled_then _ _ _ _
      (spelled_then _ _ _ _ (stmt_spelled s') (spelled_then _ _ _ _ (stmts_row_spelled row') (spelled_node m')))
      (spelled_then _ _ _ _ (spelled_token _) (spelled_node n)))))
  stmt_spelled (dt.Commit' n m b s shape row) =
      spelled_then _ _ _ _ (spelled_token _) (spelled_then _ _ _ _
      (spelled_then _ _ _ _ (stmt_spelled s) (spelled_then _ _ _ _ (stmts_row_spelled row) (spelled_node m)))
      (spelled_then _ _ _ _ (spelled_token _) (spelled_node n)))
  stmt_spelled (dt.Return' n e) = spelled_then _ _ _ _ (spelled_token _) (spelled_then _ _ _ _ (returned_spelled e) (spelled_node n))
  stmt_spelled (dt.Read' n m l shape row shape' row') =
      spelled_then _ _ _ _ (spelled_token _) (spelled_then _ _ _ _ (spelled_token _)
      (spelled_then _ _ _ _ (spelled_then _ _ _ _ (name_spelled l) (spelled_then _ _ _ _ (selectors_spelled row) (spelled_node m)))
      (spelled_then _ _ _ _ (desigs_spelled row') (spelled_then _ _ _ _ (spelled_token _) (spelled_node n)))))
  stmt_spelled (dt.Write n es) = spelled_then _ _ _ _ (spelled_token _)
      (spelled_then _ _ _ _ (spelled_token _) (spelled_then _ _ _ _ (exprs_spelled es)
      (spelled_then _ _ _ _ (spelled_token _) (spelled_node n))))
  stmt_spelled (dt.Writeln' n a) = spelled_then _ _ _ _ (spelled_token _) (spelled_then _ _ _ _ (args_spelled a) (spelled_node n))

  pub stmts_row_spelled : {n : _} (x : da.Row_of-Stmt n)
      → Spelled (number.number_stmts_row x) (spell.spell_stmt_tail (view.view_stmts_row x))
  stmts_row_spelled da.end_of-Stmt = spelled_stay
  stmts_row_spelled (da.more_of-Stmt s rest) =
      spelled_then _ _ _ _ (spelled_token _) (spelled_then _ _ _ _ (stmt_spelled s) (stmts_row_spelled rest))

  pub elsifs_spelled : {n : _} (x : dt.Row_of-Elsif n) → Spelled (number.number_elsifs x) (spell.spell_elsif_tail (view.view_elsifs x))
  elsifs_spelled dt.end_of-Elsif = spelled_stay
  elsifs_spelled (dt.more_of-Elsif (df.Elsif' e m b s shape row) rest) =
      spelled_then _ _ _ _ (spelled_token _) (spelled_then _ _ _ _ (expr_spelled e)
      (spelled_then _ _ _ _ (spelled_token _) (spelled_then _ _ _ _
      (spelled_then _ _ _ _ (stmt_spelled s) (spelled_then _ _ _ _ (stmts_row_spelled row) (spelled_node m))) (elsifs_spelled rest))))

  pub else_spelled : (x : dt.Held-Stmt-If-4) → Spelled (number.number_else x) (spell.spell_else (view.view_else x))
  else_spelled dt.Stmt-If-4-None' = spelled_stay
  else_spelled (dt.Stmt-If-4-Some' m b s shape row) =
      spelled_then _ _ _ _ (spelled_token _) (spelled_then _ _ _ _ (stmt_spelled s)
      (spelled_then _ _ _ _ (stmts_row_spelled row) (spelled_node m)))

  pub by_spelled : (x : dl.Held-Stmt-For-4) → Spelled (number.number_by x) (spell.spell_by (view.view_by x))
  by_spelled dl.Stmt-For-4-None' = spelled_stay
  by_spelled (dl.Stmt-For-4-Some' e) = spelled_then _ _ _ _ (spelled_token _) (expr_spelled e)

  pub orelses_spelled : {n : _} (x : dt.Row_of-Stmts n) → Spelled (number.number_orelses x) (spell.spell_orelse_tail (view.view_orelses x))
  orelses_spelled dt.end_of-Stmts = spelled_stay
  orelses_spelled (dt.more_of-Stmts m b s shape row rest) =
      spelled_then _ _ _ _ (spelled_token _) (spelled_then _ _ _ _
      (spelled_then _ _ _ _ (stmt_spelled s) (spelled_then _ _ _ _ (stmts_row_spelled row) (spelled_node m))) (orelses_spelled rest))

  pub returned_spelled : (x : dl.Held-Stmt-For-4) → Spelled (number.number_returned x) (spell.spell_returned (view.view_returned x))
  returned_spelled dl.Stmt-For-4-None' = spelled_stay
  returned_spelled (dl.Stmt-For-4-Some' e) = expr_spelled e

  pub desigs_spelled : {n : _} (x : dt.Row_of-Desig n) → Spelled (number.number_desigs x) (spell.spell_desig_tail (view.view_desigs x))
  desigs_spelled dt.end_of-Desig = spelled_stay
  desigs_spelled (dt.more_of-Desig m l shape row rest) =
      spelled_then _ _ _ _ (spelled_token _) (spelled_then _ _ _ _
      (spelled_then _ _ _ _ (name_spelled l) (spelled_then _ _ _ _ (selectors_spelled row) (spelled_node m))) (desigs_spelled rest))

  pub arm_spelled : (x : da.Arm) → Spelled (number.number_arm x) (spell.spell_arm (view.view_arm x))
  arm_spelled (da.Empty n) = spelled_node n
  arm_spelled (da.Labelled' n l shape row m b s shape' row') =
      spelled_then _ _ _ _ (label_spelled l) (spelled_then _ _ _ _ (labels_spelled row)
      (spelled_then _ _ _ _ (spelled_token _) (spelled_then _ _ _ _
      (spelled_then _ _ _ _ (stmt_spelled s) (spelled_then _ _ _ _ (stmts_row_spelled row') (spelled_node m))) (spelled_node n))))

  pub arms_spelled : {n : _} (x : dt.Row_of-Arm n) → Spelled (number.number_arms x) (spell.spell_arm_tail (view.view_arms x))
  arms_spelled dt.end_of-Arm = spelled_stay
  arms_spelled (dt.more_of-Arm a rest) = spelled_then _ _ _ _ (spelled_token _) (spelled_then _ _ _ _ (arm_spelled a) (arms_spelled rest))

  pub label_spelled : (x : dl.Label) → Spelled (number.number_label x) (spell.spell_label (view.view_label x))
  label_spelled (dl.Label' n e h) = spelled_then _ _ _ _ (expr_spelled e) (spelled_then _ _ _ _ (high_spelled h) (spelled_node n))

  pub high_spelled : (x : dl.Held-Stmt-For-4) → Spelled (number.number_high x) (spell.spell_high (view.view_high x))
  high_spelled dl.Stmt-For-4-None' = spelled_stay
  high_spelled (dl.Stmt-For-4-Some' e) = spelled_then _ _ _ _ (spelled_token _) (expr_spelled e)

  pub labels_spelled : {n : _} (x : da.Row_of-Label n) → Spelled (number.number_labels x) (spell.spell_label_tail (view.view_labels x))
  labels_spelled da.end_of-Label = spelled_stay
  labels_spelled (da.more_of-Label l rest) =
      spelled_then _ _ _ _ (spelled_token _) (spelled_then _ _ _ _ (label_spelled l) (labels_spelled rest))

  pub expr_spelled : (x : de.Expr) → Spelled (number.number_expr x) (spell.spell_expr (view.view_expr x))
  expr_spelled (de.Expr' n s right) = spelled_then _ _ _ _ (simple_spelled s)
      (spelled_then _ _ _ _ (compared_spelled right) (spelled_node n))

  pub compared_spelled : (x : de.Held-Expr-right) → Spelled (number.number_compared x) (spell.spell_compared (view.view_compared x))
  compared_spelled de.Expr-right-None' = spelled_stay
  compared_spelled (de.Expr-right-Some' b (dc.Compared' r s)) = spelled_then _ _ _ _ (spelled_token _) (simple_spelled s)

  pub simple_spelled : (x : di.Simple) → Spelled (number.number_simple x) (spell.spell_simple (view.view_simple x))
  simple_spelled (di.Simple' n sign b t shape row) =
      spelled_then _ _ _ _ (sign_spelled sign)
      (spelled_then _ _ _ _ (term_spelled t) (spelled_then _ _ _ _ (terms_spelled row) (spelled_node n)))

  pub terms_spelled : {n : _} (x : di.Row_of-AddLink n) → Spelled (number.number_terms x) (spell.spell_term_tail (view.view_terms x))
  terms_spelled di.end_of-AddLink = spelled_stay
  terms_spelled (di.more_of-AddLink (dk.AddLink' o t) rest) =
      spelled_then _ _ _ _ (spelled_token _) (spelled_then _ _ _ _ (term_spelled t) (terms_spelled rest))

  pub term_spelled : (x : dm.Term) → Spelled (number.number_term x) (spell.spell_term (view.view_term x))
  term_spelled (dm.Term' n f shape row) = spelled_then _ _ _ _ (factor_spelled f)
      (spelled_then _ _ _ _ (factors_spelled row) (spelled_node n))

  pub factors_spelled : {n : _} (x : dm.Row_of-MulLink n)
      → Spelled (number.number_factors x) (spell.spell_factor_tail (view.view_factors x))
  factors_spelled dm.end_of-MulLink = spelled_stay
  factors_spelled (dm.more_of-MulLink o f rest) =
      spelled_then _ _ _ _ (spelled_token _) (spelled_then _ _ _ _ (factor_spelled f) (factors_spelled rest))

  pub factor_spelled : (x : dr.Factor) → Spelled (number.number_factor x) (spell.spell_factor (view.view_factor x))
  factor_spelled (dr.Not n p) = spelled_then _ _ _ _ (spelled_token _) (spelled_then _ _ _ _ (primary_spelled p) (spelled_node n))
  factor_spelled (dr.Plain n p) = spelled_then _ _ _ _ (primary_spelled p) (spelled_node n)

  pub primary_spelled : (x : dp.Primary) → Spelled (number.number_primary x) (spell.spell_primary (view.view_primary x))
  primary_spelled (dp.Number n l) = spelled_then _ _ _ _ (spelled_leaf l.token _) (spelled_node n)
  primary_spelled (dp.Literal n l) = spelled_then _ _ _ _ (spelled_leaf l.token _) (spelled_node n)
  primary_spelled (dp.Desig' n m l shape row a) =
      spelled_then _ _ _ _ (spelled_then _ _ _ _ (name_spelled l) (spelled_then _ _ _ _ (selectors_spelled row) (spelled_node m)))
      (spelled_then _ _ _ _ (args_spelled a) (spelled_node n))
  primary_spelled (dp.Paren' n b m b' s shape row) =
      spelled_then _ _ _ _ (spelled_token _) (spelled_then _ _ _ _
      (spelled_then _ _ _ _ (stmt_spelled s) (spelled_then _ _ _ _ (stmts_row_spelled row) (spelled_node m)))
      (spelled_then _ _ _ _ (spelled_token _) (spelled_node n)))
  primary_spelled (dp.Known' n m l shape row) =
      spelled_then _ _ _ _ (spelled_token _) (spelled_then _ _ _ _ (spelled_token _)
      (spelled_then _ _ _ _ (spelled_then _ _ _ _ (name_spelled l) (spelled_then _ _ _ _ (selectors_spelled row) (spelled_node m)))
      (spelled_then _ _ _ _ (spelled_token _) (spelled_node n))))
  primary_spelled (dp.Ord' n b e) = spelled_then _ _ _ _ (spelled_token _)
      (spelled_then _ _ _ _ (spelled_token _) (spelled_then _ _ _ _ (expr_spelled e)
      (spelled_then _ _ _ _ (spelled_token _) (spelled_node n))))
  primary_spelled (dp.Chr' n b e) = spelled_then _ _ _ _ (spelled_token _)
      (spelled_then _ _ _ _ (spelled_token _) (spelled_then _ _ _ _ (expr_spelled e)
      (spelled_then _ _ _ _ (spelled_token _) (spelled_node n))))

  pub args_spelled : (x : dp.Held-Primary-Desig-2) → Spelled (number.number_args x) (spell.spell_args (view.view_args x))
  args_spelled dp.Primary-Desig-2-None' = spelled_stay
  args_spelled (dp.Primary-Desig-2-Some' (dg.Args' dg.Args-values-None')) = spelled_then _ _ _ _ (spelled_token _) (spelled_token _)
  args_spelled (dp.Primary-Desig-2-Some' (dg.Args' (dg.Args-values-Some' es))) =
      spelled_then _ _ _ _ (spelled_token _) (spelled_then _ _ _ _ (exprs_spelled es) (spelled_token _))

  pub exprs_spelled : (x : dx.Exprs) → Spelled (number.number_exprs x) (spell.spell_exprs (view.view_exprs x))
  exprs_spelled (dx.Exprs' b e shape row) = spelled_then _ _ _ _ (expr_spelled e) (exprs_row_spelled row)

  pub exprs_row_spelled : {n : _} (x : dx.Row_of-Expr n)
      → Spelled (number.number_exprs_row x) (spell.spell_expr_tail (view.view_exprs_row x))
  exprs_row_spelled dx.end_of-Expr = spelled_stay
  exprs_row_spelled (dx.more_of-Expr e rest) =
      spelled_then _ _ _ _ (spelled_token _) (spelled_then _ _ _ _ (expr_spelled e) (exprs_row_spelled rest))

  pub selectors_spelled : {n : _} (x : dd.Row_of-Selector n)
      → Spelled (number.number_selectors x) (spell.spell_selector_tail (view.view_selectors x))
  selectors_spelled dd.end_of-Selector = spelled_stay
  selectors_spelled (dd.more_of-Selector s rest) = spelled_then _ _ _ _ (selector_spelled s) (selectors_spelled rest)

  pub selector_spelled : (x : dj.Selector) → Spelled (number.number_selector x) (spell.spell_selector (view.view_selector x))
  selector_spelled (dj.Field n l) = spelled_then _ _ _ _ (spelled_token _) (spelled_then _ _ _ _ (name_spelled l) (spelled_node n))
  selector_spelled (dj.Index n es) = spelled_then _ _ _ _ (spelled_token _)
      (spelled_then _ _ _ _ (exprs_spelled es) (spelled_then _ _ _ _ (spelled_token _) (spelled_node n)))

pub list_stmts_spelled : (x : List dt.Stmt) → Spelled (number.numbers_of_stmts x) (spell.spell_stmt_tail (view.stmts_of x))
list_stmts_spelled [] = spelled_stay
list_stmts_spelled (s ∷ rest) = spelled_then _ _ _ _ (spelled_token _) (spelled_then _ _ _ _ (stmt_spelled s) (list_stmts_spelled rest))
