-- A tree whose leaves and nodes are numbered, as the parser gives it, has rising numbers.
use Rattle.std.proofs.Common.{◌≡◌, ◌⊎◌, inl, inr, ℕ, suc, ◌<◌, List, [], ◌∷◌, Bool, Option, None, Some, refl, ap, sym, subst, arith}
use Rattle.std.specs.Prelude.{true, false, nat_eq}
use Rattle.std.proofs.lemmas.Bool.Decides.{eqb_tells}
use Rattle.alma_tree.specs.declared.leaf.Sign.{Sign}
use Rattle.alma_tree.specs.declared.leaf.Mode.{Mode}
use Rattle.alma_tree.specs.declared.leaf.Name.{Name}
use Rattle.alma_tree.specs.declared.leaf.Names.{Names}
use Rattle.alma_tree.specs.declared.phrase.Stmts as ds
use Rattle.alma_tree.specs.declared.phrase.Stmt as dt
use Rattle.alma_tree.specs.declared.phrase.Elsif as df
use Rattle.alma_tree.specs.declared.phrase.Arm as da
use Rattle.alma_tree.specs.declared.phrase.Label as dl
use Rattle.alma_tree.specs.declared.phrase.Expr as de
use Rattle.alma_tree.specs.declared.phrase.Compared as dc
use Rattle.alma_tree.specs.declared.phrase.Simple as di
use Rattle.alma_tree.specs.declared.phrase.AddLink as dk
use Rattle.alma_tree.specs.declared.phrase.Term as dm
use Rattle.alma_tree.specs.declared.phrase.Factor as dr
use Rattle.alma_tree.specs.declared.phrase.Primary as dp
use Rattle.alma_tree.specs.declared.phrase.Args as dg
use Rattle.alma_tree.specs.declared.phrase.Exprs as dx
use Rattle.alma_tree.specs.declared.phrase.Desig as dd
use Rattle.alma_tree.specs.declared.phrase.Selector as dj
use Rattle.alma_tree.specs.declared.type_node.TypeNode as dy
use Rattle.alma_tree.specs.declared.type_node.Arrays as dz
use Rattle.alma_tree.specs.declared.type_node.PlainType as dq
use Rattle.alma_tree.specs.declared.type_node.FieldList as dw
use Rattle.alma_tree.specs.declared.module.Block as db
use Rattle.alma_tree.specs.declared.module.Decl as dh
use Rattle.alma_tree.specs.declared.module.ConstEntry.{ConstEntry}
use Rattle.alma_tree.specs.declared.module.TypeEntry.{TypeEntry}
use Rattle.alma_tree.specs.declared.module.VarEntry.{VarEntry}
use Rattle.alma_tree.specs.declared.module.Params.{Params}
use Rattle.alma_tree.specs.declared.module.Formals.{Formals}
use Rattle.alma_tree.specs.declared.module.Formal.{Formal}
use Rattle.alma_tree.specs.declared.module.Module.{Module}
use Rattle.alma_tree.specs.Numbers as number
use Rattle.alma_tree.specs.Numbers.{Cursor, Step, where_so, token, leaf, stay, and_then, number_name, number_sign, number_mode, ◌>>◌}
use Rattle.alma_rules.specs.View as view
use Rattle.alma_rules.specs.Rising as rise
use Rattle.alma_rules.specs.Rising.{Rise, rise_expr, rise_type, rise_block, IsRising}

-- from each cursor the step makes numbers that rise so
Does : Step → Rise → Type 0
Does f r = (at b : Cursor) → f at ≡ Some b → r at.node b.node

some_is : (a b : Cursor) → Some a ≡ Some b → a ≡ b
some_is a b h = ap (λ (o : Option Cursor). get o) h
  where
    get : Option Cursor → Cursor
    get None = a
    get (Some c) = c

parts : (o : Option Cursor) (g : Step) (b : Cursor) → and_then o g ≡ Some b → (mid : Cursor) × (o ≡ Some mid) × (g mid ≡ Some b)
parts None g b h = absurd (cc)
parts (Some c) g b h = (c, refl, h)

same_node : (a b : Cursor) → Some a ≡ Some b → a.node ≡ b.node
same_node a b h = ap (λ (c : Cursor). c.node) (some_is a b h)

-- a node that is numbered n
node_gives : (n : ℕ) (at b : Cursor) → number.node n at ≡ Some b → (n ≡ at.node) × (b.node ≡ suc at.node)
node_gives n at b h = go (nat_eq n at.node) (eqb_tells n at.node) h
  where
    go : (t : Bool) → ((t ≡ true) × (n ≡ at.node)) ⊎ ((t ≡ false) × (n ≡ at.node → ⊥))
        → where_so t (record { token = at.token; node = suc at.node }) ≡ Some b → (n ≡ at.node) × (b.node ≡ suc at.node)
    go true (inl p) h = (p.1, sym (same_node (record { token = at.token; node = suc at.node }) b h))
    go true (inr p) h = absurd (cc)
    go false p h = absurd (cc)

-- ---- steps one after another

does_stay : Does stay rise.none
unfolding Does
does_stay at b h = let e : at.node ≡ b.node = same_node at b h in omega (arith, e)

does_then : (f g : Step) (r q : Rise) → Does f r → Does g q → Does (f >> g) (rise.◌>>◌ r q)
unfolding Does
does_then f g r q df dg at b h = let p : (mid : Cursor) × (f at ≡ Some mid)
    × (g mid ≡ Some b) = parts (f at) g b h in (p.0.node, df at p.0 p.1, dg p.0 b p.2)

-- a token in front
does_token : (g : Step) (q : Rise) → Does g q → Does (token >> g) q
unfolding Does
does_token g q dg at b h = dg (record { token = suc at.token; node = at.node }) b h

-- a node behind its parts
Closes : Step → ℕ → Rise → Type 0
Closes f n r = (at b : Cursor) → f at ≡ Some b → r at.node n × (n < b.node)

close : (f : Step) (n : ℕ) (r : Rise) → Closes f n r → Does f (rise.node n r)
unfolding Does Closes
close f n r h = h

closes_token : (g : Step) (n : ℕ) (q : Rise) → Closes g n q → Closes (token >> g) n q
unfolding Closes
closes_token g n q dg at b h = dg (record { token = suc at.token; node = at.node }) b h

-- the end of a node, with a token in front or without
last : (f : Step) (r : Rise) (n : ℕ) → Does f r → Closes (f >> number.node n) n r
unfolding Does Closes
last f r n df at b h =
    let p : (mid : Cursor) × (f at ≡ Some mid) × (number.node n mid ≡ Some b) = parts (f at) (number.node n) b h in
    let e : (n ≡ p.0.node) × (b.node ≡ suc p.0.node) = node_gives n p.0 b p.2 in
    (subst (λ (k : ℕ). r at.node k) (sym e.0) (df at p.0 p.1), omega (arith, e.0, e.1))

last_token : (f : Step) (r : Rise) (n : ℕ) → Does f r → Closes (f >> token >> number.node n) n r
unfolding Does Closes
last_token f r n df at b h =
    let p : (mid : Cursor) × (f at ≡ Some mid) × ((token >> number.node n) mid ≡ Some b) = parts (f at) (token >> number.node n) b h in
    let e : (n ≡ p.0.node) × (b.node ≡ suc p.0.node) = node_gives n (record { token = suc p.0.token; node = p.0.node }) b p.2 in
    (subst (λ (k : ℕ). r at.node k) (sym e.0) (df at p.0 p.1), omega (arith, e.0, e.1))

bare : (n : ℕ) → Closes (number.node n) n rise.none
unfolding Closes
bare n at b h = let e : (n ≡ at.node) × (b.node ≡ suc at.node) = node_gives n at b h in (omega (arith, e.0), omega (arith, e.0, e.1))

-- a part of a node, and the rest of it
tail : (f g : Step) (r q : Rise) (n : ℕ) → Does f r → Closes g n q → Closes (f >> g) n (rise.◌>>◌ r q)
unfolding Does Closes
tail f g r q n df dg at b h =
    let p : (mid : Cursor) × (f at ≡ Some mid) × (g mid ≡ Some b) = parts (f at) g b h in
    let t : q p.0.node n × (n < b.node) = dg p.0 b p.2 in
    ((p.0.node, df at p.0 p.1, t.0), t.1)

leaf_then : (t : ℕ) (g : Step) (n : ℕ) (q : Rise) → Closes g n q → Closes (leaf t >> g) n q
unfolding Closes
leaf_then t g n q dg at b h = go (nat_eq t at.token) h
  where
    go : (x : Bool) → and_then (where_so x (record { token = suc at.token; node = at.node })) g ≡ Some b → q at.node n × (n < b.node)
    go true h = dg (record { token = suc at.token; node = at.node }) b h
    go false h = absurd (cc)

one_token : Does token rise.none
unfolding Does
one_token at b h = let e : at.node ≡ b.node = same_node (record { token = suc at.token; node = at.node }) b h in omega (arith, e)

before_token : (f : Step) (r : Rise) → Does f r → Does (f >> token) r
unfolding Does
before_token f r df at b h =
    let p : (mid : Cursor) × (f at ≡ Some mid) × (token mid ≡ Some b) = parts (f at) token b h in
    let e : p.0.node ≡ b.node = same_node (record { token = suc p.0.token; node = p.0.node }) b p.2 in
    subst (λ (k : ℕ). r at.node k) e (df at p.0 p.1)

name_does : (l : Name) → Does (number_name l) (rise.rise_name (view.view_name l))
name_does l = close _ l.node _ (leaf_then l.token (number.node l.node) l.node rise.none (bare l.node))

sign_then : (x : Option Sign) (g : Step) (n : ℕ) (q : Rise) → Closes g n q → Closes (number_sign x >> g) n q
unfolding Closes
sign_then None g n q dg at b h = dg at b h
sign_then (Some x) g n q dg at b h = dg (record { token = suc at.token; node = at.node }) b h

-- ---- statements and expressions

mutual
  unfolding rise_expr

  stmt_does : (x : dt.Stmt) → Does (number.number_stmt x) (rise.rise_stmt (view.view_stmt x))
  stmt_does (dt.Nothing n) =
      close _ n _ (bare n)
  stmt_does (dt.Assign' n m l shape row e) =
      close _ n _ (tail _ _ _ _ n (close _ m _ (tail _ _ _ _ m (name_does l) (last _ _ m (selectors_does row))))
      (closes_token _ _ _ (last _ _ n (expr_does e))))
  stmt_does (dt.Value n e) =
      close _ n _ (last _ _ n (expr_does e))
  stmt_does (dt.If' n e m b s shape row shape' row' other) =
      close _ n _ (closes_token _ _ _ (tail _ _ _ _ n (expr_does e)
      (closes_token _ _ _ (tail _ _ _ _ n (close _ m _ (tail _ _ _ _ m (stmt_does s) (last _ _ m (stmts_does row))))
      (tail _ _ _ _ n (elsifs_does row') (last_token _ _ n (else_does other)))))))
  stmt_does (dt.While' n e m b s shape row) =
      close _ n _ (closes_token _ _ _ (tail _ _ _ _ n (expr_does e)
      (closes_token _ _ _ (last_token _ _ n (close _ m _ (tail _ _ _ _ m (stmt_does s) (last _ _ m (stmts_does row))))))))
  stmt_does (dt.Repeat' n m b s shape row e) =
      close _ n _ (closes_token _ _ _ (tail _ _ _ _ n (close _ m _ (tail _ _ _ _ m (stmt_does s) (last _ _ m (stmts_does row))))
      (closes_token _ _ _ (last _ _ n (expr_does e)))))
  stmt_does (dt.For' n l low high by m b s shape row) =
      close _ n _ (closes_token _ _ _ (tail _ _ _ _ n (name_does l)
      (closes_token _ _ _ (tail _ _ _ _ n (expr_does low) (closes_token _ _ _ (tail _ _ _ _ n (expr_does high)
      (tail _ _ _ _ n (by_does by) (closes_token _ _ _
      (last_token _ _ n (close _ m _ (tail _ _ _ _ m (stmt_does s) (last _ _ m (stmts_does row)))))))))))))
  stmt_does (dt.Some' n l low high m b s shape row) =
      close _ n _ (closes_token _ _ _ (tail _ _ _ _ n (name_does l)
      (closes_token _ _ _ (tail _ _ _ _ n (expr_does low) (closes_token _ _ _ (tail _ _ _ _ n (expr_does high)
      (closes_token _ _ _ (last_token _ _ n (close _ m _ (tail _ _ _ _ m (stmt_does s) (last _ _ m (stmts_does row))))))))))))
  stmt_does (dt.Case' n e b a shape row other) =
      close _ n _ (closes_token _ _ _ (tail _ _ _ _ n (expr_does e)
      (closes_token _ _ _ (tail _ _ _ _ n (arm_does a) (tail _ _ _ _ n (arms_does row) (last_token _ _ n (else_does other)))))))
  stmt_does (dt.Either' n m b s shape row shape' row') =
      close _ n _ (closes_token _ _ _ (tail _ _ _ _ n (close _ m _ (tail _ _ _ _ m (stmt_does s) (last _ _ m (stmts_does row))))
      (last_token _ _ n (orelses_does row'))))
  stmt_does (dt.Forall' n m b s shape row m' b' s' shape' row') =
      close _ n _ (closes_token _ _ _ (tail _ _ _ _ n (close _ m _ (tail _ _ _ _ m (stmt_does s) (last _ _ m (stmts_does row))))
      (closes_token _ _ _ (last_token _ _ n (close _ m' _ (tail _ _ _ _ m' (stmt_does s') (last _ _ m' (stmts_does row'))))))))
  stmt_does (dt.Commit' n m b s shape row) =
      close _ n _ (closes_token _ _ _ (last_token _ _ n (close _ m _ (tail _ _ _ _ m (stmt_does s) (last _ _ m (stmts_does row))))))
  stmt_does (dt.Return' n e) =
      close _ n _ (closes_token _ _ _ (last _ _ n (returned_does e)))
  stmt_does (dt.Read' n m l shape row shape' row') =
      close _ n _ (closes_token _ _ _ (closes_token _ _ _
      (tail _ _ _ _ n (close _ m _ (tail _ _ _ _ m (name_does l) (last _ _ m (selectors_does row))))
      (last_token _ _ n (desigs_does row')))))
  stmt_does (dt.Write n es) =
      close _ n _ (closes_token _ _ _ (closes_token _ _ _ (last_token _ _ n (exprs_does es))))
  stmt_does (dt.Writeln' n a) =
      close _ n _ (closes_token _ _ _ (last _ _ n (args_does a)))

  stmts_does : {n : _} (x : da.Row_of-Stmt n) → Does (number.number_stmts_row x) (rise.rise_stmt_tail (view.view_stmts_row x))
  stmts_does da.end_of-Stmt = does_stay
  stmts_does (da.more_of-Stmt s rest) = does_token _ _ (does_then _ _ _ _ (stmt_does s) (stmts_does rest))

  elsifs_does : {n : _} (x : dt.Row_of-Elsif n) → Does (number.number_elsifs x) (rise.rise_elsifs (view.view_elsifs x))
  elsifs_does dt.end_of-Elsif = does_stay
  elsifs_does (dt.more_of-Elsif (df.Elsif' e m b s shape row) rest) =
      does_token _ _ (does_then _ _ _ _ (expr_does e)
      (does_token _ _ (does_then _ _ _ _ (close _ m _ (tail _ _ _ _ m (stmt_does s) (last _ _ m (stmts_does row))))
      (elsifs_does rest))))

  else_does : (x : dt.Held-Stmt-If-4) → Does (number.number_else x) (rise.rise_else (view.view_else x))
  else_does dt.Stmt-If-4-None' = does_stay
  else_does (dt.Stmt-If-4-Some' m b s shape row) = does_token _ _ (close _ m _ (tail _ _ _ _ m (stmt_does s) (last _ _ m (stmts_does row))))

  by_does : (x : dl.Held-Stmt-For-4) → Does (number.number_by x) (rise.rise_by (view.view_by x))
  by_does dl.Stmt-For-4-None' = does_stay
  by_does (dl.Stmt-For-4-Some' e) = does_token _ _ (expr_does e)

  orelses_does : {n : _} (x : dt.Row_of-Stmts n) → Does (number.number_orelses x) (rise.rise_orelses (view.view_orelses x))
  orelses_does dt.end_of-Stmts = does_stay
  orelses_does (dt.more_of-Stmts m b s shape row rest) =
      does_token _ _ (does_then _ _ _ _ (close _ m _ (tail _ _ _ _ m (stmt_does s) (last _ _ m (stmts_does row)))) (orelses_does rest))

  returned_does : (x : dl.Held-Stmt-For-4) → Does (number.number_returned x) (rise.rise_returned (view.view_returned x))
  returned_does dl.Stmt-For-4-None' = does_stay
  returned_does (dl.Stmt-For-4-Some' e) = expr_does e

  desigs_does : {n : _} (x : dt.Row_of-Desig n) → Does (number.number_desigs x) (rise.rise_desigs (view.view_desigs x))
  desigs_does dt.end_of-Desig = does_stay
  desigs_does (dt.more_of-Desig m l shape row rest) =
      does_token _ _ (does_then _ _ _ _ (close _ m _ (tail _ _ _ _ m (name_does l) (last _ _ m (selectors_does row)))) (desigs_does rest))

  arm_does : (x : da.Arm) → Does (number.number_arm x) (rise.rise_arm (view.view_arm x))
  arm_does (da.Empty n) =
      close _ n _ (bare n)
  arm_does (da.Labelled' n l shape row m b s shape' row') =
      close _ n _ (tail _ _ _ _ n (label_does l)
      (tail _ _ _ _ n (labels_does row) (closes_token _ _ _
      (last _ _ n (close _ m _ (tail _ _ _ _ m (stmt_does s) (last _ _ m (stmts_does row'))))))))

  arms_does : {n : _} (x : dt.Row_of-Arm n) → Does (number.number_arms x) (rise.rise_arms (view.view_arm_row x))
  arms_does dt.end_of-Arm = does_stay
  arms_does (dt.more_of-Arm a rest) = does_token _ _ (does_then _ _ _ _ (arm_does a) (arms_does rest))

  label_does : (x : dl.Label) → Does (number.number_label x) (rise.rise_label (view.view_label x))
  label_does (dl.Label' n e h) =
      close _ n _ (tail _ _ _ _ n (expr_does e) (last _ _ n (high_does h)))

  high_does : (x : dl.Held-Stmt-For-4) → Does (number.number_high x) (rise.rise_high (view.view_high x))
  high_does dl.Stmt-For-4-None' = does_stay
  high_does (dl.Stmt-For-4-Some' e) = does_token _ _ (expr_does e)

  labels_does : {n : _} (x : da.Row_of-Label n) → Does (number.number_labels x) (rise.rise_labels (view.view_labels x))
  labels_does da.end_of-Label = does_stay
  labels_does (da.more_of-Label l rest) = does_token _ _ (does_then _ _ _ _ (label_does l) (labels_does rest))

  expr_does : (x : de.Expr) → Does (number.number_expr x) (rise.rise_expr (view.view_expr x))
  expr_does (de.Expr' n s right) =
      close _ n _ (tail _ _ _ _ n (simple_does s) (last _ _ n (compared_does right)))

  compared_does : (x : de.Held-Expr-right) → Does (number.number_compared x) (rise.rise_compared (view.view_compared x))
  compared_does de.Expr-right-None' = does_stay
  compared_does (de.Expr-right-Some' b (dc.Compared' r s)) = does_token _ _ (simple_does s)

  simple_does : (x : di.Simple) → Does (number.number_simple x) (rise.rise_simple (view.view_simple x))
  simple_does (di.Simple' n sign b t shape row) =
      close _ n _ (sign_then sign _ _ _ (tail _ _ _ _ n (term_does t) (last _ _ n (terms_does row))))

  terms_does : {n : _} (x : di.Row_of-AddLink n) → Does (number.number_terms x) (rise.rise_terms (view.view_terms x))
  terms_does di.end_of-AddLink = does_stay
  terms_does (di.more_of-AddLink (dk.AddLink' o t) rest) = does_token _ _ (does_then _ _ _ _ (term_does t) (terms_does rest))

  term_does : (x : dm.Term) → Does (number.number_term x) (rise.rise_term (view.view_term x))
  term_does (dm.Term' n f shape row) =
      close _ n _ (tail _ _ _ _ n (factor_does f) (last _ _ n (factors_does row)))

  factors_does : {n : _} (x : dm.Row_of-MulLink n) → Does (number.number_factors x) (rise.rise_factors (view.view_factors x))
  factors_does dm.end_of-MulLink = does_stay
  factors_does (dm.more_of-MulLink o f rest) = does_token _ _ (does_then _ _ _ _ (factor_does f) (factors_does rest))

  factor_does : (x : dr.Factor) → Does (number.number_factor x) (rise.rise_factor (view.view_factor x))
  factor_does (dr.Not n p) =
      close _ n _ (closes_token _ _ _ (last _ _ n (primary_does p)))
  factor_does (dr.Plain n p) =
      close _ n _ (last _ _ n (primary_does p))

  primary_does : (x : dp.Primary) → Does (number.number_primary x) (rise.rise_primary (view.view_primary x))
  primary_does (dp.Number n l) =
      close _ n _ (leaf_then l.token _ _ _ (bare n))
  primary_does (dp.Literal n l) =
      close _ n _ (leaf_then l.token _ _ _ (bare n))
  primary_does (dp.Desig' n m l shape row a) =
      close _ n _ (tail _ _ _ _ n (close _ m _ (tail _ _ _ _ m (name_does l) (last _ _ m (selectors_does row)))) (last _ _ n (args_does a)))
  primary_does (dp.Paren' n b m b' s shape row) =
      close _ n _ (closes_token _ _ _ (last_token _ _ n (close _ m _ (tail _ _ _ _ m (stmt_does s) (last _ _ m (stmts_does row))))))
  primary_does (dp.Known' n m l shape row) =
      close _ n _ (closes_token _ _ _ (closes_token _ _ _
      (last_token _ _ n (close _ m _ (tail _ _ _ _ m (name_does l) (last _ _ m (selectors_does row)))))))
  primary_does (dp.Ord' n b e) =
      close _ n _ (closes_token _ _ _ (closes_token _ _ _ (last_token _ _ n (expr_does e))))
  primary_does (dp.Chr' n b e) =
      close _ n _ (closes_token _ _ _ (closes_token _ _ _ (last_token _ _ n (expr_does e))))

  args_does : (x : dp.Held-Primary-Desig-2) → Does (number.number_args x) (rise.rise_args (view.view_args x))
  args_does dp.Primary-Desig-2-None' = does_stay
  args_does (dp.Primary-Desig-2-Some' (dg.Args' dg.Args-values-None')) = does_token _ _ one_token
  args_does (dp.Primary-Desig-2-Some' (dg.Args' (dg.Args-values-Some' es))) = does_token _ _ (before_token _ _ (exprs_does es))

  exprs_does : (x : dx.Exprs) → Does (number.number_exprs x) (rise.rise_exprs (view.view_exprs x))
  exprs_does (dx.Exprs' b e shape row) = does_then _ _ _ _ (expr_does e) (expr_row_does row)

  expr_row_does : {n : _} (x : dx.Row_of-Expr n) → Does (number.number_exprs_row x) (rise.rise_expr_tail (view.view_exprs_row x))
  expr_row_does dx.end_of-Expr = does_stay
  expr_row_does (dx.more_of-Expr e rest) = does_token _ _ (does_then _ _ _ _ (expr_does e) (expr_row_does rest))

  selectors_does : {n : _} (x : dd.Row_of-Selector n) → Does (number.number_selectors x) (rise.rise_selectors (view.view_selectors x))
  selectors_does dd.end_of-Selector = does_stay
  selectors_does (dd.more_of-Selector s rest) = does_then _ _ _ _ (selector_does s) (selectors_does rest)

  selector_does : (x : dj.Selector) → Does (number.number_selector x) (rise.rise_selector (view.view_selector x))
  selector_does (dj.Field n l) =
      close _ n _ (closes_token _ _ _ (last _ _ n (name_does l)))
  selector_does (dj.Index n es) =
      close _ n _ (closes_token _ _ _ (last_token _ _ n (exprs_does es)))

-- ---- names and types

-- two parts that are one in the grammar, and a token behind them
tail_two : (f g h : Step) (r q t : Rise) (n : ℕ) → Does f r → Does g q → Closes h n t
    → Closes (f >> g >> token >> h) n (rise.◌>>◌ (rise.◌>>◌ r q) t)
unfolding Does Closes
tail_two f g h r q t n df dg dh at b e =
    let p : (mid : Cursor) × (f at ≡ Some mid) × ((g >> token >> h) mid ≡ Some b) = parts (f at) (g >> token >> h) b e in
    let o : (mid : Cursor) × (g p.0 ≡ Some mid) × ((token >> h) mid ≡ Some b) = parts (g p.0) (token >> h) b p.2 in
    let c : t o.0.node n × (n < b.node) = dh (record { token = suc o.0.token; node = o.0.node }) b o.2 in
    ((o.0.node, (p.0.node, df at p.0 p.1, dg p.0 o.0 o.1), c.0), c.1)

then_two : (f g h : Step) (r q t : Rise) → Does f r → Does g q → Does h t → Does (f >> g >> token >> h) (rise.◌>>◌ (rise.◌>>◌ r q) t)
unfolding Does
then_two f g h r q t df dg dh at b e =
    let p : (mid : Cursor) × (f at ≡ Some mid) × ((g >> token >> h) mid ≡ Some b) = parts (f at) (g >> token >> h) b e in
    let o : (mid : Cursor) × (g p.0 ≡ Some mid) × ((token >> h) mid ≡ Some b) = parts (g p.0) (token >> h) b p.2 in
    (o.0.node, (p.0.node, df at p.0 p.1, dg p.0 o.0 o.1), dh (record { token = suc o.0.token; node = o.0.node }) b o.2)

more_names_does : (xs : List Name) → Does (number.numbers_of_names xs) (rise.rise_more_names (view.names_of xs))
more_names_does [] = does_stay
more_names_does (x ∷ xs) = does_token _ _ (does_then _ _ _ _ (name_does x) (more_names_does xs))

names_does : (x : Names) → Does (number.number_names x) (rise.rise_names (view.view_names x))
names_does x = close _ x.node _ (tail _ _ _ _ x.node (name_does x.first) (last _ _ x.node (more_names_does x.more.items)))

mutual
  unfolding rise_type

  type_does : (x : dy.TypeNode) → Does (number.number_type x) (rise.rise_type (view.view_type_node x))
  type_does (dy.TypeNode' n dims p) = close _ n _ (tail _ _ _ _ n (arrays_does dims) (last _ _ n (plain_does p)))

  arrays_does : (x : dy.Held-TypeNode-arrays) → Does (number.number_arrays x) (rise.rise_arrays (view.view_arrays x))
  arrays_does dy.None' = does_stay
  arrays_does (dy.Some' (dz.Arrays' n p shape row shape' row')) =
      close _ n _ (closes_token _ _ _ (tail_two _ _ _ _ _ _ n (plain_does p) (plains_does row) (last _ _ n (dimensions_does row'))))

  dimensions_does : {n : _} (x : dz.Row_of-Dimensions n)
      → Does (number.number_dimensions x) (rise.rise_dimension_tail (view.view_dimensions x))
  dimensions_does dz.end_of-Dimensions = does_stay
  dimensions_does (dz.more_of-Dimensions p shape row rest) =
      does_token _ _ (then_two _ _ _ _ _ _ (plain_does p) (plains_does row) (dimensions_does rest))

  plains_does : {n : _} (x : dz.Row_of-PlainType n) → Does (number.number_plains x) (rise.rise_plains (view.view_plains x))
  plains_does dz.end_of-PlainType = does_stay
  plains_does (dz.more_of-PlainType p rest) = does_token _ _ (does_then _ _ _ _ (plain_does p) (plains_does rest))

  plain_does : (x : dq.PlainType) → Does (number.number_plain x) (rise.rise_plain (view.view_plain_type x))
  plain_does (dq.Named n l) = close _ n _ (last _ _ n (name_does l))
  plain_does (dq.Listed n l) = close _ n _ (closes_token _ _ _ (last_token _ _ n (names_does l)))
  plain_does (dq.Subrange n low high) =
      close _ n _ (closes_token _ _ _ (tail _ _ _ _ n (expr_does low) (closes_token _ _ _ (last_token _ _ n (expr_does high)))))
  plain_does (dq.Record' n b f shape row) =
      close _ n _ (closes_token _ _ _ (tail _ _ _ _ n (field_list_does f) (last_token _ _ n (field_lists_does row))))

  field_list_does : (x : dw.FieldList) → Does (number.number_field_list x) (rise.rise_fields (view.view_field_list x))
  field_list_does (dw.Empty n) = close _ n _ (bare n)
  field_list_does (dw.Fields n l t) = close _ n _ (tail _ _ _ _ n (names_does l) (closes_token _ _ _ (last _ _ n (type_does t))))

  field_lists_does : {n : _} (x : dq.Row_of-FieldList n)
      → Does (number.number_field_lists x) (rise.rise_field_tail (view.view_field_lists x))
  field_lists_does dq.end_of-FieldList = does_stay
  field_lists_does (dq.more_of-FieldList f rest) = does_token _ _ (does_then _ _ _ _ (field_list_does f) (field_lists_does rest))

-- ---- declarations and the module

mode_then : (x : Option Mode) (g : Step) (n : ℕ) (q : Rise) → Closes g n q → Closes (number_mode x >> g) n q
unfolding Closes
mode_then None g n q dg at b h = dg at b h
mode_then (Some x) g n q dg at b h = dg (record { token = suc at.token; node = at.node }) b h

consts_do : (xs : List ConstEntry) → Does (number.numbers_of_consts xs) (rise.rise_consts (view.consts_of xs))
consts_do [] = does_stay
consts_do (x ∷ xs) = does_then _ _ _ _ (name_does x.name)
    (does_token _ _ (does_then _ _ _ _ (expr_does x.value) (does_token _ _ (consts_do xs))))

types_do : (xs : List TypeEntry) → Does (number.numbers_of_types xs) (rise.rise_type_entries (view.types_of xs))
types_do [] = does_stay
types_do (x ∷ xs) = does_then _ _ _ _ (name_does x.name)
    (does_token _ _ (does_then _ _ _ _ (type_does x.type_node) (does_token _ _ (types_do xs))))

vars_do : (xs : List VarEntry) → Does (number.numbers_of_vars xs) (rise.rise_vars (view.vars_of xs))
vars_do [] = does_stay
vars_do (x ∷ xs) = does_then _ _ _ _ (names_does x.names)
    (does_token _ _ (does_then _ _ _ _ (type_does x.type_node) (does_token _ _ (vars_do xs))))

formal_does : (x : Formal) → Does (number.number_formal x) (rise.rise_formal (view.view_formal x))
formal_does x = close _ x.node _ (mode_then x.mode _ _ _
    (tail _ _ _ _ x.node (names_does x.names) (closes_token _ _ _ (last _ _ x.node (name_does x.type_name)))))

more_formals_do : (xs : List Formal) → Does (number.numbers_of_formals xs) (rise.rise_more_formals (view.more_formals_of xs))
more_formals_do [] = does_stay
more_formals_do (x ∷ xs) = does_token _ _ (does_then _ _ _ _ (formal_does x) (more_formals_do xs))

formals_do : (x : Formals) → Does (number.number_formals x) (rise.rise_formals (Some (view.view_formals x)))
formals_do x = close _ x.node _ (tail _ _ _ _ x.node (formal_does x.first) (last _ _ x.node (more_formals_do x.more.items)))

inside_params_do : (x : Option Formals) → Does (number.numbers_inside_params x) (rise.rise_formals (view.formals_in x))
inside_params_do None = does_token _ _ one_token
inside_params_do (Some x) = does_token _ _ (before_token _ _ (formals_do x))

params_do : (x : Option Params) → Does (number.numbers_of_params x) (rise.rise_params (view.params_of x))
params_do None = does_stay
params_do (Some x) = inside_params_do x.formals

result_does : (x : Option Name) → Does (number.numbers_of_result x) (rise.rise_result (view.result_of x))
result_does None = does_stay
result_does (Some x) = does_token _ _ (name_does x)

stmt_list_does : (xs : List dt.Stmt) → Does (number.numbers_of_stmts xs) (rise.rise_stmt_tail (view.stmts_of xs))
unfolding rise_expr
stmt_list_does [] = does_stay
stmt_list_does (x ∷ xs) = does_token _ _ (does_then _ _ _ _ (stmt_does x) (stmt_list_does xs))

body_does : (x : Option ds.Stmts) → Does (number.numbers_of_body x) (rise.rise_body (view.body_of x))
unfolding rise_expr
body_does None = does_stay
body_does (Some x) = does_token _ _ (close _ x.node _
    (tail _ _ _ _ x.node (stmt_does x.first.value) (last _ _ x.node (stmt_list_does x.more.items))))

mutual
  unfolding rise_block

  decl_does : (x : dh.Decl) → Does (number.number_decl x) (rise.rise_decl (view.view_decl x))
  decl_does (dh.Const n entries) = close _ n _ (closes_token _ _ _ (last _ _ n (consts_do entries.items)))
  decl_does (dh.Type n entries) = close _ n _ (closes_token _ _ _ (last _ _ n (types_do entries.items)))
  decl_does (dh.Var n entries) = close _ n _ (closes_token _ _ _ (last _ _ n (vars_do entries.items)))
  decl_does (dh.Procedure' n l p r m shape row b e) =
      close _ n _ (closes_token _ _ _ (tail _ _ _ _ n (name_does l) (tail _ _ _ _ n (params_do p) (tail _ _ _ _ n (result_does r)
      (closes_token _ _ _ (tail _ _ _ _ n (close _ m _ (tail _ _ _ _ m (decl_row_does row) (last _ _ m (body_does b))))
      (closes_token _ _ _ (last_token _ _ n (name_does e)))))))))

  decl_row_does : {n : _} (x : db.Row_of-Decl n) → Does (number.number_decls x) (rise.rise_decls (view.view_decls x))
  decl_row_does db.end_of-Decl = does_stay
  decl_row_does (db.more_of-Decl d rest) = does_then _ _ _ _ (decl_does d) (decl_row_does rest)

decl_list_does : (xs : List dh.Decl) → Does (number.numbers_of_decls xs) (rise.rise_decls (view.decls_of xs))
unfolding rise_block
decl_list_does [] = does_stay
decl_list_does (x ∷ xs) = does_then _ _ _ _ (decl_does x) (decl_list_does xs)

block_does : (x : db.Block) → Does (number.number_block x) (rise.rise_block (view.view_block x))
unfolding rise_block
block_does x = close _ x.node _ (tail _ _ _ _ x.node (decl_list_does x.decls.items) (last _ _ x.node (body_does x.body)))

module_does : (x : Module) → Does (number.number_module x) (rise.rise_module (view.view_module x))
module_does x =
    close _ x.node _ (closes_token _ _ _ (tail _ _ _ _ x.node (name_does x.name)
    (closes_token _ _ _ (tail _ _ _ _ x.node (block_does x.block)
    (closes_token _ _ _ (last_token _ _ x.node (name_does x.end_name)))))))

-- what the parser promises of a tree gives rising numbers
pub numbered_rises : (m : Module) (tokens : ℕ) → number.IsNumbered m tokens → IsRising (view.view_module m)
unfolding Does
numbered_rises m tokens h = (h.0, module_does m (record { token = 0; node = 0 }) (record { token = tokens; node = h.0 }) h.1)
