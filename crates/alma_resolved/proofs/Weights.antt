-- What the literals and the loop names of a phrase weigh, and that they weigh no more than the tokens over which a numbered tree leads.
use Rattle.std.proofs.Common.{◌≡◌, ℕ, zero, suc, ◌+◌, ◌-◌, ◌≤◌, List, [], ◌∷◌, Bool, true, false, Some, refl, ap, arith}
use Rattle.std.specs.Prelude.{nat_eq}
use Rattle.std.proofs.lemmas.Bool.{eqb-true}
use Rattle.alma_tree.specs.declared.leaf.Name.{Name}
use Rattle.alma_tree.specs.declared.phrase.Stmt as dt
use Rattle.alma_tree.specs.declared.phrase.Elsif as df
use Rattle.alma_tree.specs.declared.phrase.Arm as da
use Rattle.alma_tree.specs.declared.phrase.Label as dl
use Rattle.alma_tree.specs.declared.phrase.Expr as de
use Rattle.alma_tree.specs.declared.phrase.Compared as dc
use Rattle.alma_tree.specs.declared.phrase.Simple as di
use Rattle.alma_tree.specs.declared.phrase.AddLink as dk
use Rattle.alma_tree.specs.declared.phrase.Term as dm
use Rattle.alma_tree.specs.declared.phrase.Factor as dr
use Rattle.alma_tree.specs.declared.phrase.Primary as dp
use Rattle.alma_tree.specs.declared.phrase.Args as dg
use Rattle.alma_tree.specs.declared.phrase.Exprs as dx
use Rattle.alma_tree.specs.declared.phrase.Desig as dd
use Rattle.alma_tree.specs.declared.phrase.Selector as dj
use Rattle.alma_tree.specs.Numbers as number
use Rattle.alma_tree.specs.Numbers.{Cursor, Step, where_so, leaf, ◌>>◌}
use Rattle.alma_rules.specs.Numbered as tree
use Rattle.alma_rules.specs.View as numbered
use Rattle.alma_resolved.proofs.Onward.{Up, same_token, parts, up_stay, up_token, up_node, up_leaf, up_then, name_up, sign_up}

-- ---- what a phrase weighs

unfoldable mutual
  pub weigh_stmts : (W : ℕ → ℕ) → tree.Stmts → ℕ
  weigh_stmts W (tree.stmts n x rest) = weigh_stmt W x + weigh_stmt_tail W rest

  pub weigh_stmt_tail : (W : ℕ → ℕ) → tree.StmtTail → ℕ
  weigh_stmt_tail W tree.no_stmt = 0
  weigh_stmt_tail W (tree.more_stmt x rest) = weigh_stmt W x + weigh_stmt_tail W rest

  pub weigh_stmt : (W : ℕ → ℕ) → tree.Stmt → ℕ
  weigh_stmt W (tree.nothing n) = 0
  weigh_stmt W (tree.assign n d e) = weigh_desig W d + weigh_expr W e
  weigh_stmt W (tree.value n e) = weigh_expr W e
  weigh_stmt W (tree.if_stmt n e body elsifs other) = weigh_expr W e + (weigh_stmts W body + (weigh_elsifs W elsifs + weigh_else W other))
  weigh_stmt W (tree.while_stmt n e body) = weigh_expr W e + weigh_stmts W body
  weigh_stmt W (tree.repeat_stmt n body e) = weigh_stmts W body + weigh_expr W e
  weigh_stmt W (tree.for_stmt n name low high by body) = W name.token
      + (weigh_expr W low + (weigh_expr W high + (weigh_by W by + weigh_stmts W body)))
  weigh_stmt W (tree.some_stmt n name low high body) = W name.token + (weigh_expr W low + (weigh_expr W high + weigh_stmts W body))
  weigh_stmt W (tree.case_stmt n e first rest other) = weigh_expr W e + (weigh_arm W first + (weigh_arms W rest + weigh_else W other))
  weigh_stmt W (tree.either_stmt n body rest) = weigh_stmts W body + weigh_orelses W rest
  weigh_stmt W (tree.forall_stmt n choice body) = weigh_stmts W choice + weigh_stmts W body
  weigh_stmt W (tree.commit_stmt n body) = weigh_stmts W body
  weigh_stmt W (tree.return_stmt n e) = weigh_returned W e
  weigh_stmt W (tree.read_stmt n d rest) = weigh_desig W d + weigh_desigs W rest
  weigh_stmt W (tree.write_stmt n items) = weigh_exprs W items
  weigh_stmt W (tree.writeln_stmt n items) = weigh_args W items

  pub weigh_elsifs : (W : ℕ → ℕ) → tree.ElsifTail → ℕ
  weigh_elsifs W tree.no_elsif = 0
  weigh_elsifs W (tree.more_elsif e body rest) = weigh_expr W e + (weigh_stmts W body + weigh_elsifs W rest)

  pub weigh_else : (W : ℕ → ℕ) → tree.Else → ℕ
  weigh_else W tree.no_else = 0
  weigh_else W (tree.else_stmts body) = weigh_stmts W body

  pub weigh_by : (W : ℕ → ℕ) → tree.By → ℕ
  weigh_by W tree.no_by = 0
  weigh_by W (tree.by_expr e) = weigh_expr W e

  pub weigh_orelses : (W : ℕ → ℕ) → tree.OrelseTail → ℕ
  weigh_orelses W tree.no_orelse = 0
  weigh_orelses W (tree.more_orelse body rest) = weigh_stmts W body + weigh_orelses W rest

  pub weigh_returned : (W : ℕ → ℕ) → tree.Returned → ℕ
  weigh_returned W tree.no_value = 0
  weigh_returned W (tree.returned e) = weigh_expr W e

  pub weigh_desigs : (W : ℕ → ℕ) → tree.DesigTail → ℕ
  weigh_desigs W tree.no_desig = 0
  weigh_desigs W (tree.more_desig d rest) = weigh_desig W d + weigh_desigs W rest

  pub weigh_arm : (W : ℕ → ℕ) → tree.Arm → ℕ
  weigh_arm W (tree.empty_arm n) = 0
  weigh_arm W (tree.arm n first rest body) = weigh_label W first + (weigh_labels W rest + weigh_stmts W body)

  pub weigh_arms : (W : ℕ → ℕ) → tree.ArmTail → ℕ
  weigh_arms W tree.no_arm = 0
  weigh_arms W (tree.more_arm x rest) = weigh_arm W x + weigh_arms W rest

  pub weigh_label : (W : ℕ → ℕ) → tree.Label → ℕ
  weigh_label W (tree.label n low high) = weigh_expr W low + weigh_high W high

  pub weigh_high : (W : ℕ → ℕ) → tree.High → ℕ
  weigh_high W tree.no_high = 0
  weigh_high W (tree.high_expr e) = weigh_expr W e

  pub weigh_labels : (W : ℕ → ℕ) → tree.LabelTail → ℕ
  weigh_labels W tree.no_label = 0
  weigh_labels W (tree.more_label x rest) = weigh_label W x + weigh_labels W rest

  pub weigh_expr : (W : ℕ → ℕ) → tree.Expr → ℕ
  weigh_expr W (tree.expr n left right) = weigh_simple W left + weigh_compared W right

  pub weigh_compared : (W : ℕ → ℕ) → tree.Compared → ℕ
  weigh_compared W tree.no_relation = 0
  weigh_compared W (tree.compared relation right) = weigh_simple W right

  pub weigh_simple : (W : ℕ → ℕ) → tree.Simple → ℕ
  weigh_simple W (tree.simple n sign first rest) = weigh_term W first + weigh_terms W rest

  pub weigh_terms : (W : ℕ → ℕ) → tree.TermTail → ℕ
  weigh_terms W tree.no_term = 0
  weigh_terms W (tree.more_term o t rest) = weigh_term W t + weigh_terms W rest

  pub weigh_term : (W : ℕ → ℕ) → tree.Term → ℕ
  weigh_term W (tree.term n first rest) = weigh_factor W first + weigh_factors W rest

  pub weigh_factors : (W : ℕ → ℕ) → tree.FactorTail → ℕ
  weigh_factors W tree.no_factor = 0
  weigh_factors W (tree.more_factor o f rest) = weigh_factor W f + weigh_factors W rest

  pub weigh_factor : (W : ℕ → ℕ) → tree.Factor → ℕ
  weigh_factor W (tree.not_factor n p) = weigh_primary W p
  weigh_factor W (tree.factor n p) = weigh_primary W p

  pub weigh_primary : (W : ℕ → ℕ) → tree.Primary → ℕ
  weigh_primary W (tree.number n t) = 0
  weigh_primary W (tree.literal n t) = W t
  weigh_primary W (tree.named n d given) = weigh_desig W d + weigh_args W given
  weigh_primary W (tree.paren n body) = weigh_stmts W body
  weigh_primary W (tree.known n d) = weigh_desig W d
  weigh_primary W (tree.ord n e) = weigh_expr W e
  weigh_primary W (tree.chr n e) = weigh_expr W e

  pub weigh_args : (W : ℕ → ℕ) → tree.Args → ℕ
  weigh_args W tree.no_args = 0
  weigh_args W tree.empty_args = 0
  weigh_args W (tree.args items) = weigh_exprs W items

  pub weigh_exprs : (W : ℕ → ℕ) → tree.Exprs → ℕ
  weigh_exprs W (tree.exprs e rest) = weigh_expr W e + weigh_expr_tail W rest

  pub weigh_expr_tail : (W : ℕ → ℕ) → tree.ExprTail → ℕ
  weigh_expr_tail W tree.no_expr = 0
  weigh_expr_tail W (tree.more_expr e rest) = weigh_expr W e + weigh_expr_tail W rest

  pub weigh_desig : (W : ℕ → ℕ) → tree.Desig → ℕ
  weigh_desig W (tree.desig n name more) = weigh_selectors W more

  pub weigh_selectors : (W : ℕ → ℕ) → tree.SelectorTail → ℕ
  weigh_selectors W tree.no_selector = 0
  weigh_selectors W (tree.more_selector x rest) = weigh_selector W x + weigh_selectors W rest

  pub weigh_selector : (W : ℕ → ℕ) → tree.Selector → ℕ
  weigh_selector W (tree.field n name) = 0
  weigh_selector W (tree.index n items) = weigh_exprs W items

-- ---- what tokens weigh

-- what the tokens before this one weigh
abbrev pub total : (W : ℕ → ℕ) → ℕ → ℕ
total W zero = 0
total W (suc n) = total W n + W n

-- the tokens over which the step leads weigh at least so much
unfoldable pub Weighs : (W : ℕ → ℕ) → Step → ℕ → Type 0
Weighs W f w = (at b : Cursor) → f at ≡ Some b → total W at.token + w ≤ total W b.token

total_on : (W : ℕ → ℕ) (n m k : ℕ) → k + n ≡ m → total W n ≤ total W m
total_on W n m zero e = let same : n ≡ m = omega (arith, e) in omega (arith, ap (total W) same)
total_on W n zero (suc k) e = absurd (omega (arith, e))
total_on W n (suc m) (suc k) e = omega (arith, total_on W n m k (omega (arith, e)))

total_up : (W : ℕ → ℕ) (n m : ℕ) → n ≤ m → total W n ≤ total W m
total_up W n m le = total_on W n m (m - n) (omega (arith, le))

pub weighs_up : (W : ℕ → ℕ) (f : Step) → Up f → Weighs W f 0
unfolding Up Weighs
weighs_up W f u at b h = omega (arith, total_up W at.token b.token (u at b h))

pub weighs_both : (W : ℕ → ℕ) (f g : Step) (v w : ℕ) → Weighs W f v → Weighs W g w → Weighs W (f >> g) (v + w)
unfolding Weighs
weighs_both W f g v w p q at b h =
    let m : (mid : Cursor) × (f at ≡ Some mid) × (g mid ≡ Some b) = parts (f at) g b h in
    omega (arith, p at m.0 m.1, q m.0 b m.2)

pub weighs_after : (W : ℕ → ℕ) (f g : Step) (w : ℕ) → Up f → Weighs W g w → Weighs W (f >> g) w
unfolding Up Weighs
weighs_after W f g w u q at b h =
    let m : (mid : Cursor) × (f at ≡ Some mid) × (g mid ≡ Some b) = parts (f at) g b h in
    omega (arith, total_up W at.token m.0.token (u at m.0 m.1), q m.0 b m.2)

pub weighs_before : (W : ℕ → ℕ) (f g : Step) (v : ℕ) → Weighs W f v → Up g → Weighs W (f >> g) v
unfolding Up Weighs
weighs_before W f g v p u at b h =
    let m : (mid : Cursor) × (f at ≡ Some mid) × (g mid ≡ Some b) = parts (f at) g b h in
    omega (arith, p at m.0 m.1, total_up W m.0.token b.token (u m.0 b m.2))

pub leaf_weighs : (W : ℕ → ℕ) (n : ℕ) → Weighs W (leaf n) (W n)
unfolding Weighs
leaf_weighs W n at b h = by (nat_eq n at.token) refl h
  where
    by : (c : Bool) → nat_eq n at.token ≡ c → where_so c (record { token = suc at.token; node = at.node }) ≡ Some b
        → total W at.token + W n ≤ total W b.token
    by true e h =
        let next : total W (suc at.token) ≡ total W b.token =
        ap (total W) (same_token (record { token = suc at.token; node = at.node }) b h) in
        omega (arith, next, ap W (eqb-true n at.token e))
    by false e h = absurd (cc)

pub name_weighs : (W : ℕ → ℕ) (l : Name) → Weighs W (number.number_name l) (W l.token)
name_weighs W l = weighs_before W _ _ _ (leaf_weighs W l.token) (up_node l.node)

-- ---- statements and expressions

mutual
  unfolding weigh_stmts

  pub stmt_weighs : (W : ℕ → ℕ) (x : dt.Stmt) → Weighs W (number.number_stmt x) (weigh_stmt W (numbered.view_stmt x))
  stmt_weighs W (dt.Nothing n) = weighs_up W _ (up_node n)
  stmt_weighs W (dt.Assign' n m l shape row e) =
      weighs_both W _ _ _ _ (weighs_after W _ _ _ (name_up l) (weighs_before W _ _ _ (selectors_weighs W row) (up_node m)))
      (weighs_after W _ _ _ up_token (weighs_before W _ _ _ (expr_weighs W e) (up_node n)))
  stmt_weighs W (dt.Value n e) = weighs_before W _ _ _ (expr_weighs W e) (up_node n)
  stmt_weighs W (dt.If' n e m b s shape row shape' row' other) =
      weighs_after W _ _ _ up_token (weighs_both W _ _ _ _ (expr_weighs W e)
      (weighs_after W _ _ _ up_token (weighs_both W _ _ _ _
      (weighs_both W _ _ _ _ (stmt_weighs W s) (weighs_before W _ _ _ (stmts_row_weighs W row) (up_node m)))
      (weighs_both W _ _ _ _ (elsifs_weighs W row') (weighs_before W _ _ _ (else_weighs W other) (up_then _ _ up_token (up_node n)))))))
  stmt_weighs W (dt.While' n e m b s shape row) =
      weighs_after W _ _ _ up_token (weighs_both W _ _ _ _ (expr_weighs W e)
      (weighs_after W _ _ _ up_token (weighs_before W _ _ _
      (weighs_both W _ _ _ _ (stmt_weighs W s) (weighs_before W _ _ _ (stmts_row_weighs W row) (up_node m)))
      (up_then _ _ up_token (up_node n)))))
  stmt_weighs W (dt.Repeat' n m b s shape row e) =
      weighs_after W _ _ _ up_token (weighs_both W _ _ _ _
      (weighs_both W _ _ _ _ (stmt_weighs W s) (weighs_before W _ _ _ (stmts_row_weighs W row) (up_node m)))
      (weighs_after W _ _ _ up_token (weighs_before W _ _ _ (expr_weighs W e) (up_node n))))
  stmt_weighs W (dt.For' n l low high by m b s shape row) =
      weighs_after W _ _ _ up_token (weighs_both W _ _ _ _ (name_weighs W l)
      (weighs_after W _ _ _ up_token (weighs_both W _ _ _ _ (expr_weighs W low)
      (weighs_after W _ _ _ up_token (weighs_both W _ _ _ _ (expr_weighs W high)
      (weighs_both W _ _ _ _ (by_weighs W by) (weighs_after W _ _ _ up_token
      (weighs_before W _ _ _ (weighs_both W _ _ _ _ (stmt_weighs W s) (weighs_before W _ _ _ (stmts_row_weighs W row) (up_node m)))
      (up_then _ _ up_token (up_node n))))))))))
  stmt_weighs W (dt.Some' n l low high m b s shape row) =
      weighs_after W _ _ _ up_token (weighs_both W _ _ _ _ (name_weighs W l)
      (weighs_after W _ _ _ up_token (weighs_both W _ _ _ _ (expr_weighs W low)
      (weighs_after W _ _ _ up_token (weighs_both W _ _ _ _ (expr_weighs W high)
      (weighs_after W _ _ _ up_token (weighs_before W _ _ _
      (weighs_both W _ _ _ _ (stmt_weighs W s) (weighs_before W _ _ _ (stmts_row_weighs W row) (up_node m)))
      (up_then _ _ up_token (up_node n)))))))))
  stmt_weighs W (dt.Case' n e b a shape row other) =
      weighs_after W _ _ _ up_token (weighs_both W _ _ _ _ (expr_weighs W e)
      (weighs_after W _ _ _ up_token (weighs_both W _ _ _ _ (arm_weighs W a)
      (weighs_both W _ _ _ _ (arms_weighs W row) (weighs_before W _ _ _ (else_weighs W other) (up_then _ _ up_token (up_node n)))))))
  stmt_weighs W (dt.Either' n m b s shape row shape' row') =
      weighs_after W _ _ _ up_token (weighs_both W _ _ _ _
      (weighs_both W _ _ _ _ (stmt_weighs W s) (weighs_before W _ _ _ (stmts_row_weighs W row) (up_node m)))
      (weighs_before W _ _ _ (orelses_weighs W row') (up_then _ _ up_token (up_node n))))
  stmt_weighs W (dt.Forall' n m b s shape row m' b' s' shape' row') =
      weighs_after W _ _ _ up_token (weighs_both W _ _ _ _
      (weighs_both W _ _ _ _ (stmt_weighs W s) (weighs_before W _ _ _ (stmts_row_weighs W row) (up_node m)))
      (weighs_after W _ _ _ up_token (weighs_before W _ _ _
      (weighs_both W _ _ _ _ (stmt_weighs W s') (weighs_before W _ _ _ (stmts_row_weighs W row') (up_node m')))
      (up_then _ _ up_token (up_node n)))))
  stmt_weighs W (dt.Commit' n m b s shape row) =
      weighs_after W _ _ _ up_token (weighs_before W _ _ _
      (weighs_both W _ _ _ _ (stmt_weighs W s) (weighs_before W _ _ _ (stmts_row_weighs W row) (up_node m)))
      (up_then _ _ up_token (up_node n)))
  stmt_weighs W (dt.Return' n e) = weighs_after W _ _ _ up_token (weighs_before W _ _ _ (returned_weighs W e) (up_node n))
  stmt_weighs W (dt.Read' n m l shape row shape' row') =
      weighs_after W _ _ _ up_token (weighs_after W _ _ _ up_token
      (weighs_both W _ _ _ _ (weighs_after W _ _ _ (name_up l) (weighs_before W _ _ _ (selectors_weighs W row) (up_node m)))
      (weighs_before W _ _ _ (desigs_weighs W row') (up_then _ _ up_token (up_node n)))))
  stmt_weighs W (dt.Write n es) = weighs_after W _ _ _ up_token
      (weighs_after W _ _ _ up_token (weighs_before W _ _ _ (exprs_weighs W es) (up_then _ _ up_token (up_node n))))
  stmt_weighs W (dt.Writeln' n a) = weighs_after W _ _ _ up_token (weighs_before W _ _ _ (args_weighs W a) (up_node n))

  pub stmts_row_weighs : (W : ℕ → ℕ) {n : _} (x : da.Row_of-Stmt n)
      → Weighs W (number.number_stmts_row x) (weigh_stmt_tail W (numbered.view_stmts_row x))
  stmts_row_weighs W da.end_of-Stmt = weighs_up W _ up_stay
  stmts_row_weighs W (da.more_of-Stmt s rest) =
      weighs_after W _ _ _ up_token (weighs_both W _ _ _ _ (stmt_weighs W s) (stmts_row_weighs W rest))

  pub elsifs_weighs : (W : ℕ → ℕ) {n : _} (x : dt.Row_of-Elsif n)
      → Weighs W (number.number_elsifs x) (weigh_elsifs W (numbered.view_elsifs x))
  elsifs_weighs W dt.end_of-Elsif = weighs_up W _ up_stay
  elsifs_weighs W (dt.more_of-Elsif (df.Elsif' e m b s shape row) rest) =
      weighs_after W _ _ _ up_token (weighs_both W _ _ _ _ (expr_weighs W e)
      (weighs_after W _ _ _ up_token (weighs_both W _ _ _ _
      (weighs_both W _ _ _ _ (stmt_weighs W s) (weighs_before W _ _ _ (stmts_row_weighs W row) (up_node m))) (elsifs_weighs W rest))))

  pub else_weighs : (W : ℕ → ℕ) (x : dt.Held-Stmt-If-4) → Weighs W (number.number_else x) (weigh_else W (numbered.view_else x))
  else_weighs W dt.Stmt-If-4-None' = weighs_up W _ up_stay
  else_weighs W (dt.Stmt-If-4-Some' m b s shape row) =
      weighs_after W _ _ _ up_token (weighs_both W _ _ _ _ (stmt_weighs W s) (weighs_before W _ _ _ (stmts_row_weighs W row) (up_node m)))

  pub by_weighs : (W : ℕ → ℕ) (x : dl.Held-Stmt-For-4) → Weighs W (number.number_by x) (weigh_by W (numbered.view_by x))
  by_weighs W dl.Stmt-For-4-None' = weighs_up W _ up_stay
  by_weighs W (dl.Stmt-For-4-Some' e) = weighs_after W _ _ _ up_token (expr_weighs W e)

  pub orelses_weighs : (W : ℕ → ℕ) {n : _} (x : dt.Row_of-Stmts n)
      → Weighs W (number.number_orelses x) (weigh_orelses W (numbered.view_orelses x))
  orelses_weighs W dt.end_of-Stmts = weighs_up W _ up_stay
  orelses_weighs W (dt.more_of-Stmts m b s shape row rest) =
      weighs_after W _ _ _ up_token (weighs_both W _ _ _ _
      (weighs_both W _ _ _ _ (stmt_weighs W s) (weighs_before W _ _ _ (stmts_row_weighs W row) (up_node m))) (orelses_weighs W rest))

  pub returned_weighs : (W : ℕ → ℕ) (x : dl.Held-Stmt-For-4)
      → Weighs W (number.number_returned x) (weigh_returned W (numbered.view_returned x))
  returned_weighs W dl.Stmt-For-4-None' = weighs_up W _ up_stay
  returned_weighs W (dl.Stmt-For-4-Some' e) = expr_weighs W e

  pub desigs_weighs : (W : ℕ → ℕ) {n : _} (x : dt.Row_of-Desig n)
      → Weighs W (number.number_desigs x) (weigh_desigs W (numbered.view_desigs x))
  desigs_weighs W dt.end_of-Desig = weighs_up W _ up_stay
  desigs_weighs W (dt.more_of-Desig m l shape row rest) =
      weighs_after W _ _ _ up_token (weighs_both W _ _ _ _
      (weighs_after W _ _ _ (name_up l) (weighs_before W _ _ _ (selectors_weighs W row) (up_node m))) (desigs_weighs W rest))

  pub arm_weighs : (W : ℕ → ℕ) (x : da.Arm) → Weighs W (number.number_arm x) (weigh_arm W (numbered.view_arm x))
  arm_weighs W (da.Empty n) = weighs_up W _ (up_node n)
  arm_weighs W (da.Labelled' n l shape row m b s shape' row') =
      weighs_both W _ _ _ _ (label_weighs W l)
      (weighs_both W _ _ _ _ (labels_weighs W row)
      (weighs_after W _ _ _ up_token (weighs_before W _ _ _
      (weighs_both W _ _ _ _ (stmt_weighs W s) (weighs_before W _ _ _ (stmts_row_weighs W row') (up_node m))) (up_node n))))

  pub arms_weighs : (W : ℕ → ℕ) {n : _} (x : dt.Row_of-Arm n) → Weighs W (number.number_arms x) (weigh_arms W (numbered.view_arm_row x))
  arms_weighs W dt.end_of-Arm = weighs_up W _ up_stay
  arms_weighs W (dt.more_of-Arm a rest) = weighs_after W _ _ _ up_token (weighs_both W _ _ _ _ (arm_weighs W a) (arms_weighs W rest))

  pub label_weighs : (W : ℕ → ℕ) (x : dl.Label) → Weighs W (number.number_label x) (weigh_label W (numbered.view_label x))
  label_weighs W (dl.Label' n e h) = weighs_both W _ _ _ _ (expr_weighs W e) (weighs_before W _ _ _ (high_weighs W h) (up_node n))

  pub high_weighs : (W : ℕ → ℕ) (x : dl.Held-Stmt-For-4) → Weighs W (number.number_high x) (weigh_high W (numbered.view_high x))
  high_weighs W dl.Stmt-For-4-None' = weighs_up W _ up_stay
  high_weighs W (dl.Stmt-For-4-Some' e) = weighs_after W _ _ _ up_token (expr_weighs W e)

  pub labels_weighs : (W : ℕ → ℕ) {n : _} (x : da.Row_of-Label n)
      → Weighs W (number.number_labels x) (weigh_labels W (numbered.view_labels x))
  labels_weighs W da.end_of-Label = weighs_up W _ up_stay
  labels_weighs W (da.more_of-Label l rest) =
      weighs_after W _ _ _ up_token (weighs_both W _ _ _ _ (label_weighs W l) (labels_weighs W rest))

  pub expr_weighs : (W : ℕ → ℕ) (x : de.Expr) → Weighs W (number.number_expr x) (weigh_expr W (numbered.view_expr x))
  expr_weighs W (de.Expr' n s right) = weighs_both W _ _ _ _ (simple_weighs W s)
      (weighs_before W _ _ _ (compared_weighs W right) (up_node n))

  pub compared_weighs : (W : ℕ → ℕ) (x : de.Held-Expr-right)
      → Weighs W (number.number_compared x) (weigh_compared W (numbered.view_compared x))
  compared_weighs W de.Expr-right-None' = weighs_up W _ up_stay
  compared_weighs W (de.Expr-right-Some' b (dc.Compared' r s)) = weighs_after W _ _ _ up_token (simple_weighs W s)

  pub simple_weighs : (W : ℕ → ℕ) (x : di.Simple) → Weighs W (number.number_simple x) (weigh_simple W (numbered.view_simple x))
  simple_weighs W (di.Simple' n sign b t shape row) =
      weighs_after W _ _ _ (sign_up sign) (weighs_both W _ _ _ _ (term_weighs W t) (weighs_before W _ _ _ (terms_weighs W row) (up_node n)))

  pub terms_weighs : (W : ℕ → ℕ) {n : _} (x : di.Row_of-AddLink n)
      → Weighs W (number.number_terms x) (weigh_terms W (numbered.view_terms x))
  terms_weighs W di.end_of-AddLink = weighs_up W _ up_stay
  terms_weighs W (di.more_of-AddLink (dk.AddLink' o t) rest) =
      weighs_after W _ _ _ up_token (weighs_both W _ _ _ _ (term_weighs W t) (terms_weighs W rest))

  pub term_weighs : (W : ℕ → ℕ) (x : dm.Term) → Weighs W (number.number_term x) (weigh_term W (numbered.view_term x))
  term_weighs W (dm.Term' n f shape row) =
      weighs_both W _ _ _ _ (factor_weighs W f) (weighs_before W _ _ _ (factors_weighs W row) (up_node n))

  pub factors_weighs : (W : ℕ → ℕ) {n : _} (x : dm.Row_of-MulLink n)
      → Weighs W (number.number_factors x) (weigh_factors W (numbered.view_factors x))
  factors_weighs W dm.end_of-MulLink = weighs_up W _ up_stay
  factors_weighs W (dm.more_of-MulLink o f rest) =
      weighs_after W _ _ _ up_token (weighs_both W _ _ _ _ (factor_weighs W f) (factors_weighs W rest))

  pub factor_weighs : (W : ℕ → ℕ) (x : dr.Factor) → Weighs W (number.number_factor x) (weigh_factor W (numbered.view_factor x))
  factor_weighs W (dr.Not n p) = weighs_after W _ _ _ up_token (weighs_before W _ _ _ (primary_weighs W p) (up_node n))
  factor_weighs W (dr.Plain n p) = weighs_before W _ _ _ (primary_weighs W p) (up_node n)

  pub primary_weighs : (W : ℕ → ℕ) (x : dp.Primary) → Weighs W (number.number_primary x) (weigh_primary W (numbered.view_primary x))
  primary_weighs W (dp.Number n l) = weighs_up W _ (up_then _ _ (up_leaf l.token) (up_node n))
  primary_weighs W (dp.Literal n l) = weighs_before W _ _ _ (leaf_weighs W l.token) (up_node n)
  primary_weighs W (dp.Desig' n m l shape row a) =
      weighs_both W _ _ _ _ (weighs_after W _ _ _ (name_up l) (weighs_before W _ _ _ (selectors_weighs W row) (up_node m)))
      (weighs_before W _ _ _ (args_weighs W a) (up_node n))
  primary_weighs W (dp.Paren' n b m b' s shape row) =
      weighs_after W _ _ _ up_token (weighs_before W _ _ _
      (weighs_both W _ _ _ _ (stmt_weighs W s) (weighs_before W _ _ _ (stmts_row_weighs W row) (up_node m)))
      (up_then _ _ up_token (up_node n)))
  primary_weighs W (dp.Known' n m l shape row) =
      weighs_after W _ _ _ up_token (weighs_after W _ _ _ up_token
      (weighs_before W _ _ _ (weighs_after W _ _ _ (name_up l) (weighs_before W _ _ _ (selectors_weighs W row) (up_node m)))
      (up_then _ _ up_token (up_node n))))
  primary_weighs W (dp.Ord' n b e) = weighs_after W _ _ _ up_token
      (weighs_after W _ _ _ up_token (weighs_before W _ _ _ (expr_weighs W e) (up_then _ _ up_token (up_node n))))
  primary_weighs W (dp.Chr' n b e) = weighs_after W _ _ _ up_token
      (weighs_after W _ _ _ up_token (weighs_before W _ _ _ (expr_weighs W e) (up_then _ _ up_token (up_node n))))

  pub args_weighs : (W : ℕ → ℕ) (x : dp.Held-Primary-Desig-2) → Weighs W (number.number_args x) (weigh_args W (numbered.view_args x))
  args_weighs W dp.Primary-Desig-2-None' = weighs_up W _ up_stay
  args_weighs W (dp.Primary-Desig-2-Some' (dg.Args' dg.Args-values-None')) = weighs_up W _ (up_then _ _ up_token up_token)
  args_weighs W (dp.Primary-Desig-2-Some' (dg.Args' (dg.Args-values-Some' es))) =
      weighs_after W _ _ _ up_token (weighs_before W _ _ _ (exprs_weighs W es) up_token)

  pub exprs_weighs : (W : ℕ → ℕ) (x : dx.Exprs) → Weighs W (number.number_exprs x) (weigh_exprs W (numbered.view_exprs x))
  exprs_weighs W (dx.Exprs' b e shape row) = weighs_both W _ _ _ _ (expr_weighs W e) (exprs_row_weighs W row)

  pub exprs_row_weighs : (W : ℕ → ℕ) {n : _} (x : dx.Row_of-Expr n)
      → Weighs W (number.number_exprs_row x) (weigh_expr_tail W (numbered.view_exprs_row x))
  exprs_row_weighs W dx.end_of-Expr = weighs_up W _ up_stay
  exprs_row_weighs W (dx.more_of-Expr e rest) =
      weighs_after W _ _ _ up_token (weighs_both W _ _ _ _ (expr_weighs W e) (exprs_row_weighs W rest))

  pub selectors_weighs : (W : ℕ → ℕ) {n : _} (x : dd.Row_of-Selector n)
      → Weighs W (number.number_selectors x) (weigh_selectors W (numbered.view_selectors x))
  selectors_weighs W dd.end_of-Selector = weighs_up W _ up_stay
  selectors_weighs W (dd.more_of-Selector s rest) = weighs_both W _ _ _ _ (selector_weighs W s) (selectors_weighs W rest)

  pub selector_weighs : (W : ℕ → ℕ) (x : dj.Selector) → Weighs W (number.number_selector x) (weigh_selector W (numbered.view_selector x))
  selector_weighs W (dj.Field n l) = weighs_up W _ (up_then _ _ up_token (up_then _ _ (name_up l) (up_node n)))
  selector_weighs W (dj.Index n es) = weighs_after W _ _ _ up_token
      (weighs_before W _ _ _ (exprs_weighs W es) (up_then _ _ up_token (up_node n)))

pub list_stmts_weighs : (W : ℕ → ℕ) (x : List dt.Stmt) → Weighs W (number.numbers_of_stmts x) (weigh_stmt_tail W (numbered.stmts_of x))
unfolding weigh_stmts
list_stmts_weighs W [] = weighs_up W _ up_stay
list_stmts_weighs W (s ∷ rest) = weighs_after W _ _ _ up_token (weighs_both W _ _ _ _ (stmt_weighs W s) (list_stmts_weighs W rest))
