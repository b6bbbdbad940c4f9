-- What a tree is, said of the vectors, options and boxes in it.
use Rattle.std.proofs.Common.{◌≡◌, ℕ, Option, None, Some, Box, Vec, Global, refl, ap, sym, ◌∙◌}
use Rattle.alma_tree.specs.declared.phrase.Stmts as ds
use Rattle.alma_tree.specs.declared.phrase.Stmt as dt
use Rattle.alma_tree.specs.declared.leaf.Name.{Name}
use Rattle.alma_tree.specs.declared.phrase.Elsif as df
use Rattle.alma_tree.specs.declared.phrase.Arm as da
use Rattle.alma_tree.specs.declared.phrase.Label as dl
use Rattle.alma_tree.specs.declared.phrase.Expr as de
use Rattle.alma_tree.specs.declared.phrase.Compared as dc
use Rattle.alma_tree.specs.declared.phrase.Simple as di
use Rattle.alma_tree.specs.declared.phrase.AddLink as dk
use Rattle.alma_tree.specs.declared.phrase.Term as dm
use Rattle.alma_tree.specs.declared.phrase.MulLink as dn
use Rattle.alma_tree.specs.declared.phrase.Primary as dp
use Rattle.alma_tree.specs.declared.phrase.Args as dg
use Rattle.alma_tree.specs.declared.phrase.Exprs as dx
use Rattle.alma_tree.specs.declared.phrase.Desig as dd
use Rattle.alma_tree.specs.declared.phrase.Selector as dj
use Rattle.alma_rules.specs.Numbered as tree
use Rattle.alma_rules.specs.View as view

-- ---- vectors as a tree holds them

stmts_row : (n : _) (row : da.Row_of-Stmt n) → view.view_stmts_row row ≡ view.stmts_of (da.items-the_row-Stmt n row)
stmts_row n da.end_of-Stmt = refl
stmts_row n (da.more_of-Stmt x rest) = ap (tree.more_stmt (view.view_stmt x)) (stmts_row _ rest)

pub stmts_kept : (v : Vec dt.Stmt Global) → view.view_stmts_row (da.TheBlock.hidden-the_row-Stmt-1 v) ≡ view.stmts_of v.items
stmts_kept v = stmts_row _ (da.TheBlock.hidden-the_row-Stmt-1 v) ∙ ap view.stmts_of (da.items_hidden-the_row-Stmt-1 v)

pub stmts_laid : (s : ds.Stmts) → tree.stmts s.node (view.view_stmt s.first.value)
    (view.view_stmts_row (da.TheBlock.hidden-the_row-Stmt-1 s.more)) ≡ view.view_stmts s
stmts_laid s = ap (tree.stmts s.node (view.view_stmt s.first.value)) (stmts_kept s.more)

stmts_shown : (shape : _) (row : _) → view.view_stmts_row row ≡ view.stmts_of (da.TheBlock.shown-the_row-Stmt-1 shape row).items
stmts_shown shape row = stmts_row _ row ∙ ap view.stmts_of (sym (da.items_shown-the_row-Stmt-1 shape row))

selectors_row : (n : _) (row : dd.Row_of-Selector n) → view.view_selectors row ≡ view.selectors_of (dd.items-the_row-Selector n row)
selectors_row n dd.end_of-Selector = refl
selectors_row n (dd.more_of-Selector x rest) = ap (tree.more_selector (view.view_selector x)) (selectors_row _ rest)

pub selectors_kept : (v : Vec dj.Selector Global)
    → view.view_selectors (da.TheBlock.hidden-the_row-Selector-2 v) ≡ view.selectors_of v.items
selectors_kept v = selectors_row _ (da.TheBlock.hidden-the_row-Selector-2 v) ∙ ap view.selectors_of (dd.items_hidden-the_row-Selector-2 v)

selectors_shown : (shape : _) (row : _) → view.view_selectors row ≡ view.selectors_of (da.TheBlock.shown-the_row-Selector-2 shape row).items
selectors_shown shape row = selectors_row _ row ∙ ap view.selectors_of (sym (dd.items_shown-the_row-Selector-2 shape row))

exprs_row : (n : _) (row : dx.Row_of-Expr n) → view.view_exprs_row row ≡ view.exprs_of (dx.items-the_row-Expr n row)
exprs_row n dx.end_of-Expr = refl
exprs_row n (dx.more_of-Expr x rest) = ap (tree.more_expr (view.view_expr x)) (exprs_row _ rest)

pub exprs_kept : (v : Vec de.Expr Global) → view.view_exprs_row (da.TheBlock.hidden-the_row-Expr-7 v) ≡ view.exprs_of v.items
exprs_kept v = exprs_row _ (da.TheBlock.hidden-the_row-Expr-7 v) ∙ ap view.exprs_of (dx.items_hidden-the_row-Expr-7 v)

terms_row : (n : _) (row : di.Row_of-AddLink n) → view.view_terms row ≡ view.terms_of (di.items-the_row-AddLink n row)
terms_row n di.end_of-AddLink = refl
terms_row n (di.more_of-AddLink (dk.AddLink' x t) rest) =
    rw (dk.outs-AddLink' x t) (ap (tree.more_term x (view.view_term t)) (terms_row _ rest))

pub terms_kept : (v : Vec dk.AddLink Global) → view.view_terms (da.TheBlock.hidden-the_row-AddLink-8 v) ≡ view.terms_of v.items
terms_kept v = terms_row _ (da.TheBlock.hidden-the_row-AddLink-8 v) ∙ ap view.terms_of (di.items_hidden-the_row-AddLink-8 v)

factors_row : (n : _) (row : dm.Row_of-MulLink n) → view.view_factors row ≡ view.factors_of (dm.items-the_row-MulLink n row)
factors_row n dm.end_of-MulLink = refl
factors_row n (dm.more_of-MulLink x f rest) = ap (tree.more_factor x (view.view_factor f)) (factors_row _ rest)

pub factors_kept : (v : Vec dn.MulLink Global) → view.view_factors (da.TheBlock.hidden-the_row-MulLink-9 v) ≡ view.factors_of v.items
factors_kept v = factors_row _ (da.TheBlock.hidden-the_row-MulLink-9 v) ∙ ap view.factors_of (dm.items_hidden-the_row-MulLink-9 v)

arms_row : (n : _) (row : dt.Row_of-Arm n) → view.view_arm_row row ≡ view.arms_of (dt.items-the_row-Arm n row)
arms_row n dt.end_of-Arm = refl
arms_row n (dt.more_of-Arm x rest) = ap (tree.more_arm (view.view_arm x)) (arms_row _ rest)

pub arms_kept : (v : Vec da.Arm Global) → view.view_arm_row (da.TheBlock.hidden-the_row-Arm-4 v) ≡ view.arms_of v.items
arms_kept v = arms_row _ (da.TheBlock.hidden-the_row-Arm-4 v) ∙ ap view.arms_of (dt.items_hidden-the_row-Arm-4 v)

labels_row : (n : _) (row : da.Row_of-Label n) → view.view_labels row ≡ view.labels_of (da.items-the_row-Label n row)
labels_row n da.end_of-Label = refl
labels_row n (da.more_of-Label x rest) = ap (tree.more_label (view.view_label x)) (labels_row _ rest)

pub labels_kept : (v : Vec dl.Label Global) → view.view_labels (da.TheBlock.hidden-the_row-Label-0 v) ≡ view.labels_of v.items
labels_kept v = labels_row _ (da.TheBlock.hidden-the_row-Label-0 v) ∙ ap view.labels_of (da.items_hidden-the_row-Label-0 v)

orelses_row : (n : _) (row : dt.Row_of-Stmts n) → view.view_orelses row ≡ view.orelses_of (dt.items-the_row-Stmts n row)
orelses_row n dt.end_of-Stmts = refl
orelses_row n (dt.more_of-Stmts m b s shape row rest) =
    ap (λ x. tree.more_orelse (tree.stmts m (view.view_stmt s) x) (view.view_orelses rest)) (stmts_shown shape row)
    ∙ ap (tree.more_orelse (tree.stmts m (view.view_stmt s) (view.stmts_of (da.TheBlock.shown-the_row-Stmt-1 shape row).items)))
    (orelses_row _ rest)

pub orelses_kept : (v : Vec ds.Stmts Global) → view.view_orelses (da.TheBlock.hidden-the_row-Stmts-5 v) ≡ view.orelses_of v.items
orelses_kept v = orelses_row _ (da.TheBlock.hidden-the_row-Stmts-5 v) ∙ ap view.orelses_of (dt.items_hidden-the_row-Stmts-5 v)

desigs_row : (n : _) (row : dt.Row_of-Desig n) → view.view_desigs row ≡ view.desigs_of (dt.items-the_row-Desig n row)
desigs_row n dt.end_of-Desig = refl
desigs_row n (dt.more_of-Desig m l shape row rest) =
    ap (λ x. tree.more_desig (tree.desig m (view.view_name l) x) (view.view_desigs rest)) (selectors_shown shape row)
    ∙ ap (tree.more_desig (tree.desig m (view.view_name l) (view.selectors_of (da.TheBlock.shown-the_row-Selector-2 shape row).items)))
    (desigs_row _ rest)

pub desigs_kept : (v : Vec dd.Desig Global) → view.view_desigs (da.TheBlock.hidden-the_row-Desig-6 v) ≡ view.desigs_of v.items
desigs_kept v = desigs_row _ (da.TheBlock.hidden-the_row-Desig-6 v) ∙ ap view.desigs_of (dt.items_hidden-the_row-Desig-6 v)

elsifs_row : (n : _) (row : dt.Row_of-Elsif n) → view.view_elsifs row ≡ view.elsifs_of (dt.items-the_row-Elsif n row)
elsifs_row n dt.end_of-Elsif = refl
elsifs_row n (dt.more_of-Elsif (df.Elsif' e m b s shape row) rest) =
    rw (df.outs-Elsif' e m b s shape row) (
    ap (λ x. tree.more_elsif (view.view_expr e) (tree.stmts m (view.view_stmt s) x) (view.view_elsifs rest)) (stmts_shown shape row)
    ∙ ap (tree.more_elsif (view.view_expr e)
    (tree.stmts m (view.view_stmt s) (view.stmts_of (da.TheBlock.shown-the_row-Stmt-1 shape row).items)))
    (elsifs_row _ rest))

pub elsifs_kept : (v : Vec df.Elsif Global) → view.view_elsifs (da.TheBlock.hidden-the_row-Elsif-3 v) ≡ view.elsifs_of v.items
elsifs_kept v = elsifs_row _ (da.TheBlock.hidden-the_row-Elsif-3 v) ∙ ap view.elsifs_of (dt.items_hidden-the_row-Elsif-3 v)

-- ---- options as a tree holds them

pub else_kept : (x : Option ds.Stmts) → view.view_else (dt.back-Stmt-If-4 x) ≡ view.else_of x
else_kept None = refl
else_kept (Some s) = ap tree.else_stmts (stmts_laid s)

pub by_kept : (x : Option de.Expr) → view.view_by (dl.back-Stmt-For-4 x) ≡ view.by_of x
by_kept None = refl
by_kept (Some e) = refl

pub returned_kept : (x : Option de.Expr) → view.view_returned (dl.back-Stmt-For-4 x) ≡ view.returned_of x
returned_kept None = refl
returned_kept (Some e) = refl

pub high_kept : (x : Option de.Expr) → view.view_high (dl.back-Stmt-For-4 x) ≡ view.high_of x
high_kept None = refl
high_kept (Some e) = refl

compared_held : (b : _) (c : dc.Compared)
    → view.view_compared (de.Expr-right-Some' b c) ≡ tree.compared (dc.out-Compared c).relation (view.view_simple (dc.out-Compared c).right)
compared_held b (dc.Compared' r s) = rw (dc.outs-Compared' r s) refl

pub compared_kept : (x : Option (Box dc.Compared Global)) → view.view_compared (de.back-Expr-right x) ≡ view.compared_of x
compared_kept None = refl
compared_kept (Some c) = compared_held (record { ptr = c.ptr; alloc = c.alloc; value = tt }) c.value

pub args_kept : (x : Option dg.Args) → view.view_args (dp.back-Primary-Desig-2 x) ≡ view.args_of x
args_kept None = refl
args_kept (Some (dg.Args' dg.Args-values-None')) = rw (dg.outs-Args' dg.Args-values-None') refl
args_kept (Some (dg.Args' (dg.Args-values-Some' es))) = rw (dg.outs-Args' (dg.Args-values-Some' es)) refl

-- ---- structs

simple_rolled : (r : _) → view.view_simple (di.roll-Simple r) ≡ tree.simple r.node r.sign (view.view_term r.first.value)
    (view.terms_of r.more.items)
simple_rolled r = ap view.view_simple (di.rolls-Simple' r)
    ∙ ap (tree.simple r.node r.sign (view.view_term r.first.value)) (terms_kept r.more)

pub simple_is : (t : di.Simple)
    → view.view_simple t ≡ tree.simple (di.out-Simple t).node (di.out-Simple t).sign (view.view_term (di.out-Simple t).first.value)
    (view.terms_of (di.out-Simple t).more.items)
simple_is t = ap view.view_simple (sym (di.roll-out-Simple t)) ∙ simple_rolled (di.out-Simple t)

term_rolled : (r : _) → view.view_term (dm.roll-Term r) ≡ tree.term r.node (view.view_factor r.first) (view.factors_of r.more.items)
term_rolled r = ap view.view_term (dm.rolls-Term' r) ∙ ap (tree.term r.node (view.view_factor r.first)) (factors_kept r.more)

pub term_is : (t : dm.Term) → view.view_term t ≡ tree.term (dm.out-Term t).node (view.view_factor (dm.out-Term t).first)
    (view.factors_of (dm.out-Term t).more.items)
term_is t = ap view.view_term (sym (dm.roll-out-Term t)) ∙ term_rolled (dm.out-Term t)

expr_rolled : (r : _) → view.view_expr (de.roll-Expr r) ≡ tree.expr r.node (view.view_simple r.left) (view.compared_of r.right)
expr_rolled r = ap view.view_expr (de.rolls-Expr' r) ∙ ap (tree.expr r.node (view.view_simple r.left)) (compared_kept r.right)

pub expr_is : (t : de.Expr) → view.view_expr t ≡ tree.expr (de.out-Expr t).node (view.view_simple (de.out-Expr t).left)
    (view.compared_of (de.out-Expr t).right)
expr_is t = ap view.view_expr (sym (de.roll-out-Expr t)) ∙ expr_rolled (de.out-Expr t)

exprs_rolled : (r : _) → view.view_exprs (dx.roll-Exprs r) ≡ tree.exprs (view.view_expr r.first.value) (view.exprs_of r.more.items)
exprs_rolled r = ap view.view_exprs (dx.rolls-Exprs' r) ∙ ap (tree.exprs (view.view_expr r.first.value)) (exprs_kept r.more)

pub exprs_is : (t : dx.Exprs) → view.view_exprs t ≡ tree.exprs (view.view_expr (dx.out-Exprs t).first.value)
    (view.exprs_of (dx.out-Exprs t).more.items)
exprs_is t = ap view.view_exprs (sym (dx.roll-out-Exprs t)) ∙ exprs_rolled (dx.out-Exprs t)

-- ---- primaries and selectors

pub named_is : (n : ℕ) (d : dd.Desig) (a : Option dg.Args)
    → view.view_primary (dp.Desig n d a) ≡ tree.named n (view.view_desig d) (view.args_of a)
named_is n d a =
    ap (λ r. tree.named n (tree.desig d.node (view.view_name d.name) r) (view.view_args (dp.back-Primary-Desig-2 a)))
    (selectors_kept d.more)
    ∙ ap (tree.named n (view.view_desig d)) (args_kept a)

pub paren_is : (n : ℕ) (b : Box ds.Stmts Global) → view.view_primary (dp.Paren n b) ≡ tree.paren n (view.view_stmts b.value)
paren_is n b = ap (tree.paren n) (stmts_laid b.value)

pub known_is : (n : ℕ) (d : dd.Desig) → view.view_primary (dp.Known n d) ≡ tree.known n (view.view_desig d)
known_is n d = ap (λ r. tree.known n (tree.desig d.node (view.view_name d.name) r)) (selectors_kept d.more)

pub ord_is : (n : ℕ) (b : Box de.Expr Global) → view.view_primary (dp.Ord n b) ≡ tree.ord n (view.view_expr b.value)
ord_is n b = refl

pub chr_is : (n : ℕ) (b : Box de.Expr Global) → view.view_primary (dp.Chr n b) ≡ tree.chr n (view.view_expr b.value)
chr_is n b = refl

-- ---- labels, arms and statements

label_rolled : (r : _) → view.view_label (dl.roll-Label r) ≡ tree.label r.node (view.view_expr r.low) (view.high_of r.high)
label_rolled r = ap view.view_label (dl.rolls-Label' r) ∙ ap (tree.label r.node (view.view_expr r.low)) (high_kept r.high)

pub label_is : (t : dl.Label) → view.view_label t ≡ tree.label (dl.out-Label t).node (view.view_expr (dl.out-Label t).low)
    (view.high_of (dl.out-Label t).high)
label_is t = ap view.view_label (sym (dl.roll-out-Label t)) ∙ label_rolled (dl.out-Label t)

pub labelled_is : (n : ℕ) (l : dl.Label) (more : Vec dl.Label Global) (s : ds.Stmts)
    → view.view_arm (da.Labelled n l more s) ≡ tree.arm n (view.view_label l) (view.labels_of more.items) (view.view_stmts s)
labelled_is n l more s =
    ap (λ x. tree.arm n (view.view_label l) x
    (tree.stmts s.node (view.view_stmt s.first.value) (view.view_stmts_row (da.TheBlock.hidden-the_row-Stmt-1 s.more))))
    (labels_kept more)
    ∙ ap (tree.arm n (view.view_label l) (view.labels_of more.items)) (stmts_laid s)

pub assign_is : (n : ℕ) (d : dd.Desig) (e : de.Expr)
    → view.view_stmt (dt.Assign n d e) ≡ tree.assign n (view.view_desig d) (view.view_expr e)
assign_is n d e = ap (λ r. tree.assign n (tree.desig d.node (view.view_name d.name) r) (view.view_expr e)) (selectors_kept d.more)

pub if_is : (n : ℕ) (e : de.Expr) (s : ds.Stmts) (more : Vec df.Elsif Global) (other : Option ds.Stmts)
    → view.view_stmt (dt.If n e s more other) ≡ tree.if_stmt n (view.view_expr e) (view.view_stmts s) (view.elsifs_of more.items)
    (view.else_of other)
if_is n e s more other =
    ap (λ x. tree.if_stmt n (view.view_expr e) x (view.view_elsifs (da.TheBlock.hidden-the_row-Elsif-3 more))
    (view.view_else (dt.back-Stmt-If-4 other))) (stmts_laid s)
    ∙ ap (λ x. tree.if_stmt n (view.view_expr e) (view.view_stmts s) x (view.view_else (dt.back-Stmt-If-4 other))) (elsifs_kept more)
    ∙ ap (tree.if_stmt n (view.view_expr e) (view.view_stmts s) (view.elsifs_of more.items)) (else_kept other)

pub while_is : (n : ℕ) (e : de.Expr) (s : ds.Stmts)
    → view.view_stmt (dt.While n e s) ≡ tree.while_stmt n (view.view_expr e) (view.view_stmts s)
while_is n e s = ap (tree.while_stmt n (view.view_expr e)) (stmts_laid s)

pub repeat_is : (n : ℕ) (s : ds.Stmts) (e : de.Expr)
    → view.view_stmt (dt.Repeat n s e) ≡ tree.repeat_stmt n (view.view_stmts s) (view.view_expr e)
repeat_is n s e = ap (λ x. tree.repeat_stmt n x (view.view_expr e)) (stmts_laid s)

pub for_is : (n : ℕ) (l : Name) (low high : de.Expr) (by : Option de.Expr) (s : ds.Stmts)
    → view.view_stmt (dt.For n l low high by s) ≡ tree.for_stmt n (view.view_name l) (view.view_expr low) (view.view_expr high)
    (view.by_of by) (view.view_stmts s)
for_is n l low high by s =
    ap (tree.for_stmt n (view.view_name l) (view.view_expr low) (view.view_expr high) (view.view_by (dl.back-Stmt-For-4 by))) (stmts_laid s)
    ∙ ap (λ x. tree.for_stmt n (view.view_name l) (view.view_expr low) (view.view_expr high) x (view.view_stmts s)) (by_kept by)

pub some_is : (n : ℕ) (l : Name) (low high : de.Expr) (s : ds.Stmts)
    → view.view_stmt (dt.Some n l low high s) ≡ tree.some_stmt n (view.view_name l) (view.view_expr low) (view.view_expr high)
    (view.view_stmts s)
some_is n l low high s = ap (tree.some_stmt n (view.view_name l) (view.view_expr low) (view.view_expr high)) (stmts_laid s)

pub case_is : (n : ℕ) (e : de.Expr) (a : Box da.Arm Global) (more : Vec da.Arm Global) (other : Option ds.Stmts)
    → view.view_stmt (dt.Case n e a more other) ≡ tree.case_stmt n (view.view_expr e) (view.view_arm a.value) (view.arms_of more.items)
    (view.else_of other)
case_is n e a more other =
    ap (λ x. tree.case_stmt n (view.view_expr e) (view.view_arm a.value) x (view.view_else (dt.back-Stmt-If-4 other))) (arms_kept more)
    ∙ ap (tree.case_stmt n (view.view_expr e) (view.view_arm a.value) (view.arms_of more.items)) (else_kept other)

pub either_is : (n : ℕ) (s : ds.Stmts) (more : Vec ds.Stmts Global)
    → view.view_stmt (dt.Either n s more) ≡ tree.either_stmt n (view.view_stmts s) (view.orelses_of more.items)
either_is n s more =
    ap (λ x. tree.either_stmt n x (view.view_orelses (da.TheBlock.hidden-the_row-Stmts-5 more))) (stmts_laid s)
    ∙ ap (tree.either_stmt n (view.view_stmts s)) (orelses_kept more)

pub forall_is : (n : ℕ) (s t : ds.Stmts) → view.view_stmt (dt.Forall n s t) ≡ tree.forall_stmt n (view.view_stmts s) (view.view_stmts t)
forall_is n s t =
    ap (λ x. tree.forall_stmt n x (tree.stmts t.node (view.view_stmt t.first.value)
    (view.view_stmts_row (da.TheBlock.hidden-the_row-Stmt-1 t.more)))) (stmts_laid s)
    ∙ ap (tree.forall_stmt n (view.view_stmts s)) (stmts_laid t)

pub commit_is : (n : ℕ) (s : ds.Stmts) → view.view_stmt (dt.Commit n s) ≡ tree.commit_stmt n (view.view_stmts s)
commit_is n s = ap (tree.commit_stmt n) (stmts_laid s)

pub return_is : (n : ℕ) (e : Option de.Expr) → view.view_stmt (dt.Return n e) ≡ tree.return_stmt n (view.returned_of e)
return_is n e = ap (tree.return_stmt n) (returned_kept e)

pub read_is : (n : ℕ) (d : dd.Desig) (more : Vec dd.Desig Global)
    → view.view_stmt (dt.Read n d more) ≡ tree.read_stmt n (view.view_desig d) (view.desigs_of more.items)
read_is n d more =
    ap (λ r. tree.read_stmt n (tree.desig d.node (view.view_name d.name) r) (view.view_desigs (da.TheBlock.hidden-the_row-Desig-6 more)))
    (selectors_kept d.more)
    ∙ ap (tree.read_stmt n (view.view_desig d)) (desigs_kept more)

pub writeln_is : (n : ℕ) (a : Option dg.Args) → view.view_stmt (dt.Writeln n a) ≡ tree.writeln_stmt n (view.args_of a)
writeln_is n a = ap (tree.writeln_stmt n) (args_kept a)
