-- The numbers in a tree, said of the vectors, options and boxes in it.
use Rattle.std.proofs.Common.{◌≡◌, Option, None, Some, Box, Vec, Global, refl, ap, sym, ◌∙◌}
use Rattle.alma_tree.specs.declared.leaf.Name.{Name}
use Rattle.alma_tree.specs.declared.phrase.Stmts as ds
use Rattle.alma_tree.specs.declared.phrase.Stmt as dt
use Rattle.alma_tree.specs.declared.phrase.Elsif as df
use Rattle.alma_tree.specs.declared.phrase.Arm as da
use Rattle.alma_tree.specs.declared.phrase.Label as dl
use Rattle.alma_tree.specs.declared.phrase.Expr as de
use Rattle.alma_tree.specs.declared.phrase.Compared as dc
use Rattle.alma_tree.specs.declared.phrase.Simple as di
use Rattle.alma_tree.specs.declared.phrase.AddLink as dk
use Rattle.alma_tree.specs.declared.phrase.Term as dm
use Rattle.alma_tree.specs.declared.phrase.MulLink as dn
use Rattle.alma_tree.specs.declared.phrase.Primary as dp
use Rattle.alma_tree.specs.declared.phrase.Args as dg
use Rattle.alma_tree.specs.declared.phrase.Exprs as dx
use Rattle.alma_tree.specs.declared.phrase.Desig as dd
use Rattle.alma_tree.specs.declared.phrase.Selector as dj
use Rattle.alma_tree.specs.declared.type_node.TypeNode as dy
use Rattle.alma_tree.specs.declared.type_node.Arrays as dz
use Rattle.alma_tree.specs.declared.type_node.Dimensions as dv
use Rattle.alma_tree.specs.declared.type_node.PlainType as dq
use Rattle.alma_tree.specs.declared.type_node.FieldList as dw
use Rattle.alma_tree.specs.declared.module.Block as db
use Rattle.alma_tree.specs.declared.module.Decl as dh
use Rattle.alma_tree.specs.declared.module.Params.{Params}
use Rattle.alma_tree.specs.Numbers.{token, node, ◌>>◌}
use Rattle.alma_tree.specs.Numbers as numbers

-- ---- vectors as a tree holds them

stmts_row : (n : _) (row : da.Row_of-Stmt n) → numbers.number_stmts_row row ≡ numbers.numbers_of_stmts (da.items-the_row-Stmt n row)
stmts_row n da.end_of-Stmt = refl
stmts_row n (da.more_of-Stmt x rest) = ap (λ g. token >> numbers.number_stmt x >> g) (stmts_row _ rest)

pub stmts_kept : (v : Vec dt.Stmt Global)
    → numbers.number_stmts_row (da.TheBlock.hidden-the_row-Stmt-1 v) ≡ numbers.numbers_of_stmts v.items
stmts_kept v =
    stmts_row _ (da.TheBlock.hidden-the_row-Stmt-1 v) ∙ ap numbers.numbers_of_stmts (da.items_hidden-the_row-Stmt-1 v)

pub stmts_laid : (s : ds.Stmts)
    → (numbers.number_stmt s.first.value >> numbers.number_stmts_row (da.TheBlock.hidden-the_row-Stmt-1 s.more) >> node s.node)
    ≡ numbers.number_stmts s
stmts_laid s = ap (λ g. numbers.number_stmt s.first.value >> g >> node s.node) (stmts_kept s.more)

stmts_shown : (shape : _) (row : _)
    → numbers.number_stmts_row row ≡ numbers.numbers_of_stmts (da.TheBlock.shown-the_row-Stmt-1 shape row).items
stmts_shown shape row = stmts_row _ row ∙ ap numbers.numbers_of_stmts (sym (da.items_shown-the_row-Stmt-1 shape row))

selectors_row : (n : _) (row : dd.Row_of-Selector n)
    → numbers.number_selectors row ≡ numbers.numbers_of_selectors (dd.items-the_row-Selector n row)
selectors_row n dd.end_of-Selector = refl
selectors_row n (dd.more_of-Selector x rest) = ap (λ g. numbers.number_selector x >> g) (selectors_row _ rest)

pub selectors_kept : (v : Vec dj.Selector Global)
    → numbers.number_selectors (da.TheBlock.hidden-the_row-Selector-2 v) ≡ numbers.numbers_of_selectors v.items
selectors_kept v =
    selectors_row _ (da.TheBlock.hidden-the_row-Selector-2 v) ∙ ap numbers.numbers_of_selectors (dd.items_hidden-the_row-Selector-2 v)

selectors_shown : (shape : _) (row : _)
    → numbers.number_selectors row ≡ numbers.numbers_of_selectors (da.TheBlock.shown-the_row-Selector-2 shape row).items
selectors_shown shape row = selectors_row _ row ∙ ap numbers.numbers_of_selectors (sym (dd.items_shown-the_row-Selector-2 shape row))

desig_laid : (d : dd.Desig)
    → (numbers.number_name d.name >> numbers.number_selectors (da.TheBlock.hidden-the_row-Selector-2 d.more) >> node d.node)
    ≡ numbers.number_desig d
desig_laid d = ap (λ g. numbers.number_name d.name >> g >> node d.node) (selectors_kept d.more)

exprs_row : (n : _) (row : dx.Row_of-Expr n) → numbers.number_exprs_row row ≡ numbers.numbers_of_exprs (dx.items-the_row-Expr n row)
exprs_row n dx.end_of-Expr = refl
exprs_row n (dx.more_of-Expr x rest) = ap (λ g. token >> numbers.number_expr x >> g) (exprs_row _ rest)

pub exprs_kept : (v : Vec de.Expr Global)
    → numbers.number_exprs_row (da.TheBlock.hidden-the_row-Expr-7 v) ≡ numbers.numbers_of_exprs v.items
exprs_kept v =
    exprs_row _ (da.TheBlock.hidden-the_row-Expr-7 v) ∙ ap numbers.numbers_of_exprs (dx.items_hidden-the_row-Expr-7 v)

arms_row : (n : _) (row : dt.Row_of-Arm n) → numbers.number_arms row ≡ numbers.numbers_of_arms (dt.items-the_row-Arm n row)
arms_row n dt.end_of-Arm = refl
arms_row n (dt.more_of-Arm x rest) = ap (λ g. token >> numbers.number_arm x >> g) (arms_row _ rest)

pub arms_kept : (v : Vec da.Arm Global)
    → numbers.number_arms (da.TheBlock.hidden-the_row-Arm-4 v) ≡ numbers.numbers_of_arms v.items
arms_kept v =
    arms_row _ (da.TheBlock.hidden-the_row-Arm-4 v) ∙ ap numbers.numbers_of_arms (dt.items_hidden-the_row-Arm-4 v)

labels_row : (n : _) (row : da.Row_of-Label n) → numbers.number_labels row ≡ numbers.numbers_of_labels (da.items-the_row-Label n row)
labels_row n da.end_of-Label = refl
labels_row n (da.more_of-Label x rest) = ap (λ g. token >> numbers.number_label x >> g) (labels_row _ rest)

pub labels_kept : (v : Vec dl.Label Global)
    → numbers.number_labels (da.TheBlock.hidden-the_row-Label-0 v) ≡ numbers.numbers_of_labels v.items
labels_kept v =
    labels_row _ (da.TheBlock.hidden-the_row-Label-0 v) ∙ ap numbers.numbers_of_labels (da.items_hidden-the_row-Label-0 v)

terms_row : (n : _) (row : di.Row_of-AddLink n) → numbers.number_terms row ≡ numbers.numbers_of_terms (di.items-the_row-AddLink n row)
terms_row n di.end_of-AddLink = refl
terms_row n (di.more_of-AddLink (dk.AddLink' x t) rest) =
    rw (dk.outs-AddLink' x t) (ap (λ g. token >> numbers.number_term t >> g) (terms_row _ rest))

pub terms_kept : (v : Vec dk.AddLink Global)
    → numbers.number_terms (da.TheBlock.hidden-the_row-AddLink-8 v) ≡ numbers.numbers_of_terms v.items
terms_kept v =
    terms_row _ (da.TheBlock.hidden-the_row-AddLink-8 v) ∙ ap numbers.numbers_of_terms (di.items_hidden-the_row-AddLink-8 v)

factors_row : (n : _) (row : dm.Row_of-MulLink n) → numbers.number_factors row ≡ numbers.numbers_of_factors (dm.items-the_row-MulLink n row)
factors_row n dm.end_of-MulLink = refl
factors_row n (dm.more_of-MulLink x f rest) = ap (λ g. token >> numbers.number_factor f >> g) (factors_row _ rest)

pub factors_kept : (v : Vec dn.MulLink Global)
    → numbers.number_factors (da.TheBlock.hidden-the_row-MulLink-9 v) ≡ numbers.numbers_of_factors v.items
factors_kept v =
    factors_row _ (da.TheBlock.hidden-the_row-MulLink-9 v) ∙ ap numbers.numbers_of_factors (dm.items_hidden-the_row-MulLink-9 v)

orelses_row : (n : _) (row : dt.Row_of-Stmts n) → numbers.number_orelses row ≡ numbers.numbers_of_orelses (dt.items-the_row-Stmts n row)
orelses_row n dt.end_of-Stmts = refl
orelses_row n (dt.more_of-Stmts m b s shape row rest) =
    ap (λ g. token >> (numbers.number_stmt s >> g >> node m) >> numbers.number_orelses rest) (stmts_shown shape row)
    ∙ ap (λ g. token >> (numbers.number_stmt s >> numbers.numbers_of_stmts (da.TheBlock.shown-the_row-Stmt-1 shape row).items >> node m) >>
    g)
    (orelses_row _ rest)

pub orelses_kept : (v : Vec ds.Stmts Global)
    → numbers.number_orelses (da.TheBlock.hidden-the_row-Stmts-5 v) ≡ numbers.numbers_of_orelses v.items
orelses_kept v =
    orelses_row _ (da.TheBlock.hidden-the_row-Stmts-5 v) ∙ ap numbers.numbers_of_orelses (dt.items_hidden-the_row-Stmts-5 v)

desigs_row : (n : _) (row : dt.Row_of-Desig n) → numbers.number_desigs row ≡ numbers.numbers_of_desigs (dt.items-the_row-Desig n row)
desigs_row n dt.end_of-Desig = refl
desigs_row n (dt.more_of-Desig m l shape row rest) =
    ap (λ g. token >> (numbers.number_name l >> g >> node m) >> numbers.number_desigs rest) (selectors_shown shape row)
    ∙ ap (λ g. token >> (numbers.number_name l >> numbers.numbers_of_selectors (da.TheBlock.shown-the_row-Selector-2 shape row).items >>
    node m) >>
    g) (desigs_row _ rest)

pub desigs_kept : (v : Vec dd.Desig Global)
    → numbers.number_desigs (da.TheBlock.hidden-the_row-Desig-6 v) ≡ numbers.numbers_of_desigs v.items
desigs_kept v =
    desigs_row _ (da.TheBlock.hidden-the_row-Desig-6 v) ∙ ap numbers.numbers_of_desigs (dt.items_hidden-the_row-Desig-6 v)

elsifs_row : (n : _) (row : dt.Row_of-Elsif n) → numbers.number_elsifs row ≡ numbers.numbers_of_elsifs (dt.items-the_row-Elsif n row)
elsifs_row n dt.end_of-Elsif = refl
elsifs_row n (dt.more_of-Elsif (df.Elsif' e m b s shape row) rest) =
    rw (df.outs-Elsif' e m b s shape row) (
    ap (λ g. token >> numbers.number_expr e >> token >> (numbers.number_stmt s >> g >> node m) >> numbers.number_elsifs rest)
    (stmts_shown shape row)
    ∙ ap (λ g. token >> numbers.number_expr e >> token >>
    (numbers.number_stmt s >> numbers.numbers_of_stmts (da.TheBlock.shown-the_row-Stmt-1 shape
    row).items >> node m) >> g)
    (elsifs_row _ rest))

pub elsifs_kept : (v : Vec df.Elsif Global)
    → numbers.number_elsifs (da.TheBlock.hidden-the_row-Elsif-3 v) ≡ numbers.numbers_of_elsifs v.items
elsifs_kept v =
    elsifs_row _ (da.TheBlock.hidden-the_row-Elsif-3 v) ∙ ap numbers.numbers_of_elsifs (dt.items_hidden-the_row-Elsif-3 v)

-- ---- options as a tree holds them

pub else_kept : (x : Option ds.Stmts) → numbers.number_else (dt.back-Stmt-If-4 x) ≡ numbers.numbers_of_else x
else_kept None = refl
else_kept (Some s) = ap (λ g. token >> g) (stmts_laid s)

pub by_kept : (x : Option de.Expr) → numbers.number_by (dl.back-Stmt-For-4 x) ≡ numbers.numbers_of_by x
by_kept None = refl
by_kept (Some e) = refl

pub returned_kept : (x : Option de.Expr) → numbers.number_returned (dl.back-Stmt-For-4 x) ≡ numbers.numbers_of_returned x
returned_kept None = refl
returned_kept (Some e) = refl

pub high_kept : (x : Option de.Expr) → numbers.number_high (dl.back-Stmt-For-4 x) ≡ numbers.numbers_of_high x
high_kept None = refl
high_kept (Some e) = refl

compared_held : (b : _) (c : dc.Compared)
    → numbers.number_compared (de.Expr-right-Some' b c) ≡ (token >> numbers.number_simple (dc.out-Compared c).right)
compared_held b (dc.Compared' r s) = rw (dc.outs-Compared' r s) refl

pub compared_kept : (x : Option (Box dc.Compared Global)) → numbers.number_compared (de.back-Expr-right x) ≡ numbers.numbers_of_compared x
compared_kept None = refl
compared_kept (Some c) = compared_held (record { ptr = c.ptr; alloc = c.alloc; value = tt }) c.value

pub args_kept : (x : Option dg.Args) → numbers.number_args (dp.back-Primary-Desig-2 x) ≡ numbers.numbers_of_args x
args_kept None = refl
args_kept (Some (dg.Args' dg.Args-values-None')) = rw (dg.outs-Args' dg.Args-values-None') refl
args_kept (Some (dg.Args' (dg.Args-values-Some' es))) = rw (dg.outs-Args' (dg.Args-values-Some' es)) refl

-- ---- structs and variants of the code

pub simple_rolled : (r : _)
    → numbers.number_simple (di.roll-Simple r)
    ≡ (numbers.number_sign r.sign >> numbers.number_term r.first.value >> numbers.numbers_of_terms r.more.items >> node r.node)
simple_rolled r =
    ap numbers.number_simple (di.rolls-Simple' r)
    ∙ ap (λ g. numbers.number_sign r.sign >> numbers.number_term r.first.value >> g >> node r.node) (terms_kept r.more)

pub term_rolled : (r : _)
    → numbers.number_term (dm.roll-Term r) ≡ (numbers.number_factor r.first >> numbers.numbers_of_factors r.more.items >> node r.node)
term_rolled r = ap numbers.number_term (dm.rolls-Term' r)
    ∙ ap (λ g. numbers.number_factor r.first >> g >> node r.node) (factors_kept r.more)

pub expr_rolled : (r : _)
    → numbers.number_expr (de.roll-Expr r) ≡ (numbers.number_simple r.left >> numbers.numbers_of_compared r.right >> node r.node)
expr_rolled r = ap numbers.number_expr (de.rolls-Expr' r)
    ∙ ap (λ g. numbers.number_simple r.left >> g >> node r.node) (compared_kept r.right)

pub exprs_rolled : (r : _) → numbers.number_exprs (dx.roll-Exprs r)
    ≡ (numbers.number_expr r.first.value >> numbers.numbers_of_exprs r.more.items)
exprs_rolled r = ap numbers.number_exprs (dx.rolls-Exprs' r) ∙ ap (λ g. numbers.number_expr r.first.value >> g) (exprs_kept r.more)

pub label_rolled : (r : _)
    → numbers.number_label (dl.roll-Label r) ≡ (numbers.number_expr r.low >> numbers.numbers_of_high r.high >> node r.node)
label_rolled r = ap numbers.number_label (dl.rolls-Label' r) ∙ ap (λ g. numbers.number_expr r.low >> g >> node r.node) (high_kept r.high)

pub labelled_laid : (n : _) (l : dl.Label) (more : Vec dl.Label Global) (s : ds.Stmts)
    → numbers.number_arm (da.Labelled n l more s)
    ≡ (numbers.number_label l >> numbers.numbers_of_labels more.items >> token >> numbers.number_stmts s >> node n)
labelled_laid n l more s =
    ap (λ g. numbers.number_label l >> numbers.number_labels (da.TheBlock.hidden-the_row-Label-0 more) >> token >> g >> node n)
    (stmts_laid s)
    ∙ ap (λ g. numbers.number_label l >> g >> token >> numbers.number_stmts s >> node n) (labels_kept more)

pub named_laid : (n : _) (d : dd.Desig) (a : Option dg.Args)
    → numbers.number_primary (dp.Desig n d a) ≡ (numbers.number_desig d >> numbers.numbers_of_args a >> node n)
named_laid n d a =
    ap (λ g. g >> numbers.number_args (dp.back-Primary-Desig-2 a) >> node n) (desig_laid d)
    ∙ ap (λ g. numbers.number_desig d >> g >> node n) (args_kept a)

pub paren_laid : (n : _) (b : Box ds.Stmts Global)
    → numbers.number_primary (dp.Paren n b) ≡ (token >> numbers.number_stmts b.value >> token >> node n)
paren_laid n b = ap (λ g. token >> g >> token >> node n) (stmts_laid b.value)

pub known_laid : (n : _) (d : dd.Desig)
    → numbers.number_primary (dp.Known n d) ≡ (token >> token >> numbers.number_desig d >> token >> node n)
known_laid n d = ap (λ g. token >> token >> g >> token >> node n) (desig_laid d)

-- ---- statements

pub assign_laid : (n : _) (d : dd.Desig) (e : de.Expr)
    → numbers.number_stmt (dt.Assign n d e) ≡ (numbers.number_desig d >> token >> numbers.number_expr e >> node n)
assign_laid n d e = ap (λ g. g >> token >> numbers.number_expr e >> node n) (desig_laid d)

pub if_laid : (n : _) (e : de.Expr) (s : ds.Stmts) (more : Vec df.Elsif Global) (other : Option ds.Stmts)
    → numbers.number_stmt (dt.If n e s more other)
    ≡ (token >> numbers.number_expr e >> token >> numbers.number_stmts s >> numbers.numbers_of_elsifs more.items >> numbers.numbers_of_else
    other
    >> token >> node n)
if_laid n e s more other =
    ap (λ g. token >> numbers.number_expr e >> token >> g >> numbers.number_elsifs (da.TheBlock.hidden-the_row-Elsif-3 more)
    >> numbers.number_else (dt.back-Stmt-If-4 other) >> token >> node n) (stmts_laid s)
    ∙ ap (λ g. token >> numbers.number_expr e >> token >> numbers.number_stmts s >> g >> numbers.number_else (dt.back-Stmt-If-4 other) >>
    token >> node n)
    (elsifs_kept more)
    ∙ ap (λ g. token >> numbers.number_expr e >> token >> numbers.number_stmts s >> numbers.numbers_of_elsifs more.items >> g >> token >>
    node n)
    (else_kept other)

pub while_laid : (n : _) (e : de.Expr) (s : ds.Stmts)
    → numbers.number_stmt (dt.While n e s) ≡ (token >> numbers.number_expr e >> token >> numbers.number_stmts s >> token >> node n)
while_laid n e s = ap (λ g. token >> numbers.number_expr e >> token >> g >> token >> node n) (stmts_laid s)

pub repeat_laid : (n : _) (s : ds.Stmts) (e : de.Expr)
    → numbers.number_stmt (dt.Repeat n s e) ≡ (token >> numbers.number_stmts s >> token >> numbers.number_expr e >> node n)
repeat_laid n s e = ap (λ g. token >> g >> token >> numbers.number_expr e >> node n) (stmts_laid s)

pub for_laid : (n : _) (l : Name) (low high : de.Expr) (by : Option de.Expr) (s : ds.Stmts)
    → numbers.number_stmt (dt.For n l low high by s)
    ≡ (token >> numbers.number_name l >> token >> numbers.number_expr low >> token >> numbers.number_expr high >> numbers.numbers_of_by by
    >> token >> numbers.number_stmts s >> token >> node n)
for_laid n l low high by s =
    ap (λ g. token >> numbers.number_name l >> token >> numbers.number_expr low >> token >> numbers.number_expr high
    >> numbers.number_by (dl.back-Stmt-For-4 by) >> token >> g >> token >> node n) (stmts_laid s)
    ∙ ap (λ g. token >> numbers.number_name l >> token >> numbers.number_expr low >> token >> numbers.number_expr high
    >> g >> token >> numbers.number_stmts s >> token >> node n) (by_kept by)

pub some_laid : (n : _) (l : Name) (low high : de.Expr) (s : ds.Stmts)
    → numbers.number_stmt (dt.Some n l low high s)
    ≡ (token >> numbers.number_name l >> token >> numbers.number_expr low >> token >> numbers.number_expr high
    >> token >> numbers.number_stmts s >> token >> node n)
some_laid n l low high s =
    ap (λ g. token >> numbers.number_name l >> token >> numbers.number_expr low >> token >> numbers.number_expr high >> token >> g >> token
    >> node n)
    (stmts_laid s)

pub case_laid : (n : _) (e : de.Expr) (a : Box da.Arm Global) (more : Vec da.Arm Global) (other : Option ds.Stmts)
    → numbers.number_stmt (dt.Case n e a more other)
    ≡ (token >> numbers.number_expr e >> token >> numbers.number_arm a.value >> numbers.numbers_of_arms more.items >>
    numbers.numbers_of_else other
    >> token >> node n)
case_laid n e a more other =
    ap (λ g. token >> numbers.number_expr e >> token >> numbers.number_arm a.value >> g >> numbers.number_else (dt.back-Stmt-If-4 other) >>
    token >> node n)
    (arms_kept more)
    ∙ ap (λ g. token >> numbers.number_expr e >> token >> numbers.number_arm a.value >> numbers.numbers_of_arms more.items >> g >> token >>
    node n)
    (else_kept other)

pub either_laid : (n : _) (s : ds.Stmts) (more : Vec ds.Stmts Global)
    → numbers.number_stmt (dt.Either n s more)
    ≡ (token >> numbers.number_stmts s >> numbers.numbers_of_orelses more.items >> token >> node n)
either_laid n s more =
    ap (λ g. token >> g >> numbers.number_orelses (da.TheBlock.hidden-the_row-Stmts-5 more) >> token >> node n) (stmts_laid s)
    ∙ ap (λ g. token >> numbers.number_stmts s >> g >> token >> node n) (orelses_kept more)

pub forall_laid : (n : _) (s t : ds.Stmts)
    → numbers.number_stmt (dt.Forall n s t) ≡ (token >> numbers.number_stmts s >> token >> numbers.number_stmts t >> token >> node n)
forall_laid n s t =
    ap (λ g. token >> g >> token >> (numbers.number_stmt t.first.value >> numbers.number_stmts_row
    (da.TheBlock.hidden-the_row-Stmt-1 t.more) >>
    node t.node)
    >> token >> node n) (stmts_laid s)
    ∙ ap (λ g. token >> numbers.number_stmts s >> token >> g >> token >> node n) (stmts_laid t)

pub commit_laid : (n : _) (s : ds.Stmts) → numbers.number_stmt (dt.Commit n s) ≡ (token >> numbers.number_stmts s >> token >> node n)
commit_laid n s = ap (λ g. token >> g >> token >> node n) (stmts_laid s)

pub return_laid : (n : _) (e : Option de.Expr) → numbers.number_stmt (dt.Return n e) ≡ (token >> numbers.numbers_of_returned e >> node n)
return_laid n e = ap (λ g. token >> g >> node n) (returned_kept e)

pub read_laid : (n : _) (d : dd.Desig) (more : Vec dd.Desig Global)
    → numbers.number_stmt (dt.Read n d more)
    ≡ (token >> token >> numbers.number_desig d >> numbers.numbers_of_desigs more.items >> token >> node n)
read_laid n d more =
    ap (λ g. token >> token >> g >> numbers.number_desigs (da.TheBlock.hidden-the_row-Desig-6 more) >> token >> node n) (desig_laid d)
    ∙ ap (λ g. token >> token >> numbers.number_desig d >> g >> token >> node n) (desigs_kept more)

pub writeln_laid : (n : _) (a : Option dg.Args) → numbers.number_stmt (dt.Writeln n a) ≡ (token >> numbers.numbers_of_args a >> node n)
writeln_laid n a = ap (λ g. token >> g >> node n) (args_kept a)

-- ---- types

plains_row : (n : _) (row : dz.Row_of-PlainType n)
    → numbers.number_plains row ≡ numbers.numbers_of_plains (dz.items-the_row-PlainType n row)
plains_row n dz.end_of-PlainType = refl
plains_row n (dz.more_of-PlainType x rest) = ap (λ g. token >> numbers.number_plain x >> g) (plains_row _ rest)

pub plains_kept : (v : Vec dq.PlainType Global)
    → numbers.number_plains (dw.TheBlock.hidden-the_row-PlainType-1 v) ≡ numbers.numbers_of_plains v.items
plains_kept v =
    plains_row _ (dw.TheBlock.hidden-the_row-PlainType-1 v) ∙ ap numbers.numbers_of_plains (dz.items_hidden-the_row-PlainType-1 v)

plains_shown : (shape : _) (row : _)
    → numbers.number_plains row ≡ numbers.numbers_of_plains (dw.TheBlock.shown-the_row-PlainType-1 shape row).items
plains_shown shape row = plains_row _ row ∙ ap numbers.numbers_of_plains (sym (dz.items_shown-the_row-PlainType-1 shape row))

field_lists_row : (n : _) (row : dq.Row_of-FieldList n)
    → numbers.number_field_lists row ≡ numbers.numbers_of_field_lists (dq.items-the_row-FieldList n row)
field_lists_row n dq.end_of-FieldList = refl
field_lists_row n (dq.more_of-FieldList x rest) = ap (λ g. token >> numbers.number_field_list x >> g) (field_lists_row _ rest)

pub field_lists_kept : (v : Vec dw.FieldList Global)
    → numbers.number_field_lists (dw.TheBlock.hidden-the_row-FieldList-0 v) ≡ numbers.numbers_of_field_lists v.items
field_lists_kept v =
    field_lists_row _ (dw.TheBlock.hidden-the_row-FieldList-0 v) ∙ ap numbers.numbers_of_field_lists (dq.items_hidden-the_row-FieldList-0 v)

dimensions_row : (n : _) (row : dz.Row_of-Dimensions n)
    → numbers.number_dimensions row ≡ numbers.numbers_of_dimensions (dz.items-the_row-Dimensions n row)
dimensions_row n dz.end_of-Dimensions = refl
dimensions_row n (dz.more_of-Dimensions p shape row rest) =
    ap (λ g. token >> numbers.number_plain p >> g >> token >> numbers.number_dimensions rest) (plains_shown shape row)
    ∙ ap (λ g. token >> numbers.number_plain p >> numbers.numbers_of_plains (dw.TheBlock.shown-the_row-PlainType-1 shape row).items >> token
    >> g)
    (dimensions_row _ rest)

pub dimensions_kept : (v : Vec dv.Dimensions Global)
    → numbers.number_dimensions (dw.TheBlock.hidden-the_row-Dimensions-2 v) ≡ numbers.numbers_of_dimensions v.items
dimensions_kept v =
    dimensions_row _ (dw.TheBlock.hidden-the_row-Dimensions-2 v) ∙ ap numbers.numbers_of_dimensions (dz.items_hidden-the_row-Dimensions-2 v)

dimensions_shown : (shape : _) (row : _)
    → numbers.number_dimensions row ≡ numbers.numbers_of_dimensions (dw.TheBlock.shown-the_row-Dimensions-2 shape row).items
dimensions_shown shape row = dimensions_row _ row ∙ ap numbers.numbers_of_dimensions (sym (dz.items_shown-the_row-Dimensions-2 shape row))

pub arrays_kept : (x : Option dz.Arrays) → numbers.number_arrays (dy.back-TypeNode-arrays x) ≡ numbers.numbers_of_arrays x
arrays_kept None = refl
arrays_kept (Some (dz.Arrays' n p shape row shape' row')) =
    rw (dz.outs-Arrays' n p shape row shape' row') (
    ap (λ g. token >> numbers.number_plain p >> g >> token >> numbers.number_dimensions row' >> node n) (plains_shown shape row)
    ∙ ap (λ g. token >> numbers.number_plain p >> numbers.numbers_of_plains (dw.TheBlock.shown-the_row-PlainType-1 shape row).items >> token
    >> g >> node n)
    (dimensions_shown shape' row'))

pub type_rolled : (r : _)
    → numbers.number_type (dy.roll-TypeNode r) ≡ (numbers.numbers_of_arrays r.arrays >> numbers.number_plain r.element >> node r.node)
type_rolled r = ap numbers.number_type (dy.rolls-TypeNode' r)
    ∙ ap (λ g. g >> numbers.number_plain r.element >> node r.node) (arrays_kept r.arrays)

pub record_laid : (n : _) (f : Box dw.FieldList Global) (more : Vec dw.FieldList Global)
    → numbers.number_plain (dq.Record n f more)
    ≡ (token >> numbers.number_field_list f.value >> numbers.numbers_of_field_lists more.items >> token >> node n)
record_laid n f more = ap (λ g. token >> numbers.number_field_list f.value >> g >> token >> node n) (field_lists_kept more)

-- ---- declarations

decls_row : (n : _) (row : db.Row_of-Decl n) → numbers.number_decls row ≡ numbers.numbers_of_decls (db.items-the_row-Decl n row)
decls_row n db.end_of-Decl = refl
decls_row n (db.more_of-Decl x rest) = ap (λ g. numbers.number_decl x >> g) (decls_row _ rest)

pub decls_kept : (v : Vec dh.Decl Global)
    → numbers.number_decls (dh.TheBlock.hidden-the_row-Decl-0 v) ≡ numbers.numbers_of_decls v.items
decls_kept v =
    decls_row _ (dh.TheBlock.hidden-the_row-Decl-0 v) ∙ ap numbers.numbers_of_decls (db.items_hidden-the_row-Decl-0 v)

pub procedure_laid : (n : _) (l : Name) (p : Option Params) (r : Option Name) (b : db.Block) (e : Name)
    → numbers.number_decl (dh.Procedure n l p r b e)
    ≡ (token >> numbers.number_name l >> numbers.numbers_of_params p >> numbers.numbers_of_result r >> token
    >> numbers.number_block b >> token >> numbers.number_name e >> token >> node n)
procedure_laid n l p r b e =
    ap (λ g. token >> numbers.number_name l >> numbers.numbers_of_params p >> numbers.numbers_of_result r >> token
    >> (g >> numbers.numbers_of_body b.body >> node b.node) >> token >> numbers.number_name e >> token >> node n) (decls_kept b.decls)
