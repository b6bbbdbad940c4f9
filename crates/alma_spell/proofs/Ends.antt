-- A function that ends with the result of its last call, and structs as the code takes them apart.
use Rattle.std.proofs.Common.{◌≡◌, List, ◌++◌, Result, OnOk, ◌∙◌, ap, sym}
use Rattle.std.proofs.lemmas.Result.{on_ok_weaker}
use Rattle.alma_tree.specs.declared.kind.Kind.{Kind}
use Rattle.alma_tree.specs.declared.phrase.Label as dl
use Rattle.alma_tree.specs.declared.phrase.Expr as de
use Rattle.alma_tree.specs.declared.phrase.Simple as di
use Rattle.alma_tree.specs.declared.phrase.Term as dm
use Rattle.alma_tree.specs.declared.phrase.Exprs as dx
use Rattle.alma_tree.specs.declared.type_node.TypeNode as dy
use Rattle.alma_tree.specs.Tree as tree
use Rattle.alma_tree.specs.View as view
use Rattle.alma_spell.specs.Pushed.{Pushes}
use Rattle.alma_tree.proofs.Rows as rows

-- the last call goes on where the others stopped
pub pushed_last : {T E : Type 0} (r : Result T E) (new mid old : List Kind) (f g : List Kind → List Kind) → OnOk r (Pushes mid new f)
    → ((rest : List Kind) → mid ++ f rest ≡ old ++ g rest) → OnOk r (Pushes old new g)
pushed_last r new mid old f g h e = on_ok_weaker {P = Pushes mid new f} {Q = Pushes old new g} r (λ k rest. k rest ∙ e rest) h

pub exprs_laid : (t : dx.Exprs) → view.view_exprs t ≡ tree.exprs (view.view_expr (dx.out-Exprs t).first.value)
    (view.exprs_of (dx.out-Exprs t).more.items)
exprs_laid t = ap view.view_exprs (sym (dx.roll-out-Exprs t)) ∙ rows.exprs_rolled (dx.out-Exprs t)

pub simple_laid : (t : di.Simple)
    → view.view_simple t
    ≡ tree.simple (di.out-Simple t).sign (view.view_term (di.out-Simple t).first.value) (view.terms_of (di.out-Simple t).more.items)
simple_laid t = ap view.view_simple (sym (di.roll-out-Simple t)) ∙ rows.simple_rolled (di.out-Simple t)

pub term_laid : (t : dm.Term) → view.view_term t ≡ tree.term (view.view_factor (dm.out-Term t).first)
    (view.factors_of (dm.out-Term t).more.items)
term_laid t = ap view.view_term (sym (dm.roll-out-Term t)) ∙ rows.term_rolled (dm.out-Term t)

pub expr_laid : (t : de.Expr) → view.view_expr t ≡ tree.expr (view.view_simple (de.out-Expr t).left)
    (view.compared_of (de.out-Expr t).right)
expr_laid t = ap view.view_expr (sym (de.roll-out-Expr t)) ∙ rows.expr_rolled (de.out-Expr t)

pub label_laid : (t : dl.Label) → view.view_label t ≡ tree.label (view.view_expr (dl.out-Label t).low) (view.high_of (dl.out-Label t).high)
label_laid t = ap view.view_label (sym (dl.roll-out-Label t)) ∙ rows.label_rolled (dl.out-Label t)

pub type_laid : (t : dy.TypeNode)
    → view.view_type_node t ≡ tree.type_node (view.arrays_of (dy.out-TypeNode t).arrays) (view.view_plain_type (dy.out-TypeNode t).element)
type_laid t = ap view.view_type_node (sym (dy.roll-out-TypeNode t)) ∙ rows.type_rolled (dy.out-TypeNode t)
