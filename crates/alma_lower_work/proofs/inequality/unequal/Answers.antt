use Rattle.std.proofs.Common.{◌∙◌, sym, ap}
use Rattle.alma_ir.specs.declared.phrase.Cmp.TheVariants as cmp
use Rattle.alma_ir.specs.Tree.{Compare}
use Rattle.alma_ir.specs.View.{expr_of}
use Rattle.alma_ir.proofs.Views
use Rattle.alma_lower_work.proofs.Comparing.{other_comparison, no_inequality}
use Rattle.alma_lower_work.proofs.inequality.unequal.Goals as goal

pub returns-in-Unequal : goal.returns-in-Unequal
returns-in-Unequal c =
    ap expr_of c.in-Compare.is ∙ Views.compare_view _ _ _
    ∙ ap (λ how. Compare how (expr_of c.in-Compare.left.value) (expr_of c.in-Compare.right.value)) c.in-Unequal.is
    ∙ ap (λ x. Compare cmp.Unequal (expr_of x) (expr_of c.in-Compare.right.value)) (sym c.deref.ensures)
    ∙ ap (λ x. Compare cmp.Unequal (expr_of c.deref.result.now) (expr_of x)) (sym c.deref-in-Unequal.ensures)

pub returns-in-Equal : goal.returns-in-Equal
returns-in-Equal c = other_comparison _ _ _ _ (ap expr_of c.in-Compare.is ∙ Views.compare_view _ _ _) c.in-Equal.is

pub returns-in-Const : goal.returns-in-Const
returns-in-Const c = no_inequality _ c.in-Const.is
