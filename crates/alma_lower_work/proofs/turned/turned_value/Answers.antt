use Rattle.std.proofs.Common.{◌≡◌, false, sym, subst, ap, ◌∙◌}
use Rattle.std.specs.Prelude.{MatchOption}
use Rattle.alma_ir.specs.Tree.{Compare, Value}
use Rattle.alma_ir.specs.View.{expr_of}
use Rattle.alma_ir.proofs.Views
use Rattle.alma_lower_templates.specs.Slots.{is_turned}
use Rattle.alma_lower_work.specs.Puts.{IsTurned}
use Rattle.alma_lower_work.proofs.turned.turned_value.Goals as goal

pub returns-in-Compare : goal.returns-in-Compare
returns-in-Compare c =
    subst (λ e. MatchOption c.simple_comparison.result (is_turned (Value e) ≡ false)
    (λ parts. IsTurned (Value e) parts.0 (expr_of parts.1.now) (expr_of parts.2.now)))
    (sym (ap expr_of c.in-Compare.is ∙ Views.compare_view _ _ _
    ∙ ap (λ x. Compare c.in-Compare.how (expr_of x) (expr_of c.in-Compare.right.value)) (sym c.deref.ensures)
    ∙ ap (λ x. Compare c.in-Compare.how (expr_of c.deref.result.now) (expr_of x)) (sym c.deref-in-Compare.ensures)))
    c.simple_comparison.ensures
