use Rattle.std.proofs.Common.{◌≡◌, false, sym, subst, ap, ◌∙◌}
use Rattle.std.specs.Prelude.{MatchOption}
use Rattle.alma_ir.specs.View.{expr_of, test_of}
use Rattle.alma_ir.proofs.Views
use Rattle.alma_lower_templates.specs.Slots.{is_turned}
use Rattle.alma_lower_work.specs.Puts.{IsTurned}
use Rattle.alma_lower_work.proofs.turned.turned_test.Goals as goal

pub returns-in-Value : goal.returns-in-Value
returns-in-Value c =
    subst (λ t. MatchOption c.turned_value.result (is_turned t ≡ false)
    (λ parts. IsTurned t parts.0 (expr_of parts.1.now) (expr_of parts.2.now)))
    (sym (ap test_of c.in-Value.is ∙ Views.value_view _)) c.turned_value.ensures
