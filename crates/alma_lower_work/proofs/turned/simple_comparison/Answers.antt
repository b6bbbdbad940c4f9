use Rattle.std.proofs.Common.{◌∙◌, sym, refl}
use Rattle.alma_ir.specs.View.{expr_of}
use Rattle.alma_lower_templates.specs.Slots.{has_opposite, is_simple_expr}
use Rattle.alma_lower_work.proofs.Turning.{not_first, not_second, not_third, all_three}
use Rattle.alma_lower_work.proofs.turned.simple_comparison.Goals as goal

pub returns-then-not-has_opposite : goal.returns-then-not-has_opposite
returns-then-not-has_opposite c = not_first _ (is_simple_expr (expr_of c.args.left.now)) (is_simple_expr (expr_of c.args.right.now))
    (sym c.has_opposite.ensures ∙ c.if-not-has_opposite.true)

pub returns-then-not-is_simple : goal.returns-then-not-is_simple
returns-then-not-is_simple c = not_second (has_opposite c.args.how) _ (is_simple_expr (expr_of c.args.right.now))
    (sym c.is_simple.ensures ∙ c.if-not-is_simple.true)

pub returns-then-not-is_simple-2 : goal.returns-then-not-is_simple-2
returns-then-not-is_simple-2 c = not_third (has_opposite c.args.how) (is_simple_expr (expr_of c.args.left.now)) _
    (sym c.is_simple-2.ensures ∙ c.if-not-is_simple-2.true)

pub returns : goal.returns
returns c = record {
  is = refl;
  turned = all_three _ _ _ (sym c.has_opposite.ensures ∙ c.if-not-has_opposite.false) (sym c.is_simple.ensures ∙ c.if-not-is_simple.false)
      (sym c.is_simple-2.ensures ∙ c.if-not-is_simple-2.false);
}
