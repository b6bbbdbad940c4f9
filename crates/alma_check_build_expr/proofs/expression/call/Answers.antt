use Rattle.std.proofs.Common.{Some, None, ap, sym, ◌∙◌}
use Rattle.alma_rules.specs.Parts as parts
use Rattle.alma_check_rules.specs.Views.{args_of, callee_of, headings_in}
use Rattle.alma_check_build_expr.proofs.Steps.{call_without, call_giving}
use Rattle.alma_check_build_expr.proofs.expression.call.Goals as goal

pub returns-in-None-result : goal.returns-in-None-result
returns-in-None-result c =
    rw (c.in-Some.is, c.in-Some-args.is) (ap Some (c.boolean.ensures ∙ ap parts.boolean_typing c.call_test.ensures
    ∙ sym (call_without (callee_of (headings_in c.args.env.now) c.in-Some.callee) (args_of c.in-Some-args.args) c.in-None-result.ensures)))

pub returns-in-Some-result : goal.returns-in-Some-result
returns-in-Some-result c =
    rw (c.in-Some.is, c.in-Some-args.is) (ap Some
    (ap (λ m. record { shape = c.in-Some-result.shape; constant = None; meaning = m }) c.call_value.ensures
    ∙ sym (call_giving (callee_of (headings_in c.args.env.now) c.in-Some.callee) (args_of c.in-Some-args.args) _ c.in-Some-result.ensures)))
