use Rattle.std.proofs.Common.{Some, ap, ◌∙◌}
use Rattle.alma_ir.specs.Tree as ir
use Rattle.alma_rules.specs.Parts as parts
use Rattle.alma_check_build_expr.proofs.Steps.{no_arguments}
use Rattle.alma_check_build_expr.proofs.expression.as_typed.Goals as goal

pub returns-in-Some-Routine : goal.returns-in-Some-Routine
returns-in-Some-Routine c =
    rw (c.in-Some-Routine.is, c.in-Some-Routine.field-0-is) (ap Some (c.boolean.ensures ∙ ap parts.boolean_typing (c.call_test.ensures
    ∙ ap (λ a. parts.a_test (ir.CallTest c.in-Some-Routine.routine a c.in-Some-Routine.up))
    (no_arguments c.new-args.result c.new-args.ensures.items))))
