use Rattle.std.proofs.Common.{sym, ap, ◌∙◌}
use Rattle.std.specs.Prelude.{option_and_then}
use Rattle.alma_rules.specs.View as view
use Rattle.alma_check_join_expr.specs.Exactly.{named_by}
use Rattle.alma_check_join_expr.proofs.Exact.{exactly_by}
use Rattle.alma_check_join_expr.proofs.look.named_of.Goals as goal

pub returns-in-None : goal.returns-in-None
returns-in-None c = ap (option_and_then named_by) c.in-None.ensures ∙ sym (exactly_by (view.view_expr c.args.expr.now))

pub returns-in-Some : goal.returns-in-Some
returns-in-Some c = c.named_in.ensures ∙ ap (option_and_then named_by) c.in-Some.ensures ∙ sym (exactly_by (view.view_expr c.args.expr.now))
