use Rattle.std.proofs.Common.{sym, ap, ◌∙◌}
use Rattle.std.specs.Prelude.{option_and_then}
use Rattle.alma_rules.specs.View as view
use Rattle.alma_check_join_expr.specs.Exactly.{literal_of}
use Rattle.alma_check_join_expr.proofs.Exact.{item_by}
use Rattle.alma_check_join_expr.proofs.look.item_literal.Goals as goal

pub returns-in-None : goal.returns-in-None
returns-in-None c = ap (option_and_then literal_of) c.in-None.ensures ∙ sym (item_by (view.view_expr c.args.expr.now))

pub returns-in-Some : goal.returns-in-Some
returns-in-Some c = c.literal_in.ensures ∙ ap (option_and_then literal_of) c.in-Some.ensures
    ∙ sym (item_by (view.view_expr c.args.expr.now))
