use Rattle.alma_rules.specs.View as view
use Rattle.alma_rules.proofs.Rows as rows
use Rattle.alma_check_join_expr.proofs.Exact.{named_any}
use Rattle.alma_check_join_expr.proofs.look.named_in.Goals as goal

pub returns-in-Desig : goal.returns-in-Desig
returns-in-Desig c = rw (
  c.in-Desig.is,
  rows.named_is _ c.in-Desig.desig c.in-Desig.args,
  named_any _ (view.view_desig c.in-Desig.desig) (view.args_of c.in-Desig.args),
) c.uncalled.ensures
