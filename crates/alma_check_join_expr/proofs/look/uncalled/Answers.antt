use Rattle.alma_rules.specs.View as view
use Rattle.alma_check_join_expr.proofs.Exact.{called_not}
use Rattle.alma_check_join_expr.proofs.look.uncalled.Goals as goal

pub returns-in-Some : goal.returns-in-Some
returns-in-Some c = rw c.in-Some.is (called_not 0 (view.view_desig c.args.desig.now) _)
