use Rattle.std.proofs.Common.{ap}
use Rattle.alma_ir.specs.Tree.{more_arms, no_arms}
use Rattle.alma_ir.specs.View.{stmts_list}
use Rattle.alma_ir.proofs.Views
use Rattle.alma_listing.proofs.Parts.{for_ok, arm_is}
use Rattle.alma_listing.proofs.procedure.one_arm.Goals as goal

pub returns : goal.returns
returns c =
    for_ok _ _ c.one.result
    (λ v is. arm_is _ _ c.args.cond _ is (ap (λ t. more_arms t (stmts_list c.args.body.items) no_arms) (Views.value_view c.args.cond)))
    c.one.ensures
