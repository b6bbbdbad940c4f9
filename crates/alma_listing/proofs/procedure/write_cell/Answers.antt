use Rattle.std.proofs.Common.{ap, ◌∙◌}
use Rattle.alma_ir.specs.declared.phrase.WriteAs.TheVariants as write_as
use Rattle.alma_ir.specs.Tree.{WriteExpr, Load, Known}
use Rattle.alma_ir.proofs.Views
use Rattle.alma_listing.proofs.Parts.{one_stmt, if_is}
use Rattle.alma_listing.proofs.procedure.write_cell.Goals as goal

pub returns : goal.returns
returns c =
    if_is _ _ _ _ _ _ _ c.in_ok-arms.ensures (Views.known_view _ ∙ ap Known c.in_ok-cell-2.ensures)
    (one_stmt _ _ _ c.in_ok-number.ensures
    (Views.writeexpr_view _ _ ∙ ap (λ e. WriteExpr e write_as.Int) (Views.load_view _ ∙ ap Load c.in_ok-cell.ensures)))
    (one_stmt _ _ _ c.in_ok-unknown.ensures c.in_ok-text.ensures)
