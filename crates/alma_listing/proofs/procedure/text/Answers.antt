use Rattle.std.proofs.Common.{ap, ◌∙◌}
use Rattle.alma_ir.specs.Tree.{WriteText}
use Rattle.alma_ir.proofs.Views
use Rattle.alma_listing.proofs.procedure.text.Goals as goal

pub returns : goal.returns
returns c = Views.writetext_view _ ∙ ap WriteText (c.in_ok-to_vec.ensures.items_if_clones_equal (λ x y e. e))
