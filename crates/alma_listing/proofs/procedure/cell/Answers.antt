use Rattle.alma_listing.proofs.Parts.{cell_is}
use Rattle.alma_listing.proofs.procedure.cell.Goals as goal

pub returns : goal.returns
returns c = cell_is _ _ _ _ _ _ c.requires c.in_ok-one.ensures c.index.ensures c.cell_range.ensures
