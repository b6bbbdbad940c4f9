use Rattle.std.proofs.Common.{ap}
use Rattle.alma_ir.specs.View.{stmts_list}
use Rattle.alma_listing.proofs.Parts.{one_stmt, index_is, if_is}
use Rattle.alma_listing.proofs.procedure.write_comma.Goals as goal

pub returns : goal.returns
returns c =
    if_is _ _ _ _ _ _ _ c.in_ok-arms.ensures (index_is _ c.index.ensures) (one_stmt _ _ _ c.in_ok-comma.ensures c.in_ok-text.ensures)
    (ap stmts_list c.new.ensures.items)
