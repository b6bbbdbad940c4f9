use Rattle.std.proofs.Common.{◌∙◌, w64, rules}
use Rattle.std.proofs.lemmas.Int.{to_z-of_z}
use Rattle.alma_listing.proofs.Parts.{two_stmts, loop_is}
use Rattle.alma_listing.proofs.procedure.cells_loop.Goals as goal

pub returns : goal.returns
returns c =
    loop_is c.index.result _ _ _ _ _ c.index.ensures c.cell_range.ensures (to_z-of_z w64 c.from.result (search rules) ∙ c.from.ensures)
    (two_stmts _ _ _ _ _ _ c.in_ok-body.ensures c.in_ok-push.ensures.items c.in_ok-write_comma.ensures c.in_ok-write_cell.ensures)
