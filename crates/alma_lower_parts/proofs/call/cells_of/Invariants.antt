use Rattle.std.proofs.Common.{◌≡◌, drop}
use Rattle.alma_ir.specs.View.{sels_list}
use Rattle.alma_lower_templates.specs.Slots.{cells_behind}
use Rattle.alma_lower_parts.proofs.call.cells_of.Given as goal

abbrev pub invariant-loop-sel : goal.invariant-loop-sel
invariant-loop-sel l = cells_behind l.cells (sels_list (drop l.sel-index l.sel-items)) ≡ cells_behind l.fn.desig.cells
    (sels_list l.fn.desig.sels.items)
