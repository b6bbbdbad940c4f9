use Rattle.std.proofs.Common.{◌≡◌, ◌++◌, drop, take}
use Rattle.alma_memory_store.specs.Regions.{cells_in, kinds_in}
use Rattle.alma_memory_store.proofs.layout.put_cells.Given as goal

abbrev pub invariant-loop-i : goal.invariant-loop-i
invariant-loop-i l =
    (kinds_in l.slots.items ≡ kinds_in l.fn.slots.items)
    × (cells_in l.slots.items ≡ take l.i l.cells ++ drop l.i (cells_in l.fn.slots.items))
