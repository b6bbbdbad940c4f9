use Rattle.std.proofs.Common.{◌≡◌, length, take}
use Rattle.alma_memory_store.specs.Regions.{cells_in, kinds_in}
use Rattle.alma_back_tape.proofs.layout.parts_of.Given as goal

abbrev pub invariant-loop-i : goal.invariant-loop-i
invariant-loop-i l =
    (l.kinds.items ≡ kinds_in (take l.i l.slots)) × (l.cells.items ≡ cells_in (take l.i l.slots)) × (length l.kinds.items ≡ l.i)
    × (length l.cells.items ≡ l.i)
