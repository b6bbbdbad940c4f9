use Rattle.std.proofs.Common.{◌≡◌, ◌++◌, take, drop, get_or}
use Rattle.alma_code.specs.Picture.{no_frame}
use Rattle.alma_memory_store.proofs.layout.push_place.Given as goal

abbrev pub invariant-loop-k : goal.invariant-loop-k
invariant-loop-k g l = l.cells.items ≡ l.fn.cells.items
    ++ take l.k (drop l.place.slot (get_or (g.F.LiveFrames.live l.frames) l.place.frame no_frame).cells)
