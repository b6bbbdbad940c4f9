use Rattle.std.proofs.Common.{ap, arith, length}
use Rattle.std.proofs.lemmas.List.{length-map}
use Rattle.alma_memory_store.specs.declared.store.Slot.{Slot}
use Rattle.alma_memory_store.proofs.Blanks.{image-length}
use Rattle.alma_memory_store.proofs.image.Image.lay.Goals as goal

pub put_cells-requires : goal.put_cells-requires
put_cells-requires g c =
    let all = image-length (g.H.Head.head c.args.head.now) c.prepare.new.runs.items c.prepare.new.slots.items (length c.args.cells.now)
    c.requires.head c.in_ok-prepare.ensures.runs c.in_ok-prepare.ensures.image in
    omega (arith, all, c.requires.fit)

pub returns-clause-few : goal.returns-clause-few
returns-clause-few g c =
    let all = image-length (g.H.Head.head c.args.head.now) c.prepare.new.runs.items c.prepare.new.slots.items (length c.args.cells.now)
    c.requires.head c.in_ok-prepare.ensures.runs c.in_ok-prepare.ensures.image in
    let same = ap length c.put_cells.ensures.kinds in
    let new = length-map c.put_cells.new.slots.items (λ (s : Slot). s.kind) in
    let old = length-map c.prepare.new.slots.items (λ (s : Slot). s.kind) in
    omega (arith, all, same, new, old, c.slots.ensures)
