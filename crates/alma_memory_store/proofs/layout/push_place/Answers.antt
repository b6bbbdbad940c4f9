use Rattle.std.proofs.Common.{◌≡◌, ◌<◌, ◌++◌, ◌∷◌, [], get_or, arith}
use Rattle.std.proofs.lemmas.Grind.{common_steps}
use Rattle.alma_code.specs.Picture.{no_frame}
use Rattle.alma_memory_store.proofs.Layouts.{cell-more}
use Rattle.alma_memory_store.proofs.layout.push_place.Goals as goal

pub loop-k-preserved : goal.loop-k-preserved
loop-k-preserved g c =
    let cells = (get_or (g.F.LiveFrames.live c.args.frames.now) c.args.place.frame no_frame).cells in
    let pushed : c.push.new.self.items ≡ c.loop-k.cells.items ++ c.read-cell.result ∷ [] = grind (arith, common_steps) in
    let lt : c.loop-k.k < c.args.place.len = omega arith in
    cell-more c.args.cells.now.items c.loop-k.cells.items c.push.new.self.items cells c.args.place.slot c.loop-k.k c.read-cell.result
    c.loop-k.invariant pushed
    c.read-cell.ensures (omega (arith, lt, c.requires.end))
