use Rattle.alma_memory_store.proofs.Layouts.{place-end}
use Rattle.alma_memory_store.proofs.layout.push_copies.Goals as goal

pub push_place-requires-clause-live : goal.push_place-requires-clause-live
push_place-requires-clause-live g c =
    let fits = rw c.in-Place.is at c.requires.fits in
    fits.1.frame

pub push_place-requires-clause-end : goal.push_place-requires-clause-end
push_place-requires-clause-end g c =
    let fits = rw c.in-Place.is at c.requires.fits in
    place-end (g.F.LiveFrames.live c.args.frames.now) c.in-Place.place c.requires.whole fits.1 c.if-place-gt0.true
