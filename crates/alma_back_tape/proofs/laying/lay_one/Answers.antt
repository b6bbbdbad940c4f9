use Rattle.std.proofs.Common.{◌≡◌, true, sym, reverse}
use Rattle.alma_code.specs.Carries.{number_at}
use Rattle.alma_memory_store.proofs.Stores.{number-cell, number-frame}
use Rattle.alma_back_tape.specs.Inner.Past.{reel_of}
use Rattle.alma_back_tape.proofs.Trails.{fits-now}
use Rattle.alma_back_tape.proofs.Winding.{good_wound}
use Rattle.alma_back_tape.proofs.laying.lay_one.Goals as goal

pub write-requires-clause-live : goal.write-requires-clause-live
write-requires-clause-live c =
    let h : number_at c.args.journal.now.frames c.args.place.frame c.args.place.slot ≡ true = sym c.if-has_number.ensures in
    number-frame c.args.journal.now.frames c.args.place.frame c.args.place.slot h

pub write-requires-clause-slot_of : goal.write-requires-clause-slot_of
write-requires-clause-slot_of c =
    let j = c.args.journal.now in
    let h : number_at j.frames c.args.place.frame c.args.place.slot ≡ true = sym c.if-has_number.ensures in
    number-cell j.frames c.args.place.frame c.args.place.slot (fits-now j.trail.items j.frames
    (good_wound (reverse j.changes.items) (reel_of j) c.requires.tape.good).fits).whole h
