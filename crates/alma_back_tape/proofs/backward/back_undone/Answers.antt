use Rattle.std.proofs.Common.{reverse}
use Rattle.alma_back_tape.specs.Inner.Past.{reel_of}
use Rattle.alma_back_tape.proofs.Winding.{redo_undoes}
use Rattle.alma_back_tape.proofs.backward.back_undone.Goals as goal

pub undo_note-flipped-requires-clause-live : goal.undo_note-flipped-requires-clause-live
undo_note-flipped-requires-clause-live c =
    let j = c.args.journal.now in
    (redo_undoes (reverse j.changes.items) (reel_of j) c.pop.new.self.items c.in-Some.note c.requires.good c.in-Some.ensures.items).1
