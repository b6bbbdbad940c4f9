use Rattle.std.proofs.Common.{◌∷◌}
use Rattle.alma_back_tape.specs.declared.change.Change.TheVariants as change
use Rattle.alma_back_tape.specs.Inner.Past.{reel_of}
use Rattle.std.proofs.Common.{reverse}
use Rattle.alma_back_tape.proofs.Winding.{top_undoes}
use Rattle.alma_back_tape.proofs.backward.back_noted.Goals as goal

pub undo_note-requires-clause-live : goal.undo_note-requires-clause-live
undo_note-requires-clause-live c =
    let j = c.args.journal.now in
    (top_undoes (change.Noted ∷ reverse j.changes.items) (reel_of j) c.pop.new.self.items c.in-Some.note c.requires.good
    c.in-Some.ensures.items).1

pub undo_note-requires-clause-undoes : goal.undo_note-requires-clause-undoes
undo_note-requires-clause-undoes c =
    let j = c.args.journal.now in
    (top_undoes (change.Noted ∷ reverse j.changes.items) (reel_of j) c.pop.new.self.items c.in-Some.note c.requires.good
    c.in-Some.ensures.items).0

pub undo_note-requires-clause-after : goal.undo_note-requires-clause-after
undo_note-requires-clause-after c =
    let j = c.args.journal.now in
    (top_undoes (change.Noted ∷ reverse j.changes.items) (reel_of j) c.pop.new.self.items c.in-Some.note c.requires.good
    c.in-Some.ensures.items).2
