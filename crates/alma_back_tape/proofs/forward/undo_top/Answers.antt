use Rattle.std.proofs.Common.{List, refl, subst, length, reverse, arith}
use Rattle.alma_back_tape.specs.declared.journal.Journal.{Journal}
use Rattle.alma_back_tape.specs.Inner.Past.{reel_of}
use Rattle.alma_back_tape.specs.Inner.Past.{Rises}
use Rattle.alma_back_tape.specs.declared.change.Note.{Note}
use Rattle.alma_back_tape.proofs.Winding.{Moves, undone_one, top_undoes, front_is, long_is}
use Rattle.alma_back_tape.proofs.Rooms.{same_reel}
use Rattle.alma_back_tape.proofs.forward.undo_top.Goals as goal

pub undo_note-flipped-requires-clause-live : goal.undo_note-flipped-requires-clause-live
undo_note-flipped-requires-clause-live c =
    (top_undoes (reverse c.args.journal.now.changes.items) (reel_of c.args.journal.now) c.pop.new.self.items c.in-Some.note
    c.requires.tape.good c.in-Some.ensures.items).1

pub undo_note-flipped-requires-clause-undoes : goal.undo_note-flipped-requires-clause-undoes
undo_note-flipped-requires-clause-undoes c =
    (top_undoes (reverse c.args.journal.now.changes.items) (reel_of c.args.journal.now) c.pop.new.self.items c.in-Some.note
    c.requires.tape.good c.in-Some.ensures.items).0

pub undo_note-flipped-requires-clause-after : goal.undo_note-flipped-requires-clause-after
undo_note-flipped-requires-clause-after c =
    (top_undoes (reverse c.args.journal.now.changes.items) (reel_of c.args.journal.now) c.pop.new.self.items c.in-Some.note
    c.requires.tape.good c.in-Some.ensures.items).2

abbrev after : goal.After-push_reserved-2 → Journal
after c =
    record c.args.journal.now {
      frames = c.undo_note-flipped.new.frames;
      trail = c.pop.new.self;
      redo = c.push_reserved.new.self;
      changes = c.push_reserved-2.new.self;
    }

moves : (c : goal.After-push_reserved-2) → Moves c.args.journal.now.changes.items c.push_reserved-2.new.self.items
    (reel_of c.args.journal.now) (reel_of (after c))
moves c =
    let j = c.args.journal.now in
    let ns = c.pop.new.self.items in
    undone_one j.changes.items c.push_reserved-2.new.self.items (reel_of j) (reel_of (after c)) ns c.in-Some.note
    c.undo_note-flipped.new.frames c.undo_note-flipped.result
    c.requires.tape.good c.push_reserved-2.ensures.items c.in-Some.ensures.items c.undo_note-flipped.ensures.frames
    c.undo_note-flipped.ensures.flipped
    (same_reel refl refl refl c.push_reserved.ensures.items refl refl)
    (subst (λ (xs : List Note). Rises 0 j.entries.items (length xs)) (front_is j.trail.items ns c.in-Some.note c.in-Some.ensures.items)
    c.requires.above)

pub returns-clause-tape : goal.returns-clause-tape
returns-clause-tape c =
    let j = c.args.journal.now in
    let trail = c.pop.new.self in
    let redo = c.push_reserved.new.self in
    let cs = c.push_reserved-2.new.self in
    let less = long_is j.trail.items trail.items c.in-Some.note c.in-Some.ensures.items in
    let more = long_is redo.items j.redo.items c.undo_note-flipped.result c.push_reserved.ensures.items in
    let rooms = c.requires.tape.rooms in
    record {
      good = (moves c).good;
      rooms = record {
        trail = omega (arith, rooms.trail, less, more, c.in-Some.ensures.capacity);
        redo = omega (arith, rooms.redo, less, more, c.push_reserved.ensures.capacity);
        entries = rooms.entries;
        dropped = rooms.dropped;
        changes = omega (
          arith,
          rooms.changes,
          less,
          more,
          cs.ok,
          j.changes.ok,
          c.push_reserved-2.ensures.len,
          c.push_reserved-2.ensures.capacity,
        );
      };
    }

pub returns-clause-past : goal.returns-clause-past
returns-clause-past c = (moves c).past
