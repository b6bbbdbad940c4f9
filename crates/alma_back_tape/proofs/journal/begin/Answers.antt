use Rattle.std.proofs.Common.{◌∙◌, ◌++◌, ◌∷◌, [], ap, arith}
use Rattle.alma_back_tape.specs.declared.change.Change.TheVariants.{Began}
use Rattle.alma_back_tape.specs.Inner.Past.{reel_of}
use Rattle.alma_back_tape.proofs.Rooms.{all_finishes_le}
use Rattle.alma_back_tape.proofs.Winding.{begun}
use Rattle.alma_back_tape.proofs.journal.begin.Goals as goal

pub returns-clause-tape : goal.returns-clause-tape
returns-clause-tape c =
    let j = c.args.journal.now in
    let cs = c.push_reserved.new.self in
    record {
      good = begun j.changes.items cs.items (reel_of j) (c.push_reserved.ensures.items ∙ ap (λ xs. xs ++ Began ∷ [])
          c.in_ok-reserve.ensures.items) c.requires.good;
      rooms = record {
        trail = c.requires.rooms.trail;
        redo = c.requires.rooms.redo;
        entries = c.requires.rooms.entries;
        dropped = c.requires.rooms.dropped;
        changes = omega (
          arith,
          cs.ok,
          c.push_reserved.ensures.len,
          c.push_reserved.ensures.capacity,
          c.in_ok-reserve.ensures.ok,
          c.in_ok-due.ensures,
          c.in_ok-sum.ensures,
          all_finishes_le j.entries.items,
          all_finishes_le j.dropped.items,
        );
      };
    }
