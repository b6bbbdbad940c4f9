use Rattle.std.proofs.Common.{refl, sym, arith}
use Rattle.alma_back_tape.specs.declared.change.Change.TheVariants as change
use Rattle.alma_back_tape.specs.declared.journal.Journal.{Journal}
use Rattle.alma_back_tape.specs.Inner.Past.{reel_of}
use Rattle.alma_back_tape.proofs.Rooms.{all_finishes_is, same_reel}
use Rattle.alma_back_tape.proofs.Winding.{arrived, front_is, long_is}
use Rattle.alma_back_tape.proofs.backward.back_pushed.Goals as goal

pub returns-clause-tape : goal.returns-clause-tape
returns-clause-tape c =
    let j = c.args.journal.now in
    let es = c.pop.new.self in
    let e = c.in-Some._entry in
    let j' : Journal = record j { entries = es } in
    let less = long_is j.entries.items es.items e c.in-Some.ensures.items in
    let some = all_finishes_is j.entries.items es.items e c.in-Some.ensures.items in
    let rooms = c.requires.rooms in
    record {
      good = (arrived change.Pushed j.changes.items j.changes.items (reel_of j) (reel_of j') tt c.requires.good refl
          (same_reel refl refl (sym (front_is j.entries.items es.items e c.in-Some.ensures.items)) refl refl refl)).good;
      rooms = record {
        trail = rooms.trail;
        redo = rooms.redo;
        entries = omega (arith, rooms.entries, less, c.in-Some.ensures.capacity);
        dropped = omega (arith, rooms.dropped, less);
        changes = omega (arith, rooms.changes, less, some);
      };
    }
