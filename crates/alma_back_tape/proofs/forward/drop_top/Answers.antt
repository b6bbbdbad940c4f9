use Rattle.std.proofs.Common.{ap, refl, length, arith}
use Rattle.alma_back_tape.specs.declared.journal.Journal.{Journal}
use Rattle.alma_back_tape.specs.Inner.Past.{reel_of}
use Rattle.alma_back_tape.proofs.Winding.{dropped_one, long_is}
use Rattle.alma_back_tape.proofs.Rooms.{all_finishes_is, same_reel}
use Rattle.alma_back_tape.proofs.forward.drop_top.Goals as goal

pub returns-clause-tape : goal.returns-clause-tape
returns-clause-tape c =
    let j = c.args.journal.now in
    let e = c.in-Some.entry in
    let es = c.pop.new.self in
    let ds = c.push_reserved.new.self in
    let cs = c.push_reserved-2.new.self in
    let j' : Journal = record j { entries = es; dropped = ds; changes = cs } in
    let less = long_is j.entries.items es.items e c.in-Some.ensures.items in
    let more = long_is ds.items j.dropped.items e c.push_reserved.ensures.items in
    let done = ap length c.push_reserved-2.ensures.items in
    let some = all_finishes_is j.entries.items es.items e c.in-Some.ensures.items in
    let others = all_finishes_is ds.items j.dropped.items e c.push_reserved.ensures.items in
    let rooms = c.requires.tape.rooms in
    record {
      good = (dropped_one j.changes.items cs.items (reel_of j) (reel_of j') es.items e c.requires.tape.good
          c.push_reserved-2.ensures.items c.in-Some.ensures.items
          (same_reel refl refl refl refl c.push_reserved.ensures.items refl)).good;
      rooms = record {
        trail = rooms.trail;
        redo = rooms.redo;
        entries = omega (arith, rooms.entries, less, more, c.in-Some.ensures.capacity);
        dropped = omega (arith, rooms.dropped, less, more, c.push_reserved.ensures.capacity);
        changes = omega (
          arith,
          rooms.changes,
          less,
          more,
          some,
          others,
          cs.ok,
          j.changes.ok,
          c.push_reserved-2.ensures.len,
          c.push_reserved-2.ensures.capacity,
        );
      };
    }
