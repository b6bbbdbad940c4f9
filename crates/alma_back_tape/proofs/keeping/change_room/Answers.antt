use Rattle.std.proofs.Common.{ap, length, arith}
use Rattle.alma_back_tape.proofs.Rooms.{all_finishes_le}
use Rattle.alma_back_tape.proofs.keeping.change_room.Goals as goal

pub returns-clause-room : goal.returns-clause-room
returns-clause-room c =
    let j = c.args.journal.now in
    let rooms = c.requires.rooms in
    let changes = c.reserve.new.self in
    let done = ap length c.in_ok-reserve.ensures.items in
    record {
      trail = rooms.trail;
      redo = rooms.redo;
      entries = rooms.entries;
      dropped = rooms.dropped;
      changes = omega (
        arith,
        changes.ok,
        done,
        c.in_ok-reserve.ensures.ok,
        c.in_ok-due.ensures,
        c.in_ok-sum.ensures,
        all_finishes_le j.entries.items,
        all_finishes_le j.dropped.items,
      );
    }
