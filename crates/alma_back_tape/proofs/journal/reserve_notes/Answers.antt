use Rattle.std.proofs.Common.{ap, refl, length, arith}
use Rattle.alma_back_tape.proofs.Rooms.{all_finishes_le, same_reel}
use Rattle.alma_back_tape.proofs.journal.reserve_notes.Goals as goal

pub returns-clause-reserves : goal.returns-clause-reserves
returns-clause-reserves c =
    let j = c.args.journal.now in
    let trail = c.reserve.new.self in
    let redo = c.reserve-2.new.self in
    let changes = c.reserve-3.new.self in
    let notes = ap length c.in_ok-reserve.ensures.items in
    let undone = ap length c.in_ok-reserve-2.ensures.items in
    let done = ap length c.in_ok-reserve-3.ensures.items in
    record {
      reel = same_reel refl c.in_ok-reserve.ensures.items refl c.in_ok-reserve-2.ensures.items refl refl;
      changes = c.in_ok-reserve-3.ensures.items;
      rooms = record {
        trail = omega (arith, trail.ok, notes, undone, c.in_ok-reserve.ensures.ok, c.in_ok-beside_trail.ensures, c.len.ensures, j.redo.ok);
        redo = omega (
          arith,
          redo.ok,
          notes,
          undone,
          c.in_ok-reserve-2.ensures.ok,
          c.in_ok-beside_redo.ensures,
          c.len-2.ensures,
          j.trail.ok,
        );
        entries = c.requires.entries;
        dropped = c.requires.dropped;
        changes = omega (
          arith,
          changes.ok,
          notes,
          done,
          c.in_ok-reserve-3.ensures.ok,
          c.in_ok-changes.ensures,
          all_finishes_le
              j.entries.items,
          all_finishes_le j.dropped.items,
        );
      };
      choice_room = omega arith;
      trail_room = omega (arith, c.if-notes-journal.false);
    }
