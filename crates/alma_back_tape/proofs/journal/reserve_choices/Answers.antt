use Rattle.std.proofs.Common.{ap, refl, length, arith}
use Rattle.alma_back_tape.specs.declared.change.Entry.{Entry}
use Rattle.std.proofs.Common.{List}
use Rattle.alma_back_tape.specs.Inner.Past.{all_finishes}
use Rattle.alma_back_tape.proofs.Rooms.{all_finishes_le, same_reel}
use Rattle.alma_back_tape.proofs.journal.reserve_choices.Goals as goal

pub returns-clause-reserves : goal.returns-clause-reserves
returns-clause-reserves c =
    let j = c.args.journal.now in
    let entries = c.reserve.new.self in
    let dropped = c.reserve-2.new.self in
    let changes = c.reserve-3.new.self in
    let pushed = ap length c.in_ok-reserve.ensures.items in
    let out = ap length c.in_ok-reserve-2.ensures.items in
    let done = ap length c.in_ok-reserve-3.ensures.items in
    let some = ap (λ (es : List Entry). all_finishes es) c.in_ok-reserve.ensures.items in
    let others = ap (λ (es : List Entry). all_finishes es) c.in_ok-reserve-2.ensures.items in
    record {
      reel = same_reel refl refl c.in_ok-reserve.ensures.items refl c.in_ok-reserve-2.ensures.items refl;
      changes = c.in_ok-reserve-3.ensures.items;
      rooms = record {
        trail = c.requires.trail;
        redo = c.requires.redo;
        entries = omega (
          arith,
          entries.ok,
          pushed,
          out,
          c.in_ok-reserve.ensures.ok,
          c.in_ok-beside_entries.ensures,
          c.len.ensures,
          j.dropped.ok,
        );
        dropped = omega (
          arith,
          dropped.ok,
          pushed,
          out,
          c.in_ok-reserve-2.ensures.ok,
          c.in_ok-beside_dropped.ensures,
          c.len-2.ensures,
          j.entries.ok,
        );
        changes = omega (
          arith,
          changes.ok,
          pushed,
          out,
          some,
          others,
          done,
          c.in_ok-reserve-3.ensures.ok,
          c.in_ok-changes.ensures,
          all_finishes_le j.entries.items,
          all_finishes_le j.dropped.items,
        );
      };
      choice_room = omega (arith, c.if-choices-journal.false);
      trail_room = omega arith;
    }
