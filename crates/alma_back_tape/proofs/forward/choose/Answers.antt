use Rattle.std.proofs.Common.{◌-◌, refl, arith}
use Rattle.alma_back_tape.specs.declared.change.Entry.{Entry}
use Rattle.alma_back_tape.specs.declared.journal.Journal.{Journal}
use Rattle.alma_back_tape.specs.Inner.Past.{reel_of}
use Rattle.alma_back_tape.proofs.Winding.{pushed}
use Rattle.alma_back_tape.proofs.Rooms.{pushed_rooms, same_reel}
use Rattle.alma_back_tape.proofs.forward.choose.Goals as goal

pub returns-clause-tape : goal.returns-clause-tape
returns-clause-tape c =
    let j = c.choice_room.new.journal in
    let e : Entry = record { kind = c.args.kind; resume = c.args.resume; mark = c.len-mark.result; carry = c.new-carry.result } in
    let j' : Journal = record j {
      entries = c.push_reserved.new.self;
      changes = c.push_reserved-2.new.self;
      choice_room =
          j.choice_room - 1;
    } in
    record {
      good = (pushed j.changes.items c.push_reserved-2.new.self.items (reel_of j) (reel_of j') e c.choice_room.ensures.rests.tape.good
          c.push_reserved-2.ensures.items
          (same_reel refl refl c.push_reserved.ensures.items refl refl refl) (omega (arith, c.len-mark.ensures, j.trail.ok))).moves.good;
      rooms = pushed_rooms j j' e c.choice_room.ensures.rests.tape.rooms c.in_ok-choice_room.ensures.room refl refl refl
          (omega (arith, c.in_ok-choice_room.ensures.room)) refl
          c.push_reserved.ensures.items c.push_reserved-2.ensures.items c.push_reserved.ensures.capacity c.push_reserved-2.ensures.capacity;
    }
