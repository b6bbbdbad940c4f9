use Rattle.std.proofs.Common.{◌∙◌, ◌∷◌, ◌++◌, [], ap, refl, sym, arith}
use Rattle.alma_back_tape.specs.declared.change.Change.TheVariants as change
use Rattle.alma_back_tape.specs.declared.journal.Journal.{Journal}
use Rattle.alma_back_tape.specs.Inner.Reel.{no_entry}
use Rattle.alma_back_tape.specs.Inner.Past.{reel_of}
use Rattle.alma_back_tape.proofs.Rooms.{all_finishes_is, same_reel}
use Rattle.alma_back_tape.proofs.Winding.{arrived, front_is, last_is, long_is}
use Rattle.alma_back_tape.proofs.backward.back_dropped.Goals as goal

pub returns-clause-tape : goal.returns-clause-tape
returns-clause-tape c =
    let j = c.args.journal.now in
    let ds = c.pop.new.self in
    let es = c.push_reserved.new.self in
    let e = c.in-Some.entry in
    let j' : Journal = record j { entries = es; dropped = ds } in
    let less = long_is j.dropped.items ds.items e c.in-Some.ensures.items in
    let more = long_is es.items j.entries.items e c.push_reserved.ensures.items in
    let others = all_finishes_is j.dropped.items ds.items e c.in-Some.ensures.items in
    let some = all_finishes_is es.items j.entries.items e c.push_reserved.ensures.items in
    let last = last_is j.dropped.items ds.items e no_entry c.in-Some.ensures.items in
    let rooms = c.requires.rooms in
    record {
      good = (arrived change.Dropped j.changes.items j.changes.items (reel_of j) (reel_of j') tt c.requires.good refl
          (same_reel refl refl (c.push_reserved.ensures.items ∙ ap (λ x. j.entries.items ++ x ∷ []) (sym last)) refl
          (sym (front_is j.dropped.items ds.items e c.in-Some.ensures.items)) refl)).good;
      rooms = record {
        trail = rooms.trail;
        redo = rooms.redo;
        entries = omega (arith, rooms.entries, less, more, c.push_reserved.ensures.capacity);
        dropped = omega (arith, rooms.dropped, less, more, c.in-Some.ensures.capacity);
        changes = omega (arith, rooms.changes, less, more, some, others);
      };
    }
