use Rattle.std.proofs.Common.{◌≡◌, ◌∙◌, ap, refl, sym, arith}
use Rattle.alma_back_tape.specs.declared.change.Entry.{Entry}
use Rattle.alma_back_tape.specs.declared.journal.Journal.{Journal}
use Rattle.alma_back_tape.specs.Inner.Past.{reel_of}
use Rattle.alma_code.specs.declared.cell.ChoiceKind.TheVariants as choice
use Rattle.alma_back_tape.specs.Inner.Past.{finishes}
use Rattle.alma_back_tape.specs.Inner.Reel.{no_entry}
use Rattle.alma_back_tape.proofs.Winding.{finished_one, last_is, long_is}
use Rattle.alma_back_tape.proofs.Rooms.{all_finishes_is, same_reel}
use Rattle.alma_back_tape.proofs.forward.finish_top.Goals as goal

pub returns-clause-tape : goal.returns-clause-tape
returns-clause-tape c =
    let j = c.args.journal.now in
    let e = c.in-Some.entry in
    let rest = c.pop.new.self in
    let es = c.push_reserved.new.self in
    let cs = c.push_reserved-2.new.self in
    let d : Entry = record e { kind = choice.Done } in
    let j' : Journal = record j { entries = es; changes = cs } in
    let was = last_is j.entries.items rest.items e no_entry c.in-Some.ensures.items in
    let forall : e.kind ≡ choice.Forall = ap (λ (x : Entry). x.kind) (sym was) ∙ c.requires.forall in
    let less = long_is j.entries.items rest.items e c.in-Some.ensures.items in
    let more = long_is es.items rest.items d c.push_reserved.ensures.items in
    let some = all_finishes_is j.entries.items rest.items e c.in-Some.ensures.items in
    let others = all_finishes_is es.items rest.items d c.push_reserved.ensures.items in
    let one : finishes e.kind ≡ 1 = ap finishes forall in
    let rooms = c.requires.tape.rooms in
    record {
      good = (finished_one j.changes.items cs.items (reel_of j) (reel_of j') rest.items e c.requires.tape.good
          c.push_reserved-2.ensures.items c.in-Some.ensures.items
          forall (same_reel refl refl c.push_reserved.ensures.items refl refl refl)).good;
      rooms = record {
        trail = rooms.trail;
        redo = rooms.redo;
        entries = omega (arith, rooms.entries, less, more, c.in-Some.ensures.capacity, c.push_reserved.ensures.capacity);
        dropped = omega (arith, rooms.dropped, less, more);
        changes = omega (
          arith,
          rooms.changes,
          less,
          more,
          some,
          others,
          one,
          cs.ok,
          j.changes.ok,
          c.push_reserved-2.ensures.len,
          c.push_reserved-2.ensures.capacity,
        );
      };
    }
