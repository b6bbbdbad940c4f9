use Rattle.std.proofs.Common.{◌∙◌, ap, get_or, refl, sym, arith}
use Rattle.alma_back_tape.specs.declared.change.Change.TheVariants as change
use Rattle.alma_back_tape.specs.declared.journal.Journal.{Journal}
use Rattle.alma_back_tape.specs.Inner.Reel.{entries_without, no_entry, no_gain, without_gain}
use Rattle.alma_back_tape.specs.Inner.Past.{all_finishes, reel_of}
use Rattle.alma_back_tape.proofs.Gaining.{finishes_set}
use Rattle.alma_back_tape.proofs.Rooms.{same_reel}
use Rattle.alma_back_tape.proofs.Winding.{arrived, front_is, last_is}
use Rattle.alma_back_tape.proofs.backward.back_kept.Goals as goal

pub returns-clause-tape : goal.returns-clause-tape
returns-clause-tape c =
    let j = c.args.journal.now in
    let g = c.in-Some.gain in
    let es = j.entries.items in
    let j' : Journal = record j { entries = c.lose.new.entries; kept = c.pop.new.self } in
    let rooms = c.requires.rooms in
    let last = last_is j.kept.items c.pop.new.self.items g no_gain c.in-Some.ensures.items in
    let finishes = ap all_finishes c.lose.ensures.items ∙ finishes_set es g.at (without_gain g (get_or es g.at no_entry)) no_entry refl in
    record {
      good = (arrived change.Kept j.changes.items j.changes.items (reel_of j) (reel_of j') tt c.requires.good refl
          (same_reel refl refl (c.lose.ensures.items ∙ ap (λ x. entries_without x es) (sym last)) refl refl
          (sym (front_is j.kept.items c.pop.new.self.items g c.in-Some.ensures.items)))).good;
      rooms = record {
        trail = rooms.trail;
        redo = rooms.redo;
        entries = omega (arith, rooms.entries, c.lose.ensures.len, c.lose.ensures.capacity, j.entries.ok, c.lose.new.entries.ok);
        dropped = omega (arith, rooms.dropped, c.lose.ensures.len, j.entries.ok, c.lose.new.entries.ok);
        changes = omega (arith, rooms.changes, finishes, c.lose.ensures.len, j.entries.ok, c.lose.new.entries.ok);
      };
    }
