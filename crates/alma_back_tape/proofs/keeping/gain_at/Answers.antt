use Rattle.std.proofs.Common.{◌≡◌, ◌<◌, ◌∙◌, ◌++◌, ◌∷◌, [], ap, refl, length, get_or, arith}
use Rattle.alma_memory_store.specs.Carries.{carry_of_entries}
use Rattle.alma_back_tape.specs.declared.journal.Journal.{Journal}
use Rattle.alma_back_tape.specs.Inner.Keeping.{entry_with_changes, gain_of}
use Rattle.alma_back_tape.specs.Inner.Past.{all_finishes, reel_of}
use Rattle.alma_back_tape.specs.Inner.Reel.{Reel, no_entry}
use Rattle.alma_back_tape.proofs.Gaining.{kept_one, finishes_set}
use Rattle.alma_back_tape.proofs.Rooms.{same_reel}
use Rattle.alma_back_tape.proofs.keeping.gain_at.Goals as goal

pub returns-clause-tape : goal.returns-clause-tape
returns-clause-tape c =
    let j = c.change_room.new.journal in
    let at = c.args.at in
    let places = c.args.places.items in
    let j' : Journal = record j { entries = c.gain.new.entries; kept = c.push_reserved.new.self; changes = c.push_reserved-2.new.self } in
    let rests = c.change_room.ensures.rests in
    let rooms = c.in_ok-change_room.ensures.room in
    let lt : at < length j.entries.items = omega (arith, c.requires.at, ap (λ (r : Reel). length r.entries) rests.reel) in
    let kept : j'.kept.items ≡ j.kept.items ++ gain_of at places j.entries.items ∷ [] =
    c.push_reserved.ensures.items ∙ ap (λ x. c.reserve.new.self.items ++ x ∷ []) c.in_ok-gain.ensures.gain
    ∙ ap (λ xs. xs ++ gain_of at places j.entries.items ∷ []) c.in_ok-reserve.ensures.items in
    let more = ap length c.push_reserved-2.ensures.items in
    let finishes = ap all_finishes c.in_ok-gain.ensures.items
    ∙ finishes_set j.entries.items at (entry_with_changes (get_or j.entries.items at no_entry) (carry_of_entries places)) no_entry refl in
    record {
      good = (kept_one j.changes.items j'.changes.items (reel_of j) (reel_of j') at places rests.tape.good
          c.push_reserved-2.ensures.items lt c.in_ok-gain.ensures.rising
          (same_reel refl refl c.in_ok-gain.ensures.items refl refl kept)).good;
      rooms = record {
        trail = rooms.trail;
        redo = rooms.redo;
        entries = omega (arith, rooms.entries, c.gain.ensures.len, c.gain.ensures.capacity, j.entries.ok, c.gain.new.entries.ok);
        dropped = omega (arith, rooms.dropped, c.gain.ensures.len, j.entries.ok, c.gain.new.entries.ok);
        changes = omega (
          arith,
          rooms.changes,
          finishes,
          c.gain.ensures.len,
          j.entries.ok,
          c.gain.new.entries.ok,
          j.changes.ok,
          j'.changes.ok,
          c.push_reserved-2.ensures.len,
          c.push_reserved-2.ensures.capacity,
        );
      };
    }

pub returns-clause-past : goal.returns-clause-past
returns-clause-past c =
    let j = c.change_room.new.journal in
    let at = c.args.at in
    let places = c.args.places.items in
    let j' : Journal = record j { entries = c.gain.new.entries; kept = c.push_reserved.new.self; changes = c.push_reserved-2.new.self } in
    let rests = c.change_room.ensures.rests in
    let lt : at < length j.entries.items = omega (arith, c.requires.at, ap (λ (r : Reel). length r.entries) rests.reel) in
    let kept : j'.kept.items ≡ j.kept.items ++ gain_of at places j.entries.items ∷ [] =
    c.push_reserved.ensures.items ∙ ap (λ x. c.reserve.new.self.items ++ x ∷ []) c.in_ok-gain.ensures.gain
    ∙ ap (λ xs. xs ++ gain_of at places j.entries.items ∷ []) c.in_ok-reserve.ensures.items in
    (kept_one j.changes.items j'.changes.items (reel_of j) (reel_of j') at places rests.tape.good c.push_reserved-2.ensures.items lt
    c.in_ok-gain.ensures.rising
    (same_reel refl refl c.in_ok-gain.ensures.items refl refl kept)).past ∙ rests.past
