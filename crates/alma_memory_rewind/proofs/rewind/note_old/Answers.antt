use Rattle.std.proofs.Common.{◌≡◌, ◌<◌, length, get_or, refl, sym, ◌∙◌, true, false}
use Rattle.alma_memory_rewind.specs.Trail.{is_free, last_mark}
use Rattle.alma_memory_rewind.proofs.Changes.{note-stays, adds-set, adds-free, free-new}
use Rattle.alma_memory_rewind.proofs.rewind.note_old.Goals as goal

pub returns-then-not-free-clause-keeps : goal.returns-then-not-free-clause-keeps
returns-then-not-free-clause-keeps g c = λ counter s.
    let l : c.args.at < length c.args.stamps.now.items = c.requires.wide in
    let f : is_free c.args.marks.now c.args.at (get_or c.args.stamps.now.items c.args.at 0) ≡ false = sym c.requires.free
    ∙ c.if-not-free.true in
    rw (c.add_note.ensures.trail, c.add_note.ensures.stamps, c.top_serial.ensures)
    (note-stays c.args.marks.now c.args.trail.now.items c.args.items.now c.args.stamps.now.items counter c.args.at
    c.index-items-at.result f l c.index-items-at.is s)

pub returns-then-not-free-clause-noted : goal.returns-then-not-free-clause-noted
returns-then-not-free-clause-noted g c =
    let l : c.args.at < length c.args.stamps.now.items = c.requires.wide in
    rw (c.add_note.ensures.stamps, c.top_serial.ensures)
    (adds-set c.args.marks.now (length c.args.items.now) c.args.stamps.now.items c.args.at (last_mark c.args.marks.now).serial
    c.requires.inside l
    (free-new c.args.marks.now c.args.at))

pub returns-else-not-free-clause-keeps : goal.returns-else-not-free-clause-keeps
returns-else-not-free-clause-keeps g c = λ counter s.
    record { held = refl; sound = s }

pub returns-else-not-free-clause-noted : goal.returns-else-not-free-clause-noted
returns-else-not-free-clause-noted g c =
    let l : c.args.at < length c.args.stamps.now.items = c.requires.wide in
    let f : is_free c.args.marks.now c.args.at (get_or c.args.stamps.now.items c.args.at 0) ≡ true = sym c.requires.free
    ∙ c.if-not-free.false in
    adds-free c.args.marks.now (length c.args.items.now) c.args.stamps.now.items c.args.at c.requires.inside l f
