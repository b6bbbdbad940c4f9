use Rattle.std.proofs.Common.{◌≡◌, ◌<◌, ◌∙◌, List, ap, sym, subst, length}
use Rattle.alma_code.specs.Picture.{PlainFrame, no_frame}
use Rattle.alma_back_tape.specs.Inner.Reel.{Reel, scene_of}
use Rattle.alma_back_tape.specs.Inner.Past.{reel_of}
use Rattle.std.proofs.Common.{get_or}
use Rattle.alma_back_tape.proofs.Winding.{Notes, wrote}
use Rattle.alma_back_tape.proofs.forward.write.Goals as goal

notes : (c : goal.After-add_note) → Notes c.note_room.new.journal.changes.items c.add_note.new.journal.changes.items
    (reel_of c.note_room.new.journal) (reel_of c.add_note.new.journal)
notes c =
    let j = c.note_room.new.journal in
    let same : j.frames ≡ c.args.journal.now.frames = ap (λ (r : Reel). r.frames) c.note_room.ensures.rests.reel in
    wrote j.changes.items c.add_note.new.journal.changes.items (reel_of j) (reel_of c.add_note.new.journal) c.args.place c.args.cell
    c.cell-old.result c.write.new.self
    c.note_room.ensures.rests.tape.good c.add_note.ensures.changes c.add_note.ensures.reel c.write.ensures c.cell-old.ensures
    (subst (λ (fs : List PlainFrame). c.args.place.frame < length fs) (sym same) c.requires.live)
    (subst (λ (fs : List PlainFrame). c.args.place.slot < length (get_or fs c.args.place.frame no_frame).cells) (sym same)
    c.requires.slot_of)

pub returns-clause-tape : goal.returns-clause-tape
returns-clause-tape c = record { good = (notes c).moves.good; rooms = c.add_note.ensures.rooms }

pub returns-clause-held : goal.returns-clause-held
returns-clause-held c = (notes c).held ∙ ap (λ (r : Reel). (scene_of r).held) c.note_room.ensures.rests.reel

pub returns-clause-past : goal.returns-clause-past
returns-clause-past c = (notes c).moves.past ∙ c.note_room.ensures.rests.past
