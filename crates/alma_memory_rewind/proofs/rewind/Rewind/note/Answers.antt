use Rattle.std.proofs.Common.{◌≡◌, ◌-◌, length, ap, refl, ◌∙◌, true, arith}
use Rattle.std.specs.Prelude.{vec_len, vec_capacity}
use Rattle.std.proofs.lemmas.Bool.{false≢true}
use Rattle.alma_memory_rewind.specs.PlainRewind.{PlainRewind}
use Rattle.alma_memory_rewind.specs.Trail.{held_of, noted_to}
use Rattle.alma_memory_rewind.proofs.Changes.{free-read}
use Rattle.alma_memory_rewind.proofs.rewind.Rewind.note.Goals as goal

pub returns-in_err-room_for_note-clause-free : goal.returns-in_err-room_for_note-clause-free
returns-in_err-room_for_note-clause-free g c = λ h.
    let marks = c.self.inside.marks.items in
    let stamps = c.self.inside.stamps.items in
    let vn : noted_to marks (length c.self.inside.items.items) stamps ≡ c.args.self.now.noted =
    ap (λ (p : PlainRewind g.row.T.Denot). p.noted) c.self.view_is in
    let f = free-read marks c.as_slice.result.now (length c.self.inside.items.items) stamps c.args.at c.index.result.now
    c.as_slice.ensures.value c.index.ensures (rw vn h) in
    absurd (false≢true (c.in_err-room_for_note.ensures.free (c.needs_no_note-free.ensures ∙ f)).0)

pub invariant_of-self-2 : goal.invariant_of-self-2
invariant_of-self-2 g c =
    let s = c.note_old.ensures.keeps c.self.inside.counter in
    let t = rw (c.as_slice-2.ensures.value, c.as_slice-3.ensures.value, c.room_for_note.ensures.trail) at s in
    ((t (c.self.invariant.0)).sound, c.self.invariant.1)

pub returns-clause-free : goal.returns-clause-free
returns-clause-free g c = λ h.
    let marks = c.self.inside.marks.items in
    let stamps = c.self.inside.stamps.items in
    let vn : noted_to marks (length c.self.inside.items.items) stamps ≡ c.args.self.now.noted =
    ap (λ (p : PlainRewind g.row.T.Denot). p.noted) c.self.view_is in
    let f = free-read marks c.as_slice.result.now (length c.self.inside.items.items) stamps c.args.at c.index.result.now
    c.as_slice.ensures.value c.index.ensures (rw vn h) in
    let fr : c.needs_no_note-free.result ≡ true = c.needs_no_note-free.ensures ∙ f in
    let kept = c.room_for_note.ensures.free fr in
    let len = rw fr at c.note_old.ensures.len in
    let room : vec_capacity c.self.inside.trail - vec_len c.self.inside.trail ≡ c.args.self.now.trail_room =
    ap (λ (p : PlainRewind g.row.T.Denot). p.trail_room) c.self.view_is in
    (refl, omega (arith, kept.1, len, c.room_for_note.ensures.len, c.note_old.ensures.capacity, room))

pub returns-clause-held : goal.returns-clause-held
returns-clause-held g c =
    let s = c.note_old.ensures.keeps c.self.inside.counter in
    let t = rw (c.as_slice-2.ensures.value, c.as_slice-3.ensures.value, c.room_for_note.ensures.trail) at s in
    let k = (t (c.self.invariant.0)).held in
    let vh : held_of c.self.inside.trail.items c.self.inside.items.items c.self.inside.marks.items ≡ c.args.self.now.held =
    ap (λ (p : PlainRewind g.row.T.Denot). p.held) c.self.view_is in
    k ∙ vh
