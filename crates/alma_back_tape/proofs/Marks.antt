-- Lemmas on the notes above a mark.
use Rattle.std.proofs.Common.{◌≡◌, ℕ, ◌≤◌, ◌<◌, ◌+◌, ◌-◌, List, [], ◌∷◌, length, drop, get_or, suc, zero, sym, ap, ◌∙◌, arith}
use Rattle.std.proofs.lemmas.List.{drop_more}
use Rattle.alma_code.specs.Picture.{PlainFrame}
use Rattle.alma_memory_store.specs.Frames.{AreLive}
use Rattle.alma_back_tape.specs.Inner.Past.{Fits, Rises, Undoes}
use Rattle.alma_back_tape.specs.Inner.Reel.{undo, unwind}
use Rattle.alma_back_tape.specs.declared.change.Note.{Note}
use Rattle.alma_back_tape.specs.declared.change.Entry.{Entry}
use Rattle.alma_back_tape.proofs.Trails.{rises-le}

-- the notes above a mark fit
pub fits-drop : (k : ℕ) (ns : List Note) (fs : List PlainFrame) → Fits ns fs → Fits (drop k ns) fs
fits-drop zero ns fs h = h
fits-drop (suc k) [] fs h = h
fits-drop (suc k) (n ∷ ns) fs h = fits-drop k ns fs h.0

-- the frames from before notes that fit may be live
pub fits-unwound : (ns : List Note) (fs : List PlainFrame) → Fits ns fs → AreLive (unwind ns fs)
fits-unwound [] fs h = h
fits-unwound (n ∷ ns) fs h = h.2

-- a note can be undone after those above it
fits-at : (k : ℕ) (ns : List Note) (n : Note) (fs : List PlainFrame) → Fits ns fs → k < length ns → n ≡ get_or ns k n →
    Undoes n (unwind (drop (k + 1) ns) fs) × (unwind (drop k ns) fs ≡ undo n (unwind (drop (k + 1) ns) fs))
fits-at k ns n fs h l e =
    let split : drop k ns ≡ n ∷ drop (k + 1) ns = drop_more ns k n l ∙ ap (λ m. m ∷ drop (k + 1) ns) (sym e) in
    let f : Fits (n ∷ drop (k + 1) ns) fs = rw split at (fits-drop k ns fs h) in
    (f.1, ap (λ ms. unwind ms fs) split)

-- a note below those that are undone
pub note-at : (left : ℕ) (ns : List Note) (n : Note) (fs before : List PlainFrame) → Fits ns fs → 1 ≤ left → left ≤ length ns
    → n ≡ get_or ns (left - 1) n →
    before ≡ unwind (drop left ns) fs → Undoes n before × AreLive (undo n before) × (undo n before ≡ unwind (drop (left - 1) ns) fs)
note-at left ns n fs before h l m e p =
    let up : left - 1 + 1 ≡ left = omega arith in
    let at = fits-at (left - 1) ns n fs h (omega arith) e in
    let same : before ≡ unwind (drop (left - 1 + 1) ns) fs = rw up p in
    let whole : unwind (drop (left - 1) ns) fs ≡ undo n before = at.1 ∙ ap (undo n) (sym same) in
    let live = fits-unwound (drop (left - 1) ns) fs (fits-drop (left - 1) ns fs h) in
    (rw same at.0, rw (← whole) live, sym whole)

-- a mark is within the trail
pub mark-at : (low top : ℕ) (es : List Entry) (i : ℕ) (d : Entry) → Rises low es top → i < length es → (get_or es i d).mark ≤ top
mark-at low top [] i d r l = absurd (omega arith)
mark-at low top (e ∷ es) zero d r l = rises-le e.mark top es r.1
mark-at low top (e ∷ es) (suc i) d r l = mark-at e.mark top es i d r.1 (omega arith)
