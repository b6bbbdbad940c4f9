-- Lemmas on the trail: notes that are added and undone leave each whole copy as it was.
use Rattle.std.specs.Prelude.{Some, None, slice_get}
use Rattle.std.proofs.Common.{◌≡◌, ℕ, ◌≤◌, ◌<◌, ◌+◌, ◌-◌, List, [], ◌∷◌, ◌++◌, length, take, drop, map, get_or, suc, zero, refl, sym, ap}
use Rattle.std.proofs.Common.{◌∙◌, arith}
use Rattle.std.proofs.lemmas.List.{map-append, get_or_at, take_at, drop_all, take-map, length-take-le, length_push, length-set}
use Rattle.std.proofs.lemmas.List.{get_or-set_same, drop-append-le, take-append-drop, append-nil, take-append-le}
use Rattle.alma_code.specs.declared.cell.Cell.{Cell}
use Rattle.alma_code.specs.declared.cell.ChoiceKind.{ChoiceKind}
use Rattle.alma_code.specs.declared.cell.ChoiceKind.TheVariants.{Branch, Forall, Body, Done}
use Rattle.alma_code.specs.Picture.{PlainFrame, PlainEntry, no_frame, no_entry, frame_with, frames_with_cell, top_of, kind_at}
use Rattle.alma_code.specs.Picture.{stack_after_pop, entry_after_pop, entry_of_kind_after_pop}
use Rattle.alma_memory_store.specs.declared.carry.SlotPlace.{SlotPlace}
use Rattle.alma_memory_store.specs.Frames.{AreLive}
use Rattle.alma_back_tape.specs.declared.change.Note.{Note}
use Rattle.alma_back_tape.specs.declared.change.Note.TheVariants.{Wrote}
use Rattle.alma_back_tape.specs.declared.change.Entry.{Entry}
use Rattle.alma_back_tape.specs.Inner.Reel.{undo, unwind, entry_of, held_of, stays, stays_as}
use Rattle.alma_back_tape.specs.Inner.Past.{Undoes, Fits, Rises}

-- ---- notes

-- notes are undone from the last
pub unwind-append : (ms ns : List Note) (fs : List PlainFrame) → unwind (ms ++ ns) fs ≡ unwind ms (unwind ns fs)
unwind-append [] ns fs = refl
unwind-append (m ∷ ms) ns fs = ap (undo m) (unwind-append ms ns fs)

-- the last note is undone first
pub unwind-push : (ns : List Note) (n : Note) (fs : List PlainFrame) → unwind (ns ++ n ∷ []) fs ≡ unwind ns (undo n fs)
unwind-push ns n fs = unwind-append ns (n ∷ []) fs

-- the frames of now may be live
pub fits-now : (ns : List Note) (fs : List PlainFrame) → Fits ns fs → AreLive fs
fits-now [] fs h = h
fits-now (n ∷ ns) fs h = fits-now ns fs h.0

-- one more note fits
pub fits-push : (ns : List Note) (n : Note) (fs : List PlainFrame) → Fits ns (undo n fs) → Undoes n fs → AreLive fs → Fits (ns ++ n ∷ []) fs
fits-push [] n fs h u s = (s, u, h)
fits-push (m ∷ ns) n fs h u s =
    (fits-push ns n fs h.0 u s, rw (unwind-push ns n fs) h.1, rw (unwind-push ns n fs) h.2)

-- a note that fits can be undone
pub fits-pop : (ns : List Note) (n : Note) (fs : List PlainFrame) → Fits (ns ++ n ∷ []) fs → Fits ns (undo n fs) × Undoes n fs × AreLive fs
fits-pop [] n fs h = (h.2, h.1, h.0)
fits-pop (m ∷ ns) n fs h =
    let r = fits-pop ns n fs h.0 in ((r.0, rw (unwind-push ns n fs) at h.1, rw (unwind-push ns n fs) at h.2), r.1, r.2)

-- ---- marks

-- the marks lie between low and top
pub rises-le : (low top : ℕ) (es : List Entry) → Rises low es top → low ≤ top
rises-le low top [] h = h
rises-le low top (e ∷ es) h = let r : e.mark ≤ top = rises-le e.mark top es h.1 in omega (arith, h.0)

-- the notes may get more
pub rises-more : (low top up : ℕ) (es : List Entry) → Rises low es top → top ≤ up → Rises low es up
rises-more low top up [] h l = omega arith
rises-more low top up (e ∷ es) h l = (h.0, rises-more e.mark top up es h.1 l)

-- one more entry
pub rises-push : (low top : ℕ) (es : List Entry) (e : Entry) → Rises low es e.mark → e.mark ≤ top → Rises low (es ++ e ∷ []) top
rises-push low top [] e h l = (h, l)
rises-push low top (d ∷ es) e h l = (h.0, rises-push d.mark top es e h.1 l)

-- one entry less
pub rises-pop : (low top : ℕ) (es : List Entry) (e : Entry) → Rises low (es ++ e ∷ []) top → Rises low es e.mark × (e.mark ≤ top)
rises-pop low top [] e h = (h.0, h.1)
rises-pop low top (d ∷ es) e h = let r = rises-pop d.mark top es e h.1 in ((h.0, r.0), r.1)

-- some of the entries
pub rises-take : (h low top : ℕ) (es : List Entry) → Rises low es top → Rises low (take h es) top
rises-take zero low top es r = rises-le low top es r
rises-take (suc h) low top [] r = r
rises-take (suc h) low top (e ∷ es) r = (r.0, rises-take h e.mark top es r.1)

-- ---- copies

-- an entry below a mark sees the same copy, whether the notes above the mark are still there or undone
pub entry-unwound : (m : ℕ) (trail : List Note) (fs : List PlainFrame) (e : Entry) → e.mark ≤ m → m ≤ length trail →
    entry_of (take m trail) (unwind (drop m trail) fs) e ≡ entry_of trail fs e
entry-unwound m trail fs e l k =
    let le : e.mark ≤ length (take m trail) = rw (length-take-le m trail k) l in
    let split : drop e.mark (take m trail) ++ drop m trail ≡ drop e.mark trail =
    sym (drop-append-le e.mark (take m trail) (drop m trail) le) ∙ ap (drop e.mark) (take-append-drop m trail) in
    ap (λ gs. record { kind = e.kind; resume = e.resume; frames = gs; carry = e.carry })
    (sym (unwind-append (drop e.mark (take m trail)) (drop m trail) fs) ∙ ap (λ ns. unwind ns fs) split)

-- entries below a mark see the same copies, whether the notes above the mark are still there or undone
pub held-unwound : (m low : ℕ) (trail : List Note) (fs : List PlainFrame) (es : List Entry) → Rises low es m → m ≤ length trail →
    held_of (take m trail) (unwind (drop m trail) fs) es ≡ held_of trail fs es
held-unwound m low trail fs [] r k = refl
held-unwound m low trail fs (e ∷ es) r k =
    let l : e.mark ≤ m = rises-le e.mark m es r.1 in
    let one = entry-unwound m trail fs e l k in
    let rest = held-unwound m e.mark trail fs es r.1 k in
    cc

-- a note that is added leaves each copy as it was
pub held-push : (low top : ℕ) (trail : List Note) (n : Note) (fs : List PlainFrame) (es : List Entry) → Rises low es top
    → top ≤ length trail →
    held_of (trail ++ n ∷ []) fs es ≡ held_of trail (undo n fs) es
held-push low top trail n fs [] r k = refl
held-push low top trail n fs (e ∷ es) r k =
    let l : e.mark ≤ top = rises-le e.mark top es r.1 in
    let le : e.mark ≤ length trail = omega arith in
    let one : unwind (drop e.mark (trail ++ n ∷ [])) fs ≡ unwind (drop e.mark trail) (undo n fs) =
    ap (λ ns. unwind ns fs) (drop-append-le e.mark trail (n ∷ []) le) ∙ unwind-push (drop e.mark trail) n fs in
    let rest = held-push e.mark top trail n fs es r.1 k in
    cc

-- a note can be undone after its write
pub undoes-written : (fs : List PlainFrame) (p : SlotPlace) (c old : Cell) → p.frame < length fs →
    p.slot < length (get_or fs p.frame no_frame).cells → Undoes (Wrote p old) (frames_with_cell fs p.frame p.slot c)
undoes-written fs p c old l k =
    let g : PlainFrame = frame_with (get_or fs p.frame no_frame) p.slot c in
    let wide : length (frames_with_cell fs p.frame p.slot c) ≡ length fs = length-set fs p.frame g in
    let same : get_or (frames_with_cell fs p.frame p.slot c) p.frame no_frame ≡ g = get_or-set_same fs p.frame g no_frame l in
    let cells : length (get_or (frames_with_cell fs p.frame p.slot c) p.frame no_frame).cells ≡ length (get_or fs p.frame no_frame).cells =
    ap (λ (h : PlainFrame). length h.cells) same ∙ length-set (get_or fs p.frame no_frame).cells p.slot c in
    (omega (arith, wide, l), omega (arith, cells, k))

-- ---- entries that are dropped

-- the entries below a height
pub cut-held : (h : ℕ) (trail : List Note) (fs : List PlainFrame) (es es' : List Entry) → es' ≡ take h es →
    held_of trail fs es' ≡ take h (held_of trail fs es)
cut-held h trail fs es es' p = ap (held_of trail fs) p ∙ sym (take-map (entry_of trail fs) h es)

-- a stack with a top entry
pub top-push : (es : List PlainEntry) (e : PlainEntry) → top_of (es ++ e ∷ []) ≡ e
top-push es e =
    let n : length (es ++ e ∷ []) - 1 ≡ length es = rw (length_push es e) (omega arith) in
    ap (λ k. get_or (es ++ e ∷ []) k no_entry) n ∙ get_or_at es e [] no_entry (length es) refl

-- a pop of a stack with a top entry
pub stack_after_pop-push : (es : List PlainEntry) (e : PlainEntry) → stack_after_pop (es ++ e ∷ []) ≡ es ++ entry_after_pop e
stack_after_pop-push es e =
    let n : length (es ++ e ∷ []) - 1 ≡ length es = rw (length_push es e) (omega arith) in
    let below : take (length (es ++ e ∷ []) - 1) (es ++ e ∷ []) ≡ es =
    ap (λ k. take k (es ++ e ∷ [])) n ∙ take_at es (e ∷ []) (length es) refl in
    ap (λ xs. xs ++ entry_after_pop (top_of (es ++ e ∷ []))) below ∙ ap (λ x. es ++ entry_after_pop x) (top-push es e)

-- the top of the stack is the last entry with its copy
pub top-held : (es : List Entry) (e : Entry) (trail : List Note) (fs : List PlainFrame)
    → top_of (held_of trail fs (es ++ e ∷ [])) ≡ entry_of trail fs e
top-held es e trail fs = ap top_of (map-append (entry_of trail fs) es (e ∷ [])) ∙ top-push (held_of trail fs es) (entry_of trail fs e)

-- at its own mark an entry sees the frames themselves
pub entry-at-mark : (e : Entry) (trail : List Note) (fs : List PlainFrame) → e.mark ≤ length trail →
    unwind (drop e.mark (take e.mark trail)) fs ≡ fs
entry-at-mark e trail fs l =
    let le : length (take e.mark trail) ≤ e.mark = rw (length-take-le e.mark trail l) (omega arith) in
    ap (λ ns. unwind ns fs) (drop_all e.mark (take e.mark trail) le)

-- what stays of an entry has its copy
pub stays-held : (k : ChoiceKind) (e : Entry) (trail : List Note) (fs : List PlainFrame) → e.mark ≤ length trail →
    held_of (take e.mark trail) (unwind (drop e.mark trail) fs) (stays_as k e) ≡ entry_of_kind_after_pop k (entry_of trail fs e)
stays-held Forall e trail fs l =
    ap (λ gs. record { kind = Done; resume = e.resume; frames = gs; carry = e.carry } ∷ [])
    (entry-at-mark e trail (unwind (drop e.mark trail) fs) l)
stays-held Branch e trail fs l = refl
stays-held Body e trail fs l = refl
stays-held Done e trail fs l = refl

-- what stays of an entry has its mark
pub stays-rises : (k : ChoiceKind) (es : List Entry) (e : Entry) (n : ℕ) → Rises 0 es e.mark → e.mark ≡ n → Rises 0 (es ++ stays_as k e) n
stays-rises Forall es e n r q = rises-push 0 n es (record e { kind = Done }) r (omega (arith, q))
stays-rises Branch es e n r q = rw append-nil (rw (← q) r)
stays-rises Body es e n r q = rw append-nil (rw (← q) r)
stays-rises Done es e n r q = rw append-nil (rw (← q) r)

-- what the undoing of the notes above the mark of an entry gives
pub record Pops (es : List Entry) (e : Entry) (trail after : List Note) (fs gs : List PlainFrame) : Type 0 where
  pub now : gs ≡ (top_of (held_of trail fs (es ++ e ∷ []))).frames
  pub held : held_of after gs (es ++ stays e) ≡ stack_after_pop (held_of trail fs (es ++ e ∷ []))
  pub rises : Rises 0 (es ++ stays e) (length after)

-- the notes above the mark of an entry, undone, give its copy
pub pops : (es : List Entry) (e : Entry) (trail : List Note) (fs : List PlainFrame) → Rises 0 (es ++ e ∷ []) (length trail) →
    Pops es e trail (take e.mark trail) fs (unwind (drop e.mark trail) fs)
pops es e trail fs r =
    let p : Rises 0 es e.mark × (e.mark ≤ length trail) = rises-pop 0 (length trail) es e r in
    let split : held_of trail fs (es ++ e ∷ []) ≡ held_of trail fs es ++ entry_of trail fs e ∷ [] =
    map-append (entry_of trail fs) es (e ∷ []) in
    record {
      now = sym (ap (λ (x : PlainEntry). x.frames) (top-held es e trail fs));
      held = map-append (entry_of (take e.mark trail) (unwind (drop e.mark trail) fs)) es (stays e)
          ∙ (ap (λ xs. xs ++ held_of (take e.mark trail) (unwind (drop e.mark trail) fs) (stays e))
          (held-unwound e.mark 0 trail fs es p.0 p.1)
          ∙ (ap (λ xs. held_of trail fs es ++ xs) (stays-held e.kind e trail fs p.1)
          ∙ sym (ap stack_after_pop split ∙ stack_after_pop-push (held_of trail fs es) (entry_of trail fs e))));
      rises = stays-rises e.kind es e (length (take e.mark trail)) p.0 (sym (length-take-le e.mark trail p.1));
    }

-- ---- a loop that undoes notes

-- some of the notes above the mark are undone
pub record Unwinds (mark : ℕ) (trail : List Note) (fs : List PlainFrame) (rest : List Note) (gs : List PlainFrame) : Type 0 where
  pub fits : Fits rest gs
  pub above : mark ≤ length rest
  pub same : unwind (drop mark rest) gs ≡ unwind (drop mark trail) fs
  pub below : take mark rest ≡ take mark trail

-- one more note is undone
pub unwinds-more : (mark : ℕ) (trail : List Note) (fs : List PlainFrame) (rest : List Note) (gs : List PlainFrame)
    (ns : List Note) (n : Note) (hs : List PlainFrame) → rest ≡ ns ++ n ∷ [] → hs ≡ undo n gs → mark < length rest →
    Unwinds mark trail fs rest gs → Unwinds mark trail fs ns hs
unwinds-more mark trail fs rest gs ns n hs p q l u =
    let e : length rest ≡ length ns + 1 = ap length p ∙ length_push ns n in
    let le : mark ≤ length ns = omega arith in
    let fits = fits-pop ns n gs (rw p at u.fits) in
    record {
      fits = rw q fits.0;
      above = le;
      same = ap (unwind (drop mark ns)) q ∙ (sym (unwind-push (drop mark ns) n gs)
          ∙ (ap (λ ms. unwind ms gs) (sym (ap (drop mark) p ∙ drop-append-le mark ns (n ∷ []) le)) ∙ u.same));
      below = sym (ap (take mark) p ∙ take-append-le mark ns (n ∷ []) le) ∙ u.below;
    }

-- ---- the kind at a height

-- past the top there is no kind
kind-past : (trail : List Note) (fs : List PlainFrame) (es : List Entry) (b : ℕ) → length es ≤ b
    → slice_get (map (λ (x : PlainEntry). x.kind) (held_of trail fs es)) b ≡ None
kind-past trail fs [] b l = refl
kind-past trail fs (e ∷ es) zero l = absurd (omega arith)
kind-past trail fs (e ∷ es) (suc b) l = kind-past trail fs es b (omega arith)

-- the kind of an entry that is there
kind-there : (trail : List Note) (fs : List PlainFrame) (es : List Entry) (b : ℕ) (e : Entry) → b < length es → e ≡ get_or es b e →
    slice_get (map (λ (x : PlainEntry). x.kind) (held_of trail fs es)) b ≡ Some e.kind
kind-there trail fs [] b e l h = absurd (omega arith)
kind-there trail fs (d ∷ es) zero e l h = ap (λ (x : Entry). Some x.kind) (sym h)
kind-there trail fs (d ∷ es) (suc b) e l h = kind-there trail fs es b e (omega arith) h

-- there is no entry at 0
pub kind-none : (trail : List Note) (fs : List PlainFrame) (es : List Entry) (h : ℕ) → h ≡ 0 → kind_at (held_of trail fs es) h ≡ None
kind-none trail fs es zero l = refl
kind-none trail fs es (suc b) l = absurd (omega arith)

-- nor above the top
pub kind-above : (trail : List Note) (fs : List PlainFrame) (es : List Entry) (h : ℕ) → length es < h
    → kind_at (held_of trail fs es) h ≡ None
kind-above trail fs es zero l = absurd (omega arith)
kind-above trail fs es (suc b) l = kind-past trail fs es b (omega arith)

-- the kind of an entry that is there
pub kind-some : (trail : List Note) (fs : List PlainFrame) (es : List Entry) (h : ℕ) (e : Entry) → 1 ≤ h → h ≤ length es
    → e ≡ get_or es (h - 1) e →
    kind_at (held_of trail fs es) h ≡ Some e.kind
kind-some trail fs es zero e l m p = absurd (omega arith)
kind-some trail fs es (suc b) e l m p =
    let z : suc b - 1 ≡ b = omega arith in
    kind-there trail fs es b e (omega arith) (p ∙ ap (λ k. get_or es k e) z)
