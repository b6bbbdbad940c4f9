-- Changes, and what they leave to be taken back.
use Rattle.std.proofs.Common.{◌≡◌, ◌≤◌, ◌<◌, ◌+◌, ◌-◌, ◌∙◌, ℕ, List, [], ◌∷◌, ◌++◌, length, take, drop, get_or, reverse, refl, sym, ap}
use Rattle.std.proofs.Common.{subst, arith}
use Rattle.std.proofs.lemmas.List.{length_push, get_or_at, take_at, reverse-append, map-append, drop_all, get_or-set_same, take_more}
use Rattle.std.proofs.lemmas.List.{take_all}
use Rattle.alma_base.specs.Limits.{cell_limit, frame_limit}
use Rattle.alma_code.specs.declared.cell.Cell.{Cell}
use Rattle.alma_code.specs.declared.cell.Cell.TheVariants.{Unknown}
use Rattle.alma_code.specs.declared.cell.ChoiceKind.TheVariants as choice
use Rattle.alma_code.specs.Picture.{PlainFrame, no_frame, frames_with_cell, cell_at, without_last, last_frame, live_cells, frame_with}
use Rattle.alma_memory_store.specs.declared.carry.SlotPlace.{SlotPlace}
use Rattle.alma_memory_store.specs.Frames.{AreLive, IsWhole}
use Rattle.alma_back_tape.specs.declared.change.Note.{Note}
use Rattle.alma_back_tape.specs.declared.change.Note.TheVariants.{Wrote, Entered, Left}
use Rattle.alma_back_tape.specs.declared.change.Entry.{Entry}
use Rattle.alma_back_tape.specs.declared.change.Change.{Change}
use Rattle.alma_back_tape.specs.declared.change.Change.TheVariants.{Began, Noted, Pushed, Undone, Dropped, Finished, Kept}
use Rattle.alma_back_tape.specs.Inner.Reel.{Reel, scene_of, front, last_or, no_note, no_entry, before, past, flip, undo, unwind, held_of}
use Rattle.alma_back_tape.specs.Inner.Reel.{entry_of}
use Rattle.alma_back_tape.specs.Inner.Past.{IsWound, CanBack, IsGood, Fits, Rises, Undoes}
use Rattle.alma_back_tape.proofs.Lives.{undo-written, live-after-write, without-push, last-and-rest, live-push, whole-push, whole-take}
use Rattle.alma_back_tape.proofs.Rooms.{same_reel}
use Rattle.alma_back_tape.proofs.Trails.{fits-push, fits-pop, fits-now, rises-more, rises-push, rises-pop, held-push, undoes-written}

-- ---- the last of a list

pub front-push : {A : Type 0} → (xs : List A) (x : A) → front (xs ++ x ∷ []) ≡ xs
front-push xs x =
    let n : length (xs ++ x ∷ []) - 1 ≡ length xs = rw (length_push xs x) (omega arith) in
    ap (λ k. take k (xs ++ x ∷ [])) n ∙ take_at xs (x ∷ []) (length xs) refl

pub last-push : {A : Type 0} → (xs : List A) (x d : A) → last_or (xs ++ x ∷ []) d ≡ x
last-push xs x d =
    let n : length (xs ++ x ∷ []) - 1 ≡ length xs = rw (length_push xs x) (omega arith) in
    ap (λ k. get_or (xs ++ x ∷ []) k d) n ∙ get_or_at xs x [] d (length xs) refl

-- a list is its last one on the others
pub front-last : {A : Type 0} → (xs : List A) (d : A) → 1 ≤ length xs → front xs ++ last_or xs d ∷ [] ≡ xs
front-last xs d l =
    let lt : length xs - 1 < length xs = omega arith in
    let up : length xs ≤ length xs - 1 + 1 = omega arith in
    sym (take_more xs (length xs - 1) d lt) ∙ take_all (length xs - 1 + 1) xs up

-- ---- changes

-- a change that begins no step
abbrev pub IsQuiet : Change → Type 0
IsQuiet Began = ⊥
IsQuiet Noted = Unit {0}
IsQuiet Pushed = Unit {0}
IsQuiet Undone = Unit {0}
IsQuiet Dropped = Unit {0}
IsQuiet Finished = Unit {0}
IsQuiet Kept = Unit {0}

-- it leaves the past
pub past_step : (c : Change) (cs : List Change) (r : Reel) → IsQuiet c → past (c ∷ cs) r ≡ past cs (before c r)
past_step Began cs r q = absurd q
past_step Noted cs r q = refl
past_step Pushed cs r q = refl
past_step Undone cs r q = refl
past_step Dropped cs r q = refl
past_step Finished cs r q = refl
past_step Kept cs r q = refl

-- where all can be taken back, the notes fit
pub good_wound : (cs : List Change) (r : Reel) → IsGood cs r → IsWound r
good_wound [] r g = g
good_wound (c ∷ cs) r g = g.0

-- what each change keeps
pub record Moves (cs cs' : List Change) (r r' : Reel) : Type 0 where
  pub good : IsGood (reverse cs') r'
  pub past : past (reverse cs') r' ≡ past (reverse cs) r

-- a change that can be taken back
pub moved : (cs cs' : List Change) (r r' : Reel) (c : Change) → IsQuiet c → cs' ≡ cs ++ c ∷ [] → IsWound r' → CanBack c r' → before c r' ≡ r
    → IsGood (reverse cs) r → Moves cs cs' r r'
moved cs cs' r r' c quiet changes wound can back good =
    let more : reverse cs' ≡ c ∷ reverse cs = ap reverse changes ∙ reverse-append cs (c ∷ []) in
    let all : IsGood (c ∷ reverse cs) r' = (wound, can, subst (λ (q : Reel). IsGood (reverse cs) q) (sym back) good) in
    record {
      good = subst (λ (ds : List Change). IsGood ds r') (sym more) all;
      past = ap (λ ds. past ds r') more ∙ past_step c (reverse cs) r' quiet ∙ ap (past (reverse cs)) back;
    }

-- a step that begins
pub begun : (cs cs' : List Change) (r : Reel) → cs' ≡ cs ++ Began ∷ [] → IsGood (reverse cs) r → IsGood (reverse cs') r
begun cs cs' r changes good =
    let more : reverse cs' ≡ Began ∷ reverse cs = ap reverse changes ∙ reverse-append cs (Began ∷ []) in
    subst (λ (ds : List Change). IsGood ds r) (sym more) (good_wound (reverse cs) r good, tt, good)

-- ---- notes that are added

-- what stays where a note is added
pub record Notes (cs cs' : List Change) (r r' : Reel) : Type 0 where
  pub moves : Moves cs cs' r r'
  pub held : (scene_of r').held ≡ (scene_of r).held

-- a change of the frames whose note is added
pub noted : (cs cs' : List Change) (r r' : Reel) (n : Note) (fs : List PlainFrame) → IsGood (reverse cs) r → cs' ≡ cs ++ Noted ∷ []
    → r' ≡ record r { frames = fs; trail = r.trail ++ n ∷ [] } → undo n fs ≡ r.frames → Undoes n fs → AreLive fs → Notes cs cs' r r'
noted cs cs' r r' n fs good changes same undone undoes live =
    let old = good_wound (reverse cs) r good in
    let s : Reel = record r { frames = fs; trail = r.trail ++ n ∷ [] } in
    let longer : length s.trail ≡ length r.trail + 1 = length_push r.trail n in
    let fits : Fits s.trail fs =
    fits-push r.trail n fs (subst (λ (gs : List PlainFrame). Fits r.trail gs) (sym undone) old.fits) undoes live in
    let rises : Rises 0 r.entries (length s.trail) =
    rises-more 0 (length r.trail) (length s.trail) r.entries old.rises (omega (arith, longer)) in
    let back : before Noted s ≡ r =
    same_reel (ap (λ m. undo m fs) (last-push r.trail n no_note) ∙ undone) (front-push r.trail n) refl refl refl refl in
    let moves : Moves cs cs' r s =
    moved cs cs' r s Noted tt changes (record { fits = fits; rises = rises }) (omega (arith, longer)) back good in
    let held : (scene_of s).held ≡ (scene_of r).held =
    held-push 0 (length r.trail) r.trail n fs r.entries old.rises (omega arith) ∙ ap (λ gs. held_of r.trail gs r.entries) undone in
    subst (λ (q : Reel). Notes cs cs' r q) (sym same) (record { moves = moves; held = held })

-- a write whose note is added
pub wrote : (cs cs' : List Change) (r r' : Reel) (p : SlotPlace) (c old : Cell) (fs : List PlainFrame) → IsGood (reverse cs) r
    → cs' ≡ cs ++ Noted ∷ []
    → r' ≡ record r { frames = fs; trail = r.trail ++ Wrote p old ∷ [] } → fs ≡ frames_with_cell r.frames p.frame p.slot c
    → old ≡ cell_at r.frames p.frame p.slot Unknown
    → p.frame < length r.frames → p.slot < length (get_or r.frames p.frame no_frame).cells → Notes cs cs' r r'
wrote cs cs' r r' p c old fs good changes same frames was live slot =
    let wound = good_wound (reverse cs) r good in
    noted cs cs' r r' (Wrote p old) fs good changes same
    (ap (λ gs. frames_with_cell gs p.frame p.slot old) frames ∙ undo-written r.frames p.frame p.slot c old live was slot)
    (subst (λ (gs : List PlainFrame). Undoes (Wrote p old) gs) (sym frames) (undoes-written r.frames p c old live slot))
    (subst AreLive (sym frames) (live-after-write r.frames p.frame p.slot c (fits-now r.trail r.frames wound.fits)))

-- frames that are live with one more
live_more : (fs : List PlainFrame) (g : PlainFrame) → AreLive fs → length fs < frame_limit → live_cells fs + g.declared ≤ cell_limit
    → IsWhole g → AreLive (fs ++ g ∷ [])
live_more fs g live l m w = record {
  some = rw (length_push fs g) (omega arith);
  few = rw (length_push fs g) (omega arith);
  declared = rw (live-push fs g) m;
  whole = whole-push fs g w live.whole;
}

-- a frame that is entered
pub entered : (cs cs' : List Change) (r r' : Reel) (g : PlainFrame) (fs : List PlainFrame) → IsGood (reverse cs) r → cs' ≡ cs ++ Noted ∷ []
    → r' ≡ record r { frames = fs; trail = r.trail ++ Entered ∷ [] } → fs ≡ r.frames ++ g ∷ []
    → length r.frames < frame_limit → live_cells r.frames + g.declared ≤ cell_limit → IsWhole g → Notes cs cs' r r'
entered cs cs' r r' g fs good changes same frames depth cells whole =
    let wound = good_wound (reverse cs) r good in
    noted cs cs' r r' Entered fs good changes same (ap without_last frames ∙ without-push r.frames g) tt
    (subst AreLive (sym frames) (live_more r.frames g (fits-now r.trail r.frames wound.fits) depth cells whole))

-- frames that are live without the top one
live_less : (fs : List PlainFrame) → AreLive fs → 2 ≤ length fs → AreLive (without_last fs)
live_less fs now l =
    let g = last_frame fs in
    let whole : without_last fs ++ g ∷ [] ≡ fs = last-and-rest fs (omega arith) in
    let wide : length (without_last fs) + 1 ≡ length fs = sym (length_push (without_last fs) g) ∙ ap length whole in
    let sums : live_cells (without_last fs) + g.declared ≡ live_cells fs = sym (live-push (without_last fs) g) ∙ ap live_cells whole in
    record {
      some = omega arith;
      few = omega (arith, now.few);
      declared = omega (arith, now.declared);
      whole = whole-take (length fs - 1)
          fs now.whole;
    }

-- a frame that is left
pub was_left : (cs cs' : List Change) (r r' : Reel) (g : PlainFrame) (fs : List PlainFrame) → IsGood (reverse cs) r → cs' ≡ cs ++ Noted ∷ []
    → r' ≡ record r { frames = fs; trail = r.trail ++ Left g ∷ [] } → fs ≡ without_last r.frames → g ≡ last_frame r.frames
    → 2 ≤ length r.frames → Notes cs cs' r r'
was_left cs cs' r r' g fs good changes same frames last below =
    let wound = good_wound (reverse cs) r good in
    noted cs cs' r r' (Left g) fs good changes same
    (ap (λ gs. gs ++ g ∷ []) frames ∙ ap (λ f. without_last r.frames ++ f ∷ []) last ∙ last-and-rest r.frames (omega arith)) tt
    (subst AreLive (sym frames) (live_less r.frames (fits-now r.trail r.frames wound.fits) below))

-- ---- entries

-- an entry that is pushed has the frames as its copy
pub record Pushes (cs cs' : List Change) (r r' : Reel) (e : Entry) : Type 0 where
  pub moves : Moves cs cs' r r'
  pub held : (scene_of r').held ≡ (scene_of r).held ++ record { kind = e.kind; resume = e.resume; frames = r.frames; carry = e.carry } ∷ []

pub pushed : (cs cs' : List Change) (r r' : Reel) (e : Entry) → IsGood (reverse cs) r → cs' ≡ cs ++ Pushed ∷ []
    → r' ≡ record r { entries = r.entries ++ e ∷ [] }
    → e.mark ≡ length r.trail → Pushes cs cs' r r' e
pushed cs cs' r r' e good changes same mark =
    let old = good_wound (reverse cs) r good in
    let s : Reel = record r { entries = r.entries ++ e ∷ [] } in
    let rises : Rises 0 s.entries (length r.trail) =
    rises-push 0 (length r.trail) r.entries e (subst (λ (n : ℕ). Rises 0 r.entries n) (sym mark) old.rises) (omega (arith, mark)) in
    let none : unwind (drop e.mark r.trail) r.frames ≡ r.frames =
    ap (λ ns. unwind ns r.frames) (drop_all e.mark r.trail (omega (arith, mark))) in
    let moves : Moves cs cs' r s =
    moved cs cs' r s Pushed tt changes (record { fits = old.fits; rises = rises }) (omega (arith, length_push r.entries e))
    (same_reel refl refl (front-push r.entries e) refl refl refl) good in
    let held : (scene_of s).held ≡ (scene_of r).held ++ record { kind = e.kind; resume = e.resume; frames = r.frames; carry = e.carry } ∷
    [] =
    map-append (entry_of r.trail r.frames) r.entries (e ∷ [])
    ∙ ap (λ fs. held_of r.trail r.frames r.entries ++ record { kind = e.kind; resume = e.resume; frames = fs; carry = e.carry } ∷ [])
    none in
    subst (λ (q : Reel). Pushes cs cs' r q e) (sym same) (record { moves = moves; held = held })

-- an entry that is dropped
pub dropped_one : (cs cs' : List Change) (r r' : Reel) (es : List Entry) (e : Entry) → IsGood (reverse cs) r → cs' ≡ cs ++ Dropped ∷ []
    → r.entries ≡ es ++ e ∷ []
    → r' ≡ record r { entries = es; dropped = r.dropped ++ e ∷ [] } → Moves cs cs' r r'
dropped_one cs cs' r r' es e good changes entries same =
    let old = good_wound (reverse cs) r good in
    let s : Reel = record r { entries = es; dropped = r.dropped ++ e ∷ [] } in
    let both = rises-pop 0 (length r.trail) es e (subst (λ (xs : List Entry). Rises 0 xs (length r.trail)) entries old.rises) in
    let rises : Rises 0 es (length r.trail) = rises-more 0 e.mark (length r.trail) es both.0 both.1 in
    let moves : Moves cs cs' r s =
    moved cs cs' r s Dropped tt changes (record { fits = old.fits; rises = rises }) (omega (arith, length_push r.dropped e))
    (same_reel refl refl (ap (λ x. es ++ x ∷ []) (last-push r.dropped e no_entry) ∙ sym entries) refl (front-push r.dropped e) refl) good in
    subst (λ (q : Reel). Moves cs cs' r q) (sym same) moves

-- a Forall that is turned into a Done
pub finished_one : (cs cs' : List Change) (r r' : Reel) (es : List Entry) (e : Entry) → IsGood (reverse cs) r → cs' ≡ cs ++ Finished ∷ []
    → r.entries ≡ es ++ e ∷ []
    → e.kind ≡ choice.Forall → r' ≡ record r { entries = es ++ record e { kind = choice.Done } ∷ [] } → Moves cs cs' r r'
finished_one cs cs' r r' es e good changes entries forall same =
    let old = good_wound (reverse cs) r good in
    let d : Entry = record e { kind = choice.Done } in
    let s : Reel = record r { entries = es ++ d ∷ [] } in
    let both = rises-pop 0 (length r.trail) es e (subst (λ (xs : List Entry). Rises 0 xs (length r.trail)) entries old.rises) in
    let rises : Rises 0 s.entries (length r.trail) = rises-push 0 (length r.trail) es d both.0 both.1 in
    let last : last_or s.entries no_entry ≡ d = last-push es d no_entry in
    let again : record d { kind = choice.Forall } ≡ e = ap (λ k. record e { kind = k }) (sym forall) in
    let moves : Moves cs cs' r s = moved cs cs' r s Finished tt changes (record { fits = old.fits; rises = rises })
    (omega (arith, length_push es d), ap (λ (x : Entry). x.kind) last)
    (same_reel refl refl (ap (λ xs. xs ++ record (last_or s.entries no_entry) { kind = choice.Forall } ∷ []) (front-push es d)
    ∙ ap (λ (x : Entry). es ++ record x { kind = choice.Forall } ∷ []) last ∙ ap (λ x. es ++ x ∷ []) again
    ∙ sym entries) refl refl refl) good in
    subst (λ (q : Reel). Moves cs cs' r q) (sym same) moves

-- ---- notes that are undone

-- what undoes the undoing of a note
pub flip_undoes : (n : Note) (fs : List PlainFrame) → AreLive fs → Undoes n fs → undo (flip n fs) (undo n fs) ≡ fs
flip_undoes (Wrote p c) fs live u = undo-written fs p.frame p.slot c (cell_at fs p.frame p.slot Unknown) u.0 refl u.1
flip_undoes Entered fs live u = last-and-rest fs live.some
flip_undoes (Left g) fs live u = without-push fs g

-- it can be undone there
pub flip_can : (n : Note) (fs : List PlainFrame) → Undoes n fs → Undoes (flip n fs) (undo n fs)
flip_can (Wrote p c) fs u = undoes-written fs p c (cell_at fs p.frame p.slot Unknown) u.0 u.1
flip_can Entered fs u = tt
flip_can (Left g) fs u = tt

-- a cell that was written is there
written_cell : (fs : List PlainFrame) (p : SlotPlace) (c : Cell) → p.frame < length fs → p.slot < length (get_or fs p.frame no_frame).cells
    → cell_at (frames_with_cell fs p.frame p.slot c) p.frame p.slot Unknown ≡ c
written_cell fs p c l k =
    let g = frame_with (get_or fs p.frame no_frame) p.slot c in
    ap (λ (f : PlainFrame). get_or f.cells p.slot Unknown) (get_or-set_same fs p.frame g no_frame l)
    ∙ get_or-set_same (get_or fs p.frame no_frame).cells p.slot c Unknown k

-- the flip of a flip is the note
pub flip_twice : (n : Note) (fs : List PlainFrame) → Undoes n fs → flip (flip n fs) (undo n fs) ≡ n
flip_twice (Wrote p c) fs u = ap (Wrote p) (written_cell fs p c u.0 u.1)
flip_twice Entered fs u = refl
flip_twice (Left g) fs u = ap Left (last-push fs g no_frame)

-- a note that is undone
pub undone_one : (cs cs' : List Change) (r r' : Reel) (ns : List Note) (n : Note) (fs : List PlainFrame) (m : Note)
    → IsGood (reverse cs) r → cs' ≡ cs ++ Undone ∷ []
    → r.trail ≡ ns ++ n ∷ [] → fs ≡ undo n r.frames → m ≡ flip n r.frames
    → r' ≡ record r { frames = fs; trail = ns; redo = r.redo ++ m ∷ [] }
    → Rises 0 r.entries (length ns) → Moves cs cs' r r'
undone_one cs cs' r r' ns n fs m good changes trail frames flipped same rises =
    let old = good_wound (reverse cs) r good in
    let live = fits-now r.trail r.frames old.fits in
    let parts = fits-pop ns n r.frames (subst (λ (xs : List Note). Fits xs r.frames) trail old.fits) in
    let s : Reel = record r { frames = fs; trail = ns; redo = r.redo ++ m ∷ [] } in
    let fits : Fits ns fs = subst (λ (gs : List PlainFrame). Fits ns gs) (sym frames) parts.0 in
    let last : last_or s.redo no_note ≡ m = last-push r.redo m no_note in
    let whole : undo m fs ≡ r.frames =
    ap (undo m) frames ∙ ap (λ k. undo k (undo n r.frames)) flipped ∙ flip_undoes n r.frames live parts.1 in
    let can : Undoes m fs = subst (λ (gs : List PlainFrame). Undoes m gs) (sym frames)
    (subst (λ (k : Note). Undoes k (undo n r.frames)) (sym flipped) (flip_can n r.frames parts.1)) in
    let twice : flip m fs ≡ n = ap (flip m) frames ∙ ap (λ k. flip k (undo n r.frames)) flipped ∙ flip_twice n r.frames parts.1 in
    let moves : Moves cs cs' r s = moved cs cs' r s Undone tt changes (record { fits = fits; rises = rises }) (
      omega (arith, length_push r.redo m),
      subst (λ (k : Note). Undoes k fs) (sym last) can,
      subst AreLive
          (sym (ap (λ k. undo k fs) last ∙ whole)) live,
    )
    (same_reel (ap (λ k. undo k fs) last ∙ whole) (ap (λ k. ns ++ flip k fs ∷ []) last ∙ ap (λ k. ns ++ k ∷ []) twice ∙ sym trail) refl
    (front-push r.redo m) refl refl) good in
    subst (λ (q : Reel). Moves cs cs' r q) (sym same) moves

-- a note that is on top can be undone
pub top_undoes : (cs : List Change) (r : Reel) (ns : List Note) (n : Note) → IsGood cs r → r.trail ≡ ns ++ n ∷ []
    → Undoes n r.frames × AreLive r.frames × AreLive (undo n r.frames)
top_undoes cs r ns n good trail =
    let old = good_wound cs r good in
    let parts = fits-pop ns n r.frames (subst (λ (xs : List Note). Fits xs r.frames) trail old.fits) in
    (parts.1, parts.2, fits-now ns (undo n r.frames) parts.0)

-- ---- going back

-- a change that was taken back
pub record Arrives (c : Change) (cs cs' : List Change) (r r' : Reel) : Type 0 where
  pub good : IsGood (reverse cs') r'
  pub past : past (reverse cs') r' ≡ past (c ∷ reverse cs) r

pub arrived : (c : Change) (cs cs' : List Change) (r r' : Reel) → IsQuiet c → IsGood (c ∷ reverse cs) r → cs' ≡ cs → r' ≡ before c r
    → Arrives c cs cs' r r'
arrived c cs cs' r r' quiet good changes same = record {
  good = subst (λ (ds : List Change). IsGood (reverse ds) r') (sym changes) (subst (λ (q : Reel). IsGood (reverse cs) q) (sym same) good.2);
  past = ap (λ ds. past (reverse ds) r') changes ∙ ap (past (reverse cs)) same ∙ sym (past_step c (reverse cs) r quiet);
}

-- what a list with a last item has behind it
pub last_is : {A : Type 0} → (xs ys : List A) (y d : A) → xs ≡ ys ++ y ∷ [] → last_or xs d ≡ y
last_is xs ys y d e = ap (λ zs. last_or zs d) e ∙ last-push ys y d

pub front_is : {A : Type 0} → (xs ys : List A) (y : A) → xs ≡ ys ++ y ∷ [] → front xs ≡ ys
front_is xs ys y e = ap front e ∙ front-push ys y

pub long_is : {A : Type 0} → (xs ys : List A) (y : A) → xs ≡ ys ++ y ∷ [] → length xs ≡ length ys + 1
long_is xs ys y e = ap length e ∙ length_push ys y

-- a note whose undoing is undone can be undone
pub redo_undoes : (cs : List Change) (r : Reel) (ns : List Note) (n : Note) → IsGood (Undone ∷ cs) r → r.redo ≡ ns ++ n ∷ []
    → Undoes n r.frames × AreLive r.frames × AreLive (undo n r.frames)
redo_undoes cs r ns n good redo =
    let last = last_is r.redo ns n no_note redo in (
      subst (λ (m : Note). Undoes m r.frames) last good.1.1,
      fits-now r.trail r.frames good.0.fits,
      subst (λ (m : Note). AreLive (undo m r.frames)) last good.1.2,
    )
