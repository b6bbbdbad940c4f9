-- Lemmas on lists of frames: what a write, a push and a pop do to the declared cells and to whole frames.
use Rattle.std.proofs.Common.{◌≡◌, ℕ, ◌≤◌, ◌<◌, ◌+◌, ◌-◌, List, [], ◌∷◌, ◌++◌, length, sum, set, get_or, take, suc, zero, refl, sym, ap}
use Rattle.std.proofs.Common.{◌∙◌, arith}
use Rattle.std.proofs.lemmas.List.{take_at, take_all, take_more, length_push, length-set, get_or-set_same, set-set, set-get_or}
use Rattle.std.proofs.Math.Seq.{map-set_same}
use Rattle.std.proofs.lemmas.List.Sums.{sum-map, sum_by_push}
use Rattle.alma_code.specs.declared.cell.Cell.{Cell}
use Rattle.alma_code.specs.declared.cell.Cell.TheVariants.{Unknown}
use Rattle.alma_code.specs.Picture.{PlainFrame, no_frame, frame_with, frames_with_cell, cell_at, without_last, last_frame, live_cells}
use Rattle.alma_memory_store.specs.Frames.{IsWhole, AreWhole, AreLive}

-- the declared cells after a frame is replaced by one that declares as many
pub live-set : (fs : List PlainFrame) (f : ℕ) (g : PlainFrame) → g.declared ≡ (get_or fs f no_frame).declared
    → live_cells (set fs f g) ≡ live_cells fs
live-set fs f g e = ap sum (map-set_same (λ h. h.declared) fs f g no_frame e)

-- a write declares no cells
pub live-written : (fs fs' : List PlainFrame) (f s : ℕ) (c : Cell) → fs' ≡ frames_with_cell fs f s c → live_cells fs' ≡ live_cells fs
live-written fs fs' f s c p = ap live_cells p ∙ live-set fs f (frame_with (get_or fs f no_frame) s c) refl

-- a push declares the cells of its frame
pub live-push : (fs : List PlainFrame) (g : PlainFrame) → live_cells (fs ++ g ∷ []) ≡ live_cells fs + g.declared
live-push fs g = sum-map (λ h. h.declared) (fs ++ g ∷ []) ∙ (sum_by_push (λ h. h.declared) fs g ∙ ap (λ n. n + g.declared)
    (sym (sum-map (λ h. h.declared) fs)))

-- a pop gives back what was pushed
pub without-push : (fs : List PlainFrame) (g : PlainFrame) → without_last (fs ++ g ∷ []) ≡ fs
without-push fs g =
    let n : length (fs ++ g ∷ []) - 1 ≡ length fs = rw (length_push fs g) (omega arith) in
    ap (λ k. take k (fs ++ g ∷ [])) n ∙ take_at fs (g ∷ []) (length fs) refl

-- a list of frames is its last one on the others
pub last-and-rest : (fs : List PlainFrame) → 1 ≤ length fs → without_last fs ++ last_frame fs ∷ [] ≡ fs
last-and-rest fs l =
    let lt : length fs - 1 < length fs = omega arith in
    let up : length fs ≤ length fs - 1 + 1 = omega arith in
    sym (take_more fs (length fs - 1) no_frame lt) ∙ take_all (length fs - 1 + 1) fs up

-- whole frames stay whole where one is replaced by a whole one
pub whole-set : (fs : List PlainFrame) (f : ℕ) (g : PlainFrame) → IsWhole g → AreWhole fs → AreWhole (set fs f g)
whole-set [] f g w h = tt
whole-set (x ∷ fs) zero g w h = (w, h.1)
whole-set (x ∷ fs) (suc f) g w h = (h.0, whole-set fs f g w h.1)

-- whole frames stay whole at a push
pub whole-push : (fs : List PlainFrame) (g : PlainFrame) → IsWhole g → AreWhole fs → AreWhole (fs ++ g ∷ [])
whole-push [] g w h = (w, tt)
whole-push (x ∷ fs) g w h = (h.0, whole-push fs g w h.1)

-- whole frames stay whole at a pop
pub whole-take : (n : ℕ) (fs : List PlainFrame) → AreWhole fs → AreWhole (take n fs)
whole-take zero fs h = tt
whole-take (suc n) [] h = tt
whole-take (suc n) (x ∷ fs) h = (h.0, whole-take n fs h.1)

-- each of whole frames is whole, and so is no frame
pub whole-at : (fs : List PlainFrame) (f : ℕ) → AreWhole fs → IsWhole (get_or fs f no_frame)
whole-at [] f h = record { kinds = refl }
whole-at (x ∷ fs) zero h = h.0
whole-at (x ∷ fs) (suc f) h = whole-at fs f h.1

-- a frame stays whole at a write
pub whole-with : (g : PlainFrame) (s : ℕ) (c : Cell) → IsWhole g → IsWhole (frame_with g s c)
whole-with g s c w = record { kinds = w.kinds ∙ sym (length-set g.cells s c) }

-- what is live stays so at a write
pub live-after-write : (fs : List PlainFrame) (f s : ℕ) (c : Cell) → AreLive fs → AreLive (frames_with_cell fs f s c)
live-after-write fs f s c h =
    let g : PlainFrame = frame_with (get_or fs f no_frame) s c in
    record {
      some = rw (length-set fs f g) h.some;
      few = rw (length-set fs f g) h.few;
      declared = rw (live-set fs f g refl) h.declared;
      whole = whole-set fs f g (whole-with (get_or fs f no_frame) s c (whole-at fs f h.whole)) h.whole;
    }

-- a write and a write of the old cell leave the frames as they were
pub undo-written : (fs : List PlainFrame) (f s : ℕ) (c old : Cell) → f < length fs → old ≡ cell_at fs f s Unknown →
    s < length (get_or fs f no_frame).cells → frames_with_cell (frames_with_cell fs f s c) f s old ≡ fs
undo-written fs f s c old l e k =
    let here : PlainFrame = get_or fs f no_frame in
    let g : PlainFrame = frame_with here s c in
    let same : get_or (set fs f g) f no_frame ≡ g = get_or-set_same fs f g no_frame l in
    let cells : set (set here.cells s c) s old ≡ here.cells =
    set-set here.cells s c old ∙ (ap (set here.cells s) e ∙ set-get_or here.cells s Unknown) in
    let back : frame_with g s old ≡ here = ap (λ cs. record here { cells = cs }) cells in
    set-set fs f g (frame_with (get_or (set fs f g) f no_frame) s old)
    ∙ (ap (λ h. set fs f (frame_with h s old)) same ∙ (ap (set fs f) back ∙ set-get_or fs f no_frame))
