-- Lemmas on lists of frames: declared cells, whole frames, and number slots.
use Rattle.std.proofs.Common.{◌≡◌, ℕ, ◌<◌, ◌+◌, List, [], ◌∷◌, ◌++◌, length, get_or, suc, zero, true, refl, sym, ap, ◌∙◌, arith}
use Rattle.std.specs.Prelude.{slice_get}
use Rattle.std.proofs.lemmas.List.Sums.{sum-map, sum_by_push}
use Rattle.alma_code.specs.declared.cell.SlotKind.{SlotKind}
use Rattle.alma_code.specs.Kinds.{is_number}
use Rattle.alma_code.specs.Picture.{PlainFrame, no_frame, live_cells}
use Rattle.alma_code.specs.Carries.{number_at}
use Rattle.alma_memory_store.specs.Frames.{IsWhole, AreWhole}

-- a push declares the cells of its frame
pub live-push : (fs : List PlainFrame) (g : PlainFrame) → live_cells (fs ++ g ∷ []) ≡ live_cells fs + g.declared
live-push fs g = sum-map (λ h. h.declared) (fs ++ g ∷ [])
    ∙ (sum_by_push (λ h. h.declared) fs g ∙ ap (λ n. n + g.declared) (sym (sum-map (λ h. h.declared) fs)))

-- each of whole frames is whole, and so is no frame
pub whole-at : (fs : List PlainFrame) (f : ℕ) → AreWhole fs → IsWhole (get_or fs f no_frame)
whole-at [] f h = record { kinds = refl }
whole-at (x ∷ fs) zero h = h.0
whole-at (x ∷ fs) (suc f) h = whole-at fs f h.1

-- a number slot is a slot
pub number-slot : (ks : List SlotKind) (s : ℕ) → is_number (slice_get ks s) ≡ true → s < length ks
number-slot [] s h = absurd (cc)
number-slot (k ∷ ks) zero h = omega arith
number-slot (k ∷ ks) (suc s) h = let r : s < length ks = number-slot ks s h in omega arith

-- a live number slot has a cell
pub number-cell : (fs : List PlainFrame) (f s : ℕ) → AreWhole fs → number_at fs f s ≡ true → s < length (get_or fs f no_frame).cells
number-cell fs f s w h =
    let r : s < length (get_or fs f no_frame).kinds = number-slot (get_or fs f no_frame).kinds s h in
    let e = (whole-at fs f w).kinds in
    omega (arith, r, e)

-- a live number slot stands in a live frame
pub number-frame : (fs : List PlainFrame) (f s : ℕ) → number_at fs f s ≡ true → f < length fs
number-frame [] f s h = absurd (cc)
number-frame (g ∷ fs) zero s h = omega arith
number-frame (g ∷ fs) (suc f) s h = let r : f < length fs = number-frame fs f s h in omega arith
