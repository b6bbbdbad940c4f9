-- Lemmas on the contents of number slots: what writes do to them, and when they differ.
use Rattle.std.proofs.Common.{◌≡◌, ℕ, ◌≤◌, ◌<◌, ◌-◌, Bool, true, false, List, [], ◌∷◌, ◌++◌, length, take, set, get_or, suc, zero, refl}
use Rattle.std.proofs.Common.{sym, ap, ◌∙◌, arith}
use Rattle.std.specs.Prelude.{Option, Some, None, slice_get, if◌then◌else◌}
use Rattle.std.proofs.lemmas.List.{get_or-set_same, get_or-set_other, get_or-take}
use Rattle.std.proofs.Math.ListN.{get_or-append}
use Rattle.alma_base.specs.Carry.{Carry, is_same_place, carried_at}
use Rattle.alma_code.specs.declared.cell.Cell.{Cell}
use Rattle.alma_code.specs.declared.cell.Cell.TheVariants.{Unknown}
use Rattle.alma_code.specs.Kinds.{is_number}
use Rattle.alma_code.specs.Picture.{PlainFrame, no_frame, frame_with, frames_with_cell}
use Rattle.alma_memory_store.specs.Frames.{IsWhole, AreWhole}
use Rattle.alma_memory_store.specs.Numbers.{number_in, number_of}
use Rattle.alma_back_tape.specs.Inner.Earlier.{frames_with_old_cells, over}
use Rattle.alma_back_tape.proofs.Lives.{whole-set, whole-with, whole-at}
use Rattle.alma_memory_store.proofs.Stores.{number-slot}
use Rattle.alma_memory_store.proofs.Carrying.{same-place-is}
use Rattle.alma_memory_store.proofs.Rising.{if-keeps, same-itself}
use Rattle.alma_back_tape.proofs.Pasts.{shared-length, at-above}

-- ---- what is laid over

-- nothing is laid over
pub over-none : (o : Option Cell) → over o None ≡ o
over-none None = refl
over-none (Some c) = refl

-- what is laid over last counts
over-over : (o w : Option Cell) (c : Cell) → over (over o w) (Some c) ≡ over o (Some c)
over-over None w c = refl
over-over (Some a) None c = refl
over-over (Some a) (Some b) c = refl

-- ---- writes

-- a write to a number slot
number-here : (g : PlainFrame) (s : ℕ) (c : Cell) → IsWhole g → number_in (frame_with g s c) s ≡ over (number_in g s) (Some c)
number-here g s c w = choose (is_number (slice_get g.kinds s)) refl
  where
    choose : (b : Bool) → b ≡ is_number (slice_get g.kinds s) →
        (if b then Some (get_or (set g.cells s c) s Unknown) else None) ≡ over (if b then Some (get_or g.cells s Unknown) else None)
        (Some c)
    choose true e =
        let slot : s < length g.kinds = number-slot g.kinds s (sym e) in
        let lt : s < length g.cells = omega (arith, slot, w.kinds) in
        ap Some (get_or-set_same g.cells s c Unknown lt)
    choose false e = refl

-- a write to a place changes its number slot
number-same : (fs : List PlainFrame) (f s : ℕ) (c : Cell) → AreWhole fs
    → number_of (frames_with_cell fs f s c) f s ≡ over (number_of fs f s) (Some c)
number-same [] f s c w = refl
number-same (x ∷ fs) zero s c w = number-here x s c w.0
number-same (x ∷ fs) (suc f) s c w = number-same fs f s c w.1

-- a write to another slot
number-other : (fs : List PlainFrame) (f s g t : ℕ) (c : Cell) → (f ≡ g → s ≡ t → ⊥)
    → number_of (frames_with_cell fs g t c) f s ≡ number_of fs f s
number-other [] f s g t c h = refl
number-other (x ∷ fs) zero s zero t c h =
    ap (λ d. if is_number (slice_get x.kinds s) then Some d else None) (get_or-set_other x.cells t s c Unknown (h refl))
number-other (x ∷ fs) zero s (suc g) t c h = refl
number-other (x ∷ fs) (suc f) s zero t c h = refl
number-other (x ∷ fs) (suc f) s (suc g) t c h = number-other fs f s g t c (λ e. h (ap suc e))

-- whole frames stay whole
whole-frames_with_old_cells : (fs : List PlainFrame) (cs : Carry Cell) → AreWhole fs → AreWhole (frames_with_old_cells fs cs)
whole-frames_with_old_cells fs [] w = w
whole-frames_with_old_cells fs (x ∷ cs) w =
    let r = whole-frames_with_old_cells fs cs w in
    whole-set (frames_with_old_cells fs cs) x.frame (frame_with (get_or (frames_with_old_cells fs cs) x.frame no_frame) x.slot x.cell)
    (whole-with (get_or (frames_with_old_cells fs cs) x.frame no_frame) x.slot x.cell (whole-at (frames_with_old_cells fs cs) x.frame r)) r

-- the cells of a carry are laid over the number slots
pub number-frames_with_old_cells : (fs : List PlainFrame) (cs : Carry Cell) (f s : ℕ) → AreWhole fs →
    number_of (frames_with_old_cells fs cs) f s ≡ over (number_of fs f s) (carried_at f s cs)
number-frames_with_old_cells fs [] f s w = sym (over-none (number_of fs f s))
number-frames_with_old_cells fs (x ∷ cs) f s w =
    let R = frames_with_old_cells fs cs in
    let P : Option Cell → Type 0 = (λ o. number_of (frames_with_cell R x.frame x.slot x.cell) f s ≡ over (number_of fs f s) o) in
    let rest : number_of R f s ≡ over (number_of fs f s) (carried_at f s cs) = number-frames_with_old_cells fs cs f s w in
    if-keeps P (is_same_place x.frame x.slot f s) (λ _. Some x.cell) (λ _. carried_at f s cs)
    (λ e. let one = same-place-is x.frame x.slot f s e in
    ap (λ g. number_of (frames_with_cell R g x.slot x.cell) f s) one.0 ∙ (ap (λ t. number_of (frames_with_cell R f t x.cell) f s) one.1
    ∙ (number-same R f s x.cell (whole-frames_with_old_cells fs cs w)
    ∙ (ap (λ o. over o (Some x.cell)) rest ∙ over-over (number_of fs f s) (carried_at f s cs) x.cell))))
    (λ ns. number-other R f s x.frame x.slot x.cell
    (λ e d. let no : true ≡ false = sym (rw (e, d) (same-itself x.frame x.slot)) ∙ ns in absurd (cc)) ∙ rest)

-- ---- before

-- a number slot of a shared frame
pub number-shared : (n : ℕ) (now above : List PlainFrame) (cs : Carry Cell) (f s : ℕ) → n ≤ length now → f < n →
    number_of (take n (frames_with_old_cells now cs) ++ above) f s ≡ number_of (frames_with_old_cells now cs) f s
number-shared n now above cs f s l lt =
    let len = shared-length n now cs l in
    let in_shared : f < length (take n (frames_with_old_cells now cs)) = omega (arith, len, lt) in
    ap (λ g. number_in g s) (get_or-append (take n (frames_with_old_cells now cs)) above no_frame f in_shared ∙ get_or-take n
    (frames_with_old_cells now cs) f no_frame lt)

-- a number slot of a frame above the shared ones
pub number-above : (n : ℕ) (now above : List PlainFrame) (cs : Carry Cell) (f s : ℕ) → n ≤ length now → n ≤ f →
    number_of (take n (frames_with_old_cells now cs) ++ above) f s ≡ number_in (get_or above (f - n) no_frame) s
number-above n now above cs f s l le = ap (λ g. number_in g s) (at-above n now above cs f l le)
