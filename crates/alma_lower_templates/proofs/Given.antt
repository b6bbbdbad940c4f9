-- A parameter of a live frame always holds a place: no slot of a routine for a place is unset, in any frame.
use Rattle.std.proofs.Common.{◌≡◌, ℕ, suc, ◌+◌, ◌-◌, ◌<◌, List, length, get_or, inl, inr, refl, sym, subst, arith}
use Rattle.std.proofs.lemmas.Bool.{cases_lt}
use Rattle.alma_code.specs.declared.cell.Cell.{Cell}
use Rattle.alma_code.specs.declared.cell.Cell.TheVariants as cell
use Rattle.alma_code.specs.declared.cell.SlotKind.{SlotKind}
use Rattle.alma_code.specs.declared.cell.SlotKind.TheVariants as slot
use Rattle.alma_code.specs.Picture.{PlainFrame, last_frame}
use Rattle.alma_code.specs.Picture as picture
use Rattle.alma_code.specs.Plain.{PlainCode}
use Rattle.alma_ir.specs.Tree.{Program, routine_at}
use Rattle.alma_mean.specs.Store.{Store}
use Rattle.alma_lower_implements.proofs.Frames.{shift, own_end, StandFor, KeptBelow, Fits}

-- a cell in a slot of this kind is no place that is missing
abbrev pub GivenIn : Cell → SlotKind → Type 0
GivenIn cell.Unset (slot.Place l) = ⊥
GivenIn _ _ = Unit {0}

pub number_given : (c : Cell) → GivenIn c slot.Number
number_given cell.Unset = tt
number_given cell.Unknown = tt
number_given (cell.Int x) = tt
number_given (cell.Place x) = tt
number_given (cell.Mark x) = tt

-- the routine's own slots of each frame hold the places that they are for
abbrev pub Given : Program → List PlainFrame → Type 0
Given p now = (k i : ℕ) → k < length now → i < (routine_at p (get_or now k picture.no_frame).routine).slots
    → GivenIn (get_or (get_or now k picture.no_frame).cells (shift p (get_or now k picture.no_frame).routine + i) cell.Unset)
    (get_or (get_or now k picture.no_frame).kinds (shift p (get_or now k picture.no_frame).routine + i) slot.Mark)

module _ (p : Program) (code : PlainCode) where
  -- each frame keeps what it holds for its routine
  pub frame_kept : (lo k : ℕ) (v w : Store) (now later : List PlainFrame) → k < length v → StandFor p code v now
      → Fits p code lo now w later
      → (lo2 : ℕ) × KeptBelow p code lo2 (get_or now k picture.no_frame) (get_or later k picture.no_frame)
  frame_kept lo k v w now later lt stand fit = elim (cases_lt (suc k) (length later)) [
    | inl below ↦ (length (get_or now k picture.no_frame).cells, fit.others k below)
    | inr last ↦
        let at_later : length later - 1 ≡ k = omega (arith, last, lt, stand.count, fit.same_count) in
        let at_now : length now - 1 ≡ k = omega (arith, last, lt, stand.count, fit.same_count) in (
          lo,
          subst (λ m. KeptBelow p code lo (get_or now k picture.no_frame) (get_or later m picture.no_frame)) at_later
              (subst (λ m. KeptBelow p code lo (get_or now m picture.no_frame) (last_frame later)) at_now fit.top),
        )
  ]

  cell_given : (lo i : ℕ) (g g' : PlainFrame) (k : SlotKind) → KeptBelow p code lo g g' → get_or g.kinds i slot.Mark ≡ k
      → i < own_end p g.routine → GivenIn (get_or g.cells i cell.Unset) k → GivenIn (get_or g'.cells i cell.Unset) k
  cell_given lo i g g' slot.Number kept e lt h = number_given (get_or g'.cells i cell.Unset)
  cell_given lo i g g' (slot.Place l) kept e lt h = subst (λ c. GivenIn c (slot.Place l)) (sym (kept.places i l e lt)) h
  cell_given lo i g g' slot.Mark kept e lt h = by (get_or g'.cells i cell.Unset)
    where
      by : (c : Cell) → GivenIn c slot.Mark
      by cell.Unset = tt
      by cell.Unknown = tt
      by (cell.Int x) = tt
      by (cell.Place x) = tt
      by (cell.Mark x) = tt
  cell_given lo i g g' (slot.Link r) kept e lt h = by (get_or g'.cells i cell.Unset)
    where
      by : (c : Cell) → GivenIn c (slot.Link r)
      by cell.Unset = tt
      by cell.Unknown = tt
      by (cell.Int x) = tt
      by (cell.Place x) = tt
      by (cell.Mark x) = tt

  frame_given : (lo i : ℕ) (g g' : PlainFrame) → KeptBelow p code lo g g' → shift p g.routine + i < own_end p g.routine
      → GivenIn (get_or g.cells (shift p g.routine + i) cell.Unset) (get_or g.kinds (shift p g.routine + i) slot.Mark)
      → GivenIn (get_or g'.cells (shift p g'.routine + i) cell.Unset) (get_or g'.kinds (shift p g'.routine + i) slot.Mark)
  frame_given lo i g g' kept lt h =
      subst (λ r. GivenIn (get_or g'.cells (shift p r + i) cell.Unset) (get_or g'.kinds (shift p r + i) slot.Mark)) (sym kept.routine)
      (subst (λ ks. GivenIn (get_or g'.cells (shift p g.routine + i) cell.Unset) (get_or ks (shift p g.routine + i) slot.Mark))
      (sym kept.kinds)
      (cell_given lo (shift p g.routine + i) g g' (get_or g.kinds (shift p g.routine + i) slot.Mark) kept refl lt h))

  -- a phrase leaves each of them as it was
  pub given_after : (lo : ℕ) (v w : Store) (now later : List PlainFrame) → StandFor p code v now → Fits p code lo now w later
      → Given p now → Given p later
  given_after lo v w now later stand fit h k i lt small =
      let live : k < length now = omega (arith, lt, fit.same_count) in
      let kept = frame_kept lo k v w now later (omega (arith, live, stand.count)) stand fit in
      let slots : i < (routine_at p (get_or now k picture.no_frame).routine).slots =
      subst (λ r. i < (routine_at p r).slots) kept.1.routine small in
      frame_given kept.0 i (get_or now k picture.no_frame) (get_or later k picture.no_frame) kept.1 (omega (arith, slots))
      (h k i live slots)
