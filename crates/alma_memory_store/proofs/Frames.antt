-- Lemmas on frames that are regions of one list of slots.
use Rattle.std.proofs.Common.{◌≡◌, ℕ, suc, zero, ◌≤◌, ◌<◌, ◌+◌, ◌-◌, List, [], ◌∷◌, ◌++◌, length, map, take, drop, get_or, set, refl, sym}
use Rattle.std.proofs.Common.{ap, ◌∙◌, arith}
use Rattle.std.proofs.lemmas.List.{take-set-le, take-take, length-take-le, length-drop, length-map, map-set, get_or-take, get_or-drop}
use Rattle.std.proofs.Math.Seq.{map-set_same}
use Rattle.alma_code.specs.Picture.{frame_with, frames_with_cell}
use Rattle.alma_memory_store.specs.declared.store.Region.{Region}
use Rattle.alma_memory_store.specs.declared.store.Slot.{Slot}
use Rattle.alma_memory_store.specs.Frames.{AreWhole}
use Rattle.alma_memory_store.specs.Regions.{frame_of, frame_with_slots, frames_of, part_of, no_region, no_slot, AreLaid, end_of}

-- ---- parts of a list

module _ {T : Type 0} where
  take-nil : (n : ℕ) (nil : List T) → nil ≡ [] → take n nil ≡ []
  take-nil zero nil e = refl
  take-nil (suc n) nil e = ap (take (suc n)) e

  set-take : (n : ℕ) (xs : List T) (k : ℕ) (x : T) → set (take n xs) k x ≡ take n (set xs k x)
  set-take zero xs k x = refl
  set-take (suc n) [] k x = refl
  set-take (suc n) (y ∷ xs) zero x = refl
  set-take (suc n) (y ∷ xs) (suc k) x = ap (λ v. y ∷ v) (set-take n xs k x)

  -- a write above a part
  part-above : (n b k : ℕ) (xs : List T) (x : T) → b + n ≤ k → take n (drop b (set xs k x)) ≡ take n (drop b xs)
  part-above n zero k xs x l = take-set-le n xs k x (omega (arith, l))
  part-above n (suc b) k [] x l = refl
  part-above n (suc b) zero (y ∷ xs) x l = absurd (omega (arith, l))
  part-above n (suc b) (suc k) (y ∷ xs) x l = part-above n b k xs x (omega (arith, l))

  -- a write below a part
  part-below : (b k : ℕ) (xs : List T) (x : T) → k < b → drop b (set xs k x) ≡ drop b xs
  part-below zero k xs x l = absurd (omega (arith, l))
  part-below (suc b) k [] x l = refl
  part-below (suc b) zero (y ∷ xs) x l = refl
  part-below (suc b) (suc k) (y ∷ xs) x l = part-below b k xs x (omega (arith, l))

  -- a write into a part
  part-in : (n b s : ℕ) (xs : List T) (x : T) → take n (drop b (set xs (b + s) x)) ≡ set (take n (drop b xs)) s x
  part-in n zero s xs x =
      let z : 0 + s ≡ s = omega arith in
      ap (λ k. take n (set xs k x)) z ∙ sym (set-take n xs s x)
  part-in n (suc b) s [] x =
      let none : take n [] ≡ [] = take-nil n [] refl in
      none ∙ sym (ap (λ v. set v s x) none)
  part-in n (suc b) s (y ∷ xs) x =
      let z : suc b + s ≡ suc (b + s) = omega arith in
      ap (λ k. take n (drop (suc b) (set (y ∷ xs) k x))) z ∙ part-in n b s xs x

  -- a part below a cut
  part-take : (n b t : ℕ) (xs : List T) → b + n ≤ t → take n (drop b (take t xs)) ≡ take n (drop b xs)
  part-take n zero t xs l = take-take n t xs (omega (arith, l))
  part-take n (suc b) zero xs l = absurd (omega (arith, l))
  part-take n (suc b) (suc t) [] l = refl
  part-take n (suc b) (suc t) (x ∷ xs) l = part-take n b t xs (omega (arith, l))

-- ---- regions

pub laid-le : (low : ℕ) (rs : List Region) (top : ℕ) → AreLaid low rs top → low ≤ top
laid-le low [] top h = h
laid-le low (r ∷ rs) top h = omega (arith, h.0, laid-le (r.base + r.slots) rs top h.1)

pub laid-more : (low : ℕ) (rs : List Region) (top up : ℕ) → AreLaid low rs top → top ≤ up → AreLaid low rs up
laid-more low [] top up h l = omega (arith, h, l)
laid-more low (r ∷ rs) top up h l = (h.0, laid-more (r.base + r.slots) rs top up h.1 l)

pub laid-end : (low : ℕ) (rs : List Region) (top : ℕ) → AreLaid low rs top → AreLaid low rs (end_of low rs) × (end_of low rs ≤ top)
laid-end low [] top h = (omega arith, h)
laid-end low (r ∷ rs) top h = let e = laid-end (r.base + r.slots) rs top h.1 in ((h.0, e.0), e.1)

pub laid-push : (low : ℕ) (rs : List Region) (r : Region) (top : ℕ) → AreLaid low rs r.base → r.base + r.slots ≤ top
    → AreLaid low (rs ++ r ∷ []) top
laid-push low [] r top h l = (h, l)
laid-push low (d ∷ rs) r top h l = (h.0, laid-push (d.base + d.slots) rs r top h.1 l)

pub laid-take : (k low : ℕ) (rs : List Region) (top : ℕ) → AreLaid low rs top → AreLaid low (take k rs) top
laid-take zero low rs top h = laid-le low rs top h
laid-take (suc k) low [] top h = h
laid-take (suc k) low (r ∷ rs) top h = (h.0, laid-take k (r.base + r.slots) rs top h.1)

pub laid-at : (low : ℕ) (rs : List Region) (top f : ℕ) → AreLaid low rs top → f < length rs → (low ≤ (get_or rs f no_region).base)
    × ((get_or rs f no_region).base + (get_or rs f no_region).slots ≤ top)
laid-at low [] top f h l = absurd (omega (arith, l))
laid-at low (r ∷ rs) top zero h l = (h.0, laid-le (r.base + r.slots) rs top h.1)
laid-at low (r ∷ rs) top (suc f) h l =
    let a = laid-at (r.base + r.slots) rs top f h.1 (omega (arith, l)) in (omega (arith, h.0, a.0), a.1)

-- the end of the last region
pub end-last : (low : ℕ) (rs : List Region) → 1 ≤ length rs
    → end_of low rs ≡ (get_or rs (length rs - 1) no_region).base + (get_or rs (length rs - 1) no_region).slots
end-last low [] l = absurd (omega (arith, l))
end-last low (r ∷ []) l = refl
end-last low (r ∷ d ∷ rs) l =
    let up : length (r ∷ d ∷ rs) - 1 ≡ suc (length (d ∷ rs) - 1) = omega arith in
    rw up (end-last (r.base + r.slots) (d ∷ rs) (omega arith))

-- ---- frames

frame-part : (r : Region) (xs ys : List Slot) → take r.slots (drop r.base xs) ≡ take r.slots (drop r.base ys)
    → frame_of xs r ≡ frame_of ys r
frame-part r xs ys e = ap (frame_with_slots r) e

-- frames of a list that is cut above them
pub frames-take : (low : ℕ) (rs : List Region) (t : ℕ) (xs : List Slot) → AreLaid low rs t → frames_of (take t xs) rs ≡ frames_of xs rs
frames-take low [] t xs h = refl
frames-take low (r ∷ rs) t xs h =
    let e : r.base + r.slots ≤ t = laid-le (r.base + r.slots) rs t h.1 in
    let one : frame_of (take t xs) r ≡ frame_of xs r = frame-part r (take t xs) xs (part-take r.slots r.base t xs e) in
    let rest : frames_of (take t xs) rs ≡ frames_of xs rs = frames-take (r.base + r.slots) rs t xs h.1 in
    cc

-- frames of lists that agree below t
pub frames-agree : (low : ℕ) (rs : List Region) (t : ℕ) (xs ys : List Slot) → AreLaid low rs t → take t xs ≡ take t ys
    → frames_of xs rs ≡ frames_of ys rs
frames-agree low rs t xs ys h e =
    sym (frames-take low rs t xs h) ∙ (ap (λ v. frames_of v rs) e ∙ frames-take low rs t ys h)

frames-below : (low : ℕ) (rs : List Region) (top : ℕ) (xs : List Slot) (k : ℕ) (x : Slot) → AreLaid low rs top → k < low
    → frames_of (set xs k x) rs ≡ frames_of xs rs
frames-below low [] top xs k x h l = refl
frames-below low (r ∷ rs) top xs k x h l =
    let lt : k < r.base = omega (arith, h.0, l) in
    let one : frame_of (set xs k x) r ≡ frame_of xs r = frame-part r (set xs k x) xs (ap (take r.slots) (part-below r.base k xs x lt)) in
    let rest : frames_of (set xs k x) rs ≡ frames_of xs rs = frames-below (r.base + r.slots) rs top xs k x h.1 (omega (arith, h.0, l)) in
    cc

-- a slot that keeps its kind in some slots
kept-kinds : (part : List Slot) (s : ℕ) (x : Slot) → x.kind ≡ (get_or part s no_slot).kind
    → map (λ (v : Slot). v.kind) (set part s x) ≡ map (λ (v : Slot). v.kind) part
kept-kinds part s x e = map-set_same (λ (v : Slot). v.kind) part s x no_slot e

-- a write of a cell to a slot of a region
frame-write : (r : Region) (xs : List Slot) (s : ℕ) (x : Slot) → s < r.slots → x.kind ≡ (get_or xs (r.base + s) no_slot).kind
    → frame_of (set xs (r.base + s) x) r ≡ frame_with (frame_of xs r) s x.cell
frame-write r xs s x l e =
    let part : List Slot = part_of xs r in
    let here : get_or part s no_slot ≡ get_or xs (r.base + s) no_slot = get_or-take r.slots (drop r.base xs) s no_slot l
    ∙ get_or-drop r.base xs s no_slot in
    let put : part_of (set xs (r.base + s) x) r ≡ set part s x = part-in r.slots r.base s xs x in
    let kinds : map (λ (v : Slot). v.kind) (set part s x) ≡ map (λ (v : Slot). v.kind) part =
    kept-kinds part s x (e ∙ ap (λ (v : Slot). v.kind) (sym here)) in
    let cells : map (λ (v : Slot). v.cell) (set part s x) ≡ set (map (λ (v : Slot). v.cell) part) s x.cell =
    map-set (λ (v : Slot). v.cell) part s x in
    ap (frame_with_slots r) put
    ∙ (ap (λ ks. record {
      routine = r.routine;
      back = r.back;
      declared = r.declared;
      kinds = ks;
      cells =
          map (λ (v : Slot). v.cell) (set part s x);
    }) kinds
    ∙ ap (λ cs. record { routine = r.routine; back = r.back; declared = r.declared; kinds = map (λ (v : Slot). v.kind) part; cells = cs })
    cells)

-- a write to a slot of a frame changes that frame alone
pub frames-write : (low : ℕ) (rs : List Region) (top : ℕ) (xs : List Slot) (f slot : ℕ) (x : Slot) → AreLaid low rs top → f < length rs
    → slot < (get_or rs f no_region).slots →
    x.kind ≡ (get_or xs ((get_or rs f no_region).base + slot) no_slot).kind →
    frames_of (set xs ((get_or rs f no_region).base + slot) x) rs ≡ frames_with_cell (frames_of xs rs) f slot x.cell
frames-write low [] top xs f slot x h l s q = absurd (omega (arith, l))
frames-write low (r ∷ rs) top xs zero slot x h l s q =
    let k : r.base + slot < r.base + r.slots = omega (arith, s) in
    let one : frame_of (set xs (r.base + slot) x) r ≡ frame_with (frame_of xs r) slot x.cell = frame-write r xs slot x s q in
    let rest : frames_of (set xs (r.base + slot) x) rs ≡ frames_of xs rs =
    frames-below (r.base + r.slots) rs top xs (r.base + slot) x h.1 k in
    cc
frames-write low (r ∷ rs) top xs (suc f) slot x h l s q =
    let lt : f < length rs = omega (arith, l) in
    let a = laid-at (r.base + r.slots) rs top f h.1 lt in
    let above : r.base + r.slots ≤ (get_or rs f no_region).base + slot = omega (arith, a.0) in
    let one : frame_of (set xs ((get_or rs f no_region).base + slot) x) r ≡ frame_of xs r =
    frame-part r (set xs ((get_or rs f no_region).base + slot) x) xs
    (part-above r.slots r.base ((get_or rs f no_region).base + slot) xs x above) in
    let rest : frames_of (set xs ((get_or rs f no_region).base + slot) x) rs ≡ frames_with_cell (frames_of xs rs) f slot x.cell =
    frames-write (r.base + r.slots) rs top xs f slot x h.1 lt s q in
    cc

-- how many slots a region has
pub length-part : (r : Region) (xs : List Slot) → r.base + r.slots ≤ length xs → length (take r.slots (drop r.base xs)) ≡ r.slots
length-part r xs l = length-take-le r.slots (drop r.base xs) (rw (length-drop r.base xs) (omega (arith, l)))

pub length-cells : (r : Region) (xs : List Slot) → r.base + r.slots ≤ length xs → length (frame_of xs r).cells ≡ r.slots
length-cells r xs l = length-map (part_of xs r) (λ (s : Slot). s.cell) ∙ length-part r xs l

-- each frame has a kind for each cell
pub whole-frames : (xs : List Slot) (rs : List Region) → AreWhole (frames_of xs rs)
whole-frames xs [] = tt
whole-frames xs (r ∷ rs) = (
  record
      { kinds = length-map (part_of xs r) (λ (s : Slot). s.kind) ∙ sym (length-map (part_of xs r) (λ (s : Slot). s.cell)) },
  whole-frames xs rs,
)
