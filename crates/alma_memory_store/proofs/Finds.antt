-- Where a slot of a live frame stands.
use Rattle.std.proofs.Common.{Result, Ok, Err, ◌≡◌, ℕ, suc, zero, ◌≤◌, ◌<◌, ◌+◌, ◌-◌, Bool, true, false, if◌then◌else◌, List, [], ◌∷◌, ◌++◌}
use Rattle.std.proofs.Common.{length, map, take, drop, get_or, set, refl, sym, ap, ◌∙◌, arith}
use Rattle.std.specs.Prelude.{Some, None, slice_get, is_ok}
use Rattle.std.specs.Result.{IsErrAnd}
use Rattle.std.proofs.lemmas.List.{length-take-le, length-map, get_or-map, get_or-take, get_or-drop, get_or_past}
use Rattle.std.proofs.lemmas.Option.{get_or_from_slice_get}
use Rattle.alma_code.specs.declared.cell.Cell.TheVariants.{Unknown}
use Rattle.alma_code.specs.Picture.{PlainFrame, no_frame, frames_with_cell, last_frame, cell_at}
use Rattle.alma_memory_store.specs.declared.store.Region.{Region}
use Rattle.alma_memory_store.specs.declared.store.Slot.{Slot}
use Rattle.alma_memory_store.specs.Frames.{AreWhole}
use Rattle.alma_memory_store.specs.Numbers.{number_in, number_of}
use Rattle.alma_memory_store.specs.Regions.{frame_of, frame_with_slots, frames_of, part_of, no_region, no_slot, end_of, AreTotaled}
use Rattle.alma_memory_store.specs.Regions.{declared_in, slot_number}
use Rattle.alma_memory_store.specs.PlainStore.{IsState}
use Rattle.alma_memory_store.proofs.Frames.{laid-at, end-last, frames-write, length-part, length-cells, whole-frames}
use Rattle.alma_memory_store.proofs.Totals.{total-last}
use Rattle.alma_memory_store.proofs.Stores.{whole-at}

pub live-length : (cells : List Slot) (regions : List Region) (n : ℕ) → n ≤ length regions → length (frames_of cells (take n regions)) ≡ n
live-length cells regions n l = length-map (take n regions) (frame_of cells) ∙ length-take-le n regions l

-- the region of a live frame
pub region-at : (regions : List Region) (n f : ℕ) (r : Region) → f < n → slice_get regions f ≡ Some r
    → get_or (take n regions) f no_region ≡ r
region-at regions n f r l e = get_or-take n regions f no_region l ∙ get_or_from_slice_get regions f r no_region e

pub frame-at : (cells : List Slot) (regions : List Region) (n f : ℕ) (r : Region) → n ≤ length regions → f < n
    → slice_get regions f ≡ Some r →
    get_or (frames_of cells (take n regions)) f no_frame ≡ frame_of cells r
frame-at cells regions n f r k l e =
    let w : f < length (take n regions) = rw (length-take-le n regions k) l in
    get_or-map (frame_of cells) (take n regions) f no_region no_frame w ∙ ap (frame_of cells) (region-at regions n f r l e)

-- the last live region
pub last-live : (regions : List Region) (n : ℕ) (r : Region) → n ≤ length regions → 1 ≤ n → slice_get regions (n - 1) ≡ Some r
    → r.base + r.slots ≡ end_of 0 (take n regions)
last-live regions n r k l e =
    let w : length (take n regions) ≡ n = length-take-le n regions k in
    let some : 1 ≤ length (take n regions) = rw w l in
    let at : get_or (take n regions) (length (take n regions) - 1) no_region ≡ r =
    ap (λ j. get_or (take n regions) (j - 1) no_region) w ∙ region-at regions n (n - 1) r (omega (arith, l)) e in
    sym (end-last 0 (take n regions) some ∙ ap (λ (q : Region). q.base + q.slots) at)

pub last-back : (cells : List Slot) (regions : List Region) (n : ℕ) (r : Region) → n ≤ length regions → 1 ≤ n
    → slice_get regions (n - 1) ≡ Some r →
    (last_frame (frames_of cells (take n regions))).back ≡ r.back
last-back cells regions n r k l e =
    let w : length (frames_of cells (take n regions)) ≡ n = live-length cells regions n k in
    ap (λ j. (get_or (frames_of cells (take n regions)) (j - 1) no_frame).back) w
    ∙ ap (λ (f : PlainFrame). f.back) (frame-at cells regions n (n - 1) r k (omega (arith, l)) e)

-- the top frame
pub last-region : (cells : List Slot) (regions : List Region) (n : ℕ) (r : Region) → n ≤ length regions → 1 ≤ n
    → slice_get regions (n - 1) ≡ Some r → last_frame (frames_of cells (take n regions)) ≡ frame_of cells r
last-region cells regions n r k l e =
    let w : length (frames_of cells (take n regions)) ≡ n = live-length cells regions n k in
    ap (λ j. get_or (frames_of cells (take n regions)) (j - 1) no_frame) w ∙ frame-at cells regions n (n - 1) r k (omega (arith, l)) e

-- the declared cells up to the top frame
pub last-total : (regions : List Region) (n : ℕ) (r : Region) → n ≤ length regions → 1 ≤ n → slice_get regions (n - 1) ≡ Some r
    → AreTotaled (take n regions) → r.total ≡ declared_in (take n regions)
last-total regions n r k l e t =
    let w : length (take n regions) ≡ n = length-take-le n regions k in
    let at : get_or (take n regions) (length (take n regions) - 1) no_region ≡ r =
    ap (λ j. get_or (take n regions) (j - 1) no_region) w ∙ region-at regions n (n - 1) r (omega (arith, l)) e in
    sym (ap (λ (q : Region). q.total) at) ∙ total-last (take n regions) t (rw w l)

-- a slot of a live frame
pub record Finds (cells : List Slot) (regions : List Region) (n f slot : ℕ) (r : Region) (now : List PlainFrame) : Type 0 where
  pub inside : r.base + slot < length cells
  pub own : slot < r.slots
  pub write : (x : Slot) → x.kind ≡ (get_or cells (r.base + slot) no_slot).kind
      → frames_of (set cells (r.base + slot) x) (take n regions) ≡ frames_with_cell now f slot x.cell
  pub read : (get_or cells (r.base + slot) no_slot).cell ≡ cell_at now f slot Unknown
  pub kind : slice_get (get_or now f no_frame).kinds slot ≡ Some (get_or cells (r.base + slot) no_slot).kind

get-mapped : {X Y : Type 0} (h : X → Y) (xs : List X) (i : ℕ) (d : X) → i < length xs → slice_get (map h xs) i ≡ Some (h (get_or xs i d))
get-mapped h [] i d l = absurd (omega (arith, l))
get-mapped h (x ∷ xs) zero d l = refl
get-mapped h (x ∷ xs) (suc i) d l = get-mapped h xs i d (omega (arith, l))

pub finds : (cells : List Slot) (regions : List Region) (n f slot : ℕ) (r : Region) (now : List PlainFrame) → IsState cells regions n →
    frames_of cells (take n regions) ≡ now → f < length now → slot < length (get_or now f no_frame).cells → slice_get regions f ≡ Some r
    → Finds cells regions n f slot r now
finds cells regions n f slot r now s v l k e =
    let wide : length now ≡ n = sym (ap length v) ∙ live-length cells regions n s.live in
    let lt : f < n = omega (arith, l, wide) in
    let w : f < length (take n regions) = rw (length-take-le n regions s.live) lt in
    let at : get_or (take n regions) f no_region ≡ r = region-at regions n f r lt e in
    let laid = laid-at 0 (take n regions) (length cells) f s.laid w in
    let end : r.base + r.slots ≤ length cells = rw at at laid.1 in
    let frame : get_or now f no_frame ≡ frame_of cells r = sym (ap (λ fs. get_or fs f no_frame) v)
    ∙ frame-at cells regions n f r s.live lt e in
    let size : length (get_or now f no_frame).cells ≡ r.slots = ap (λ (g : PlainFrame). length g.cells) frame ∙ length-cells r cells end in
    let mine : slot < r.slots = omega (arith, k, size) in
    let mine' : slot < (get_or (take n regions) f no_region).slots = rw at mine in
    let long : slot < length (part_of cells r) = rw (length-part r cells end) mine in
    let here : get_or (part_of cells r) slot no_slot ≡ get_or cells (r.base + slot) no_slot =
    get_or-take r.slots (drop r.base cells) slot no_slot mine ∙ get_or-drop r.base cells slot no_slot in
    record {
      inside = omega (arith, mine, end);
      own = mine;
      write = λ x q. (let g = frames-write 0 (take n regions) (length cells) cells f slot x s.laid w mine' (rw at q) in rw (at, v) at g);
      read = sym (ap (λ (g : PlainFrame). get_or g.cells slot Unknown) frame
          ∙ (get_or-map (λ (y : Slot). y.cell) (part_of cells r) slot no_slot Unknown long ∙ ap (λ (y : Slot). y.cell) here));
      kind = ap (λ (g : PlainFrame). slice_get g.kinds slot) frame
          ∙ (get-mapped (λ (y : Slot). y.kind) (part_of cells r) slot no_slot long ∙ ap (λ (y : Slot). Some y.kind) here);
    }

-- a slot of the top frame
pub finds-top : (cells : List Slot) (regions : List Region) (n slot : ℕ) (r : Region) (now : List PlainFrame) → IsState cells regions n →
    frames_of cells (take n regions) ≡ now → slot < length (last_frame now).cells → slice_get regions (n - 1) ≡ Some r →
    Finds cells regions n (length now - 1) slot r now
finds-top cells regions n slot r now s v k e =
    let wide : length now ≡ n = sym (ap length v) ∙ live-length cells regions n s.live in
    let top : slice_get regions (length now - 1) ≡ Some r = ap (λ j. slice_get regions (j - 1)) wide ∙ e in
    finds cells regions n (length now - 1) slot r now s v (omega (arith, wide, s.some)) k top

-- the region behind the live ones
put-at : (new regions : List Region) (n : ℕ) (r : Region) → n ≤ length regions → take (suc n) new ≡ take n regions ++ r ∷ [] →
    slice_get new n ≡ Some r
put-at [] regions zero r l e = let f : 0 ≡ 1 = ap length e in absurd (omega (arith, f))
put-at [] [] (suc n) r l e = absurd (omega (arith, l))
put-at [] (d ∷ regions) (suc n) r l e = let f : 0 ≡ suc (length (take n regions ++ r ∷ [])) = ap length e in absurd (omega (arith, f))
put-at (x ∷ new) regions zero r l e = ap (λ (rs : List Region). slice_get rs 0) e
put-at (x ∷ new) [] (suc n) r l e = absurd (omega (arith, l))
put-at (x ∷ new) (d ∷ regions) (suc n) r l e = put-at new regions n r (omega (arith, l)) (ap (drop 1) e)

pub put-last : (new regions : List Region) (n : ℕ) (r : Region) → n ≤ length regions → take (n + 1) new ≡ take n regions ++ r ∷ [] →
    slice_get new (n + 1 - 1) ≡ Some r
put-last new regions n r l e =
    let z : n + 1 - 1 ≡ n = omega arith in
    let y : suc n ≡ n + 1 = omega arith in
    ap (slice_get new) z ∙ put-at new regions n r l (ap (λ k. take k new) y ∙ e)

-- a slot with a kind has a cell
pub kind-cell : (cells : List Slot) (rs : List Region) (now : List PlainFrame) (f s : ℕ) → frames_of cells rs ≡ now
    → s < length (get_or now f no_frame).kinds → s < length (get_or now f no_frame).cells
kind-cell cells rs now f s v l =
    let w : AreWhole now = rw (← v) (whole-frames cells rs) in
    let e = (whole-at now f w).kinds in
    omega (arith, l, e)

-- a write, as its answer says
pub write-result : (cells new : List Slot) (rs : List Region) (now now' : List PlainFrame) (k : ℕ) (x : Slot) (b : Bool)
    → frames_of cells rs ≡ now →
    frames_of (set cells k x) rs ≡ now' → new ≡ (if b then set cells k x else cells) → frames_of new rs ≡ (if b then now' else now)
write-result cells new rs now now' k x true v w e = ap (λ c. frames_of c rs) e ∙ w
write-result cells new rs now now' k x false v w e = ap (λ c. frames_of c rs) e ∙ v

-- ---- number slots

-- the number slots of some slots
number-part : (part : List Slot) (r : Region) (s : ℕ) → number_in (frame_with_slots r part) s ≡ slot_number (slice_get part s)
number-part [] r s = refl
number-part (x ∷ part) r zero = refl
number-part (x ∷ part) r (suc s) = number-part part r s

get-part : (n b : ℕ) (xs : List Slot) (s : ℕ) → s < n → slice_get (take n (drop b xs)) s ≡ slice_get xs (b + s)
get-part zero b xs s l = absurd (omega (arith, l))
get-part (suc n) zero [] s l = refl
get-part (suc n) zero (x ∷ xs) zero l = refl
get-part (suc n) zero (x ∷ xs) (suc s) l =
    let z : 0 + suc s ≡ suc (0 + s) = omega arith in
    get-part n zero xs s (omega (arith, l)) ∙ sym (ap (slice_get (x ∷ xs)) z)
get-part (suc n) (suc b) [] s l = refl
get-part (suc n) (suc b) (x ∷ xs) s l =
    let z : suc b + s ≡ suc (b + s) = omega arith in
    get-part (suc n) b xs s l ∙ sym (ap (slice_get (x ∷ xs)) z)

get-none : (n b : ℕ) (xs : List Slot) (s : ℕ) → n ≤ s → slice_get (take n (drop b xs)) s ≡ None
get-none zero b xs s l = refl
get-none (suc n) zero [] s l = refl
get-none (suc n) zero (x ∷ xs) zero l = absurd (omega (arith, l))
get-none (suc n) zero (x ∷ xs) (suc s) l = get-none n zero xs s (omega (arith, l))
get-none (suc n) (suc b) [] s l = refl
get-none (suc n) (suc b) (x ∷ xs) s l = get-none (suc n) b xs s l

-- the number slot at a place of a live frame
pub number-live : (cells : List Slot) (regions : List Region) (n f s : ℕ) (r : Region) → n ≤ length regions → f < n
    → slice_get regions f ≡ Some r → s < r.slots →
    number_of (frames_of cells (take n regions)) f s ≡ slot_number (slice_get cells (r.base + s))
number-live cells regions n f s r k l e o =
    ap (λ g. number_in g s) (frame-at cells regions n f r k l e)
    ∙ (number-part (part_of cells r) r s ∙ ap slot_number (get-part r.slots r.base cells s o))

-- no number slot of it
pub number-past : (cells : List Slot) (regions : List Region) (n f s : ℕ) (r : Region) → n ≤ length regions → f < n
    → slice_get regions f ≡ Some r → r.slots ≤ s →
    number_of (frames_of cells (take n regions)) f s ≡ None
number-past cells regions n f s r k l e o =
    ap (λ g. number_in g s) (frame-at cells regions n f r k l e)
    ∙ (number-part (part_of cells r) r s ∙ ap slot_number (get-none r.slots r.base cells s o))

-- no frame
pub number-above : (cells : List Slot) (regions : List Region) (n f s : ℕ) → n ≤ length regions → n ≤ f
    → number_of (frames_of cells (take n regions)) f s ≡ None
number-above cells regions n f s k l =
    ap (λ g. number_in g s) (get_or_past (frames_of cells (take n regions)) f no_frame (omega (arith, live-length cells regions n k, l)))

-- ---- answers

-- a refused call leaves what was there
pub if-err : {V E A : Type 0} (r : Result V E) (e : E) (a b c : A) → IsErrAnd r (λ x. x ≡ e) → c ≡ b → c ≡ (if is_ok r then a else b)
if-err (Ok v) e a b c h q = absurd h
if-err (Err x) e a b c h q = q

-- where a slot of a live region stands
pub slot-end : (cells : List Slot) (regions : List Region) (n f s : ℕ) (r : Region) → IsState cells regions n → f < n
    → slice_get regions f ≡ Some r → s < r.slots → r.base + s < length cells
slot-end cells regions n f s r h l e o =
    let w : f < length (take n regions) = rw (length-take-le n regions h.live) l in
    let at : get_or (take n regions) f no_region ≡ r = region-at regions n f r l e in
    let laid = laid-at 0 (take n regions) (length cells) f h.laid w in
    let end : r.base + r.slots ≤ length cells = rw at at laid.1 in
    omega (arith, end, o)

-- where a live region ends
pub region-end : (cells : List Slot) (regions : List Region) (n f : ℕ) (r : Region) → IsState cells regions n → f < n
    → slice_get regions f ≡ Some r → r.base + r.slots ≤ length cells
region-end cells regions n f r h l e =
    let w : f < length (take n regions) = rw (length-take-le n regions h.live) l in
    let at : get_or (take n regions) f no_region ≡ r = region-at regions n f r l e in
    let laid = laid-at 0 (take n regions) (length cells) f h.laid w in
    rw at at laid.1
