-- The parts of places.
use Rattle.std.proofs.Common.{◌≡◌, ℕ, zero, suc, ◌+◌, ◌*◌, ◌^◌, ◌<◌, ◌≤◌, List, length, sym, ap, ◌∙◌, arith, Some}
use Rattle.std.specs.Prelude.{ℤ, slice_get, true, ◌-ℤ◌, ◌≤ℤ◌, int_le, nat_abs}
use Rattle.std.specs.Int.Signed.{le_z_yes}
use Rattle.std.proofs.lemmas.Bool.{and_parts}
use Rattle.std.proofs.lemmas.Float.{T_from_true}
use Rattle.std.proofs.Math.Nat.{mul-le-mul_right}
use Rattle.alma_base.specs.declared.number.Range.{Range}
use Rattle.alma_base.specs.Numbers.{within, range_size}
use Rattle.alma_code.specs.declared.cell.Cell.TheVariants as cell
use Rattle.alma_code.specs.declared.cell.SlotKind.TheVariants as slot
use Rattle.alma_code.specs.Machine.{State, to_place, put_place, quiet_step, with_slot}
use Rattle.alma_code.specs.Picture.{PlainFrame, last_frame}
use Rattle.alma_code.specs.Rules.{place_length}
use Rattle.alma_code.proofs.Ranges.{offset_le}
use Rattle.alma_code_laws.proofs.Ready.{place_is}
use Rattle.std.proofs.lemmas.Option.{slice_get_within}
use Rattle.alma_machine_acts.specs.Rows.{HasPlace, HasSlot, width}

-- the length of a place slot is the one that its kind says
pub width_is : (now : List PlainFrame) (n l : ℕ) → slice_get (last_frame now).kinds n ≡ Some (slot.Place l) → width now n ≡ l
width_is now n l is = ap place_length is

-- a place slot has a kind
pub place_there : (now : List PlainFrame) (n : ℕ) → HasPlace now n → n < length (last_frame now).kinds
place_there now n h = let ks = (last_frame now).kinds in
    slice_get_within ks n (slot.Place (place_length (slice_get ks n))) (place_is (slice_get ks n) h.kind)

-- a place slot is a slot
pub place_is_slot : (now : List PlainFrame) (n : ℕ) → HasPlace now n → HasSlot now n
place_is_slot now n h = record { some = h.some; below = h.below }

-- a cell of a place, or the one behind its last, has a number of 32 bits
pub fits_word : (first n offset : ℕ) → (1 ≤ n → first + n < 2 ^ 32) → first < 2 ^ 32 → offset ≤ n → first + offset < 2 ^ 32
fits_word first zero offset few low le = omega arith
fits_word first (suc n) offset few low le = let all = few (omega arith) in omega arith

-- a part of a range is inside all of its parts
pub part_inside : (r : Range) (v : ℤ) (l : ℕ) → within r v ≡ true → nat_abs (v -ℤ r.low) * l + l ≤ range_size r * l
part_inside r v l e =
    let x = and_parts (int_le r.low v) (int_le v r.high) e in
    let a : r.low ≤ℤ v = le_z_yes (T_from_true (int_le r.low v) x.0) in
    let b : v ≤ℤ r.high = le_z_yes (T_from_true (int_le v r.high) x.1) in
    let le = offset_le r.low v r.high a b in
    omega (arith, mul-le-mul_right l le)

-- a place goes into a place slot of its length
pub put_place_is : (s : State) (n frame first l : ℕ) → slice_get (last_frame s.now).kinds n ≡ Some (slot.Place l)
    → put_place s n frame (λ _. first) ≡ quiet_step (with_slot s n (cell.Place (record { frame = frame; slot = first; len = l })))
put_place_is s n frame first l is = ap (λ o. to_place o s
    (λ l. quiet_step (with_slot s n (cell.Place (record { frame = frame; slot = first; len = l }))))) is

-- a place whose first cell depends on the length of its slot
pub put_place_at : (now : List PlainFrame) (s : State) (n frame l : ℕ) (first : ℕ → ℕ) → s.now ≡ now
    → slice_get (last_frame now).kinds n ≡ Some (slot.Place l) → put_place s n frame first ≡ put_place s n frame (λ _. first l)
put_place_at now s n frame l first same is =
    let put = λ (g : ℕ → ℕ) (l : ℕ). quiet_step (with_slot s n (cell.Place (record { frame = frame; slot = g l; len = l }))) in
    let kind : slice_get (last_frame s.now).kinds n ≡ Some (slot.Place l) = ap (λ fs. slice_get (last_frame fs).kinds n) same ∙ is in
    ap (λ o. to_place o s (put first)) kind ∙ sym (ap (λ o. to_place o s (put (λ _. first l))) kind)
