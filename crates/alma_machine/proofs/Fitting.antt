-- What a state that fits a sound code gives to the instruction at its address.
use Rattle.std.proofs.Common.{◌≡◌, ℕ, ◌+◌, ◌-◌, ◌<◌, length, get_or, refl, sym, ap, ◌∙◌, subst, arith, Some}
use Rattle.std.specs.Prelude.{slice_get, true, nat_eq}
use Rattle.std.proofs.lemmas.Bool.{eqb-true}
use Rattle.std.proofs.lemmas.Option.{slice_get_within, get_or_from_slice_get}
use Rattle.alma_code.specs.declared.cell.Cell.{Cell}
use Rattle.alma_code.specs.declared.cell.Cell.TheVariants as cell
use Rattle.alma_code.specs.declared.cell.CellPlace.{CellPlace}
use Rattle.alma_code.specs.declared.cell.SlotKind.TheVariants as slot
use Rattle.alma_code.specs.declared.instr.Word.TheVariants as W
use Rattle.alma_code.specs.Fits.{routines_of, IsContent, IsCell, IsPlace, FitsSlot}
use Rattle.alma_code.specs.Kinds.{is_place, is_link}
use Rattle.alma_code.specs.Machine.{State, top, slot_of}
use Rattle.alma_code.specs.Picture.{no_frame, last_frame, cell_at}
use Rattle.alma_code.specs.Plain.{PlainCode, kinds_at}
use Rattle.alma_code.specs.Rules.{IsSound, kind_in, length_in, link_in, place_length, names_slot}
use Rattle.alma_code_laws.proofs.Ready.{Ready, has_slot, number_slot, number_there, content_is, mark_is}
use Rattle.alma_code_laws.proofs.Acts.{number_word, place_word, mark_word, frame_live}
use Rattle.alma_code_laws.proofs.Links.{link_word}
use Rattle.alma_code.proofs.Heads.{number_is}
use Rattle.alma_machine_acts.specs.Inputs.{HasPosition}
use Rattle.alma_machine_acts.specs.Rows.{HasNumber, HasNumberIn, HasCells, HasOneCell, HasPlace, HasMark, HasLink, HasLinkTo, HoldsCells}
use Rattle.alma_machine_acts.specs.Rows.{HoldsMark, HoldsPlace, IsCells, width}
use Rattle.alma_machine.proofs.Counting.{few_kinds}

module _ (code : PlainCode) (sound : IsSound code) (r : ℕ) (s : State) (h : Ready code r s) where
  -- a slot of the top frame that holds a cell is one
  pub below_of : (n : ℕ) (c : Cell) → slot_of s n ≡ Some c → n < length (last_frame s.now).cells
  below_of n c is = slice_get_within (last_frame s.now).cells n c is

  -- and holds it whatever stands for a slot that is not there
  pub cell_of : (n : ℕ) (c : Cell) → slot_of s n ≡ Some c → get_or (last_frame s.now).cells n cell.Unset ≡ c
  cell_of n c is = get_or_from_slice_get (last_frame s.now).cells n c cell.Unset is

  -- a number slot
  pub number_has : (n : ℕ) → kind_in code r n ≡ Some slot.Number → HasNumber s.now n
  number_has n e =
      let has = has_slot code r s n slot.Number h e in
      record {
        live = omega (arith, h.frames.some);
        below = below_of n has.cell has.is;
        kind = has.kind_is;
        content = subst IsContent (sym (cell_of n has.cell has.is)) has.fits;
      }

  -- a word that names a number slot
  pub has_number : (n : ℕ) → names_slot code r (W.Number n) ≡ true → HasNumber s.now n
  has_number n w = number_has n (number_is (kind_in code r n) (number_word code r n w).1)

  -- a cell of a place
  cell_has : (f i : ℕ) → f < length s.now → IsCell code (routines_of s.now) f i → HasNumberIn s.now f i
  cell_has f i lf c =
      let there = number_there code r s f i h lf c in
      record {
        live = lf;
        below = omega (arith, there.0, (h.frames.each f lf).full);
        kind = number_slot code r s f i h lf c;
        content = content_is code r s f i h lf c;
      }

  -- a place that fits
  cells_has : (l : ℕ) (p : CellPlace) → p.len ≡ l → IsPlace code (routines_of s.now) (top s) p → IsCells s.now l p
  cells_has l p e fits =
      let lf = frame_live code r s p h fits in
      record {
        live = lf;
        many = e;
        few = λ some.
            let last : l - 1 < p.len = omega arith in
            let there = number_there code r s p.frame (p.slot + (l - 1)) h lf (fits.cells (l - 1) last) in
            let ff = h.frames.each p.frame lf in
            let all = few_kinds code sound (get_or s.now p.frame no_frame).routine ff.routine in
            let same : length (get_or s.now p.frame no_frame).kinds ≡ length (kinds_at code (get_or s.now p.frame no_frame).routine) =
            ap length ff.kinds in
            omega (arith, there.0);
        each = λ k lt. cell_has p.frame (p.slot + k) lf (fits.cells k (omega arith));
      }

  -- what fits a slot for places
  holds_cells : (l : ℕ) (c : Cell) → FitsSlot code (routines_of s.now) (top s) (slot.Place l) c → HoldsCells s.now l c
  holds_cells l (cell.Place p) f = cells_has l p f.0 f.1
  holds_cells l cell.Unset f = tt
  holds_cells l cell.Unknown f = absurd f
  holds_cells l (cell.Int v) f = absurd f
  holds_cells l (cell.Mark m) f = absurd f

  -- the places of a slot are as long as the code says
  pub width_in : (n : ℕ) → names_slot code r (W.Place n) ≡ true → width s.now n ≡ length_in code r n
  width_in n w =
      let l = length_in code r n in
      let has = has_slot code r s n (slot.Place l) h (place_word code r n w).1 in
      ap place_length has.kind_is

  -- a word that names a slot for places
  pub has_cells : (n : ℕ) → names_slot code r (W.Place n) ≡ true → HasCells s.now n
  has_cells n w =
      let l = length_in code r n in
      let has = has_slot code r s n (slot.Place l) h (place_word code r n w).1 in
      record {
        some = h.frames.some;
        below = below_of n has.cell has.is;
        content = subst (λ m. HoldsCells s.now m (get_or (last_frame s.now).cells n cell.Unset)) (sym (width_in n w))
            (subst (HoldsCells s.now l) (sym (cell_of n has.cell has.is)) (holds_cells l has.cell has.fits));
      }

  -- a word that names a slot for places of one cell
  pub has_one_cell : (n : ℕ) → names_slot code r (W.Place n) ≡ true → nat_eq (length_in code r n) 1 ≡ true → HasOneCell s.now n
  has_one_cell n w one = record { place = has_cells n w; one = width_in n w ∙ eqb-true (length_in code r n) 1 one }

  -- a word that names a place slot
  pub has_place : (n : ℕ) → names_slot code r (W.Place n) ≡ true → HasPlace s.now n
  has_place n w =
      let has = has_slot code r s n (slot.Place (length_in code r n)) h (place_word code r n w).1 in
      record { some = h.frames.some; below = below_of n has.cell has.is; kind = ap is_place has.kind_is }

  -- what fits a mark slot
  holds_mark : (c : Cell) → FitsSlot code (routines_of s.now) (top s) slot.Mark c → HoldsMark c
  holds_mark (cell.Mark m) f = tt
  holds_mark cell.Unset f = tt
  holds_mark cell.Unknown f = absurd f
  holds_mark (cell.Int v) f = absurd f
  holds_mark (cell.Place p) f = absurd f

  -- a word that names a mark slot
  pub has_mark : (n : ℕ) → names_slot code r (W.Mark n) ≡ true → HasMark s.now n
  has_mark n w =
      let has = has_slot code r s n slot.Mark h (mark_is (kind_in code r n) (mark_word code r n w).1) in
      record {
        some = h.frames.some;
        below = below_of n has.cell has.is;
        kind = has.kind_is;
        content = subst HoldsMark (sym (cell_of n has.cell has.is)) (holds_mark has.cell has.fits);
      }

  -- ---- links

  -- what fits a link slot of a frame
  pub holds_link : (f q : ℕ) (c : Cell) → FitsSlot code (routines_of s.now) f (slot.Link q) c → HoldsPlace c
  holds_link f q (cell.Place p) x = tt
  holds_link f q cell.Unset x = tt
  holds_link f q cell.Unknown x = absurd x
  holds_link f q (cell.Int v) x = absurd x
  holds_link f q (cell.Mark m) x = absurd x

  -- a word that names a link slot that is read
  pub has_link : (n : ℕ) → names_slot code r (W.Link n) ≡ true → HasLink s.now n
  has_link n w =
      let q = link_in code r n in
      let has = has_slot code r s n (slot.Link q) h (link_word code r n w).1 in
      record {
        live = omega (arith, h.frames.some);
        below = below_of n has.cell has.is;
        content = subst HoldsPlace (sym (cell_of n has.cell has.is)) (holds_link (top s) q has.cell has.fits);
      }

  -- and one that is written
  pub has_link_to : (n : ℕ) → names_slot code r (W.Link n) ≡ true → HasLinkTo s.now n
  has_link_to n w =
      let has = has_slot code r s n (slot.Link (link_in code r n)) h (link_word code r n w).1 in
      record { some = h.frames.some; below = below_of n has.cell has.is; kind = ap is_link has.kind_is }

  -- ---- the position

  pub position_there : slice_get (kinds_at code 0) 0 ≡ Some slot.Number → HasPosition s.now
  position_there first =
      let ff = h.frames.each 0 h.frames.some in
      let ks : slice_get (get_or s.now 0 no_frame).kinds 0 ≡ Some slot.Number =
      ap (λ k. slice_get k 0) (ff.kinds ∙ ap (kinds_at code) (ff.main refl)) ∙ first in
      let lt : 0 < length (get_or s.now 0 no_frame).kinds = slice_get_within (get_or s.now 0 no_frame).kinds 0 slot.Number ks in
      let got : get_or (get_or s.now 0 no_frame).kinds 0 slot.Mark ≡ slot.Number =
      get_or_from_slice_get (get_or s.now 0 no_frame).kinds 0 slot.Number slot.Mark ks in
      record {
        number = record {
          live = h.frames.some;
          below = omega (arith, ff.full);
          kind = ks;
          content = subst (λ k. FitsSlot code (routines_of s.now) 0 k (cell_at s.now 0 0 cell.Unset)) got (ff.cells 0 lt);
        };
        position = h.frames.position;
      }
