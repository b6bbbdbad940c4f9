-- Alike carries: what a body changed enters both alike, and laid over alike frames they leave alike frames.
use Rattle.std.proofs.Common.{◌≡◌, ℕ, suc, ◌-◌, ◌<◌, ◌≤◌, inl, inr, Bool, true, false, not, ◌&&◌, length, get_or, List, Some, refl, sym}
use Rattle.std.proofs.Common.{ap, ◌∙◌, subst, arith}
use Rattle.std.specs.Prelude.{slice_get}
use Rattle.std.specs.Option.{unwrap_or}
use Rattle.std.proofs.lemmas.Bool.{cases_lt}
use Rattle.std.proofs.lemmas.List.{get_or_past}
use Rattle.std.proofs.lemmas.Option.{slice_get-get_or, unwrap_or-slice_get}
use Rattle.alma_base.specs.Carry.{Carry, carried_at, with_changes}
use Rattle.alma_base.specs.Choice.{if_true}
use Rattle.alma_code.specs.declared.cell.Cell.{Cell}
use Rattle.alma_code.specs.declared.cell.Cell.TheVariants as cell
use Rattle.alma_code.specs.declared.instr.Instr.TheVariants as I
use Rattle.alma_code.specs.Carries.{number_at, same_cell, differs, diffs, frames_with_carry}
use Rattle.alma_code.specs.Fits.{FitsFrames}
use Rattle.alma_code.specs.Kinds.{is_number}
use Rattle.alma_code.specs.Picture.{PlainFrame, no_frame, cell_at}
use Rattle.alma_code.specs.Plain.{PlainCode, kinds_at}
use Rattle.alma_code.specs.Rules.{kind_in}
use Rattle.alma_lower_implements.proofs.CarryMaps.{IsRising}
use Rattle.alma_lower_implements.proofs.LaidOver.{AreFull, or_else, overlaid_count, overlaid_form, overlaid_other, overlaid_cell}
use Rattle.alma_lower_implements.proofs.Gaining.{gained}
use Rattle.alma_lower_slots.specs.Slots.{target_slot}
use Rattle.alma_lower_slots.specs.Sharing.{Sharing, Renames}
use Rattle.alma_lower_slots.proofs.Frames.{SameCalls, slot_there, due_across}
use Rattle.alma_lower_slots.proofs.Alike.{IsDue, is_kept, on_top, below, AlikeFrame, AlikeFrames, AlikeCarries}
use Rattle.alma_lower_slots.proofs.Based.{HasFrames}

-- the cell that is there, or a default
same_default : (xs ys : List Cell) (i j : ℕ) (d : Cell) → slice_get ys j ≡ slice_get xs i → get_or ys j d ≡ get_or xs i d
same_default xs ys i j d e = sym (unwrap_or-slice_get ys j d) ∙ ap (λ o. unwrap_or o d) e ∙ unwrap_or-slice_get xs i d

-- two cells that are there
same_there : (xs ys : List Cell) (i j : ℕ) → i < length xs → j < length ys → get_or ys j cell.Unset ≡ get_or xs i cell.Unset
    → slice_get ys j ≡ slice_get xs i
same_there xs ys i j li lj e = slice_get-get_or ys j cell.Unset lj ∙ ap Some e ∙ sym (slice_get-get_or xs i cell.Unset li)

-- a number slot that is not live now does not differ
and_none : (b : Bool) → (b && false) ≡ false
and_none true = refl
and_none false = refl

-- so nothing differs in a frame that is not there now
differs_past : (before now : List PlainFrame) (f n : ℕ) → length now ≤ f → differs before now f n ≡ false
differs_past before now f n past =
    ap (λ g. number_at before f n && (is_number (slice_get g.kinds n)
    && not (same_cell (cell_at before f n cell.Unknown) (cell_at now f n cell.Unknown))))
    (get_or_past now f no_frame past)
    ∙ and_none (number_at before f n)

-- laid over frames, a carry leaves their calls
laid_calls : (frames : List PlainFrame) (carry : Carry Cell) → SameCalls (frames_with_carry frames carry) frames
laid_calls frames carry = record {
  count = sym (overlaid_count frames carry);
  routine = λ f. sym (overlaid_form frames carry f).routine;
  back = λ f. sym (overlaid_form frames carry f).back;
}

module _ (code new : PlainCode) (s : Sharing) (renames : Renames code s new) where
  -- each frame has a cell for each kind
  left_full : (frames : List PlainFrame) → FitsFrames code frames → AreFull frames
  left_full frames fits k = elim (cases_lt k (length frames)) [
    | inl lt ↦ (fits.each k lt).full
    | inr past ↦ ap (λ g. length g.cells) (get_or_past frames k no_frame past)
        ∙ sym (ap (λ g. length g.kinds) (get_or_past frames k no_frame past))
  ]

  -- so it is of frames that are alike
  right_full : (at : ℕ) (frames frames' : List PlainFrame) → AlikeFrames code new s at frames frames' → AreFull frames'
  right_full at frames frames' alike k = elim (cases_lt k (length frames)) [
    | inl lt ↦ (alike.each k lt).full
    | inr past ↦
        let beyond = get_or_past frames' k no_frame (omega (arith, past, alike.count)) in
        ap (λ g. length g.cells) beyond ∙ sym (ap (λ g. length g.kinds) beyond)
  ]

  -- frame f, of routine q
  module _ (at : ℕ) (frames frames' : List PlainFrame) (fits : FitsFrames code frames)
      (alike : AlikeFrames code new s at frames frames') (f q : ℕ) (lf : f < length frames)
      (is : (get_or frames f no_frame).routine ≡ q) where
    -- it has the slots of the routine
    left_kinds : (get_or frames f no_frame).kinds ≡ kinds_at code q
    left_kinds = (fits.each f lf).kinds ∙ ap (kinds_at code) is

    -- and the other those of the new one
    right_kinds : (get_or frames' f no_frame).kinds ≡ kinds_at new q
    right_kinds = (alike.each f lf).kinds ∙ ap (kinds_at new) is

    -- the routine is one of the code
    there : q < length code.routines
    there = subst (λ r. r < length code.routines) is (fits.each f lf).routine

    -- a slot of it and its new one are both number slots or none
    number_same : (n : ℕ) → n < length (kinds_at code q) → number_at frames' f (s.slot q n) ≡ number_at frames f n
    number_same n lt =
        ap is_number (ap (λ ks. slice_get ks (s.slot q n)) right_kinds ∙ renames.kinds q n there lt
        ∙ sym (ap (λ ks. slice_get ks n) left_kinds))

    -- the slot is there
    left_there : (n : ℕ) → n < length (kinds_at code q) → n < length (get_or frames f no_frame).cells
    left_there n lt = omega (arith, lt, left_full frames fits f, ap length left_kinds)

    -- and so is its new one
    right_there : (n : ℕ) → n < length (kinds_at code q) → s.slot q n < length (get_or frames' f no_frame).cells
    right_there n lt =
        omega (arith, slot_there code new s renames q n there lt, ap length right_kinds, right_full at frames frames' alike f)

    -- a slot that is due holds the same
    due_same : (n : ℕ) → n < length (kinds_at code q) → IsDue code new s frames at f n
        → slice_get (get_or frames' f no_frame).cells (s.slot q n) ≡ slice_get (get_or frames f no_frame).cells n
    due_same n lt due =
        subst (λ r. slice_get (get_or frames' f no_frame).cells (s.slot r n) ≡ slice_get (get_or frames f no_frame).cells n) is
        ((alike.each f lf).cells n (subst (λ r. n < length (kinds_at code r)) (sym is) lt) due)

    -- so does one that is kept: it has one cell
    kept_cell : (n : ℕ) (d : Cell) → n < length (kinds_at code q) → s.kept q n ≡ true
        → cell_at frames' f (s.slot q n) d ≡ cell_at frames f n d
    kept_cell n d lt k =
        same_default (get_or frames f no_frame).cells (get_or frames' f no_frame).cells n (s.slot q n) d
        (due_same n lt (is_kept (subst (λ r. s.kept r n ≡ true) (sym is) k)))

  -- ---- what a body changed

  -- of a place in a frame of now, both differ or none
  differs_same : (a b : ℕ) (before before' now now' : List PlainFrame) → FitsFrames code before → FitsFrames code now
      → AlikeFrames code new s a before before' → AlikeFrames code new s b now now' → (f q n : ℕ) → f < length before → f < length now
      → (get_or before f no_frame).routine ≡ q → (get_or now f no_frame).routine ≡ q → n < length (kinds_at code q) → s.kept q n ≡ true
      → differs before' now' f (s.slot q n) ≡ differs before now f n
  differs_same a b before before' now now' fits fits_now old young f q n lb ln is is_now lt k =
      let m = s.slot q n in
      ap (λ z. z && (number_at now' f m && not (same_cell (cell_at before' f m cell.Unknown) (cell_at now' f m cell.Unknown))))
      (number_same a before before' fits old f q lb is n lt)
      ∙ ap (λ z. number_at before f n && (z && not (same_cell (cell_at before' f m cell.Unknown) (cell_at now' f m cell.Unknown))))
      (number_same b now now' fits_now young f q ln is_now n lt)
      ∙ ap (λ z. number_at before f n && (number_at now f n && not (same_cell z (cell_at now' f m cell.Unknown))))
      (kept_cell a before before' fits old f q lb is n cell.Unknown lt k)
      ∙ ap (λ z. number_at before f n && (number_at now f n && not (same_cell (cell_at before f n cell.Unknown) z)))
      (kept_cell b now now' fits_now young f q ln is_now n cell.Unknown lt k)

  -- it enters both carries alike, where the copy and the routines of the entry cover the frames of now
  pub gain_alike : (a b : ℕ) (before before' now now' : List PlainFrame) (rs : List ℕ) (carry carry' : Carry Cell) → FitsFrames code before
      → FitsFrames code now → AlikeFrames code new s a before before' → AlikeFrames code new s b now now' → HasFrames now before
      → ((f : ℕ) → f < length now → get_or rs f 0 ≡ (get_or now f no_frame).routine)
      → AlikeCarries code new s rs carry carry' → AlikeCarries code new s rs (with_changes (diffs before now) carry)
      (with_changes (diffs before' now') carry')
  gain_alike a b before before' now now' rs carry carry' fits fits_now old young has agrees alike f n lf lt k number =
      let q = get_or rs f 0 in
      let m = s.slot q n in
      let full = gained before now f n carry (left_full now fits_now) in
      let full' = gained before' now' f m carry' (right_full b now now' young) in
      let carried = alike f n lf lt k number in
      elim (cases_lt f (length now)) [
        | inl ln ↦
            let is_now : (get_or now f no_frame).routine ≡ q = sym (agrees f ln) in
            let same = differs_same a b before before' now now' fits fits_now old young f q n (has f ln).there ln
            ((has f ln).same ∙ is_now) is_now lt k in
            full'
            ∙ ap (λ z. if_true z (λ _. Some (cell_at now' f m cell.Unknown)) (λ _. carried_at f m carry')) same
            ∙ ap (λ z. if_true (differs before now f n) (λ _. Some z) (λ _. carried_at f m carry'))
            (kept_cell b now now' fits_now young f q ln is_now n cell.Unknown lt k)
            ∙ ap (λ z. if_true (differs before now f n) (λ _. Some (cell_at now f n cell.Unknown)) (λ _. z)) carried
            ∙ sym full
        | inr past ↦
            full'
            ∙ ap (λ z. if_true z (λ _. Some (cell_at now' f m cell.Unknown)) (λ _. carried_at f m carry'))
            (differs_past before' now' f m (omega (arith, past, young.count)))
            ∙ carried
            ∙ ap (λ z. if_true z (λ _. Some (cell_at now f n cell.Unknown)) (λ _. carried_at f n carry))
            (sym (differs_past before now f n past))
            ∙ sym full
      ]

  -- ---- laid over

  -- what may be laid over frames: carries that are alike, for routines that cover theirs; behind it no number lives that is not kept
  pub record LaysOver (at next : ℕ) (frames frames' : List PlainFrame) (rs : List ℕ) (carry carry' : Carry Cell) : Type 0 where
    pub fits : FitsFrames code frames
    pub alike : AlikeFrames code new s at frames frames'
    pub carries : AlikeCarries code new s rs carry carry'
    pub there : (f : ℕ) → f < length frames → f < length rs
    pub same : (f : ℕ) → f < length frames → get_or rs f 0 ≡ (get_or frames f no_frame).routine
    pub rising : IsRising carry
    pub rising' : IsRising carry'
    pub was : (f n : ℕ) → suc f ≡ length frames → s.live (get_or frames f no_frame).routine next n ≡ true
        → s.live (get_or frames f no_frame).routine at n ≡ true
    pub still : (f n : ℕ) → suc f ≡ length frames → is_number (kind_in code (get_or frames f no_frame).routine n) ≡ true
        → s.live (get_or frames f no_frame).routine next n ≡ true → ⊥
    pub called : (f n : ℕ) → suc f < length frames → is_number (kind_in code (get_or frames f no_frame).routine n) ≡ true
        → s.live (get_or frames f no_frame).routine (get_or frames (suc f) no_frame).back n ≡ true
        → target_slot code (get_or code.instrs ((get_or frames (suc f) no_frame).back - 1) I.Fail) ≡ Some n

  module _ (at next : ℕ) (frames frames' : List PlainFrame) (rs : List ℕ) (carry carry' : Carry Cell)
      (h : LaysOver at next frames frames' rs carry carry') (f : ℕ) (lf : f < length frames) where
    abbrev q : ℕ
    q = (get_or frames f no_frame).routine

    abbrev laid : List PlainFrame
    laid = frames_with_carry frames carry

    abbrev laid' : List PlainFrame
    laid' = frames_with_carry frames' carry'

    -- a number slot that is kept is carried alike
    carried_same : (n : ℕ) → n < length (kinds_at code q) → s.kept q n ≡ true → is_number (kind_in code q n) ≡ true
        → carried_at f (s.slot q n) carry' ≡ carried_at f n carry
    carried_same n =
        subst (λ r. n < length (kinds_at code r) → s.kept r n ≡ true → is_number (kind_in code r n) ≡ true
        → carried_at f (s.slot r n) carry' ≡ carried_at f n carry) (h.same f lf) (h.carries f n (h.there f lf))

    -- a number slot of the frame is one of the routine
    number_in : (n : ℕ) → number_at frames f n ≡ true → is_number (kind_in code q n) ≡ true
    number_in n e = sym (ap (λ ks. is_number (slice_get ks n)) (left_kinds at frames frames' h.fits h.alike f q lf refl)) ∙ e

    -- a number slot that is kept holds what is carried, or what it held
    number_laid : (n : ℕ) → n < length (kinds_at code q) → number_at frames f n ≡ true → s.kept q n ≡ true
        → cell_at laid' f (s.slot q n) cell.Unset ≡ cell_at laid f n cell.Unset
    number_laid n lt number k =
        let m = s.slot q n in
        overlaid_cell frames' carry' f m h.rising' (right_full at frames frames' h.alike)
        (number_same at frames frames' h.fits h.alike f q lf refl n lt ∙ number)
        ∙ ap (λ o. or_else o (cell_at frames' f m cell.Unset)) (carried_same n lt k (number_in n number))
        ∙ ap (or_else (carried_at f n carry)) (kept_cell at frames frames' h.fits h.alike f q lf refl n cell.Unset lt k)
        ∙ sym (overlaid_cell frames carry f n h.rising (left_full frames h.fits) number)

    -- another slot holds what it held
    other_laid : (n : ℕ) → n < length (kinds_at code q) → number_at frames f n ≡ false → IsDue code new s frames at f n
        → cell_at laid' f (s.slot q n) cell.Unset ≡ cell_at laid f n cell.Unset
    other_laid n lt number due =
        let m = s.slot q n in
        overlaid_other frames' carry' f m (number_same at frames frames' h.fits h.alike f q lf refl n lt ∙ number)
        ∙ same_default (get_or frames f no_frame).cells (get_or frames' f no_frame).cells n m cell.Unset
        (due_same at frames frames' h.fits h.alike f q lf refl n lt due)
        ∙ sym (overlaid_other frames carry f n number)

    -- a number slot that is due is kept
    due_number : (n : ℕ) → number_at frames f n ≡ true → IsDue code new s frames next f n → s.kept q n ≡ true
    due_number n number (is_kept k) = k
    due_number n number (on_top t l) = absurd (h.still f n t (number_in n number) l)
    due_number n number (below t l w) = absurd (w (h.called f n t (number_in n number) l))

    -- a slot that is due was due
    due_before : (n : ℕ) → IsDue code new s frames next f n → IsDue code new s frames at f n
    due_before n (is_kept k) = is_kept k
    due_before n (on_top t l) = on_top t (h.was f n t l)
    due_before n (below t l w) = below t l w

    -- so each slot that is due holds the same
    slot_laid : (n : ℕ) → n < length (kinds_at code q) → IsDue code new s frames next f n
        → cell_at laid' f (s.slot q n) cell.Unset ≡ cell_at laid f n cell.Unset
    slot_laid n lt due = by (number_at frames f n) refl
      where
        by : (b : Bool) → number_at frames f n ≡ b → cell_at laid' f (s.slot q n) cell.Unset ≡ cell_at laid f n cell.Unset
        by true e = number_laid n lt e (due_number n e due)
        by false e = other_laid n lt e (due_before n due)

    -- as an element of the cells
    there_laid : (n : ℕ) → n < length (kinds_at code q) → IsDue code new s frames next f n
        → slice_get (get_or laid' f no_frame).cells (s.slot q n) ≡ slice_get (get_or laid f no_frame).cells n
    there_laid n lt due =
        same_there (get_or laid f no_frame).cells (get_or laid' f no_frame).cells n (s.slot q n)
        (omega (arith, left_there at frames frames' h.fits h.alike f q lf refl n lt, (overlaid_form frames carry f).long))
        (omega (arith, right_there at frames frames' h.fits h.alike f q lf refl n lt, (overlaid_form frames' carry' f).long))
        (slot_laid n lt due)

    -- the frames are alike
    laid_frame : AlikeFrame code new s (IsDue code new s laid next f) (get_or laid f no_frame) (get_or laid' f no_frame)
    laid_frame =
        let a = overlaid_form frames carry f in
        let b = overlaid_form frames' carry' f in
        let one = h.alike.each f lf in
        record {
          routine = b.routine ∙ one.routine ∙ sym a.routine;
          back = b.back ∙ one.back ∙ sym a.back;
          declared = b.declared ∙ one.declared ∙ sym a.declared;
          kinds = b.kinds ∙ one.kinds ∙ ap (kinds_at new) (sym a.routine);
          full = b.long ∙ one.full ∙ ap length (sym b.kinds);
          cells = λ n lt due.
              subst (λ r. slice_get (get_or laid' f no_frame).cells (s.slot r n) ≡ slice_get (get_or laid f no_frame).cells n)
              (sym a.routine)
              (there_laid n (subst (λ r. n < length (kinds_at code r)) a.routine lt)
              (due_across code new s frames laid next f n (laid_calls frames carry) due));
        }

  -- alike carries that are laid over alike frames leave alike frames
  pub laid_alike : (at next : ℕ) (frames frames' : List PlainFrame) (rs : List ℕ) (carry carry' : Carry Cell)
      → LaysOver at next frames frames' rs carry carry'
      → AlikeFrames code new s next (frames_with_carry frames carry) (frames_with_carry frames' carry')
  laid_alike at next frames frames' rs carry carry' h = record {
    count = overlaid_count frames' carry' ∙ h.alike.count ∙ sym (overlaid_count frames carry);
    each = λ f lf. laid_frame at next frames frames' rs carry carry' h f (omega (arith, lf, overlaid_count frames carry));
  }
