-- A write keeps what is true of the frames.
use Rattle.std.proofs.Common.{◌≡◌, ℕ, ◌+◌, ◌<◌, inl, inr, List, length, get_or, set, sym, ap, ◌∙◌, subst, arith, get_or-set_same}
use Rattle.std.proofs.Common.{get_or-set_other, length-set}
use Rattle.std.proofs.lemmas.List.{map-set, set-get_or}
use Rattle.std.proofs.lemmas.Bool.{cases_eq}
use Rattle.std.proofs.Math.ListN.{get_or-map}
use Rattle.alma_code.specs.declared.cell.Cell.{Cell}
use Rattle.alma_code.specs.declared.cell.Cell.TheVariants as cell
use Rattle.alma_code.specs.declared.cell.SlotKind.TheVariants as slot
use Rattle.alma_code.specs.Picture.{PlainFrame, no_frame, frame_with, frames_with_cell}
use Rattle.alma_code.specs.Plain.{PlainCode}
use Rattle.alma_code.specs.Fits.{routines_of, IsPosition, FitsSlot, FitsFrame, FitsFrames}

-- a write leaves the routines
pub written-routines : (fs : List PlainFrame) (f i : ℕ) (c : Cell) → routines_of (frames_with_cell fs f i c) ≡ routines_of fs
written-routines fs f i c =
    map-set (λ g. g.routine) fs f (frame_with (get_or fs f no_frame) i c)
    ∙ ap (λ r. set (routines_of fs) f r) (sym (get_or-map (λ g. g.routine) fs f no_frame))
    ∙ set-get_or (routines_of fs) f 0

module _ (code : PlainCode) where
  -- a frame with one cell changed
  pub frame-written : (rs : List ℕ) (f i : ℕ) (fr : PlainFrame) (c : Cell) → FitsFrame code rs f fr → i < length fr.kinds →
      FitsSlot code rs f (get_or fr.kinds i slot.Mark) c → FitsFrame code rs f (frame_with fr i c)
  frame-written rs f i fr c h lt fits = record {
    routine = h.routine;
    kinds = h.kinds;
    full = length-set fr.cells i c ∙ h.full;
    cells = λ j lj.
        elim (cases_eq j i) [
          | inl e ↦
              let same : get_or (set fr.cells i c) j cell.Unset ≡ c = ap (λ k. get_or (set fr.cells i c) k cell.Unset) e
              ∙ get_or-set_same fr.cells i c cell.Unset (omega (arith, h.full)) in
              subst (λ x. FitsSlot code rs f (get_or fr.kinds j slot.Mark) x) (sym same)
              (subst (λ k. FitsSlot code rs f (get_or fr.kinds k slot.Mark) c) (sym e) fits)
          | inr ne ↦
              subst (λ x. FitsSlot code rs f (get_or fr.kinds j slot.Mark) x) (sym (get_or-set_other fr.cells i j c cell.Unset ne))
              (h.cells j lj)
        ];
    main = h.main;
    called = h.called;
  }

  -- frames that fit, after a write of what fits its slot
  pub frames-written : (fs : List PlainFrame) (f i : ℕ) (c : Cell) → FitsFrames code fs → f < length fs
      → i < length (get_or fs f no_frame).kinds →
      FitsSlot code (routines_of fs) f (get_or (get_or fs f no_frame).kinds i slot.Mark) c → (f + i ≡ 0 → IsPosition c)
      → FitsFrames code (frames_with_cell fs f i c)
  frames-written fs f i c h lf li fits position =
      let new : PlainFrame = frame_with (get_or fs f no_frame) i c in
      let len : length (set fs f new) ≡ length fs = length-set fs f new in
      record {
        some = omega (arith, h.some, len);
        each = λ g lg.
            let lg' : g < length fs = omega arith in
            subst (λ rs. FitsFrame code rs g (get_or (set fs f new) g no_frame)) (sym (written-routines fs f i c))
            (elim (cases_eq g f) [
              | inl e ↦
                  let same : get_or (set fs f new) g no_frame ≡ new = ap (λ k. get_or (set fs f new) k no_frame) e
                  ∙ get_or-set_same fs f new no_frame lf in
                  subst (λ x. FitsFrame code (routines_of fs) g x) (sym same)
                  (subst (λ k. FitsFrame code (routines_of fs) k new) (sym e)
                  (frame-written (routines_of fs) f i (get_or fs f no_frame) c (h.each f lf) li fits))
              | inr ne ↦
                  subst (λ x. FitsFrame code (routines_of fs) g x) (sym (get_or-set_other fs f g new no_frame ne)) (h.each g lg')
            ]);
        position =
            elim (cases_eq 0 f) [
              | inl e ↦
                  let same : get_or (set fs f new) 0 no_frame ≡ new = ap (λ k. get_or (set fs f new) k no_frame) e
                  ∙ get_or-set_same fs f new no_frame lf in
                  let old : get_or fs f no_frame ≡ get_or fs 0 no_frame = ap (λ k. get_or fs k no_frame) (sym e) in
                  let full : length (get_or fs f no_frame).cells ≡ length (get_or fs f no_frame).kinds = (h.each f lf).full in
                  subst (λ x. IsPosition (get_or x.cells 0 cell.Unset)) (sym same)
                  (elim (cases_eq 0 i) [
                    | inl z ↦
                        let at : get_or (set (get_or fs f no_frame).cells i c) 0 cell.Unset ≡ c =
                        ap (λ k. get_or (set (get_or fs f no_frame).cells i c) k cell.Unset) z
                        ∙ get_or-set_same (get_or fs f no_frame).cells i c cell.Unset (omega arith) in
                        subst IsPosition (sym at) (position (omega arith))
                    | inr nz ↦
                        subst IsPosition (sym (get_or-set_other (get_or fs f no_frame).cells i 0 c cell.Unset nz))
                        (subst (λ x. IsPosition (get_or x.cells 0 cell.Unset)) (sym old) h.position)
                  ])
              | inr ne ↦
                  subst (λ x. IsPosition (get_or x.cells 0 cell.Unset)) (sym (get_or-set_other fs f 0 new no_frame ne)) h.position
            ];
      }
