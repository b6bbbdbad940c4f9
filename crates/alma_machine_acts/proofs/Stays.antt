-- What a write of a number keeps.
use Rattle.std.proofs.Common.{◌≡◌, ℕ, ◌<◌, inl, inr, List, length, get_or, set, sym, ap, ◌∙◌, subst, arith, get_or-set_same}
use Rattle.std.proofs.Common.{get_or-set_other, length-set}
use Rattle.std.specs.Prelude.{ℤ, slice_get}
use Rattle.std.proofs.lemmas.Bool.{cases_eq}
use Rattle.alma_code.specs.declared.cell.Cell.{Cell}
use Rattle.alma_code.specs.declared.cell.Cell.TheVariants as cell
use Rattle.alma_code.specs.Fits.{IsContent}
use Rattle.alma_code.specs.Picture.{PlainFrame, no_frame, frame_with, frames_with_cell}
use Rattle.alma_machine_acts.specs.Rows.{HasNumberIn, KeepsNumbers}

-- a frame has a content in a slot
record HasContent (frame : PlainFrame) (n : ℕ) : Type 0 where
  below : n < length frame.cells
  content : IsContent (get_or frame.cells n cell.Unset)

-- it has one after a write of a content
content_stays : (frame : PlainFrame) (i j : ℕ) (c : Cell) → IsContent c → HasContent frame i → HasContent (frame_with frame j c) i
content_stays frame i j c is h =
    let len = length-set frame.cells j c in
    record {
      below = omega (arith, h.below);
      content = elim (cases_eq i j) [
        | inl e ↦
            let lt : j < length frame.cells = omega (arith, h.below) in
            let same : get_or (set frame.cells j c) i cell.Unset ≡ c = ap (λ k. get_or (set frame.cells j c) k cell.Unset) e
            ∙ get_or-set_same frame.cells j c cell.Unset lt in
            subst IsContent (sym same) is
        | inr ne ↦ subst IsContent (sym (get_or-set_other frame.cells j i c cell.Unset ne)) h.content
      ];
    }

-- a number slot stays one
pub cell_stays : (now : List PlainFrame) (f i g j : ℕ) (c : Cell) → IsContent c → HasNumberIn now f i
    → HasNumberIn (frames_with_cell now g j c) f i
cell_stays now f i g j c is h =
    let new : PlainFrame = frame_with (get_or now g no_frame) j c in
    let len : length (set now g new) ≡ length now = length-set now g new in
    elim (cases_eq f g) [
      | inl e ↦
          let lt : g < length now = omega (arith, h.live) in
          let same : get_or (set now g new) f no_frame ≡ new = ap (λ k. get_or (set now g new) k no_frame) e
          ∙ get_or-set_same now g new no_frame lt in
          let old : get_or now f no_frame ≡ get_or now g no_frame = ap (λ k. get_or now k no_frame) e in
          let at : HasContent (get_or now g no_frame) i =
          subst (λ x. HasContent x i) old (record { below = h.below; content = h.content }) in
          let there = content_stays (get_or now g no_frame) i j c is at in
          let done : HasContent (get_or (set now g new) f no_frame) i = subst (λ x. HasContent x i) (sym same) there in
          record {
            live = omega (arith, h.live);
            below = done.below;
            kind = ap (λ (x : PlainFrame). slice_get x.kinds i) same ∙ ap (λ (x : PlainFrame). slice_get x.kinds i) (sym old) ∙ h.kind;
            content = done.content;
          }
      | inr ne ↦
          let same : get_or (set now g new) f no_frame ≡ get_or now f no_frame = get_or-set_other now g f new no_frame ne in
          let done : HasContent (get_or (set now g new) f no_frame) i =
          subst (λ x. HasContent x i) (sym same) (record { below = h.below; content = h.content }) in
          record {
            live = omega (arith, h.live);
            below = done.below;
            kind = ap (λ (x : PlainFrame). slice_get x.kinds i) same ∙ h.kind;
            content = done.content;
          }
    ]

-- number slots stay where a number is written
pub number_stays : (now : List PlainFrame) (g j : ℕ) (v : ℤ) → KeepsNumbers now (frames_with_cell now g j (cell.Int v))
number_stays now g j v = λ f i h. cell_stays now f i g j (cell.Int v) tt h
