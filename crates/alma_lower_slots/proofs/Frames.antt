-- Frames that are alike: slots of them, and writes.
use Rattle.std.proofs.Common.{◌≡◌, ℕ, suc, ◌-◌, ◌<◌, inl, inr, List, length, get_or, set, sym, ap, ◌∙◌, subst, arith, Some}
use Rattle.std.proofs.Common.{get_or-set_same, get_or-set_other, length-set}
use Rattle.std.specs.Prelude.{slice_get, true}
use Rattle.std.proofs.lemmas.Bool.{cases_eq, cases_lt}
use Rattle.std.proofs.lemmas.Option.{slice_get-get_or, slice_get_past, slice_get_within}
use Rattle.alma_code.specs.declared.cell.Cell.{Cell}
use Rattle.alma_code.specs.declared.cell.Cell.TheVariants as cell
use Rattle.alma_code.specs.declared.cell.SlotKind.TheVariants as slot
use Rattle.alma_code.specs.declared.instr.Instr.TheVariants as I
use Rattle.alma_code.specs.Picture.{PlainFrame, no_frame, frame_with, frames_with_cell}
use Rattle.alma_code.specs.Plain.{PlainCode, kinds_at}
use Rattle.alma_lower_slots.specs.Slots.{target_slot}
use Rattle.alma_lower_slots.specs.Sharing.{Sharing, Renames}
use Rattle.alma_lower_slots.proofs.Alike.{IsDue, is_kept, on_top, below, AlikeFrame, AlikeFrames}

-- a slot that was written holds the cell
pub cell_written : (cells : List Cell) (n : ℕ) (c : Cell) → n < length cells → slice_get (set cells n c) n ≡ Some c
cell_written cells n c lt =
    let len : length (set cells n c) ≡ length cells = length-set cells n c in
    slice_get-get_or (set cells n c) n cell.Unset (omega arith) ∙ ap Some (get_or-set_same cells n c cell.Unset lt)

-- another holds what it held
pub cell_beside : (cells : List Cell) (n m : ℕ) (c : Cell) → (m ≡ n → ⊥) → slice_get (set cells n c) m ≡ slice_get cells m
cell_beside cells n m c ne =
    let len : length (set cells n c) ≡ length cells = length-set cells n c in
    elim (cases_lt m (length cells)) [
      | inl lt ↦ slice_get-get_or (set cells n c) m cell.Unset (omega arith) ∙ ap Some (get_or-set_other cells n m c cell.Unset ne)
          ∙ sym (slice_get-get_or cells m cell.Unset lt)
      | inr le ↦ slice_get_past (set cells n c) m (omega arith) ∙ sym (slice_get_past cells m le)
    ]

-- the frame that was written
pub frame_written : (frames : List PlainFrame) (f n : ℕ) (c : Cell) → f < length frames
    → get_or (frames_with_cell frames f n c) f no_frame ≡ frame_with (get_or frames f no_frame) n c
frame_written frames f n c lt = get_or-set_same frames f (frame_with (get_or frames f no_frame) n c) no_frame lt

-- another frame is what it was
pub frame_beside : (frames : List PlainFrame) (f g n : ℕ) (c : Cell) → (g ≡ f → ⊥)
    → get_or (frames_with_cell frames f n c) g no_frame ≡ get_or frames g no_frame
frame_beside frames f g n c ne = get_or-set_other frames f g (frame_with (get_or frames f no_frame) n c) no_frame ne

-- two lists of frames of the same routines and return addresses
pub record SameCalls (frames frames2 : List PlainFrame) : Type 0 where
  pub count : length frames2 ≡ length frames
  pub routine : (f : ℕ) → (get_or frames2 f no_frame).routine ≡ (get_or frames f no_frame).routine
  pub back : (f : ℕ) → (get_or frames2 f no_frame).back ≡ (get_or frames f no_frame).back

-- a write leaves them
pub written_calls : (frames : List PlainFrame) (f n : ℕ) (c : Cell) → f < length frames → SameCalls frames (frames_with_cell frames f n c)
written_calls frames f n c lt = record {
  count = length-set frames f (frame_with (get_or frames f no_frame) n c);
  routine = λ g. elim (cases_eq g f) [
    | inl e ↦ subst (λ h. (get_or (frames_with_cell frames f n c) h no_frame).routine ≡ (get_or frames h no_frame).routine) (sym e)
        (ap (λ x. x.routine) (frame_written frames f n c lt))
    | inr ne ↦ ap (λ x. x.routine) (frame_beside frames f g n c ne)
  ];
  back = λ g. elim (cases_eq g f) [
    | inl e ↦ subst (λ h. (get_or (frames_with_cell frames f n c) h no_frame).back ≡ (get_or frames h no_frame).back) (sym e)
        (ap (λ x. x.back) (frame_written frames f n c lt))
    | inr ne ↦ ap (λ x. x.back) (frame_beside frames f g n c ne)
  ];
}

module _ (code new : PlainCode) (s : Sharing) where
  -- what is due in frames is due in others of the same calls
  pub due_across : (frames frames2 : List PlainFrame) (at f n : ℕ) → SameCalls frames2 frames → IsDue code new s frames2 at f n
      → IsDue code new s frames at f n
  due_across frames frames2 at f n h (is_kept k) = is_kept (subst (λ q. s.kept q n ≡ true) (sym (h.routine f)) k)
  due_across frames frames2 at f n h (on_top e k) =
      on_top (e ∙ sym h.count) (subst (λ q. s.live q at n ≡ true) (sym (h.routine f)) k)
  due_across frames frames2 at f n h (below lt k w) =
      let same : (get_or frames2 (suc f) no_frame).back ≡ (get_or frames (suc f) no_frame).back = sym (h.back (suc f)) in
      below (omega (arith, h.count, lt))
      (subst (λ b. s.live (get_or frames f no_frame).routine b n ≡ true) same
      (subst (λ q. s.live q (get_or frames2 (suc f) no_frame).back n ≡ true) (sym (h.routine f)) k))
      (subst (λ b. target_slot code (get_or code.instrs (b - 1) I.Fail) ≡ Some n → ⊥) same w)

  -- two frames are alike where fewer slots are to be the same
  pub frame_fewer : (P Q : ℕ → Type 0) (frame frame' : PlainFrame) → AlikeFrame code new s P frame frame'
      → ((n : ℕ) → n < length (kinds_at code frame.routine) → Q n → P n) → AlikeFrame code new s Q frame frame'
  frame_fewer P Q frame frame' h fewer = record {
    routine = h.routine;
    back = h.back;
    declared = h.declared;
    kinds = h.kinds;
    full = h.full;
    cells = λ n lt q. h.cells n lt (fewer n lt q);
  }

  -- the same of frames
  pub frames_fewer : (at at2 : ℕ) (frames frames' : List PlainFrame) → AlikeFrames code new s at frames frames'
      → ((f n : ℕ) → f < length frames → n < length (kinds_at code (get_or frames f no_frame).routine)
      → IsDue code new s frames at2 f n → IsDue code new s frames at f n)
      → AlikeFrames code new s at2 frames frames'
  frames_fewer at at2 frames frames' h fewer = record {
    count = h.count;
    each = λ f lt. frame_fewer (IsDue code new s frames at f) (IsDue code new s frames at2 f) (get_or frames f no_frame)
        (get_or frames' f no_frame) (h.each f lt) (λ n ln due. fewer f n lt ln due);
  }

  -- the renamed slot is one of the renamed routine
  pub slot_there : Renames code s new → (r n : ℕ) → r < length code.routines → n < length (kinds_at code r)
      → s.slot r n < length (kinds_at new r)
  slot_there renames r n lr ln =
      let k = get_or (kinds_at code r) n slot.Mark in
      slice_get_within (kinds_at new r) (s.slot r n) k (renames.kinds r n lr ln ∙ slice_get-get_or (kinds_at code r) n slot.Mark ln)

  -- two frames that are alike, after a write of one cell to a slot of each
  pub frame_alike_written : Renames code s new → (P Q : ℕ → Type 0) (frame frame' : PlainFrame) (n : ℕ) (c : Cell)
      → AlikeFrame code new s P frame frame' → frame.routine < length code.routines → n < length (kinds_at code frame.routine)
      → length frame.cells ≡ length (kinds_at code frame.routine)
      → ((m : ℕ) → m < length (kinds_at code frame.routine) → Q m → (m ≡ n → ⊥) → P m)
      → ((m : ℕ) → m < length (kinds_at code frame.routine) → Q m → s.slot frame.routine m ≡ s.slot frame.routine n → m ≡ n)
      → AlikeFrame code new s Q (frame_with frame n c) (frame_with frame' (s.slot frame.routine n) c)
  frame_alike_written renames P Q frame frame' n c h lr ln full due apart =
      let q = frame.routine in
      let there = slot_there renames q n lr ln in
      let full' : s.slot q n < length frame'.cells = omega (arith, there, h.full, ap length h.kinds) in
      record {
        routine = h.routine;
        back = h.back;
        declared = h.declared;
        kinds = h.kinds;
        full = length-set frame'.cells (s.slot q n) c ∙ h.full;
        cells = λ m lm is.
            elim (cases_eq m n) [
              | inl e ↦
                  subst (λ k. slice_get (set frame'.cells (s.slot q n) c) (s.slot q k) ≡ slice_get (set frame.cells n c) k) (sym e)
                  (cell_written frame'.cells (s.slot q n) c full' ∙ sym (cell_written frame.cells n c (omega (arith, ln, full))))
              | inr ne ↦
                  cell_beside frame'.cells (s.slot q n) (s.slot q m) c (λ e. ne (apart m lm is e)) ∙ h.cells m lm (due m lm is ne)
                  ∙ sym (cell_beside frame.cells n m c ne)
            ];
      }

  -- frames that are alike, after a write of one cell to a slot of one frame of each
  pub frames_alike_written : Renames code s new → (at at2 : ℕ) (frames frames' : List PlainFrame) (f q n : ℕ) (c : Cell)
      → AlikeFrames code new s at frames frames' → f < length frames → (get_or frames f no_frame).routine ≡ q
      → q < length code.routines → n < length (kinds_at code q) → length (get_or frames f no_frame).cells ≡ length (kinds_at code q)
      → ((g m : ℕ) → g < length frames → m < length (kinds_at code (get_or frames g no_frame).routine) → (g ≡ f → m ≡ n → ⊥)
      → IsDue code new s frames at2 g m → IsDue code new s frames at g m)
      → ((m : ℕ) → m < length (kinds_at code q) → IsDue code new s frames at2 f m → s.slot q m ≡ s.slot q n → m ≡ n)
      → AlikeFrames code new s at2 (frames_with_cell frames f n c) (frames_with_cell frames' f (s.slot q n) c)
  frames_alike_written renames at at2 frames frames' f q n c h lf is lr ln full due apart =
      let fr = get_or frames f no_frame in
      let fr' = get_or frames' f no_frame in
      let frames2 = frames_with_cell frames f n c in
      let frames2' = frames_with_cell frames' f (s.slot q n) c in
      let calls = written_calls frames f n c lf in
      let lf' : f < length frames' = omega (arith, h.count, lf) in
      let len : length frames2 ≡ length frames = length-set frames f (frame_with fr n c) in
      let len' : length frames2' ≡ length frames' = length-set frames' f (frame_with fr' (s.slot q n) c) in
      let was : (g m : ℕ) → IsDue code new s frames2 at2 g m → IsDue code new s frames at2 g m =
      λ g m d. due_across frames frames2 at2 g m (record {
        count = sym calls.count;
        routine = λ k. sym (calls.routine k);
        back = λ k. sym (calls.back k);
      }) d in
      let here : AlikeFrame code new s (IsDue code new s frames2 at2 f) (frame_with fr n c) (frame_with fr' (s.slot fr.routine n) c) =
      frame_alike_written renames (IsDue code new s frames at f) (IsDue code new s frames2 at2 f) fr fr' n c (h.each f lf)
      (subst (λ k. k < length code.routines) (sym is) lr) (subst (λ k. n < length (kinds_at code k)) (sym is) ln)
      (subst (λ k. length fr.cells ≡ length (kinds_at code k)) (sym is) full)
      (λ m lm d ne. due f m lf lm (λ _ e. ne e) (was f m d))
      (subst (λ k. (m : ℕ) → m < length (kinds_at code k) → IsDue code new s frames2 at2 f m → s.slot k m ≡ s.slot k n → m ≡ n) (sym is)
      (λ m lm d e. apart m lm (was f m d) e)) in
      record {
        count = len' ∙ h.count ∙ sym len;
        each = λ g lg. elim (cases_eq g f) [
          | inl e ↦
              subst (λ k. AlikeFrame code new s (IsDue code new s frames2 at2 k) (get_or frames2 k no_frame) (get_or frames2' k no_frame))
              (sym e)
              (subst (λ x. AlikeFrame code new s (IsDue code new s frames2 at2 f) x (get_or frames2' f no_frame))
              (sym (frame_written frames f n c lf))
              (subst (λ x. AlikeFrame code new s (IsDue code new s frames2 at2 f) (frame_with fr n c) x)
              (sym (frame_written frames' f (s.slot q n) c lf'))
              (subst (λ k. AlikeFrame code new s (IsDue code new s frames2 at2 f) (frame_with fr n c) (frame_with fr' (s.slot k n) c)) is
              here)))
          | inr ne ↦
              let lg' : g < length frames = omega (arith, lg, len) in
              subst (λ x. AlikeFrame code new s (IsDue code new s frames2 at2 g) x (get_or frames2' g no_frame))
              (sym (frame_beside frames f g n c ne))
              (subst (λ x. AlikeFrame code new s (IsDue code new s frames2 at2 g) (get_or frames g no_frame) x)
              (sym (frame_beside frames' f g (s.slot q n) c ne))
              (frame_fewer (IsDue code new s frames at g) (IsDue code new s frames2 at2 g) (get_or frames g no_frame)
              (get_or frames' g no_frame) (h.each g lg')
              (λ m lm d. due g m lg' lm (λ e _. ne e) (was g m d))))
        ];
      }
