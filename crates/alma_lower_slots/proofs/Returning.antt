-- A Return and a ReturnValue do the same on a code and on the renamed one.
use Rattle.std.proofs.Common.{◌≡◌, ℕ, suc, ◌-◌, ◌<◌, ◌≤◌, inl, inr, List, length, get_or, refl, sym, ap, ◌∙◌, subst, arith}
use Rattle.std.proofs.Common.{Option, Some, None}
use Rattle.std.specs.Prelude.{ℤ, slice_get, Bool, true, false, not, ◌&&◌, nat_eq, nat_lt, if◌then◌else◌}
use Rattle.std.specs.List.{list_all}
use Rattle.std.proofs.lemmas.Bool.{cases_eq, and_parts, or_left, or_right, eqb-false, not-true, false≢true}
use Rattle.std.proofs.lemmas.Option.{slice_get-get_or, slice_get_within, get_or_from_slice_get, same_Some, none-some}
use Rattle.std.proofs.lemmas.List.{get_or-take, length-take-le, length-set}
use Rattle.alma_code.specs.declared.cell.Cell.{Cell}
use Rattle.alma_code.specs.declared.cell.Cell.TheVariants as cell
use Rattle.alma_code.specs.declared.cell.SlotKind.TheVariants as slot
use Rattle.alma_code.specs.declared.instr.Instr.{Instr}
use Rattle.alma_code.specs.declared.instr.Instr.TheVariants as I
use Rattle.alma_code.specs.declared.instr.Word.TheVariants as W
use Rattle.alma_code.specs.declared.step.End.TheVariants as end
use Rattle.alma_code.specs.declared.step.Step.TheVariants as answer
use Rattle.alma_code.specs.Kinds.{is_number}
use Rattle.alma_code.specs.Machine.{State, StepResult, top, act, kind_of, with_slot, to_number, state_after_leave, answers_return}
use Rattle.alma_code.specs.Machine.{result_to}
use Rattle.alma_code.specs.Picture.{PlainFrame, no_frame, frame_with, frames_with_cell, last_frame, without_last}
use Rattle.alma_code.specs.Plain.{PlainCode, head_at, kinds_at, start_at, end_at}
use Rattle.alma_code.specs.Rules.{kind_in, is_free, is_main, is_global, holds_result, rule_12}
use Rattle.alma_code.specs.Words.{words}
use Rattle.alma_code.proofs.Heads.{number_is}
use Rattle.alma_code_laws.proofs.Acts.{slots, number_word, Left, left_ready, call_rule, holds_of_call}
use Rattle.alma_lower_slots.specs.Sharing.{Sharing, SharesAt, matters}
use Rattle.alma_lower_slots.specs.Slots.{reads, target_slot, rename_slots}
use Rattle.alma_lower_slots.proofs.Alike.{IsDue, is_kept, on_top, below, AlikeFrame, AlikeFrames, AlikeRest, AlikeStep, Doing}
use Rattle.alma_lower_slots.proofs.Frames.{SameCalls, written_calls, due_across, frame_fewer, frame_alike_written, frame_written}
use Rattle.alma_lower_slots.proofs.Frames.{frame_beside}
use Rattle.alma_lower_slots.proofs.Settles.{Shared, ended_alike, top_alike, number_alike, to_number_alike}
use Rattle.alma_lower_slots.proofs.Calling.{choices_alike}
use Rattle.alma_lower_slots.proofs.Choices.{going_alike}

module _ (code new : PlainCode) (s : Sharing) where
  -- what is due below a frame that was left was due before, but for the slot that its Call writes
  left_due : (frames : List PlainFrame) (at f n : ℕ) → f < length frames - 1
      → (suc f ≡ length frames - 1 → target_slot code (get_or code.instrs ((last_frame frames).back - 1) I.Fail) ≡ Some n → ⊥)
      → IsDue code new s (without_last frames) (last_frame frames).back f n → IsDue code new s frames at f n
  left_due frames at f n lf other (is_kept e) =
      is_kept (ap (λ x. s.kept x.routine n) (sym (get_or-take (length frames - 1) frames f no_frame lf)) ∙ e)
  left_due frames at f n lf other (on_top e l) =
      let len : length (without_last frames) ≡ length frames - 1 = length-take-le (length frames - 1) frames (omega arith) in
      let z : suc f ≡ length frames - 1 = omega arith in
      let here : get_or (without_last frames) f no_frame ≡ get_or frames f no_frame =
      get_or-take (length frames - 1) frames f no_frame lf in
      below (omega arith)
      (ap (λ x. s.live x.routine (get_or frames (suc f) no_frame).back n) (sym here)
      ∙ ap (λ m. s.live (get_or (without_last frames) f no_frame).routine (get_or frames m no_frame).back n) z ∙ l)
      (λ q. other z (ap (λ m. target_slot code (get_or code.instrs ((get_or frames m no_frame).back - 1) I.Fail)) (sym z) ∙ q))
  left_due frames at f n lf other (below lt l w) =
      let len : length (without_last frames) ≡ length frames - 1 = length-take-le (length frames - 1) frames (omega arith) in
      let here : get_or (without_last frames) f no_frame ≡ get_or frames f no_frame =
      get_or-take (length frames - 1) frames f no_frame lf in
      let next : get_or (without_last frames) (suc f) no_frame ≡ get_or frames (suc f) no_frame =
      get_or-take (length frames - 1) frames (suc f) no_frame (omega arith) in
      below (omega arith)
      (ap (λ x. s.live x.routine (get_or frames (suc f) no_frame).back n) (sym here)
      ∙ ap (λ x. s.live (get_or (without_last frames) f no_frame).routine x.back n) (sym next) ∙ l)
      (λ q. w (ap (λ x. target_slot code (get_or code.instrs (x.back - 1) I.Fail)) next ∙ q))

  -- the frames below one that is left
  left_frame : (at f : ℕ) (frames frames' : List PlainFrame) → AlikeFrames code new s at frames frames' → f < length frames - 1
      → AlikeFrame code new s (IsDue code new s frames at f) (get_or (without_last frames) f no_frame)
      (get_or (without_last frames') f no_frame)
  left_frame at f frames frames' h lf =
      let P : ℕ → Type 0 = IsDue code new s frames at f in
      subst (λ x. AlikeFrame code new s P x (get_or (without_last frames') f no_frame))
      (sym (get_or-take (length frames - 1) frames f no_frame lf))
      (subst (λ x. AlikeFrame code new s P (get_or frames f no_frame) x)
      (sym (get_or-take (length frames' - 1) frames' f no_frame (omega (arith, h.count)))) (h.each f (omega arith)))

  -- what is due in the top frame matters
  due_matters : (frames : List PlainFrame) (at m n : ℕ) → suc m ≡ length frames → IsDue code new s frames at m n
      → matters s (get_or frames m no_frame).routine at n ≡ true
  due_matters frames at m n e (is_kept k) =
      or_left (s.kept (get_or frames m no_frame).routine n) (s.live (get_or frames m no_frame).routine at n) k
  due_matters frames at m n e (on_top z l) =
      or_right (s.kept (get_or frames m no_frame).routine n) (s.live (get_or frames m no_frame).routine at n) l
  due_matters frames at m n e (below lt l w) = absurd (omega arith)

  -- as many are left
  left_count : (at : ℕ) (frames frames' : List PlainFrame) → AlikeFrames code new s at frames frames'
      → length (without_last frames') ≡ length (without_last frames)
  left_count at frames frames' h =
      let len : length (without_last frames) ≡ length frames - 1 = length-take-le (length frames - 1) frames (omega arith) in
      let len' : length (without_last frames') ≡ length frames' - 1 = length-take-le (length frames' - 1) frames' (omega arith) in
      omega (arith, h.count)

  -- the frames that are left, where the Call writes nothing
  left_alike : (at : ℕ) (frames frames' : List PlainFrame) → AlikeFrames code new s at frames frames'
      → target_slot code (get_or code.instrs ((last_frame frames).back - 1) I.Fail) ≡ None
      → AlikeFrames code new s (last_frame frames).back (without_last frames) (without_last frames')
  left_alike at frames frames' h none =
      let len : length (without_last frames) ≡ length frames - 1 = length-take-le (length frames - 1) frames (omega arith) in
      record {
        count = left_count at frames frames' h;
        each = λ f lf.
            let lf' : f < length frames - 1 = omega arith in
            frame_fewer code new s (IsDue code new s frames at f) (IsDue code new s (without_last frames) (last_frame frames).back f)
            (get_or (without_last frames) f no_frame) (get_or (without_last frames') f no_frame) (left_frame at f frames frames' h lf')
            (λ n ln due. left_due frames at f n lf' (λ _ q. none-some n (sym none ∙ q)) due);
      }

  -- the states that are left, but for their frames
  left_rest : (t t' : State) → AlikeRest code new s t t' → (last_frame t'.now).back ≡ (last_frame t.now).back
      → AlikeRest code new s (state_after_leave t) (state_after_leave t')
  left_rest t t' h e = record {
    at = e;
    last = h.last;
    mode = h.mode;
    steps = h.steps;
    choices = h.choices;
    fails = h.fails;
    held = h.held;
  }

module _ (code new : PlainCode) (s : Sharing) (w : Shared code new s) where
  -- the frames that are left, where the Call writes this slot
  result_frames : (at call : ℕ) (i : Instr) (frames frames' : List PlainFrame) (to : ℕ) (c : Cell) → 2 ≤ length frames
      → AlikeFrames code new s at frames frames' → (last_frame frames).back ≡ suc call → get_or code.instrs call I.Fail ≡ i
      → target_slot code i ≡ Some to → SharesAt code s (last_frame (without_last frames)).routine call i
      → (last_frame (without_last frames)).routine < length code.routines
      → to < length (kinds_at code (last_frame (without_last frames)).routine)
      → length (last_frame (without_last frames)).cells ≡ length (kinds_at code (last_frame (without_last frames)).routine)
      → AlikeFrames code new s (last_frame frames).back
      (frames_with_cell (without_last frames) (length (without_last frames) - 1) to c)
      (frames_with_cell (without_last frames') (length (without_last frames') - 1)
      (s.slot (last_frame (without_last frames)).routine to) c)
  result_frames at call i frames frames' to c two h back is wr shares lq lt full =
      let fs = without_last frames in
      let fs' = without_last frames' in
      let m = length fs - 1 in
      let q = (last_frame fs).routine in
      let len : length fs ≡ length frames - 1 = length-take-le (length frames - 1) frames (omega arith) in
      let count = left_count code new s at frames frames' h in
      let m' : length fs' - 1 ≡ m = ap (λ n. n - 1) count in
      let lm : m < length fs = omega arith in
      let calls : SameCalls fs (frames_with_cell fs m to c) = written_calls fs m to c lm in
      let back1 : (last_frame frames).back - 1 ≡ call = omega arith in
      let writes : target_slot code (get_or code.instrs ((last_frame frames).back - 1) I.Fail) ≡ Some to =
      ap (λ n. target_slot code (get_or code.instrs n I.Fail)) back1 ∙ ap (target_slot code) is ∙ wr in
      let flip : SameCalls (frames_with_cell fs m to c) fs = record {
        count = sym calls.count;
        routine = λ f. sym (calls.routine f);
        back = λ f. sym (calls.back f);
      } in
      let lm' : m < length frames - 1 = omega arith in
      let before : (f n : ℕ) → f < length frames - 1 → (f ≡ m → n ≡ to → ⊥)
      → IsDue code new s (frames_with_cell fs m to c) (last_frame frames).back f n → IsDue code new s frames at f n =
      λ f n lf ne due. left_due code new s frames at f n lf
      (λ z e. ne (omega arith) (same_Some n to (sym e ∙ writes)))
      (due_across code new s fs (frames_with_cell fs m to c) (last_frame frames).back f n flip due) in
      let T : ℕ → Type 0 = IsDue code new s (frames_with_cell fs m to c) (last_frame frames).back m in
      let apart : (n : ℕ) → n < length (kinds_at code q) → T n → s.slot q n ≡ s.slot q to → n ≡ to =
      λ n ln due same.
      let there : matters s (get_or (frames_with_cell fs m to c) m no_frame).routine (last_frame frames).back n ≡ true =
      due_matters code new s (frames_with_cell fs m to c) (last_frame frames).back m n (omega (arith, calls.count)) due in
      shares.apart to n ln wr (ap (λ x. matters s x (suc call) n) (sym (calls.routine m))
      ∙ ap (λ x. matters s (get_or (frames_with_cell fs m to c) m no_frame).routine x n) (sym back) ∙ there) same in
      let top_written : AlikeFrame code new s T (get_or (frames_with_cell fs m to c) m no_frame)
      (get_or (frames_with_cell fs' m (s.slot q to) c) m no_frame) =
      subst (λ x. AlikeFrame code new s T x (get_or (frames_with_cell fs' m (s.slot q to) c) m no_frame))
      (sym (frame_written fs m to c lm))
      (subst (λ x. AlikeFrame code new s T (frame_with (get_or fs m no_frame) to c) x)
      (sym (frame_written fs' m (s.slot q to) c (omega arith)))
      (frame_alike_written code new s w.renames (IsDue code new s frames at m) T (get_or fs m no_frame) (get_or fs' m no_frame) to c
      (left_frame code new s at m frames frames' h lm') lq lt full (λ n ln due ne. before m n lm' (λ _ z. ne z) due) apart)) in
      subst (λ k. AlikeFrames code new s (last_frame frames).back (frames_with_cell fs m to c) (frames_with_cell fs' k (s.slot q to) c))
      (sym m')
      (record {
        count = (SameCalls.count (written_calls fs' m (s.slot q to) c (omega arith))) ∙ count ∙ sym calls.count;
        each = λ f lf.
            let lf' : f < length frames - 1 = omega (arith, calls.count) in
            let Q : ℕ → Type 0 = IsDue code new s (frames_with_cell fs m to c) (last_frame frames).back f in
            elim (cases_eq f m) [
              | inl e ↦
                  subst (λ k. AlikeFrame code new s (IsDue code new s (frames_with_cell fs m to c) (last_frame frames).back k)
                  (get_or (frames_with_cell fs m to c) k no_frame) (get_or (frames_with_cell fs' m (s.slot q to) c) k no_frame)) (sym e)
                  top_written
              | inr ne ↦
                  subst (λ x. AlikeFrame code new s Q x (get_or (frames_with_cell fs' m (s.slot q to) c) f no_frame))
                  (sym (frame_beside fs m f to c ne))
                  (subst (λ x. AlikeFrame code new s Q (get_or fs f no_frame) x) (sym (frame_beside fs' m f (s.slot q to) c ne))
                  (frame_fewer code new s (IsDue code new s frames at f) Q (get_or fs f no_frame) (get_or fs' f no_frame)
                  (left_frame code new s at f frames frames' h lf') (λ n ln due. before f n lf' (λ e _. ne e) due)))
            ];
      })

  -- the first routine has no result
  main_has_no_result : (head_at code 0).has_result ≡ false
  main_has_no_result =
      let one = (w.sound.heads 0 w.sound.table.some).0 in
      let x = (and_parts (nat_lt (start_at code 0) (end_at code 0)) (is_main code 0) one).1 in
      let y = (and_parts (nat_eq (length (head_at code 0).params) 0)
      (not (head_at code 0).has_result && list_all (is_global code) code.globals) x).1 in
      not-true (head_at code 0).has_result (and_parts (not (head_at code 0).has_result) (list_all (is_global code) code.globals) y).0

  -- a Call of a routine without a result writes nothing
  writes_nothing : (c first to : ℕ) → (head_at code c).has_result ≡ false → target_slot code (I.Call c first to) ≡ None
  unfolding target_slot
  writes_nothing c first to e = ap (λ (b : Bool). if b then Some to else None) e

  -- and else the slot of the result
  writes_result : (c first to : ℕ) → (head_at code c).has_result ≡ true → target_slot code (I.Call c first to) ≡ Some to
  unfolding target_slot
  writes_result c first to e = ap (λ (b : Bool). if b then Some to else None) e

  -- the instruction before the address that the top frame returns to
  call_before : (t : State) (l : Left code t) → get_or code.instrs ((last_frame t.now).back - 1) I.Fail
      ≡ I.Call (last_frame t.now).routine l.called.first l.called.to
  call_before t l =
      let back1 : (last_frame t.now).back - 1 ≡ l.called.at = omega (arith, l.called.behind) in
      ap (λ n. get_or code.instrs n I.Fail) back1
      ∙ get_or_from_slice_get code.instrs l.called.at (I.Call (last_frame t.now).routine l.called.first l.called.to) I.Fail l.called.call

  -- a Call in the renamed code
  call_renamed : (q at n c first to : ℕ) → n ≡ at → q < length code.routines → start_at code q ≤ at → at < end_at code q
      → slice_get code.instrs at ≡ Some (I.Call c first to)
      → slice_get new.instrs n ≡ Some (I.Call c (s.slot q first) (s.slot q to))
  unfolding rename_slots
  call_renamed q at n c first to e lq low high is =
      let inside : at < length new.instrs = omega (arith, w.renames.size, slice_get_within code.instrs at (I.Call c first to) is) in
      ap (slice_get new.instrs) e ∙ slice_get-get_or new.instrs at I.Fail inside
      ∙ ap (λ (x : Instr). Some x) (w.renames.instrs q at lq low high
      ∙ ap (rename_slots (s.slot q)) (get_or_from_slice_get code.instrs at (I.Call c first to) I.Fail is))

  -- the answer of a return
  returned_alike : (t t' : State) → length t'.now ≡ length t.now → AlikeRest code new s t t' → AlikeFrames code new s t.at t.now t'.now
      → AlikeStep code new s (answers_return t) (answers_return t')
  returned_alike t t' e rest now =
      record { answer = ap answer.Returned e; printed = refl; state = record { rest = rest; now = λ _. now } }

  -- a result goes to the slots that these Calls name
  result_given : (u u' : State) (v : ℤ) (o o' : Option Instr) (c first first' to to' : ℕ) → o ≡ Some (I.Call c first to)
      → o' ≡ Some (I.Call c first' to') → kind_of u' to' ≡ kind_of u to → AlikeRest code new s u u'
      → AlikeStep code new s (answers_return (with_slot u to (cell.Int v))) (answers_return (with_slot u' to' (cell.Int v)))
      → AlikeStep code new s (result_to o u v) (result_to o' u' v)
  result_given u u' v o o' c first first' to to' e e' kind rest good =
      let k : Unit {0} → StepResult = λ _. answers_return (with_slot u to (cell.Int v)) in
      let k' : Unit {0} → StepResult = λ _. answers_return (with_slot u' to' (cell.Int v)) in
      subst (λ x. AlikeStep code new s (result_to x u v) (result_to o' u' v)) (sym e)
      (subst (λ x. AlikeStep code new s (to_number (kind_of u to) u k) (result_to x u' v)) (sym e')
      (subst (λ x. AlikeStep code new s (to_number (kind_of u to) u k) (to_number x u' k')) (sym kind)
      (to_number_alike rest (kind_of u to) k k' good)))

  -- a Return
  pub return_alike : (input : List ℕ) (r at : ℕ) (t t' : State) → Doing code new s r at I.Return t t'
      → AlikeStep code new s (act code input I.Return t) (act new input (rename_slots (s.slot r) I.Return) t')
  unfolding act rename_slots target_slot rule_12
  return_alike input r at t t' d =
      let now = d.taken.now in
      let back = (top_alike d).back in
      choices_alike code new s (nat_eq (length t.now) 1) (nat_eq (length t'.now) 1) _ _ _ _ (ap (λ n. nat_eq n 1) now.count)
      (λ _. ended_alike end.Succeeded d.taken.rest (λ _. going_alike d refl))
      (λ b.
      let ne = eqb-false (length t.now) 1 b in
      let l = left_ready code r t d.here.ready (omega (arith, d.here.ready.frames.some)) in
      let none : (head_at code (last_frame t.now).routine).has_result ≡ false =
      ap (λ q. (head_at code q).has_result) d.here.ready.routine ∙ not-true (head_at code r).has_result d.obeys.r12 in
      let writes : target_slot code (get_or code.instrs ((last_frame t.now).back - 1) I.Fail) ≡ None =
      ap (target_slot code) (call_before t l) ∙ writes_nothing (last_frame t.now).routine l.called.first l.called.to none in
      returned_alike (state_after_leave t) (state_after_leave t') (left_count code new s at t.now t'.now now)
      (left_rest code new s t t' d.taken.rest back) (left_alike code new s at t.now t'.now now writes))

  -- a result goes to the slot that the Call names
  result_alike : (r at : ℕ) (i : Instr) (t t' : State) (v : ℤ) → Doing code new s r at i t t' → (head_at code r).has_result ≡ true
      → AlikeStep code new s (result_to (slice_get code.instrs ((last_frame t.now).back - 1)) (state_after_leave t) v)
      (result_to (slice_get new.instrs ((last_frame t'.now).back - 1)) (state_after_leave t') v)
  result_alike r at i t t' v d has =
      let ready = d.here.ready in
      let ff = ready.frames.each (top t) (omega (arith, ready.frames.some)) in
      let many : 1 ≤ top t =
      elim (cases_eq (top t) 0) [
        | inl e ↦ let r0 : r ≡ 0 = sym ready.routine ∙ ff.main e in
            absurd (false≢true (sym main_has_no_result ∙ ap (λ q. (head_at code q).has_result) (sym r0) ∙ has))
        | inr ne ↦ omega arith
      ] in
      let l = left_ready code r t ready (omega arith) in
      let now = d.taken.now in
      let back = (top_alike d).back in
      let ret = l.called in
      let u = state_after_leave t in
      let u' = state_after_leave t' in
      let callee = (last_frame t.now).routine in
      let q = (last_frame u.now).routine in
      let lq : q < length code.routines = subst (λ x. x < length code.routines) (sym l.ready.routine) l.routine in
      let low : start_at code q ≤ ret.at = subst (λ x. start_at code x ≤ ret.at) (sym l.ready.routine) ret.low in
      let high' : (last_frame t.now).back < end_at code q =
      subst (λ x. (last_frame t.now).back < end_at code x) (sym l.ready.routine) ret.high in
      let high : ret.at < end_at code q = omega (arith, ret.behind) in
      let call : Instr = I.Call callee ret.first ret.to in
      let is : get_or code.instrs ret.at I.Fail ≡ call = get_or_from_slice_get code.instrs ret.at call I.Fail ret.call in
      let back1 : (last_frame t.now).back - 1 ≡ ret.at = omega (arith, ret.behind) in
      let old = subst (λ n. slice_get code.instrs n ≡ Some call) (sym back1) ret.call in
      let back2 : (last_frame t'.now).back - 1 ≡ ret.at = ap (λ n. n - 1) back ∙ back1 in
      let other : slice_get new.instrs ((last_frame t'.now).back - 1) ≡ Some (I.Call callee (s.slot q ret.first) (s.slot q ret.to)) =
      call_renamed q ret.at ((last_frame t'.now).back - 1) callee ret.first ret.to back2 lq low high ret.call in
      let rule = call_rule code w.sound q ret.at callee ret.first ret.to lq low high ret.call in
      let yes : (head_at code callee).has_result ≡ true = ap (λ x. (head_at code x).has_result) ready.routine ∙ has in
      let holds : holds_result code q true ret.to ≡ true =
      subst (λ b. holds_result code q b ret.to ≡ true) yes (holds_of_call code w.sound q ret.at callee ret.first ret.to rule) in
      let number = number_is (kind_in code q ret.to) (and_parts (is_free code q ret.to) (is_number (kind_in code q ret.to)) holds).1 in
      let lt : ret.to < length (kinds_at code q) = slice_get_within (kinds_at code q) ret.to slot.Number number in
      let lf : top u < length u.now = omega (arith, l.ready.frames.some) in
      let under = l.ready.frames.each (top u) lf in
      let full : length (last_frame u.now).cells ≡ length (kinds_at code q) = under.full ∙ ap length under.kinds in
      let count = left_count code new s at t.now t'.now now in
      let len : length (without_last t.now) ≡ length t.now - 1 = length-take-le (length t.now - 1) t.now (omega arith) in
      let top' : top u' ≡ top u = ap (λ n. n - 1) count in
      let kind : kind_of u' (s.slot q ret.to) ≡ kind_of u ret.to =
      ap (λ n. slice_get (get_or u'.now n no_frame).kinds (s.slot q ret.to)) top'
      ∙ ap (λ ks. slice_get ks (s.slot q ret.to)) (left_frame code new s at (top u) t.now t'.now now (omega arith)).kinds
      ∙ w.renames.kinds q ret.to lq lt ∙ ap (λ ks. slice_get ks ret.to) (sym under.kinds) in
      let rest : AlikeRest code new s u u' = left_rest code new s t t' d.taken.rest back in
      let c : Cell = cell.Int v in
      let frames = result_frames at ret.at call t.now t'.now ret.to c (omega arith) now ret.behind is
      (writes_result callee ret.first ret.to yes)
      (subst (SharesAt code s q ret.at) is (w.shares.instrs q ret.at lq low high)) lq lt full in
      let set = length-set u.now (top u) (frame_with (last_frame u.now) ret.to c) in
      let set' = length-set u'.now (top u') (frame_with (last_frame u'.now) (s.slot q ret.to) c) in
      result_given u u' v (slice_get code.instrs ((last_frame t.now).back - 1)) (slice_get new.instrs ((last_frame t'.now).back - 1))
      callee ret.first (s.slot q ret.first) ret.to (s.slot q ret.to) old other kind rest
      (returned_alike (with_slot u ret.to c) (with_slot u' (s.slot q ret.to) c) (set' ∙ count ∙ sym set)
      (record {
        at = rest.at;
        last = rest.last;
        mode = rest.mode;
        steps = rest.steps;
        choices = rest.choices;
        fails = rest.fails;
        held = rest.held;
      }) frames)

  -- a ReturnValue
  pub return_value_alike : (input : List ℕ) (r at a : ℕ) (t t' : State) → Doing code new s r at (I.ReturnValue a) t t'
      → AlikeStep code new s (act code input (I.ReturnValue a) t) (act new input (rename_slots (s.slot r) (I.ReturnValue a)) t')
  unfolding act rename_slots reads rule_12 words
  return_value_alike input r at a t t' d =
      let x = slots code r at (I.ReturnValue a) (W.Number a) W.Free W.Free W.Free refl d.obeys in
      let number = number_is (kind_in code r a) (number_word code r a x.0).1 in
      let lt = slice_get_within (kinds_at code r) a slot.Number number in
      let m = (and_parts (matters s r at a) true d.shares.read).0 in
      number_alike d a lt m _ _ (λ v _. result_alike r at (I.ReturnValue a) t t' v d d.obeys.r12)
