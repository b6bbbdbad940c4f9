-- A Call does the same on a code and on the renamed one.
use Rattle.std.proofs.Common.{◌≡◌, ℕ, zero, suc, ◌+◌, ◌-◌, ◌<◌, ◌≤◌, inl, inr, List, [], ◌∷◌, ◌++◌, length, get_or, map, refl, sym, ap, ◌∙◌}
use Rattle.std.proofs.Common.{subst, arith, Some}
use Rattle.std.specs.Prelude.{slice_get, Bool, true, false, ◌&&◌, nat_lt, nat_le, sum}
use Rattle.std.proofs.lemmas.Bool.{cases_eq, cases_lt, and_parts, ltb-true}
use Rattle.std.proofs.lemmas.Option.{slice_get-get_or}
use Rattle.std.proofs.lemmas.List.{length-append, length-map, ext_get_or}
use Rattle.std.proofs.Math.ListN.{get_or-map, get_or-append}
use Rattle.std.proofs.Math.Seq.{get_or-append_seam}
use Rattle.alma_base.specs.Choice.{if_true}
use Rattle.alma_base.specs.Limits.{cell_limit, frame_limit}
use Rattle.alma_base.specs.declared.fault.RunFault.TheVariants as fault
use Rattle.alma_code.specs.declared.cell.Cell.{Cell}
use Rattle.alma_code.specs.declared.instr.Instr.{Instr}
use Rattle.alma_code.specs.declared.instr.Instr.TheVariants as I
use Rattle.alma_code.specs.declared.step.Step.TheVariants as answer
use Rattle.alma_code.specs.Head.{PlainHead}
use Rattle.alma_code.specs.Layout.{frame_of_call}
use Rattle.alma_code.specs.Machine.{State, StepResult, act, as_routine, arguments, enters_routine}
use Rattle.alma_code.specs.Picture.{PlainFrame, no_frame, last_frame, live_cells}
use Rattle.alma_code.specs.Plain.{PlainCode, no_routine, routine_at, head_at, start_at, end_at}
use Rattle.alma_code.specs.Rules.{rule_10, can_call, fit_arguments, holds_first, holds_result}
use Rattle.alma_lower_slots.specs.Sharing.{Sharing, SharesAt}
use Rattle.alma_lower_slots.specs.Slots.{reads, target_slot, rename_slots}
use Rattle.alma_lower_slots.proofs.Alike.{IsDue, is_kept, on_top, below, AlikeFrame, AlikeFrames, AlikeStep, Doing}
use Rattle.alma_lower_slots.proofs.Entering.{PassAll, entered_alike}
use Rattle.alma_lower_slots.proofs.Frames.{frame_fewer}
use Rattle.alma_lower_slots.proofs.Passing.{choice_alike, arguments_alike}
use Rattle.alma_lower_slots.proofs.Settles.{Shared, fault_alike}

module _ (code new : PlainCode) (s : Sharing) where
  -- as many cells are declared
  pub live_alike : (at : ℕ) (frames frames' : List PlainFrame) → AlikeFrames code new s at frames frames'
      → live_cells frames' ≡ live_cells frames
  live_alike at frames frames' h =
      let size : PlainFrame → ℕ = λ frame. frame.declared in
      let len = length-map frames size in
      let len' = length-map frames' size in
      ap sum (ext_get_or 0 (map size frames') (map size frames) (omega (arith, h.count)) (λ f lf.
      get_or-map size frames' f no_frame ∙ (h.each f (omega (arith, h.count))).declared ∙ sym (get_or-map size frames f no_frame)))

  -- a choice by tests that are equal
  pub choices_alike : (b b' : Bool) (k z k' z' : Unit {0} → StepResult) → b' ≡ b → (b ≡ true → AlikeStep code new s (k tt) (k' tt))
      → (b ≡ false → AlikeStep code new s (z tt) (z' tt)) → AlikeStep code new s (if_true b k z) (if_true b' k' z')
  choices_alike b b' k z k' z' e h g =
      subst (λ x. AlikeStep code new s (if_true b k z) (if_true x k' z')) (sym e) (choice_alike code new s b k z k' z' h g)

  -- what is due below a frame that a Call entered was due at the Call
  due_before : (r at : ℕ) (i : Instr) (frames : List PlainFrame) (frame : PlainFrame) (start f n : ℕ) → 1 ≤ length frames
      → (last_frame frames).routine ≡ r → frame.back ≡ suc at → get_or code.instrs at I.Fail ≡ i → SharesAt code s r at i
      → f < length frames → IsDue code new s (frames ++ frame ∷ []) start f n → IsDue code new s frames at f n
  due_before r at i frames frame start f n some lastly back is shares lf (is_kept e) =
      is_kept (ap (λ x. s.kept x.routine n) (sym (get_or-append frames (frame ∷ []) no_frame f lf)) ∙ e)
  due_before r at i frames frame start f n some lastly back is shares lf (on_top e l) =
      let len = length-append frames (frame ∷ []) in
      absurd (omega arith)
  due_before r at i frames frame start f n some lastly back is shares lf (below lt l w) =
      let all = frames ++ frame ∷ [] in
      let here : get_or all f no_frame ≡ get_or frames f no_frame = get_or-append frames (frame ∷ []) no_frame f lf in
      elim (cases_lt (suc f) (length frames)) [
        | inl more ↦
            let next : get_or all (suc f) no_frame ≡ get_or frames (suc f) no_frame =
            get_or-append frames (frame ∷ []) no_frame (suc f) more in
            below more
            (ap (λ x. s.live x.routine (get_or frames (suc f) no_frame).back n) (sym here)
            ∙ ap (λ x. s.live (get_or all f no_frame).routine x.back n) (sym next) ∙ l)
            (λ q. w (ap (λ x. target_slot code (get_or code.instrs (x.back - 1) I.Fail)) next ∙ q))
        | inr le ↦
            let z : suc f ≡ length frames = omega arith in
            let y : f ≡ length frames - 1 = omega arith in
            let next : get_or all (suc f) no_frame ≡ frame =
            ap (λ m. get_or all m no_frame) z ∙ get_or-append_seam frames frame [] no_frame in
            let b : (get_or all (suc f) no_frame).back ≡ suc at = ap (λ x. x.back) next ∙ back in
            let b1 : (get_or all (suc f) no_frame).back - 1 ≡ at = omega arith in
            let q : (get_or frames f no_frame).routine ≡ r = ap (λ m. (get_or frames m no_frame).routine) y ∙ lastly in
            let live : s.live r (suc at) n ≡ true =
            ap (λ x. s.live x (suc at) n) (sym q) ∙ ap (λ x. s.live x.routine (suc at) n) (sym here)
            ∙ ap (λ x. s.live (get_or all f no_frame).routine x n) (sym b) ∙ l in
            elim (shares.next n live) [
              | inl before ↦ on_top z (ap (λ x. s.live x at n) q ∙ before)
              | inr writes ↦ absurd (w (ap (λ m. target_slot code (get_or code.instrs m I.Fail)) b1 ∙ ap (target_slot code) is ∙ writes))
            ]
      ]

  -- frames with one more, that a Call entered
  pushed_alike : (r at : ℕ) (i : Instr) (frames frames' : List PlainFrame) (frame frame' : PlainFrame) (start : ℕ) → 1 ≤ length frames
      → (last_frame frames).routine ≡ r → frame.back ≡ suc at → get_or code.instrs at I.Fail ≡ i → SharesAt code s r at i
      → AlikeFrames code new s at frames frames' → ((P : ℕ → Type 0) → AlikeFrame code new s P frame frame')
      → AlikeFrames code new s start (frames ++ frame ∷ []) (frames' ++ frame' ∷ [])
  pushed_alike r at i frames frames' frame frame' start some lastly back is shares h both =
      let len = length-append frames (frame ∷ []) in
      let len' = length-append frames' (frame' ∷ []) in
      let all = frames ++ frame ∷ [] in
      let all' = frames' ++ frame' ∷ [] in
      record {
        count = omega (arith, h.count);
        each = λ f lf.
            let P : ℕ → Type 0 = IsDue code new s all start f in
            elim (cases_eq f (length frames)) [
              | inl e ↦
                  let e' : f ≡ length frames' = e ∙ sym h.count in
                  let there : get_or all f no_frame ≡ frame =
                  ap (λ m. get_or all m no_frame) e ∙ get_or-append_seam frames frame [] no_frame in
                  let there' : get_or all' f no_frame ≡ frame' =
                  ap (λ m. get_or all' m no_frame) e' ∙ get_or-append_seam frames' frame' [] no_frame in
                  subst (λ x. AlikeFrame code new s P x (get_or all' f no_frame)) (sym there)
                  (subst (λ x. AlikeFrame code new s P frame x) (sym there') (both P))
              | inr ne ↦
                  let lt : f < length frames = omega arith in
                  let lt' : f < length frames' = omega (arith, h.count) in
                  subst (λ x. AlikeFrame code new s P x (get_or all' f no_frame)) (sym (get_or-append frames (frame ∷ []) no_frame f lt))
                  (subst (λ x. AlikeFrame code new s P (get_or frames f no_frame) x)
                  (sym (get_or-append frames' (frame' ∷ []) no_frame f lt'))
                  (frame_fewer code new s (IsDue code new s frames at f) P (get_or frames f no_frame) (get_or frames' f no_frame)
                  (h.each f lt) (λ n ln due. due_before r at i frames frame start f n some lastly back is shares lt due)))
            ];
      }

-- a routine of the renamed code begins where it began
pub start_same : (code new : PlainCode) (s : Sharing) → Shared code new s → (r : ℕ) → r < length code.routines
    → start_at new r ≡ start_at code r
start_same code new s w zero lr = refl
start_same code new s w (suc q) lr = (w.renames.routines q (omega arith)).code_end

module _ (code new : PlainCode) (s : Sharing) (w : Shared code new s) where
  -- a routine is entered
  enters_alike : (r at : ℕ) (i : Instr) (t t' : State) (c : ℕ) (args : List Cell) → Doing code new s r at i t t'
      → c < length code.routines → PassAll t.now t'.now (head_at code c).params args
      → AlikeStep code new s (enters_routine t c (start_at code c) (head_at code c) args)
      (enters_routine t' c (start_at new c) (head_at new c) args)
  enters_alike r at i t t' c args d lc pass =
      let rest = d.taken.rest in
      let now = d.taken.now in
      let few : nat_lt (length t'.now) frame_limit ≡ nat_lt (length t.now) frame_limit = ap (λ n. nat_lt n frame_limit) now.count in
      let cells : live_cells t'.now + (head_at new c).declared ≡ live_cells t.now + (head_at code c).declared =
      omega (arith, live_alike code new s at t.now t'.now now, (w.renames.routines c lc).declared) in
      let frame = frame_of_call t.now (head_at code c) c t.at args in
      let frame' = frame_of_call t'.now (head_at new c) c t'.at args in
      let frames : (P : ℕ → Type 0) → AlikeFrame code new s P frame frame' =
      λ P. subst (λ b. AlikeFrame code new s P frame (frame_of_call t'.now (head_at new c) c b args)) (sym rest.at)
      (entered_alike code new s w t.now t'.now c t.at args P lc pass) in
      choices_alike code new s (nat_lt (length t.now) frame_limit) (nat_lt (length t'.now) frame_limit) _ _ _ _ few
      (λ _. choices_alike code new s (nat_le (live_cells t.now + (head_at code c).declared) cell_limit)
      (nat_le (live_cells t'.now + (head_at new c).declared) cell_limit) _ _ _ _ (ap (λ n. nat_le n cell_limit) cells)
      (λ _. record {
        answer = ap (λ n. answer.Called c (n + 1)) now.count;
        printed = refl;
        state = record {
          rest = record {
            at = start_same code new s w c lc;
            last = rest.last;
            mode = rest.mode;
            steps = rest.steps;
            choices = rest.choices;
            fails = rest.fails;
            held = rest.held;
          };
          now = λ _. pushed_alike code new s r at i t.now t'.now frame frame' (start_at code c) d.here.ready.frames.some
              d.here.ready.routine d.here.at_is d.is d.shares now frames;
        };
      })
      (λ _. fault_alike fault.CellsFull rest))
      (λ _. fault_alike fault.DepthFull rest)

  -- a Call
  pub call_alike : (input : List ℕ) (r at c first to : ℕ) (t t' : State) → Doing code new s r at (I.Call c first to) t t'
      → AlikeStep code new s (act code input (I.Call c first to) t) (act new input (rename_slots (s.slot r) (I.Call c first to)) t')
  unfolding act rename_slots reads rule_10
  call_alike input r at c first to t t' d =
      let h = head_at code c in
      let x = and_parts (nat_lt 0 c && nat_lt c (length code.routines)) (can_call code r at h first to) d.obeys.r10 in
      let lc = ltb-true c (length code.routines) (and_parts (nat_lt 0 c) (nat_lt c (length code.routines)) x.0).1 in
      let y = and_parts (fit_arguments code r h.params first && holds_first h.params first)
      (holds_result code r h.has_result to && nat_lt (suc at) (end_at code r)) x.1 in
      let fit = (and_parts (fit_arguments code r h.params first) (holds_first h.params first) y.0).0 in
      let there : slice_get code.routines c ≡ Some (routine_at code c) = slice_get-get_or code.routines c no_routine lc in
      let there' : slice_get new.routines c ≡ Some (routine_at new c) =
      slice_get-get_or new.routines c no_routine (omega (arith, w.renames.count)) in
      let run : StepResult = arguments h.params t first (λ args. enters_routine t c (start_at code c) h args) in
      let goes : PlainHead → StepResult =
      λ q. arguments q.params t' (s.slot r first) (λ args. enters_routine t' c (start_at new c) q args) in
      subst (λ o. AlikeStep code new s (as_routine o t
      (λ q. arguments q.params t first (λ args. enters_routine t c (start_at code c) q args)))
      (as_routine (slice_get new.routines c) t' goes)) (sym there)
      (subst (λ o. AlikeStep code new s run (as_routine o t' goes)) (sym there')
      (subst (λ ps. AlikeStep code new s run
      (arguments ps t' (s.slot r first) (λ args. enters_routine t' c (start_at new c) (head_at new c) args)))
      (sym (w.renames.routines c lc).params)
      (arguments_alike code new s w r at (I.Call c first to) t t' d h.params first (s.slot r first) _ _ fit d.shares.read
      d.shares.together (λ args pass. enters_alike r at (I.Call c first to) t t' c args d lc pass))))
