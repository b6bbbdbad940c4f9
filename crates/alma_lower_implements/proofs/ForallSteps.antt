-- One step of the machine: the entries of FORALL.
use Rattle.std.proofs.Common.{◌≡◌, ℕ, suc, ◌+◌, ◌-◌, List, [], ◌∷◌, ◌++◌, length, Some, refl, sym, ap, ◌∙◌, append_assoc, get_or, take, set}
use Rattle.std.proofs.Common.{arith}
use Rattle.std.specs.Prelude.{slice_get, nat_lt, true, ◌&&◌}
use Rattle.std.proofs.lemmas.Bool.{lt-ltb}
use Rattle.std.proofs.Math.Seq.{take-append_seam, get_or-append_seam, set-append_seam}
use Rattle.std.proofs.lemmas.List.{length-append}
use Rattle.alma_base.specs.Choice.{if_true}
use Rattle.alma_base.specs.Carry.{Carry, with_changes}
use Rattle.alma_code.specs.declared.cell.Cell.{Cell}
use Rattle.alma_code.specs.declared.cell.Cell.TheVariants as cell
use Rattle.alma_code.specs.declared.cell.ChoiceKind.TheVariants as choice
use Rattle.alma_code.specs.declared.cell.SlotKind.TheVariants as slot
use Rattle.alma_code.specs.declared.instr.Instr.TheVariants as I
use Rattle.alma_code.specs.declared.step.Step.TheVariants as answer
use Rattle.alma_code.specs.Carries.{frames_with_carry, diffs, held_after_keep, with_carry}
use Rattle.alma_code.specs.Picture.{PlainFrame, PlainEntry, no_entry, top_of, entry_at, kind_at, stack_after_pop, last_frame}
use Rattle.alma_code.specs.Picture.{entry_after_pop}
use Rattle.alma_code.specs.Plain.{PlainCode}
use Rattle.alma_code.specs.Machine.{State, Going, act, step_in, pop_or_end, state_after_push, answer_of_push, with_step_counted, quiet_step}
use Rattle.alma_code.specs.Machine.{with_slot, to_mark, as_mark, overlay, state_with_carry, keep, answer_of_fall, is_kind, is_forall_at}
use Rattle.alma_lower_implements.proofs.Goes.{IsFailing}
use Rattle.alma_lower_implements.proofs.Frames.{IsAt}
use Rattle.alma_lower_implements.proofs.Steps.{InstrAt, does, passed, top_written, Holds, HasKind}
use Rattle.alma_lower_implements.proofs.ChoiceSteps.{GoesOn, answered_silently, popped_last, last_index, top_last}

abbrev pub forall_entry : (out : ℕ) → List PlainFrame → Carry Cell → PlainEntry
forall_entry out now carry = record { kind = choice.Forall; resume = out; frames = now; carry = carry }

abbrev pub done_entry : (out : ℕ) → List PlainFrame → Carry Cell → PlainEntry
done_entry out now carry = record { kind = choice.Done; resume = out; frames = now; carry = carry }

abbrev pub body_entry : (next : ℕ) → List PlainFrame → PlainEntry
body_entry next now = record { kind = choice.Body; resume = next; frames = now; carry = [] }

-- ---- entries by height

kind_there : (held : List PlainEntry) (e : PlainEntry) (above : List PlainEntry)
    → kind_at (held ++ e ∷ above) (suc (length held)) ≡ Some e.kind
kind_there [] e above = refl
kind_there (b ∷ held) e above = kind_there held e above

forall_there : (held : List PlainEntry) (out : ℕ) (now : List PlainFrame) (c : Carry Cell) (above : List PlainEntry)
    → is_forall_at (held ++ forall_entry out now c ∷ above) (length held + 1) ≡ true
forall_there held out now c above =
    let e : length held + 1 ≡ suc (length held) = omega arith in
    ap (is_forall_at (held ++ forall_entry out now c ∷ above)) e
    ∙ ap (is_kind choice.Forall) (kind_there held (forall_entry out now c) above)

entry_there : (held : List PlainEntry) (e : PlainEntry) (above : List PlainEntry) → entry_at (held ++ e ∷ above) (length held + 1) ≡ e
entry_there held e above =
    let n : length held + 1 - 1 ≡ length held = omega arith in
    ap (λ m. get_or (held ++ e ∷ above) m no_entry) n ∙ get_or-append_seam held e above no_entry

rest_of_last : (base : List PlainEntry) (e : PlainEntry) → stack_after_pop (base ++ e ∷ []) ≡ base ++ entry_after_pop e
rest_of_last base e =
    ap (λ n. take n (base ++ e ∷ []) ++ entry_after_pop (top_of (base ++ e ∷ []))) (last_index base e)
    ∙ ap (λ xs. xs ++ entry_after_pop (top_of (base ++ e ∷ []))) (take-append_seam base (e ∷ []))
    ∙ ap (λ x. base ++ entry_after_pop x) (top_last base e)

-- the stack after a Body on top is kept
kept_is : (held above : List PlainEntry) (out next : ℕ) (now0 before now : List PlainFrame) (c : Carry Cell)
    → held_after_keep ((held ++ forall_entry out now0 c ∷ above) ++ body_entry next before ∷ []) (length held + 1) now ≡ held
    ++ forall_entry out now0 (with_changes (diffs before now) c) ∷ above
kept_is held above out next now0 before now c =
    let whole : List PlainEntry = (held ++ forall_entry out now0 c ∷ above) ++ body_entry next before ∷ [] in
    let n : length held + 1 - 1 ≡ length held = omega arith in
    let split : whole ≡ held ++ forall_entry out now0 c ∷ (above ++ body_entry next before ∷ []) =
    append_assoc held (forall_entry out now0 c ∷ above) (body_entry next before ∷ []) in
    let entry : entry_at whole (length held + 1) ≡ forall_entry out now0 c = ap (λ x. entry_at x (length held + 1)) split
    ∙ entry_there held (forall_entry out now0 c) (above ++ body_entry next before ∷ []) in
    let top : top_of whole ≡ body_entry next before = top_last (held ++ forall_entry out now0 c ∷ above) (body_entry next before) in
    let new : PlainEntry = forall_entry out now0 (with_changes (diffs before now) c) in
    ap (λ x. take (length whole - 1) (set whole (length held + 1 - 1)
    (with_carry x (with_changes (diffs (top_of whole).frames now) x.carry)))) entry
    ∙ ap (λ x. take (length whole - 1) (set whole (length held + 1 - 1) (forall_entry out now0 (with_changes (diffs x.frames now) c)))) top
    ∙ ap (λ m. take (length whole - 1) (set whole m new)) n
    ∙ ap (λ x. take (length whole - 1) (set x (length held) new)) split
    ∙ ap (take (length whole - 1)) (set-append_seam held (forall_entry out now0 c) (above ++ body_entry next before ∷ []) new)
    ∙ ap (take (length whole - 1)) (sym (append_assoc held (new ∷ above) (body_entry next before ∷ [])))
    ∙ ap (λ m. take m ((held ++ new ∷ above) ++ body_entry next before ∷ []))
    (last_index (held ++ forall_entry out now0 c ∷ above) (body_entry next before) ∙ long)
    ∙ take-append_seam (held ++ new ∷ above) (body_entry next before ∷ [])
  where
    long : length (held ++ forall_entry out now0 c ∷ above) ≡ length
        (held ++ forall_entry out now0 (with_changes (diffs before now) c) ∷ above)
    long = length-append held (forall_entry out now0 c ∷ above)
        ∙ sym (length-append held (forall_entry out now0 (with_changes (diffs before now) c) ∷ above))

module _ (code : PlainCode) (input : List ℕ) where
  pub forall_step : (line : ℕ) (at m out : ℕ) (now : List PlainFrame) (held : List PlainEntry) (s : State) → IsAt at now held s
      → InstrAt code input line at (I.Forall m out) → HasKind now m slot.Mark
      → GoesOn code input (at + 1) (top_written now m (cell.Mark (length held + 1))) (held ++ forall_entry out now [] ∷ []) s
  unfolding act
  forall_step line at m out now held s is i kind =
      let p : State = passed code input s in
      let t : State = with_slot (state_after_push p choice.Forall out) m (cell.Mark (length s.held + 1)) in
      record {
        to = t;
        silently = answered_silently code input s t (answer.Chose (length t.held))
            (does code input line at now held s (I.Forall m out) is i
            ∙ ap (λ o. to_mark o p (λ _. answer_of_push t)) (ap (λ z. slice_get (last_frame z).kinds m) is.frames ∙ kind));
        is = record {
          mode = is.mode;
          here = ap (λ a. a + 1) is.here;
          frames = ap (λ z. top_written z m (cell.Mark (length s.held + 1))) is.frames
              ∙ ap (λ h. top_written now m (cell.Mark (length h + 1))) is.entries;
          entries = ap (λ h. h ++ forall_entry out s.now [] ∷ []) is.entries ∙ ap (λ n. held ++ forall_entry out n [] ∷ []) is.frames;
        };
      }

  pub overlay_step : (line : ℕ) (at m next out : ℕ) (now now0 : List PlainFrame) (c : Carry Cell) (held above : List PlainEntry) (s : State)
      → IsAt at now (held ++ forall_entry out now0 c ∷ above) s → InstrAt code input line at (I.Overlay m next)
      → Holds now m (cell.Mark (length held + 1))
      → GoesOn code input (at + 1) (frames_with_carry now c)
      ((held ++ forall_entry out now0 c ∷ above) ++ body_entry next (frames_with_carry now c) ∷ []) s
  unfolding act
  overlay_step line at m next out now now0 c held above s is i mark =
      let p : State = passed code input s in
      let h : ℕ = length held + 1 in
      let entries : List PlainEntry = held ++ forall_entry out now0 c ∷ above in
      let laid : overlay p h ≡ state_with_carry p h =
      ap (λ b. if_true b (λ _. state_with_carry p h) (λ _. p))
      (ap (λ x. is_forall_at x h) is.entries ∙ forall_there held out now0 c above) in
      let frames : (state_with_carry p h).now ≡ frames_with_carry now c =
      ap (λ z. frames_with_carry z (entry_at s.held h).carry) is.frames ∙ ap (λ x. frames_with_carry now (entry_at x h).carry) is.entries
      ∙ ap (λ x. frames_with_carry now x.carry) (entry_there held (forall_entry out now0 c) above) in
      let t : State = state_after_push (state_with_carry p h) choice.Body next in
      record {
        to = t;
        silently = answered_silently code input s t (answer.Chose (length t.held))
            (does code input line at now entries s (I.Overlay m next) is i
            ∙ ap (λ o. as_mark o p (λ n. answer_of_push (state_after_push (overlay p n) choice.Body next)))
            (ap (λ z. slice_get (last_frame z).cells m) is.frames ∙ mark)
            ∙ ap (λ x. answer_of_push (state_after_push x choice.Body next)) laid);
        is = record {
          mode = is.mode;
          here = ap (λ a. a + 1) is.here;
          frames = frames;
          entries = ap (λ x. x ++ body_entry next (state_with_carry p h).now ∷ []) is.entries
              ∙ ap (λ n. entries ++ body_entry next n ∷ []) frames;
        };
      }

  pub keep_step : (line : ℕ) (at m next out : ℕ) (now now0 before : List PlainFrame) (c : Carry Cell) (held above : List PlainEntry)
      (s : State) → IsAt at now ((held ++ forall_entry out now0 c ∷ above) ++ body_entry next before ∷ []) s
      → InstrAt code input line at (I.Keep m) → Holds now m (cell.Mark (length held + 1))
      → GoesOn code input (at + 1) now (held ++ forall_entry out now0 (with_changes (diffs before now) c) ∷ above) s
  unfolding act
  keep_step line at m next out now now0 before c held above s is i mark =
      let p : State = passed code input s in
      let h : ℕ = length held + 1 in
      let whole : List PlainEntry = (held ++ forall_entry out now0 c ∷ above) ++ body_entry next before ∷ [] in
      let t : State = record p { held = held_after_keep p.held h p.now } in
      let split : whole ≡ held ++ forall_entry out now0 c ∷ (above ++ body_entry next before ∷ []) =
      append_assoc held (forall_entry out now0 c ∷ above) (body_entry next before ∷ []) in
      let long : length whole ≡ suc (length (held ++ forall_entry out now0 c ∷ above)) =
      let n : length whole ≡ length (held ++ forall_entry out now0 c ∷ above) + 1 =
      length-append (held ++ forall_entry out now0 c ∷ above) (body_entry next before ∷ []) in omega (arith, n) in
      let inner : length (held ++ forall_entry out now0 c ∷ above) ≡ length held + suc (length above) =
      length-append held (forall_entry out now0 c ∷ above) in
      let a : is_forall_at whole h ≡ true = ap (λ x. is_forall_at x h) split
      ∙ forall_there held out now0 c (above ++ body_entry next before ∷ []) in
      let b : nat_lt h (length whole) ≡ true = lt-ltb h (length whole) (omega (arith, long, inner)) in
      let d : is_kind choice.Body (kind_at whole (length whole)) ≡ true = ap (λ n. is_kind choice.Body (kind_at whole n)) long
      ∙ ap (is_kind choice.Body) (kind_there (held ++ forall_entry out now0 c ∷ above) (body_entry next before) []) in
      let test : (is_forall_at whole h && (nat_lt h (length whole) && is_kind choice.Body (kind_at whole (length whole)))) ≡ true =
      ap (λ x. x && (nat_lt h (length whole) && is_kind choice.Body (kind_at whole (length whole)))) a
      ∙ ap (λ x. x && is_kind choice.Body (kind_at whole (length whole))) b ∙ d in
      record {
        to = t;
        silently = answered_silently code input s t (answer.Cut (length t.held))
            (does code input line at now whole s (I.Keep m) is i
            ∙ ap (λ o. as_mark o p (λ n. keep p n)) (ap (λ z. slice_get (last_frame z).cells m) is.frames ∙ mark)
            ∙ ap (λ x. if_true x (λ _. answer_of_fall t) (λ _. quiet_step p))
            (ap (λ x. is_forall_at x h && (nat_lt h (length x) && is_kind choice.Body (kind_at x (length x)))) is.entries ∙ test));
        is = record {
          mode = is.mode;
          here = ap (λ x. x + 1) is.here;
          frames = is.frames;
          entries = ap (λ x. held_after_keep x h s.now) is.entries ∙ ap (held_after_keep whole h) is.frames
              ∙ kept_is held above out next now0 before now c;
        };
      }

  -- a failing machine with a last entry
  pub pop_entry : (base : List PlainEntry) (e : PlainEntry) (u : State) → IsFailing (base ++ e ∷ []) u
      → GoesOn code input e.resume e.frames (base ++ entry_after_pop e) u
  pop_entry base e u failing =
      let t : State = record (with_step_counted code input u)
      { mode = Going; at = (top_of u.held).resume; now = (top_of u.held).frames; held = stack_after_pop u.held; fails = u.fails + 1 } in
      let top : top_of u.held ≡ e = ap top_of failing.entries ∙ top_last base e in
      record {
        to = t;
        silently = answered_silently code input u t (answer.Popped (length u.held))
            (ap (λ m. step_in code input m u) failing.mode ∙ ap (pop_or_end (with_step_counted code input u)) failing.entries
            ∙ popped_last base e (with_step_counted code input u));
        is = record {
          mode = refl;
          here = ap (λ x. x.resume) top;
          frames = ap (λ x. x.frames) top;
          entries =
              ap stack_after_pop failing.entries ∙ rest_of_last base e;
        };
      }

  pub finish_step : (line : ℕ) (at out : ℕ) (now now0 : List PlainFrame) (c : Carry Cell) (held : List PlainEntry) (s : State)
      → IsAt at now (held ++ done_entry out now0 c ∷ []) s → InstrAt code input line at I.Finish
      → GoesOn code input (at + 1) (frames_with_carry now c) held s
  unfolding act
  finish_step line at out now now0 c held s is i =
      let p : State = passed code input s in
      let whole : List PlainEntry = held ++ done_entry out now0 c ∷ [] in
      let t : State = record (state_with_carry p (length p.held)) { held = take (length p.held - 1) p.held } in
      let long : length whole ≡ suc (length held) = let n : length whole ≡ length held + 1 =
      length-append held (done_entry out now0 c ∷ []) in omega (arith, n) in
      let high : length whole ≡ length held + 1 = length-append held (done_entry out now0 c ∷ []) in
      let test : is_kind choice.Done (kind_at whole (length whole)) ≡ true = ap (λ n. is_kind choice.Done (kind_at whole n)) long
      ∙ ap (is_kind choice.Done) (kind_there held (done_entry out now0 c) []) in
      record {
        to = t;
        silently = answered_silently code input s t (answer.Cut (length t.held))
            (does code input line at now whole s I.Finish is i
            ∙ ap (λ x. if_true x (λ _. answer_of_fall t) (λ _. quiet_step p))
            (ap (λ x. is_kind choice.Done (kind_at x (length x))) is.entries ∙ test));
        is = record {
          mode = is.mode;
          here = ap (λ x. x + 1) is.here;
          frames = ap (λ z. frames_with_carry z (entry_at s.held (length s.held)).carry) is.frames
              ∙ ap (λ x. frames_with_carry now (entry_at x (length x)).carry) is.entries
              ∙ ap (λ n. frames_with_carry now (entry_at whole n).carry) high
              ∙ ap (λ x. frames_with_carry now x.carry) (entry_there held (done_entry out now0 c) []);
          entries = ap (λ x. take (length x - 1) x) is.entries ∙ ap (λ n. take n whole) (last_index held (done_entry out now0 c))
              ∙ take-append_seam held (done_entry out now0 c ∷ []);
        };
      }
