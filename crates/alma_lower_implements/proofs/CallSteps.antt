-- One step of the machine: a routine is entered and left.
use Rattle.std.proofs.Common.{◌≡◌, ℕ, ◌+◌, ◌≤◌, List, [], ◌∷◌, ◌++◌, length, Some, refl, ap, ◌∙◌, arith}
use Rattle.std.specs.Prelude.{slice_get, nat_lt, nat_le, nat_eq, true, false}
use Rattle.std.proofs.lemmas.Bool.{ne_eqb}
use Rattle.alma_base.specs.Choice.{if_true}
use Rattle.alma_base.specs.declared.fault.RunFault.TheVariants as fault
use Rattle.alma_code.specs.declared.cell.Cell.{Cell}
use Rattle.alma_code.specs.declared.instr.Instr.TheVariants as I
use Rattle.alma_code.specs.declared.step.Step.TheVariants as answer
use Rattle.alma_code.specs.declared.step.End.TheVariants as end
use Rattle.alma_code.specs.Layout.{frame_of_call}
use Rattle.alma_code.specs.Picture.{PlainFrame, PlainEntry, last_frame, without_last, live_cells}
use Rattle.alma_code.specs.Lines.{line_at}
use Rattle.alma_code.specs.Plain.{PlainCode, PlainRoutine, start_at}
use Rattle.alma_code.specs.Machine.{State, StepResult, act, answers_with, step, arguments, enters_routine, as_routine, answers_return}
use Rattle.alma_code.specs.Machine.{state_after_leave, ends_run, ends_in_fault}
use Rattle.alma_lower_implements.proofs.Frames.{IsAt}
use Rattle.alma_lower_implements.proofs.Steps.{InstrAt, does, passed, Faults, faults_now}
use Rattle.alma_lower_implements.proofs.ChoiceSteps.{GoesOn, answered_silently}

module _ (code : PlainCode) (input : List ℕ) where
  -- the argument slots of a call hold these arguments
  abbrev pub HoldsArguments : PlainRoutine → (first : ℕ) → List Cell → State → Type 0
  HoldsArguments callee first args s = (k : List Cell → StepResult) → arguments callee.head.params (passed code input s) first k ≡ k args

  module _ (line at r first to : ℕ) (now : List PlainFrame) (held : List PlainEntry) (s : State) (callee : PlainRoutine) (args : List Cell)
      (is : IsAt at now held s) (i : InstrAt code input line at (I.Call r first to)) (there : slice_get code.routines r ≡ Some callee)
      (reads : HoldsArguments callee first args s) where
    enters : step code input s ≡ enters_routine (passed code input s) r (start_at code r) callee.head args
    unfolding act
    enters =
        does code input line at now held s (I.Call r first to) is i
        ∙ ap (λ o. as_routine o (passed code input s)
        (λ h. arguments h.params (passed code input s) first (λ xs. enters_routine (passed code input s) r (start_at code r) h xs)))
        there
        ∙ reads (λ xs. enters_routine (passed code input s) r (start_at code r) callee.head xs)

    pub call_step : nat_lt (length now) 10000 ≡ true → nat_le (live_cells now + callee.head.declared) 1048576 ≡ true
        → GoesOn code input (start_at code r) (now ++ frame_of_call now callee.head r (at + 1) args ∷ []) held s
    call_step few room =
        let p : State = passed code input s in
        let t : State = record p { at = start_at code r; now = p.now ++ frame_of_call p.now callee.head r p.at args ∷ [] } in
        let deep : StepResult = ends_in_fault fault.DepthFull p in
        let full : StepResult = ends_in_fault fault.CellsFull p in
        record {
          to = t;
          silently = answered_silently code input s t (answer.Called r (length p.now + 1))
              (enters
              ∙ ap (λ b. if_true b (λ _. if_true (nat_le (live_cells p.now + callee.head.declared) 1048576)
              (λ _. answers_with (answer.Called r (length p.now + 1)) t) (λ _. full)) (λ _. deep))
              (ap (λ z. nat_lt (length z) 10000) is.frames ∙ few)
              ∙ ap (λ b. if_true b (λ _. answers_with (answer.Called r (length p.now + 1)) t) (λ _. full))
              (ap (λ z. nat_le (live_cells z + callee.head.declared) 1048576) is.frames ∙ room));
          is = record {
            mode = is.mode;
            here = refl;
            frames = ap (λ z. z ++ frame_of_call z callee.head r (s.at + 1) args ∷ []) is.frames
                ∙ ap (λ a. now ++ frame_of_call now callee.head r (a + 1) args ∷ []) is.here;
            entries = is.entries;
          };
        }

    pub depth_full : nat_lt (length now) 10000 ≡ false → Faults code input line s fault.DepthFull
    depth_full many =
        let p : State = passed code input s in
        faults_now code input line s fault.DepthFull (ap (line_at code) is.here ∙ i.on_line)
        (enters ∙ ap (λ b. if_true b (λ _. if_true (nat_le (live_cells p.now + callee.head.declared) 1048576)
        (λ _. answers_with (answer.Called r (length p.now + 1))
        (record p { at = start_at code r; now = p.now ++ frame_of_call p.now callee.head r p.at args ∷ [] }))
        (λ _. ends_in_fault fault.CellsFull p)) (λ _. ends_in_fault fault.DepthFull p))
        (ap (λ z. nat_lt (length z) 10000) is.frames ∙ many))

    pub cells_full : nat_lt (length now) 10000 ≡ true → nat_le (live_cells now + callee.head.declared) 1048576 ≡ false
        → Faults code input line s fault.CellsFull
    cells_full few much =
        let p : State = passed code input s in
        let t : State = record p { at = start_at code r; now = p.now ++ frame_of_call p.now callee.head r p.at args ∷ [] } in
        faults_now code input line s fault.CellsFull (ap (line_at code) is.here ∙ i.on_line)
        (enters
        ∙ ap (λ b. if_true b (λ _. if_true (nat_le (live_cells p.now + callee.head.declared) 1048576)
        (λ _. answers_with (answer.Called r (length p.now + 1)) t) (λ _. ends_in_fault fault.CellsFull p))
        (λ _. ends_in_fault fault.DepthFull p)) (ap (λ z. nat_lt (length z) 10000) is.frames ∙ few)
        ∙ ap (λ b. if_true b (λ _. answers_with (answer.Called r (length p.now + 1)) t) (λ _. ends_in_fault fault.CellsFull p))
        (ap (λ z. nat_le (live_cells z + callee.head.declared) 1048576) is.frames ∙ much))

  -- the top frame is left
  pub return_step : (line : ℕ) (at : ℕ) (now : List PlainFrame) (held : List PlainEntry) (s : State) → IsAt at now held s
      → InstrAt code input line at I.Return → 2 ≤ length now → GoesOn code input (last_frame now).back (without_last now) held s
  unfolding act
  return_step line at now held s is i some =
      let p : State = passed code input s in
      record {
        to = state_after_leave p;
        silently = answered_silently code input s (state_after_leave p) (answer.Returned (length (state_after_leave p).now))
            (does code input line at now held s I.Return is i
            ∙ ap (λ b. if_true b (λ _. ends_run end.Succeeded p) (λ _. answers_return (state_after_leave p)))
            (ap (λ z. nat_eq (length z) 1) is.frames ∙ ne_eqb (length now) 1 (λ e. omega (arith, e, some))));
        is = record {
          mode = is.mode;
          here = ap (λ z. (last_frame z).back) is.frames;
          frames = ap without_last is.frames;
          entries =
              is.entries;
        };
      }
