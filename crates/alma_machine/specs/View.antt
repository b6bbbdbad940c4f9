-- What contracts see of a machine.
use Rattle.std.specs.Prelude.{ℕ, Bool, true, false, List, [], Result, Ok, Err}
use Rattle.alma_code.specs.declared.step.Step.{Step}
use Rattle.alma_code.specs.declared.step.Step.TheVariants as answer
use Rattle.alma_code.specs.Plain.{PlainCode}
use Rattle.alma_code.specs.Machine.{State}
use Rattle.alma_memory.specs.Picture.{Picture}
use Rattle.alma_machine_acts.specs.Rows.{state_of}
use Rattle.alma_machine_acts.specs.declared.registers.Registers.{Registers}

-- the state of a run over a Memory: the frames and entries are those of its picture
abbrev pub run_state : Registers Picture → State
run_state r =
    state_of (λ (m : Picture). record { now = m.now; held = m.held; choice_room = m.choice_room; trail_room = m.trail_room; past = [] }) r

-- its code and input, the state of the copying code machine, whether it is running, and the print that it shows
pub record MachineView : Type 0 where
  pub code : PlainCode
  pub input : List ℕ
  pub state : State
  pub running : Bool
  pub printed : List ℕ

-- the machine goes on after the step
abbrev pub goes_on : Step → Bool
goes_on (answer.Done end) = false
goes_on answer.Went = true
goes_on (answer.Chose height) = true
goes_on (answer.Popped height) = true
goes_on (answer.Cut height) = true
goes_on (answer.Called routine frames) = true
goes_on (answer.Returned frames) = true
goes_on answer.Printed = true

-- the machine goes on after the call: not after a step that ended the run, and not where memory was wanted
abbrev pub runs_after : {E : Type 0} → Result Step E → Bool
runs_after (Ok step) = goes_on step
runs_after (Err fault) = false
