-- What a run keeps to go back by: of the contracts within this crate.
use Rattle.std.specs.Prelude.{◌≡◌, ◌<◌, ◌≤◌, ℕ, zero, suc, Bool, true, false, List, [], ◌∷◌, ◌++◌, length}
use Rattle.alma_code.specs.Fits.{Fits}
use Rattle.alma_code.specs.Machine.{Mode, Going, Failing, Ended, Stuck, State, after, prints, start}
use Rattle.alma_code.specs.Plain.{PlainCode}
use Rattle.alma_code.specs.Rules.{IsSound}
use Rattle.alma_memory.specs.Machine.{Scene, MachinePicture}
use Rattle.alma_machine_acts.specs.Rows.{state_of}
use Rattle.alma_machine_acts.specs.Steps.{IsLive}
use Rattle.alma_machine_acts.specs.declared.registers.Registers.{Registers}
use Rattle.alma_back.specs.declared.back.Old.{Old}

-- the state of a machine over a memory that goes back
abbrev pub state_in : Registers MachinePicture → State
state_in registers = state_of (λ (memory : MachinePicture). memory) registers

-- the frames and entries of a state
abbrev pub scene_of : State → Scene
scene_of s = record { now = s.now; held = s.held }

-- a machine in this mode fails
abbrev pub is_failing : Mode → Bool
is_failing Going = false
is_failing Failing = true
is_failing (Ended end) = false
is_failing Stuck = false

-- the mode of a machine that has not ended
abbrev pub mode_by : (failing : Bool) → Mode
mode_by true = Failing
mode_by false = Going

-- the rest of a state, and how many bytes were printed before it
abbrev pub old_of : State → (printed : ℕ) → Old
old_of s printed = record { at = s.at; last = s.last; failing = is_failing s.mode; choices = s.choices; fails = s.fails; printed = printed }

module _ (code : PlainCode) (input : List ℕ) where
  -- the state after so many steps
  abbrev pub state_at : (steps : ℕ) → State
  state_at steps = after code input steps (start code)

  -- how many bytes these steps printed
  abbrev pub printed_at : (steps : ℕ) → ℕ
  printed_at steps = length (prints code input steps (start code))

  -- what is kept of the states before, the last one last
  abbrev pub olds_before : (steps : ℕ) → List Old
  olds_before zero = []
  olds_before (suc before) = olds_before before ++ old_of (state_at before) (printed_at before) ∷ []

  -- their scenes, the last one first
  abbrev pub scenes_before : (steps : ℕ) → List Scene
  scenes_before zero = []
  scenes_before (suc before) = scene_of (state_at before) ∷ scenes_before before

  -- the state after so many steps fits the code, and counts them
  pub record IsCounted (steps : ℕ) : Type 0 where
    pub fits : Fits code (state_at steps)
    pub count : (state_at steps).steps ≡ steps
    pub choices : (state_at steps).choices ≤ steps
    pub fails : (state_at steps).fails ≤ steps

  -- what a run keeps after so many steps
  pub record Keeps (steps : ℕ) (registers : Registers MachinePicture) (olds : List Old) (printed : ℕ) : Type 0 where
    pub sound : IsSound code
    pub state : state_in registers ≡ state_at steps
    pub past : registers.memory.past ≡ scenes_before steps
    pub olds_are : olds ≡ olds_before steps
    pub printed_is : printed ≡ printed_at steps
    pub counted : (k : ℕ) → k ≤ steps → IsCounted k
    pub live : (k : ℕ) → k < steps → IsLive (state_at k).mode
