-- What a part of the machine comes to.
use Rattle.std.specs.Prelude.{◌≡◌, ℕ, List, [], Result, Ok, Err}
use Rattle.alma_code.specs.declared.step.Step.{Step}
use Rattle.alma_code.specs.Machine.{StepResult}
use Rattle.alma_memory.specs.Machine.{MachinePicture}
use Rattle.alma_machine_acts.specs.declared.registers.Registers.{Registers}
use Rattle.alma_machine_acts.specs.Rows.{KeepsOn, state_of}
use Rattle.alma_machine_acts.specs.Steps.{step_result, PrintsOnly}

-- what the memory can go back to stays
abbrev pub KeepsPast : {M : Type 0} → (picture : M → MachinePicture) → (old new : Registers M) → Type 0
KeepsPast picture old new = (picture new.memory).past ≡ (picture old.memory).past

-- nothing has happened: the state stays, and what the memory can go back to
abbrev pub KeepsState : {M : Type 0} → (picture : M → MachinePicture) → (old new : Registers M) → Type 0
KeepsState picture old new = (state_of picture new ≡ state_of picture old) × KeepsPast picture old new

-- it made this step of the copying code machine, and printed nothing
pub record Makes {M : Type 0} (picture : M → MachinePicture) (old new : Registers M) (answer : Step) (wanted : StepResult) : Type 0 where
  pub step : step_result answer [] (state_of picture new) ≡ wanted
  pub kept : KeepsOn answer (state_of picture old) (state_of picture new)
  pub past : KeepsPast picture old new

-- it made this step, and printed these bytes
pub record MakesWith {M : Type 0} (picture : M → MachinePicture) (old new : Registers M) (bytes : List ℕ) (answer : Step)
    (wanted : StepResult) : Type 0 where
  pub step : step_result answer bytes (state_of picture new) ≡ wanted
  pub kept : KeepsOn answer (state_of picture old) (state_of picture new)
  pub quiet : PrintsOnly answer bytes
  pub past : KeepsPast picture old new

-- it made the step, or nothing has happened
abbrev pub Acts : {M E : Type 0} → (picture : M → MachinePicture) → (old new : Registers M) → Result Step E → StepResult → Type 0
Acts picture old new (Ok answer) wanted = Makes picture old new answer wanted
Acts picture old new (Err _) wanted = KeepsState picture old new

-- it made the step and printed these bytes, or nothing has happened
abbrev pub ActsWith : {M E : Type 0} → (picture : M → MachinePicture) → (old new : Registers M) → List ℕ → Result Step E → StepResult
    → Type 0
ActsWith picture old new bytes (Ok answer) wanted = MakesWith picture old new bytes answer wanted
ActsWith picture old new bytes (Err _) wanted = KeepsState picture old new × (bytes ≡ [])
