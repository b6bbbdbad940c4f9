-- What an equation gives, whatever comes after it.
use Rattle.std.specs.Prelude.{◌≡◌, ◌+◌, ◌≤◌, ℕ, ℤ, [], Option, Some, None, Result, Ok, Err, IsOk}
use Rattle.alma_base.specs.declared.fault.RunFault.TheVariants as fault
use Rattle.alma_base.specs.declared.number.Range.{Range}
use Rattle.alma_code.specs.Machine.{State, StepResult, ends_in_fault, optional_range_check, store}
use Rattle.alma_memory.specs.Machine.{MachinePicture}
use Rattle.alma_machine_acts.specs.declared.registers.Registers.{Registers}
use Rattle.alma_machine_acts.specs.Acts.{KeepsPast, KeepsState}
use Rattle.alma_machine_acts.specs.declared.equations.Met.{Met}
use Rattle.alma_machine_acts.specs.declared.equations.Met.TheVariants.{Holds, Ends}
use Rattle.alma_machine_acts.specs.Rows.{KeepsOn, GoesOn, KeepsNumbers, state_of}
use Rattle.alma_machine_acts.specs.Steps.{step_result}

-- an equation goes on in the new state, or ends with the step
abbrev pub Meets : Met → ((State → StepResult) → StepResult) → State → Type 0
Meets Holds word new = (k : State → StepResult) → word k ≡ k new
Meets (Ends step) word new = (k : State → StepResult) → word k ≡ step_result step [] new

-- a number slot gets a number that is known and in the range
abbrev pub give_number : State → (f i : ℕ) → Option Range → Option ℤ → (State → StepResult) → StepResult
give_number s f i r None k = ends_in_fault fault.Unknown s
give_number s f i r (Some v) k = optional_range_check r s v (λ _. store s f i v k)

-- it counts no step, and where it goes on the mode and the counts stay
abbrev pub MeetsOn : Met → State → State → Type 0
MeetsOn Holds old new = GoesOn old new
MeetsOn (Ends step) old new = KeepsOn step old new

-- the equation goes on or ends as the word says, no step is counted, and what the memory can go back to stays
pub record Settles {M : Type 0} (picture : M → MachinePicture) (old new : Registers M) (met : Met)
    (word : (State → StepResult) → StepResult) : Type 0 where
  pub meets : Meets met word (state_of picture new)
  pub kept : MeetsOn met (state_of picture old) (state_of picture new)
  pub past : KeepsPast picture old new

-- the equation was settled so, or nothing has happened
abbrev pub Equates : {M E : Type 0} → (picture : M → MachinePicture) → (old new : Registers M) → Result Met E
    → ((State → StepResult) → StepResult) → Type 0
Equates picture old new (Ok met) word = Settles picture old new met word
Equates picture old new (Err _) word = KeepsState picture old new

-- it wrote one number at most: number slots stay, and one note is enough
pub record WritesOne {M E : Type 0} (picture : M → MachinePicture) (old new : Registers M) (result : Result Met E) : Type 0 where
  pub stays : KeepsNumbers (picture old.memory).now (picture new.memory).now
  pub succeeds : 1 ≤ (picture old.memory).trail_room → IsOk result
  pub room : (picture old.memory).trail_room ≤ (picture new.memory).trail_room + 1
