-- What a step gives that is made at once, or not at all.
use Rattle.std.specs.Prelude.{◌≡◌, ◌+◌, ◌≤◌, [], Bool, true, false}
use Rattle.alma_code.specs.Machine.{State, StepResult, quiet_step}
use Rattle.alma_machine_acts.specs.Steps.{IsLive}

-- no step is counted, a live machine stays live, and at most one entry is pushed and one popped
abbrev pub KeepsLive : (old new : State) → Type 0
KeepsLive old new =
    (new.steps ≡ old.steps) × (IsLive old.mode → IsLive new.mode) × (new.choices ≤ old.choices + 1) × (new.fails ≤ old.fails + 1)

-- it made this step, which has nothing to tell, and kept a live machine live
pub record MakesQuietly (old new : State) (wanted : StepResult) : Type 0 where
  pub step : quiet_step new ≡ wanted
  pub kept : KeepsLive old new

-- it made the step, which has nothing to tell, or nothing has happened
abbrev pub Quietly : Bool → (old new : State) → StepResult → Type 0
Quietly true old new wanted = MakesQuietly old new wanted
Quietly false old new wanted = new ≡ old

-- it made this step, which printed nothing, and kept a live machine live
pub record MakesQuickly (old new : State) (wanted : StepResult) : Type 0 where
  pub state : new ≡ wanted.state
  pub silent : wanted.printed ≡ []
  pub kept : KeepsLive old new

-- it made the step, which printed nothing, or nothing has happened
abbrev pub Quickly : Bool → (old new : State) → StepResult → Type 0
Quickly true old new wanted = MakesQuickly old new wanted
Quickly false old new wanted = new ≡ old

-- it made this step, which printed nothing, and counted it; the machine is live, and at most one entry was pushed and one popped
pub record StepsOnce (old new : State) (wanted : StepResult) : Type 0 where
  pub state : new ≡ wanted.state
  pub silent : wanted.printed ≡ []
  pub counted : new.steps ≡ old.steps + 1
  pub live : IsLive new.mode
  pub choices : new.choices ≤ old.choices + 1
  pub fails : new.fails ≤ old.fails + 1

-- it made the step, which printed nothing, and counted it, or nothing has happened
abbrev pub StepsQuickly : Bool → (old new : State) → StepResult → Type 0
StepsQuickly true old new wanted = StepsOnce old new wanted
StepsQuickly false old new wanted = new ≡ old
