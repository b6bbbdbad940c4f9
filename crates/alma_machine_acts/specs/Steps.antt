-- What a step answers, and what it leaves.
use Rattle.std.specs.Prelude.{◌≡◌, ℕ, List, []}
use Rattle.alma_code.specs.declared.step.Step.{Step}
use Rattle.alma_code.specs.declared.step.Step.TheVariants as answer
use Rattle.alma_code.specs.Machine.{Mode, Going, Failing, Ended, Stuck, State, StepResult}

-- an answer, what was printed, and the state after it
abbrev pub step_result : Step → List ℕ → State → StepResult
step_result answer bytes state = record { answer = answer; printed = bytes; state = state }

-- a machine in this mode has not ended, and is not stuck
abbrev pub IsLive : Mode → Type 0
IsLive Going = Unit {0}
IsLive Failing = Unit {0}
IsLive (Ended end) = ⊥
IsLive Stuck = ⊥

-- a step prints these bytes, and none where it does not answer that it printed
abbrev pub PrintsOnly : Step → List ℕ → Type 0
PrintsOnly answer.Printed bytes = Unit {0}
PrintsOnly (answer.Done end) bytes = bytes ≡ []
PrintsOnly answer.Went bytes = bytes ≡ []
PrintsOnly (answer.Chose height) bytes = bytes ≡ []
PrintsOnly (answer.Popped height) bytes = bytes ≡ []
PrintsOnly (answer.Cut height) bytes = bytes ≡ []
PrintsOnly (answer.Called routine frames) bytes = bytes ≡ []
PrintsOnly (answer.Returned frames) bytes = bytes ≡ []

-- the mode after a step: ended where the answer tells an end, and in that one, and else live
abbrev pub ModeAfter : Step → Mode → Type 0
ModeAfter (answer.Done end) mode = mode ≡ Ended end
ModeAfter answer.Went mode = IsLive mode
ModeAfter (answer.Chose height) mode = IsLive mode
ModeAfter (answer.Popped height) mode = IsLive mode
ModeAfter (answer.Cut height) mode = IsLive mode
ModeAfter (answer.Called routine frames) mode = IsLive mode
ModeAfter (answer.Returned frames) mode = IsLive mode
ModeAfter answer.Printed mode = IsLive mode
