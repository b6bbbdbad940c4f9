-- What a run with a budget answers.
use Rattle.std.specs.Prelude.{◌≡◌, ℕ, zero, suc, ◌-◌, List, [], Bool, true, false, Result, Ok, Err}
use Rattle.alma_code.specs.declared.step.End.{End}
use Rattle.alma_code.specs.declared.step.End.TheVariants as end
use Rattle.alma_code.specs.Plain.{PlainCode}
use Rattle.alma_code.specs.Machine.{Mode, Going, Failing, Ended, Stuck, State, step, after}
use Rattle.alma_machine.specs.declared.machine.RunEnd.{RunEnd}
use Rattle.alma_machine.specs.declared.machine.RunEnd.TheVariants as run
use Rattle.alma_machine.specs.View.{MachineView}

-- the run ended
abbrev pub end_of : End → RunEnd
end_of end.Succeeded = run.Succeeded
end_of end.Failed = run.Failed
end_of (end.Fault fault) = run.Fault fault

-- the answer where the budget leaves the machine in this mode: its end, or steps out
abbrev pub run_end_of : Mode → RunEnd
run_end_of (Ended end) = end_of end
run_end_of Going = run.StepsOut
run_end_of Failing = run.StepsOut
run_end_of Stuck = run.StepsOut

-- the steps that were made between two moments
abbrev pub made : MachineView → MachineView → ℕ
made old new = new.state.steps - old.state.steps

-- what the last of so many steps printed; what was shown before where there is none
abbrev pub last_print : PlainCode → (input : List ℕ) → (steps : ℕ) → State → (shown : List ℕ) → List ℕ
last_print code input zero s shown = shown
last_print code input (suc before) s shown = (step code input (after code input before s)).printed

-- a machine shows what the last step printed, and nothing where its run was cut short
abbrev pub ShowsLast : RunEnd → (shown last : List ℕ) → Type 0
ShowsLast run.Memory shown last = shown ≡ []
ShowsLast run.Succeeded shown last = shown ≡ last
ShowsLast run.Failed shown last = shown ≡ last
ShowsLast (run.Fault fault) shown last = shown ≡ last
ShowsLast run.StepsOut shown last = shown ≡ last
ShowsLast run.WriteFault shown last = shown ≡ []

-- the answer is that the steps ran out
abbrev pub is_steps_out : RunEnd → Bool
is_steps_out run.StepsOut = true
is_steps_out run.Succeeded = false
is_steps_out run.Failed = false
is_steps_out (run.Fault fault) = false
is_steps_out run.WriteFault = false
is_steps_out run.Memory = false

-- whether the sink took all that was written to it
abbrev pub all_written : RunEnd → Result (Unit {0}) (Unit {0})
all_written run.WriteFault = Err tt
all_written run.StepsOut = Ok tt
all_written run.Succeeded = Ok tt
all_written run.Failed = Ok tt
all_written (run.Fault fault) = Ok tt
all_written run.Memory = Ok tt

-- p holds where the run was not cut short by a fault of the sink or a want of memory
abbrev pub OnWhole : RunEnd → Type 0 → Type 0
OnWhole run.Succeeded p = p
OnWhole run.Failed p = p
OnWhole (run.Fault fault) p = p
OnWhole run.StepsOut p = p
OnWhole run.WriteFault p = Unit {0}
OnWhole run.Memory p = Unit {0}

-- p holds where the steps ran out
abbrev pub OnStepsOut : RunEnd → Type 0 → Type 0
OnStepsOut run.StepsOut p = p
OnStepsOut run.Succeeded p = Unit {0}
OnStepsOut run.Failed p = Unit {0}
OnStepsOut (run.Fault fault) p = Unit {0}
OnStepsOut run.WriteFault p = Unit {0}
OnStepsOut run.Memory p = Unit {0}

-- p holds where the sink failed
abbrev pub OnWriteFault : RunEnd → Type 0 → Type 0
OnWriteFault run.WriteFault p = p
OnWriteFault run.StepsOut p = Unit {0}
OnWriteFault run.Succeeded p = Unit {0}
OnWriteFault run.Failed p = Unit {0}
OnWriteFault (run.Fault fault) p = Unit {0}
OnWriteFault run.Memory p = Unit {0}

-- p holds where memory was wanted
abbrev pub OnMemory : RunEnd → Type 0 → Type 0
OnMemory run.Memory p = p
OnMemory run.StepsOut p = Unit {0}
OnMemory run.Succeeded p = Unit {0}
OnMemory run.Failed p = Unit {0}
OnMemory (run.Fault fault) p = Unit {0}
OnMemory run.WriteFault p = Unit {0}
