-- Runs that are cut short.
use Rattle.std.specs.Prelude.{Bool, true, false, Result, Ok, Err}
use Rattle.alma_code.specs.Machine.{Mode, Going, Failing, Ended, Stuck}
use Rattle.alma_machine.specs.declared.machine.RunEnd.{RunEnd}
use Rattle.alma_machine.specs.declared.machine.RunEnd.TheVariants as run

-- a fault of the sink or a want of memory
abbrev pub IsCut : RunEnd → Type 0
IsCut run.WriteFault = Unit {0}
IsCut run.Memory = Unit {0}
IsCut run.Succeeded = ⊥
IsCut run.Failed = ⊥
IsCut (run.Fault fault) = ⊥
IsCut run.StepsOut = ⊥

-- p holds where the run was cut short
abbrev pub OnCut : RunEnd → Type 0 → Type 0
OnCut run.WriteFault p = p
OnCut run.Memory p = p
OnCut run.Succeeded p = Unit {0}
OnCut run.Failed p = Unit {0}
OnCut (run.Fault fault) p = Unit {0}
OnCut run.StepsOut p = Unit {0}

-- how a call ended the run, and else that it goes on
abbrev pub cut_of : Result (Unit {0}) RunEnd → RunEnd
cut_of (Ok done) = run.StepsOut
cut_of (Err end) = end

-- a machine in this mode can make a step
abbrev pub can_go : Mode → Bool
can_go Going = true
can_go Failing = true
can_go (Ended end) = false
can_go Stuck = false
