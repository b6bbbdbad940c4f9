-- The ends of runs and objects of programs, as they are due.
use Rattle.std.specs.Prelude.{ℕ, List}
use Rattle.alma_code.specs.declared.step.End.TheVariants as ended
use Rattle.alma_machine.specs.declared.machine.RunEnd.{RunEnd}
use Rattle.alma_machine.specs.declared.machine.RunEnd.TheVariants as run
use Rattle.alma_plan.specs.declared.stop.Stop.TheVariants as stop
use Rattle.alma_plan.specs.Plan.{Ending, steps_out, success, too_much_code}
use Rattle.alma_plan.specs.Refusals.{stop_end}
use Rattle.alma_plan.specs.Programs.{end_of, refuse_source}
use Rattle.alma_plan.specs.declared.end.ProgramEnd.{ProgramEnd}
use Rattle.alma_plan.specs.declared.end.ProgramEnd.TheVariants.{Ended, Stored, StepsOut, TooMuchCode, Stopped}
use Rattle.alma_plan.specs.declared.source.FileStop.{FileStop}
use Rattle.alma_plan.specs.declared.source.FileStop.TheVariants as file_stop
use Rattle.alma_source.specs.declared.fault.SourceFault.TheVariants.{Lex, Syntax, Check}
use Rattle.alma_unit.specs.declared.unit.UnitError.{UnitError}
use Rattle.alma_unit.specs.declared.unit.UnitError.TheVariants as unit

-- an end of a program, which fails so
abbrev pub program_end : (program : List ℕ) → (failed : Ending) → ProgramEnd → Ending
program_end program failed (Ended end line) = end_of program failed end line
program_end program failed Stored = success
program_end program failed StepsOut = steps_out program
program_end program failed (TooMuchCode size) = too_much_code program size
program_end program failed (Stopped stop) = stop_end program stop

-- the end at a file that is to hold a source
abbrev pub file_end : (program file : List ℕ) → FileStop → Ending
file_end program file (file_stop.Refused fault place) = refuse_source file fault place
file_end program file (file_stop.Stopped stop) = stop_end program stop

-- why a call ends at a file that gives no program
abbrev pub unit_stop : UnitError → FileStop
unit_stop unit.Absent = file_stop.Stopped stop.Read
unit_stop unit.Failed = file_stop.Stopped stop.Read
unit_stop unit.TooLong = file_stop.Stopped stop.TooLong
unit_stop (unit.Lex fault place) = file_stop.Refused (Lex fault) place
unit_stop (unit.Syntax fault place) = file_stop.Refused (Syntax fault) place
unit_stop (unit.Check fault place) = file_stop.Refused (Check fault) place
unit_stop unit.Memory = file_stop.Stopped stop.Memory

-- ---- inner

-- the end of a program by the answer of its run, and the line of the last instruction
abbrev pub run_end : RunEnd → (line : ℕ) → ProgramEnd
run_end run.Succeeded line = Ended ended.Succeeded line
run_end run.Failed line = Ended ended.Failed line
run_end (run.Fault fault) line = Ended (ended.Fault fault) line
run_end run.StepsOut line = StepsOut
run_end run.WriteFault line = Stopped stop.Write
run_end run.Memory line = Stopped stop.Memory
