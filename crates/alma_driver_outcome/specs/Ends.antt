-- The ends of a call: their statuses and their texts.
use Rattle.std.specs.Prelude.{Bool, true, false, List, ℕ, [], ◌++◌, codes, decimal, Option, Some, None}
use Rattle.alma_lower.specs.declared.lowering.LowerError.{LowerError}
use Rattle.alma_lower.specs.declared.lowering.LowerError.TheVariants as lower
use Rattle.alma_code.specs.declared.step.End as code
use Rattle.alma_code.specs.declared.step.End.TheVariants as ended
use Rattle.alma_code.specs.Machine.{Mode, Going, Failing, Ended, Stuck, State}
use Rattle.alma_machine.specs.declared.machine.RunEnd.{RunEnd}
use Rattle.alma_machine.specs.declared.machine.RunEnd.TheVariants as run
use Rattle.alma_driver_words.specs.Exit as exit
use Rattle.alma_driver_words.specs.declared.words.WordsError.{WordsError}
use Rattle.alma_driver_words.specs.declared.words.WordsError.TheVariants as words
use Rattle.alma_plan.specs.Plan.{Ending, ending_of, line_of}
use Rattle.alma_plan.specs.Programs.{fault_words}
use Rattle.alma_plan.specs.Refusals.{refusal_status, refusal_text as text_of_refusal}
use Rattle.alma_plan.specs.declared.end.ProgramEnd.{ProgramEnd}
use Rattle.alma_plan.specs.declared.end.ProgramEnd.TheVariants as program_end
use Rattle.alma_plan.specs.declared.refusal.Refusal.TheVariants as refusal
use Rattle.alma_plan.specs.declared.stop.Stop.{Stop}
use Rattle.alma_plan.specs.declared.stop.Stop.TheVariants as stop
use Rattle.alma_source.specs.Texts.{refusal_text}
use Rattle.alma_driver_outcome.specs.declared.end.Counts.{Counts}
use Rattle.alma_driver_outcome.specs.declared.end.End.{End}
use Rattle.alma_driver_outcome.specs.declared.end.End.TheVariants.{Succeeded, Failed, Faulted, StepsOut, BadSource, TooMuchCode, Refused}

-- the name in which the program speaks
abbrev pub program : List ℕ
program = codes "alma"

-- the status of an end
abbrev pub status_of : End → ℕ
status_of (Succeeded counts) = exit.succeeded
status_of (Failed counts) = exit.failed
status_of (Faulted fault line counts) = exit.faulted
status_of (StepsOut counts) = exit.steps_out
status_of (BadSource fault place) = exit.refused
status_of (TooMuchCode size) = exit.too_much_code
status_of (Refused why) = refusal_status why

-- a line on err in the name of the program
abbrev pub says : (text : List ℕ) → List ℕ
says text = line_of program text

-- the line that tells counts, by their texts
abbrev pub counts_line : (steps choices fails : List ℕ) → List ℕ
counts_line steps choices fails =
    codes "steps " ++ (steps ++ (codes " choices " ++ (choices ++ (codes " fails " ++ (fails ++ codes "\n")))))

-- that line where there are counts, and else nothing
abbrev pub counts_text : Option Counts → List ℕ
counts_text None = []
counts_text (Some counts) = counts_line (decimal counts.steps) (decimal counts.choices) (decimal counts.fails)

-- the counts that an end tells
abbrev pub counts_with : End → Option Counts
counts_with (Succeeded counts) = counts
counts_with (Failed counts) = counts
counts_with (Faulted fault line counts) = counts
counts_with (StepsOut counts) = counts
counts_with end = None

-- the text of an end behind its counts, where the words name this file
abbrev pub end_text : (file : List ℕ) → End → List ℕ
end_text file (Succeeded counts) = []
end_text file (Failed counts) = []
end_text file (Faulted fault line counts) = says (fault_words fault line)
end_text file (StepsOut counts) = says (codes "steps out")
end_text file (BadSource fault place) = refusal_text file fault place
end_text file (TooMuchCode size) = says (codes "too much code " ++ decimal size)
end_text file (Refused why) = says (text_of_refusal why)

-- the text of an end: counts come first
abbrev pub text_of : (file : List ℕ) → End → List ℕ
text_of file end = counts_text (counts_with end) ++ end_text file end

-- the end by its status and its text, as all programs have it
abbrev pub ending_in : (file : List ℕ) → End → Ending
ending_in file end = ending_of (status_of end) (text_of file end)

-- the counts of a state, where they are asked for
abbrev pub counts_in : (stats : Bool) → State → Option Counts
counts_in false s = None
counts_in true s = Some (record { steps = s.steps; choices = s.choices; fails = s.fails })

-- the end of a call whose run ended, with the line of the last instruction, and counts
abbrev pub ended_end : code.End → (line : ℕ) → Option Counts → End
ended_end ended.Succeeded line counts = Succeeded counts
ended_end ended.Failed line counts = Failed counts
ended_end (ended.Fault fault) line counts = Faulted fault line counts

-- the end of a call whose run is left in this mode
abbrev pub mode_end : Mode → (line : ℕ) → Option Counts → End
mode_end (Ended end) line counts = ended_end end line counts
mode_end Going line counts = StepsOut counts
mode_end Failing line counts = StepsOut counts
mode_end Stuck line counts = StepsOut counts

-- the end of a call that was stopped
abbrev pub end_of_stop : Stop → End
end_of_stop cause = Refused (refusal.Stopped cause)

-- the end of a call by the answer of its run
abbrev pub run_end : RunEnd → (line : ℕ) → Option Counts → End
run_end run.Succeeded line counts = Succeeded counts
run_end run.Failed line counts = Failed counts
run_end (run.Fault fault) line counts = Faulted fault line counts
run_end run.StepsOut line counts = StepsOut counts
run_end run.WriteFault line counts = end_of_stop stop.Write
run_end run.Memory line counts = end_of_stop stop.Memory

-- the end of a program that was not compiled
abbrev pub lower_end : LowerError → End
lower_end (lower.TooMuchCode size) = TooMuchCode size
lower_end lower.Memory = end_of_stop stop.Memory

-- the end of words that are no request
abbrev pub words_end : WordsError → End
words_end (words.Bad k) = Refused (refusal.BadWord k)
words_end words.Memory = end_of_stop stop.Memory

-- the end of a program that is compiled and stored, or run without counts
abbrev pub end_of_program : ProgramEnd → End
end_of_program (program_end.Ended end line) = ended_end end line None
end_of_program program_end.Stored = Succeeded None
end_of_program program_end.StepsOut = StepsOut None
end_of_program (program_end.TooMuchCode size) = TooMuchCode size
end_of_program (program_end.Stopped cause) = end_of_stop cause

-- the line that sums up the run of a sample: its lines, the bytes of its source and of its output, and the status of its end
abbrev pub summary_line : (lines bytes printed status : List ℕ) → List ℕ
summary_line lines bytes printed status =
    codes "lines " ++ (lines ++ (codes " bytes "
    ++ (bytes ++ (codes " printed " ++ (printed ++ (codes " status " ++ (status ++ codes "\n")))))))

-- the same by numbers
abbrev pub sample_line : (lines bytes printed status : ℕ) → List ℕ
sample_line lines bytes printed status = summary_line (decimal lines) (decimal bytes) (decimal printed) (decimal status)
