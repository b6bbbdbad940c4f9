-- What stops a call, and why one is refused: statuses and texts.
use Rattle.std.specs.Prelude.{List, ℕ, ◌++◌, codes, decimal, Option, None, Some, Result, Ok, Err}
use Rattle.alma_code.specs.declared.step.VerifyFault.{VerifyFault}
use Rattle.alma_driver_words.specs.Exit as exit
use Rattle.alma_io.specs.declared.files.Fetch.{Fetch}
use Rattle.alma_io.specs.declared.files.Fetch.TheVariants as fetch
use Rattle.alma_io.specs.declared.whole.ReadAll.{ReadAll}
use Rattle.alma_io.specs.declared.whole.ReadAll.TheVariants as whole
use Rattle.alma_object_format.specs.declared.fault.ObjectFault.{ObjectFault}
use Rattle.alma_object_format.specs.Fault.{object_fault_name, object_fault_number}
use Rattle.alma_plan.specs.Plan.{Ending, bad_word_text, success, tells}
use Rattle.alma_plan.specs.declared.refusal.Refusal.{Refusal}
use Rattle.alma_plan.specs.declared.refusal.Refusal.TheVariants.{BadWord, BadObject, BadCode, Stopped}
use Rattle.alma_plan.specs.declared.stop.Stop.{Stop}
use Rattle.alma_plan.specs.declared.stop.Stop.TheVariants.{Read, Write, Memory, TooLong}

-- ---- what stops any call

-- the status of a call that was stopped
abbrev pub stop_status : Stop → ℕ
stop_status Read = exit.read_fault
stop_status Write = exit.write_fault
stop_status Memory = exit.no_memory
stop_status TooLong = exit.too_long

-- what is said of it on err, behind the name of the program
abbrev pub stop_text : Stop → List ℕ
stop_text Read = codes "read fault"
stop_text Write = codes "write fault"
stop_text Memory = codes "out of memory"
stop_text TooLong = codes "too long"

-- the end of a program that was stopped
abbrev pub stop_end : (program : List ℕ) → Stop → Ending
stop_end program stop = tells program (stop_status stop) (stop_text stop)

-- what a fetch stops at
abbrev pub fetch_stop : Fetch → Stop
fetch_stop fetch.Absent = Read
fetch_stop fetch.Failed = Read
fetch_stop fetch.TooLong = TooLong
fetch_stop fetch.Memory = Memory

-- what reading the input stops at
abbrev pub read_stop : ReadAll → Stop
read_stop whole.Fault = Read
read_stop whole.TooLong = TooLong
read_stop whole.Memory = Memory

-- ---- objects

-- the name, with the number where there is one
abbrev pub with_number : (name : List ℕ) → Option ℕ → List ℕ
with_number name None = name
with_number name (Some number) = name ++ (codes " " ++ decimal number)

-- what is said of bytes that are no object
abbrev pub object_fault_text : ObjectFault → List ℕ
object_fault_text fault = codes "object " ++ with_number (object_fault_name fault) (object_fault_number fault)

-- and of code that is not sound, by the first rule that it breaks and where
abbrev pub rule_fault_text : VerifyFault → List ℕ
rule_fault_text fault = codes "object Rule " ++ (decimal fault.rule ++ (codes " " ++ decimal fault.at))

-- ---- refusals

-- the status of a call that is refused
abbrev pub refusal_status : Refusal → ℕ
refusal_status (BadWord word) = exit.bad_word
refusal_status (BadObject fault) = exit.bad_object
refusal_status (BadCode fault) = exit.bad_object
refusal_status (Stopped stop) = stop_status stop

-- what is said of it on err, behind the name of the program
abbrev pub refusal_text : Refusal → List ℕ
refusal_text (BadWord word) = bad_word_text word
refusal_text (BadObject fault) = object_fault_text fault
refusal_text (BadCode fault) = rule_fault_text fault
refusal_text (Stopped stop) = stop_text stop

-- the end of a program that refuses
abbrev pub refusal_end : (program : List ℕ) → Refusal → Ending
refusal_end program refusal = tells program (refusal_status refusal) (refusal_text refusal)

-- how a call ends by what it answers: in success, or as it is said of what stopped it
abbrev pub end_by : {E : Type 0} → (stopped : E → Ending) → Result (Unit {0}) E → Ending
end_by stopped (Ok _) = success
end_by stopped (Err stop) = stopped stop
