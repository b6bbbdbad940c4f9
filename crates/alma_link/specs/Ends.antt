-- The ends of a call, as they are due.
use Rattle.std.specs.Prelude.{List, Result, Ok, Err}
use Rattle.alma_ir.specs.Tree.{Program}
use Rattle.alma_join.specs.declared.error.JoinError.{JoinError}
use Rattle.alma_join.specs.declared.error.JoinError.TheVariants as join
use Rattle.alma_join.specs.Joined as fault
use Rattle.alma_plan.specs.Plan.{Ending, no_memory}
use Rattle.alma_driver_words.specs.Words.{texts}
use Rattle.alma_plan.specs.Ends.{file_end, program_end}
use Rattle.alma_plan.specs.Refusals.{refusal_end}
use Rattle.alma_plan.specs.declared.end.ProgramEnd.{ProgramEnd}
use Rattle.alma_link.specs.declared.stop.LinkStop.{LinkStop}
use Rattle.alma_link.specs.declared.stop.LinkStop.TheVariants.{Refused, Unread, Unjoined}
use Rattle.alma_link.specs.declared.words.Task as word_task
use Rattle.alma_link.specs.declared.words.Task.TheVariants as word
use Rattle.alma_link.specs.declared.words.Request as words
use Rattle.alma_link.specs.Link.{program, failure, join_refusal}
use Rattle.alma_link.specs.Words.{Task, Run, Compile, Request, request}

-- the task that words name
abbrev pub task_of : word_task.Task → Task
task_of word.Run = Run
task_of (word.Compile object) = Compile object.now

-- the request that they name
abbrev pub request_in : words.Request → Request
request_in r = request (task_of r.task) (texts r.files.now)

-- why modules are not joined
abbrev pub join_end : List Program → JoinError → Ending
join_end units (join.Missing unit routine) = join_refusal units (fault.Missing unit routine)
join_end units (join.Twice unit routine) = join_refusal units (fault.Twice unit routine)
join_end units (join.HeadDiffers unit routine) = join_refusal units (fault.HeadDiffers unit routine)
join_end units (join.TooLarge unit) = join_refusal units (fault.TooLarge unit)
join_end units join.Memory = no_memory program

-- how a call ends that performs nothing, and read these modules
abbrev pub stop_ending : List Program → LinkStop → Ending
stop_ending units (Refused refusal) = refusal_end program refusal
stop_ending units (Unread file stop) = file_end program file.now stop
stop_ending units (Unjoined error) = join_end units error

-- how a call ends that read these modules: as their joined program does, or without one
abbrev pub link_end : List Program → Result ProgramEnd LinkStop → Ending
link_end units (Ok end) = program_end program failure end
link_end units (Err error) = stop_ending units error
