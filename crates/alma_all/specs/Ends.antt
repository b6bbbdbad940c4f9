-- The ends of a call, as they are due.
use Rattle.std.specs.Prelude.{Result, Ok, Err}
use Rattle.alma_listing.specs.declared.program.ListingError.{ListingError}
use Rattle.alma_listing.specs.declared.program.ListingError.TheVariants as listing
use Rattle.alma_plan.specs.Plan.{Ending, success}
use Rattle.alma_plan.specs.Ends.{file_end, program_end}
use Rattle.alma_plan.specs.Refusals.{refusal_end}
use Rattle.alma_plan.specs.declared.end.ProgramEnd.{ProgramEnd}
use Rattle.alma_plan.specs.declared.refusal.Refusal.TheVariants.{Stopped}
use Rattle.alma_plan.specs.declared.stop.Stop.TheVariants.{Memory}
use Rattle.alma_all.specs.declared.stop.AllStop.{AllStop}
use Rattle.alma_all.specs.declared.stop.AllStop.TheVariants.{Refused, Unread, ModuleReturn}
use Rattle.alma_all.specs.All.{program, module_return}

-- how a call ends that lists nothing
abbrev pub stop_ending : AllStop → Ending
stop_ending (Refused refusal) = refusal_end program refusal
stop_ending (Unread file stop) = file_end program file.now stop
stop_ending ModuleReturn = module_return

-- how a call ends: as the program does that lists, or without one
abbrev pub all_end : Result ProgramEnd AllStop → Ending
all_end (Ok end) = program_end program success end
all_end (Err error) = stop_ending error

-- why it lists nothing, where there is no program that lists
abbrev pub listing_error : ListingError → AllStop
listing_error listing.ModuleReturn = ModuleReturn
listing_error listing.Memory = Refused (Stopped Memory)
