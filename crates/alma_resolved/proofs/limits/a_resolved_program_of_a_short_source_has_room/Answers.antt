use Rattle.alma_resolved.proofs.Routines.{program_has_room}
use Rattle.alma_resolved.proofs.limits.a_resolved_program_of_a_short_source_has_room.Goals as goal

pub returns : goal.returns
returns c = program_has_room
