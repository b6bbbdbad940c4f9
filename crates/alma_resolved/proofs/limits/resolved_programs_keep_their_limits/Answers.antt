use Rattle.alma_resolved.proofs.Routines.{program_keeps_limits}
use Rattle.alma_resolved.proofs.limits.resolved_programs_keep_their_limits.Goals as goal

pub returns : goal.returns
returns c = program_keeps_limits
