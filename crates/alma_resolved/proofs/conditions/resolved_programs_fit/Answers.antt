use Rattle.alma_resolved.proofs.Programs.{program_fits}
use Rattle.alma_resolved.proofs.conditions.resolved_programs_fit.Goals as goal

pub returns : goal.returns
returns c = program_fits
