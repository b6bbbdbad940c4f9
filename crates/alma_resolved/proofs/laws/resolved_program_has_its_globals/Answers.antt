use Rattle.alma_resolved.proofs.GlobalsKept.{program_has_globals}
use Rattle.alma_resolved.proofs.laws.resolved_program_has_its_globals.Goals as goal

pub returns : goal.returns
returns c = program_has_globals
