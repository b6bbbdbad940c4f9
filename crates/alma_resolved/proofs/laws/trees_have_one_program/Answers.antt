use Rattle.alma_resolved.proofs.ModuleSound.{one_program}
use Rattle.alma_resolved.proofs.laws.trees_have_one_program.Goals as goal

pub returns : goal.returns
returns c = one_program
