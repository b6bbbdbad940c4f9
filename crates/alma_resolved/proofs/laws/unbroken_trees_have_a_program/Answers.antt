use Rattle.alma_resolved.proofs.ModuleSound.{program_resolved}
use Rattle.alma_resolved.proofs.laws.unbroken_trees_have_a_program.Goals as goal

pub returns : goal.returns
returns c = program_resolved
