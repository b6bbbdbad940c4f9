use Rattle.alma_resolved.proofs.ModuleSound.{resolved_unbroken}
use Rattle.alma_resolved.proofs.laws.trees_with_a_program_are_unbroken.Goals as goal

pub returns : goal.returns
returns c = resolved_unbroken
