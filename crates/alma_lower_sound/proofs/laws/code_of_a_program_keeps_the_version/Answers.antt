use Rattle.alma_lower_sound.proofs.Counts.{code_keeps_version}
use Rattle.alma_lower_sound.proofs.laws.code_of_a_program_keeps_the_version.Goals as goal

pub returns : goal.returns
returns c = code_keeps_version
