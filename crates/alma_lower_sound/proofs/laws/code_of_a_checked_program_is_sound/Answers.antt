use Rattle.alma_lower_sound.proofs.Sound.{code_is_sound}
use Rattle.alma_lower_sound.proofs.laws.code_of_a_checked_program_is_sound.Goals as goal

pub returns : goal.returns
returns c = code_is_sound
