use Rattle.alma_lower_sound.proofs.SuchCode.{has_such_a_code}
use Rattle.alma_lower_sound.proofs.laws.each_program_has_such_a_code.Goals as goal

pub returns : goal.returns
returns c = has_such_a_code
