use Rattle.alma_lower_sound.proofs.Counts.{code_keeps_counts}
use Rattle.alma_lower_sound.proofs.laws.code_of_a_checked_program_keeps_the_counts.Goals as goal

pub returns : goal.returns
returns c = code_keeps_counts
