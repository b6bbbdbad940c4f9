use Rattle.alma_lower_sound.proofs.ReadsAlike.{reads_alike}
use Rattle.alma_lower_sound.proofs.laws.code_of_a_program_reads_where_the_program_reads.Goals as goal

pub returns : goal.returns
returns c = reads_alike
