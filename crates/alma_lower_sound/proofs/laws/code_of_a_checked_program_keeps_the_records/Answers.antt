use Rattle.alma_lower_sound.proofs.Records.{code_keeps_records}
use Rattle.alma_lower_sound.proofs.laws.code_of_a_checked_program_keeps_the_records.Goals as goal

pub returns : goal.returns
returns c = code_keeps_records
