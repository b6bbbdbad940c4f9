use Rattle.alma_driver_outcome.proofs.InputLemmas.{input_read}
use Rattle.alma_driver_outcome.proofs.laws.the_input_is_read_whole_where_the_program_reads.Goals as goal

pub returns : goal.returns
returns c = record { left = input_read }
