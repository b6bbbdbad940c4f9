use Rattle.alma_grammar.proofs.Programs.{each_program_is_read}
use Rattle.alma_grammar.proofs.laws.each_program_is_read.Goals as goal

pub returns : goal.returns
returns c = record { read = each_program_is_read }
