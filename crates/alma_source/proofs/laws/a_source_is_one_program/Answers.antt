use Rattle.alma_source.proofs.RefusalLemmas.{one_program}
use Rattle.alma_source.proofs.laws.a_source_is_one_program.Goals as goal

pub returns : goal.returns
returns c = record { same = one_program }
