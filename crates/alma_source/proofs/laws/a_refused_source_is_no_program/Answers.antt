use Rattle.alma_source.proofs.RefusalLemmas.{refused_no_program, refused_no_spelling}
use Rattle.alma_source.proofs.laws.a_refused_source_is_no_program.Goals as goal

pub returns : goal.returns
returns c = record { apart = refused_no_program; grammar = refused_no_spelling }
