use Rattle.alma_source.proofs.RefusalLemmas.{refused_no_tree}
use Rattle.alma_source.proofs.laws.a_source_outside_the_grammar_has_no_tree.Goals as goal

pub returns : goal.returns
returns c = record { apart = refused_no_tree }
