use Rattle.alma_grammar.proofs.Only.{exact_ends}
use Rattle.alma_grammar.proofs.laws.exact_ends.Goals as goal

pub returns : goal.returns
returns c = record { exact = exact_ends }
