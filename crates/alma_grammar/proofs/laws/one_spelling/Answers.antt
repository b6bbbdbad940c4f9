use Rattle.alma_grammar.proofs.Once.{one_spelling}
use Rattle.alma_grammar.proofs.laws.one_spelling.Goals as goal

pub returns : goal.returns
returns c = record { once = one_spelling }
