use Rattle.alma_grammar.proofs.Exact.{exact_place}
use Rattle.alma_grammar.proofs.laws.exact_place.Goals as goal

pub returns : goal.returns
returns c = record { exact = exact_place }
