use Rattle.alma_grammar.proofs.Programs.{exact_depth}
use Rattle.alma_grammar.proofs.laws.exact_depth.Goals as goal

pub returns : goal.returns
returns c = record { exact = exact_depth }
