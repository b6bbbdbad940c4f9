use Rattle.alma_resolved.proofs.One.{one_tree_of_a_spelling}
use Rattle.alma_resolved.proofs.numbers.one_tree_of_a_spelling.Goals as goal

pub returns : goal.returns
returns c = record { one = one_tree_of_a_spelling }
