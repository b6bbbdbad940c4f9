use Rattle.alma_resolved.proofs.One.{one_numbered_tree}
use Rattle.alma_resolved.proofs.numbers.one_numbered_tree.Goals as goal

pub returns : goal.returns
returns c = record { one = one_numbered_tree }
