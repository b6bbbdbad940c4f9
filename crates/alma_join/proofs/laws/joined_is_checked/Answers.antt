-- What the law says is the lemma.
use Rattle.alma_join.proofs.JoinedChecked.{joined_is_checked}
use Rattle.alma_join.proofs.laws.joined_is_checked.Goals as goal

pub returns : goal.returns
returns c = joined_is_checked
