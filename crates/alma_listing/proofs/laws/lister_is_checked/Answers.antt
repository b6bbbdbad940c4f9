-- What the law says is the lemma.
use Rattle.alma_listing.proofs.ListerChecked.{lister_is_checked}
use Rattle.alma_listing.proofs.laws.lister_is_checked.Goals as goal

pub returns : goal.returns
returns c = lister_is_checked
