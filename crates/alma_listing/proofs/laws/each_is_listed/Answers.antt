-- What the law says is the lemma.
use Rattle.alma_listing.proofs.Listed.{each_is_listed}
use Rattle.alma_listing.proofs.laws.each_is_listed.Goals as goal

pub returns : goal.returns
returns c = each_is_listed
