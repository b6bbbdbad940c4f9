use Rattle.alma_all.proofs.Listings.{lists_every_alternative}
use Rattle.alma_all.proofs.laws.every_alternative_is_listed.Goals as goal

pub returns : goal.returns
returns c = record { listed = lists_every_alternative }
