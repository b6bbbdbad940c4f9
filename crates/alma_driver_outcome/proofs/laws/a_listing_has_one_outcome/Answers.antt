use Rattle.alma_driver_outcome.proofs.DriverLemmas.{one_listing}
use Rattle.alma_driver_outcome.proofs.laws.a_listing_has_one_outcome.Goals as goal

pub returns : goal.returns
returns c = record { same = one_listing }
