use Rattle.alma_driver_outcome.proofs.DriverLemmas.{one_execution}
use Rattle.alma_driver_outcome.proofs.laws.an_execution_has_one_outcome.Goals as goal

pub returns : goal.returns
returns c = record { same = one_execution }
