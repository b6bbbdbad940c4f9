use Rattle.alma_driver_outcome.proofs.StoredLemmas.{stored_runs}
use Rattle.alma_driver_outcome.proofs.laws.a_stored_object_runs_as_its_source.Goals as goal

pub returns : goal.returns
returns c = record { runs = stored_runs }
