use Rattle.alma_driver_outcome.proofs.StoredLemmas.{spells_stored}
use Rattle.alma_driver_outcome.proofs.laws.what_is_stored_implements_its_program.Goals as goal

pub returns : goal.returns
returns c = record { object = spells_stored }
