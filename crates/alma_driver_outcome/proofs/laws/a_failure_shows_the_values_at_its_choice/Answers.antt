use Rattle.alma_driver_outcome.proofs.ShowingLemmas.{values_back}
use Rattle.alma_driver_outcome.proofs.laws.a_failure_shows_the_values_at_its_choice.Goals as goal

pub returns : goal.returns
returns c = record { values = values_back }
