use Rattle.alma_driver_outcome.proofs.RunLemmas.{outcome_means}
use Rattle.alma_driver_outcome.proofs.laws.a_run_is_what_its_program_means.Goals as goal

pub returns : goal.returns
returns c = record { means = outcome_means }
