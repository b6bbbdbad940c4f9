use Rattle.alma_driver_outcome.proofs.HeadlineLemmas.{run_ends}
use Rattle.alma_driver_outcome.proofs.laws.a_run_shows_what_its_source_means.Goals as goal

pub returns : goal.returns
returns c = record { shown = run_ends }
