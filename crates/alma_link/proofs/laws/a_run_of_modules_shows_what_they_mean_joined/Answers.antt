use Rattle.alma_link.proofs.Calls.{run_ends}
use Rattle.alma_link.proofs.laws.a_run_of_modules_shows_what_they_mean_joined.Goals as goal

pub returns : goal.returns
returns c = record { shown = run_ends }
