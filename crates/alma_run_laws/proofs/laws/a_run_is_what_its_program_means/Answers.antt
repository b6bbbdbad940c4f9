use Rattle.alma_run_laws.proofs.Meant.{code_shows}
use Rattle.alma_run_laws.proofs.laws.a_run_is_what_its_program_means.Goals as goal

pub returns : goal.returns
returns c = record { shows = code_shows }
