use Rattle.alma_pool.proofs.Calls.{call_shows}
use Rattle.alma_pool.proofs.laws.a_pool_shows_what_its_programs_mean.Goals as goal

pub returns : goal.returns
returns c = record { shown = call_shows }
