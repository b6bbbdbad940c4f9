use Rattle.alma_driver_outcome.proofs.CommandLemmas.{check_ends}
use Rattle.alma_driver_outcome.proofs.laws.a_check_tells_its_source.Goals as goal

pub returns : goal.returns
returns c = record { shown = λ words name source before after status. check_ends words before after status name source }
