use Rattle.alma_driver_outcome.proofs.CommandLemmas.{long_told, missing_told}
use Rattle.alma_driver_outcome.proofs.laws.files_that_do_not_serve_are_told.Goals as goal

pub returns-clause-missing : goal.returns-clause-missing
returns-clause-missing c = missing_told

pub returns-clause-long : goal.returns-clause-long
returns-clause-long c = long_told
