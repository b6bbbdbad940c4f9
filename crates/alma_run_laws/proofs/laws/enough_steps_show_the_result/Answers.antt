use Rattle.alma_run_laws.proofs.Meant.{enough_show}
use Rattle.alma_run_laws.proofs.laws.enough_steps_show_the_result.Goals as goal

pub returns : goal.returns
returns c = record { result = enough_show }
