use Rattle.alma_driver_outcome.proofs.HeadlineLemmas.{enough_steps}
use Rattle.alma_driver_outcome.proofs.laws.enough_steps_show_the_result.Goals as goal

pub returns : goal.returns
returns c = record { shown = enough_steps }
