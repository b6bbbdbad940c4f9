use Rattle.alma_driver_outcome.proofs.CommandLemmas.{list_ends}
use Rattle.alma_driver_outcome.proofs.laws.a_list_shows_the_code_of_its_object.Goals as goal

pub returns : goal.returns
returns c = record { shown = λ words object bytes before after status. list_ends words before after status object bytes }
