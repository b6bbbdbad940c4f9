use Rattle.alma_driver_outcome.proofs.CommandLemmas.{compile_ends}
use Rattle.alma_driver_outcome.proofs.laws.a_compile_stores_code_of_its_source.Goals as goal

pub returns : goal.returns
returns c = record { shown = λ words name object source before after status. compile_ends words before after status name object source }
