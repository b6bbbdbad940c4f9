use Rattle.alma_driver_outcome.proofs.CommandLemmas.{object_ends}
use Rattle.alma_driver_outcome.proofs.laws.an_exec_runs_the_code_of_its_object.Goals as goal

pub returns : goal.returns
returns c = record {
  shown = λ words object bytes input steps stats before after status.
      object_ends words before after status object bytes input steps stats;
}
