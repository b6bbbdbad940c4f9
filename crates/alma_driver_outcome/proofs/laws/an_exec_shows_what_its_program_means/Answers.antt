use Rattle.alma_driver_outcome.proofs.CommandLemmas.{exec_ends}
use Rattle.alma_driver_outcome.proofs.laws.an_exec_shows_what_its_program_means.Goals as goal

pub returns : goal.returns
returns c = record {
  shown = λ words object bytes input steps stats p before after status.
      exec_ends words before after status object bytes input steps stats p;
}
