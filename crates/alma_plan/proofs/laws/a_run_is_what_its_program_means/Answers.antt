use Rattle.alma_plan.proofs.MeantLemmas.{run_is_meant}
use Rattle.alma_plan.proofs.laws.a_run_is_what_its_program_means.Goals as goal

pub returns : goal.returns
returns c = record { means = run_is_meant }
