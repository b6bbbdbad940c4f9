use Rattle.alma_driver_outcome.proofs.RunLemmas.{trace_means}
use Rattle.alma_driver_outcome.proofs.laws.a_trace_ends_as_its_program_means.Goals as goal

pub returns : goal.returns
returns c = record { ends = trace_means }
