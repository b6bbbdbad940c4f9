use Rattle.alma_driver_outcome.proofs.CommandLemmas.{exec_input_refused, run_input_refused, trace_input_refused}
use Rattle.alma_driver_outcome.proofs.laws.an_input_past_its_length_is_told.Goals as goal

pub returns-clause-run : goal.returns-clause-run
returns-clause-run c = run_input_refused

pub returns-clause-trace : goal.returns-clause-trace
returns-clause-trace c = trace_input_refused

pub returns-clause-exec : goal.returns-clause-exec
returns-clause-exec c = exec_input_refused
