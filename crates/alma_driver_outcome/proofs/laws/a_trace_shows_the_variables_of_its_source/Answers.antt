use Rattle.alma_run_laws.proofs.VariableLemmas.{variables_shown, routines_shown}
use Rattle.alma_driver_outcome.proofs.laws.a_trace_shows_the_variables_of_its_source.Goals as goal

pub returns : goal.returns
returns c = record { variables = variables_shown; routines = routines_shown }
