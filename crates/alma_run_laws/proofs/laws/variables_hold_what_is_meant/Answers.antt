use Rattle.alma_run_laws.proofs.VariableLemmas.{values_meant}
use Rattle.alma_run_laws.proofs.laws.variables_hold_what_is_meant.Goals as goal

pub returns : goal.returns
returns c = record { word = values_meant }
