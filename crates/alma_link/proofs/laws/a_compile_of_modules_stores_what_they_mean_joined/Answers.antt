use Rattle.alma_link.proofs.Calls.{compile_ends}
use Rattle.alma_link.proofs.laws.a_compile_of_modules_stores_what_they_mean_joined.Goals as goal

pub returns : goal.returns
returns c = record { stored = compile_ends }
