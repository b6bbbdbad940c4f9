use Rattle.alma_all.proofs.Calls.{call_lists}
use Rattle.alma_all.proofs.laws.a_call_lists_the_alternatives_of_its_source.Goals as goal

pub returns : goal.returns
returns c = record { shown = call_lists }
