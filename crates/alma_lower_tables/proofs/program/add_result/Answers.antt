use Rattle.alma_lower_tables.proofs.Held.{result_named, no_result_named}
use Rattle.alma_lower_tables.proofs.program.add_result.Goals as goal

pub returns-in-Some : goal.returns-in-Some
returns-in-Some c = result_named _ _ _ _ _ c.in-Some.is c.add_checked.ensures.names

pub returns-in-None : goal.returns-in-None
returns-in-None c = no_result_named _ _ c.in-None.is
