use Rattle.alma_driver_words.proofs.WordLemmas.{bad_none, bad_command}
use Rattle.alma_driver_words.proofs.words.read_words.Goals as goal

pub returns-in_default : goal.returns-in_default
returns-in_default c = rw c.in_default.ensures bad_none

pub returns-in_default-command_of : goal.returns-in_default-command_of
returns-in_default-command_of c = rw c.in-Some.ensures (bad_command _ _ c.in_default-command_of.ensures)
