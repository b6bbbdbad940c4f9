use Rattle.alma_back.proofs.Calls.{walk_shows}
use Rattle.alma_back.proofs.laws.a_walk_shows_its_program.Goals as goal

pub returns : goal.returns
returns c = record { shown = walk_shows }
