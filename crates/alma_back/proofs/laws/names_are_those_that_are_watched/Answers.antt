use Rattle.alma_back.proofs.Counts.{names}
use Rattle.alma_back.proofs.laws.names_are_those_that_are_watched.Goals as goal

pub returns : goal.returns
returns c = record { names = names }
