use Rattle.alma_driver_words.proofs.WordLemmas.{within_limits}
use Rattle.alma_driver_words.proofs.laws.requests_are_within_limits.Goals as goal

pub returns : goal.returns
returns c = record { within = within_limits }
