use Rattle.alma_parse.proofs.Endings.{some_left}
use Rattle.alma_parse.proofs.ending.nothing_left.Goals as goal

pub returns-in-Some : goal.returns-in-Some
returns-in-Some c = record { left = some_left _ _ _ c.in-Some.ensures.passes.kinds_so }
