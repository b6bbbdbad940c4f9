use Rattle.alma_resolved.proofs.Standing.{numbered_stands}
use Rattle.alma_resolved.proofs.conditions.trees_of_the_parser_stand_so.Goals as goal

pub returns : goal.returns
returns c = numbered_stands
