use Rattle.alma_grammar.proofs.Finish.{each_front_is_finished}
use Rattle.alma_grammar.proofs.laws.each_front_is_finished.Goals as goal

pub returns : goal.returns
returns c = record { finished = each_front_is_finished }
