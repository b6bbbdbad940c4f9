use Rattle.alma_grammar.proofs.ReadTrees.{whole_read}
use Rattle.alma_grammar.proofs.laws.each_tree_is_read.Goals as goal

pub returns : goal.returns
returns c = record { read = whole_read }
