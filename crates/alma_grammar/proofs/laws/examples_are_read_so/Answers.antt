use Rattle.std.proofs.Common.{refl}
use Rattle.alma_grammar.proofs.laws.examples_are_read_so.Goals as goal

pub returns : goal.returns
returns c = record {
  told = record {
    empty_module = refl;
    choice = refl;
    no_more = refl;
    no_value = refl;
    two_relations = refl;
    two_nots = refl;
    no_name = refl;
    second_dot = refl;
    deep = refl;
    deeper = refl;
  };
}
