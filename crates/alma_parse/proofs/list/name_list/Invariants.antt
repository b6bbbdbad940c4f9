use Rattle.std.proofs.Common.{ℕ, length}
use Rattle.alma_tree.specs.Spelling.{spell_name_tail}
use Rattle.alma_tree.specs.View.{name_tail_of}
use Rattle.alma_tree.specs.Numbers.{numbers_of_names}
use Rattle.alma_grammar.specs.Parts.{name_tail}
use Rattle.alma_parse_cursor.specs.Parsing.{position_of}
use Rattle.alma_parse_cursor.proofs.Loops.{Loops}
use Rattle.alma_parse.proofs.list.name_list.Given as goal

abbrev pub invariant-loop-after : goal.invariant-loop-after
invariant-loop-after l = (d : ℕ) → Loops (spell_name_tail (name_tail_of l.more.items)) (numbers_of_names l.more.items) name_tail d
    (position_of l.fn.at) (position_of l.at)

abbrev pub decreases-loop-after : goal.decreases-loop-after
decreases-loop-after l = length (position_of l.at).kinds
