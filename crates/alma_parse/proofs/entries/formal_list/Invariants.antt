use Rattle.std.proofs.Common.{length}
use Rattle.alma_tree.specs.Spelling.{spell_formal_tail}
use Rattle.alma_tree.specs.View.{formal_tail_of}
use Rattle.alma_tree.specs.Numbers.{numbers_of_formals}
use Rattle.alma_grammar.specs.Parts.{formal_tail}
use Rattle.alma_parse_cursor.specs.Parsing.{position_of}
use Rattle.alma_parse_cursor.proofs.Loops.{Loops}
use Rattle.alma_parse.proofs.entries.formal_list.Given as goal

abbrev pub invariant-loop-after : goal.invariant-loop-after
invariant-loop-after l = Loops (spell_formal_tail (formal_tail_of l.more.items)) (numbers_of_formals l.more.items) formal_tail l.depth
    (position_of l.fn.at)
    (position_of l.at)

abbrev pub decreases-loop-after : goal.decreases-loop-after
decreases-loop-after l = length (position_of l.at).kinds
