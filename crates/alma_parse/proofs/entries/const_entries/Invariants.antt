use Rattle.std.proofs.Common.{length}
use Rattle.alma_tree.specs.Spelling.{spell_const_tail}
use Rattle.alma_tree.specs.View.{consts_of}
use Rattle.alma_tree.specs.Numbers.{numbers_of_consts}
use Rattle.alma_grammar.specs.Parts.{const_tail}
use Rattle.alma_parse_cursor.specs.Parsing.{position_of}
use Rattle.alma_parse_cursor.proofs.Loops.{Loops}
use Rattle.alma_parse.proofs.entries.const_entries.Given as goal

abbrev pub invariant-loop-alloc : goal.invariant-loop-alloc
invariant-loop-alloc l = Loops (spell_const_tail (consts_of l.more.items)) (numbers_of_consts l.more.items) const_tail l.depth
    (position_of l.fn.at) (position_of l.at)

abbrev pub decreases-loop-alloc : goal.decreases-loop-alloc
decreases-loop-alloc l = length (position_of l.at).kinds
