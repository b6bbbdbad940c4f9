use Rattle.std.proofs.Common.{length}
use Rattle.alma_tree.specs.Spelling.{spell_desig_tail}
use Rattle.alma_tree.specs.View.{desigs_of}
use Rattle.alma_tree.specs.Numbers.{numbers_of_desigs}
use Rattle.alma_grammar.specs.Parts.{desig_tail}
use Rattle.alma_parse_cursor.specs.Parsing.{position_of}
use Rattle.alma_parse_cursor.proofs.Loops.{Loops}
use Rattle.alma_parse_stmt.proofs.simple.desig_list.Given as goal

abbrev pub invariant-loop-after : goal.invariant-loop-after
invariant-loop-after g l = Loops (spell_desig_tail (desigs_of l.more.items)) (numbers_of_desigs l.more.items) desig_tail l.depth
    (position_of l.fn.at) (position_of l.at)

abbrev pub decreases-loop-after : goal.decreases-loop-after
decreases-loop-after g l = length (position_of l.at).kinds
