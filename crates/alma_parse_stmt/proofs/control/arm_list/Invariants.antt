use Rattle.std.proofs.Common.{length}
use Rattle.alma_tree.specs.Spelling.{spell_arm_tail}
use Rattle.alma_tree.specs.View.{arms_of}
use Rattle.alma_tree.specs.Numbers.{numbers_of_arms}
use Rattle.alma_grammar.specs.Parts.{arm_tail}
use Rattle.alma_parse_cursor.specs.Parsing.{position_of}
use Rattle.alma_parse_cursor.proofs.Loops.{Loops}
use Rattle.alma_parse_stmt.proofs.control.arm_list.Given as goal

abbrev pub invariant-loop-after : goal.invariant-loop-after
invariant-loop-after g l = Loops (spell_arm_tail (arms_of l.more.items)) (numbers_of_arms l.more.items) arm_tail l.depth
    (position_of l.fn.at)
    (position_of l.at)

abbrev pub decreases-loop-after : goal.decreases-loop-after
decreases-loop-after g l = length (position_of l.at).kinds
