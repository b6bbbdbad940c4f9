use Rattle.std.proofs.Common.{length}
use Rattle.alma_tree.specs.Spelling.{spell_type_tail}
use Rattle.alma_tree.specs.View.{types_of}
use Rattle.alma_tree.specs.Numbers.{numbers_of_types}
use Rattle.alma_grammar.specs.Parts.{type_tail}
use Rattle.alma_parse_cursor.specs.Parsing.{position_of}
use Rattle.alma_parse_cursor.proofs.Loops.{Loops}
use Rattle.alma_parse.proofs.entries.type_entries.Given as goal

abbrev pub invariant-loop-alloc : goal.invariant-loop-alloc
invariant-loop-alloc l = Loops (spell_type_tail (types_of l.more.items)) (numbers_of_types l.more.items) type_tail l.depth
    (position_of l.fn.at) (position_of l.at)

abbrev pub decreases-loop-alloc : goal.decreases-loop-alloc
decreases-loop-alloc l = length (position_of l.at).kinds
