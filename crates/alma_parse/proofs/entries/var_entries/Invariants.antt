use Rattle.std.proofs.Common.{length}
use Rattle.alma_tree.specs.Spelling.{spell_var_tail}
use Rattle.alma_tree.specs.View.{vars_of}
use Rattle.alma_tree.specs.Numbers.{numbers_of_vars}
use Rattle.alma_grammar.specs.Parts.{var_tail}
use Rattle.alma_parse_cursor.specs.Parsing.{position_of}
use Rattle.alma_parse_cursor.proofs.Loops.{Loops}
use Rattle.alma_parse.proofs.entries.var_entries.Given as goal

abbrev pub invariant-loop-alloc : goal.invariant-loop-alloc
invariant-loop-alloc l = Loops (spell_var_tail (vars_of l.more.items)) (numbers_of_vars l.more.items) var_tail l.depth (position_of l.fn.at)
    (position_of l.at)

abbrev pub decreases-loop-alloc : goal.decreases-loop-alloc
decreases-loop-alloc l = length (position_of l.at).kinds
