use Rattle.std.proofs.Common.{length}
use Rattle.alma_tree.specs.Spelling.{spell_stmt_tail}
use Rattle.alma_tree.specs.View.{stmts_of}
use Rattle.alma_tree.specs.Numbers.{numbers_of_stmts}
use Rattle.alma_grammar.specs.Parts.{stmt_tail}
use Rattle.alma_parse_cursor.specs.Parsing.{position_of}
use Rattle.alma_parse_cursor.proofs.Loops.{Loops}
use Rattle.alma_parse_stmt.proofs.statement.stmt_list.Given as goal

abbrev pub invariant-loop-after : goal.invariant-loop-after
invariant-loop-after g l = Loops (spell_stmt_tail (stmts_of l.more.items)) (numbers_of_stmts l.more.items) stmt_tail l.depth
    (position_of l.fn.at) (position_of l.at)

abbrev pub decreases-loop-after : goal.decreases-loop-after
decreases-loop-after g l = length (position_of l.at).kinds
