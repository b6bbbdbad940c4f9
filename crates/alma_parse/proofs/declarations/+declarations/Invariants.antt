use Rattle.std.proofs.Common.{◌+◌, ◌*◌, length}
use Rattle.alma_tree.specs.Spelling.{spell_decl_tail}
use Rattle.alma_tree.specs.View.{decls_of}
use Rattle.alma_tree.specs.Numbers.{numbers_of_decls}
use Rattle.alma_grammar.specs.Parts.{decl_tail}
use Rattle.alma_parse_cursor.specs.Parsing.{position_of}
use Rattle.alma_parse_cursor.proofs.Loops.{Loops}
use Rattle.alma_parse.proofs.declarations.+declarations.Given as goal

-- Each call reads fewer tokens, or as many and comes before in the order of the numbers here.

abbrev pub decreases-procedure : goal.decreases-procedure
decreases-procedure l = 8 * length (position_of l.at).kinds + 1

abbrev pub decreases-decl : goal.decreases-decl
decreases-decl l = 8 * length (position_of l.at).kinds + 2

abbrev pub decreases-decl_list : goal.decreases-decl_list
decreases-decl_list l = 8 * length (position_of l.at).kinds + 3

abbrev pub decreases-block : goal.decreases-block
decreases-block l = 8 * length (position_of l.at).kinds + 4

abbrev pub invariant-decl_list-loop-form : goal.invariant-decl_list-loop-form
invariant-decl_list-loop-form l = Loops (spell_decl_tail (decls_of l.more.items)) (numbers_of_decls l.more.items) decl_tail l.depth
    (position_of l.fn.at) (position_of l.at)

abbrev pub decreases-decl_list-loop-form : goal.decreases-decl_list-loop-form
decreases-decl_list-loop-form l = length (position_of l.at).kinds
