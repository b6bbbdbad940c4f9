use Rattle.std.proofs.Common.{◌+◌, ◌*◌, length}
use Rattle.alma_parse_cursor.specs.Parsing.{position_of}
use Rattle.alma_parse_stmt.proofs.phrase.+phrases.Given as goal

-- What stands inside has fewer tokens.

abbrev pub decreases-inside : goal.decreases-inside
decreases-inside l = 4 * l.left

abbrev pub decreases-stmts-statements : goal.decreases-stmts-statements
decreases-stmts-statements l = 4 * l.left + 1

abbrev pub decreases-stmts : goal.decreases-stmts
decreases-stmts l = 4 * length (position_of l.at).kinds + 2
