use Rattle.std.proofs.Common.{◌≡◌, map, take}
use Rattle.alma_rules.specs.Scene as scenes
use Rattle.alma_check_stmt.proofs.line.lines_of_tokens.Given as goal

abbrev pub invariant-loop-token : goal.invariant-loop-token
invariant-loop-token l = l.found.items ≡ map (scenes.line_of l.reader) (take l.token-index l.tokens)
