use Rattle.std.proofs.Common.{take, map}
use Rattle.alma_join.specs.Directory.{others, plain_export, IsAnswer}
use Rattle.alma_join.proofs.directory.matches_among.Given as goal

abbrev pub invariant-loop-export : goal.invariant-loop-export
invariant-loop-export l = IsAnswer l.matches (others l.unit (map plain_export (take l.export-index l.exports)))
