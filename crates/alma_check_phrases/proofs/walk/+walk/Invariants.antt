use Rattle.std.proofs.Common.{◌+◌, ◌*◌}
use Rattle.alma_check_phrases.proofs.walk.+walk.Given as goal

-- What stands inside has less left.

abbrev pub decreases-deeper : goal.decreases-deeper
decreases-deeper l = 2 * l.left

abbrev pub decreases-statements : goal.decreases-statements
decreases-statements l = 2 * l.left + 1
