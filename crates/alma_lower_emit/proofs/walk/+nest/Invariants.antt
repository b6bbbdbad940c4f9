use Rattle.std.proofs.Common.{◌+◌, ◌*◌}
use Rattle.alma_lower_emit.proofs.walk.+nest.Given as goal

-- Each closure leads one deeper.

abbrev pub decreases-emit_sequence : goal.decreases-emit_sequence
decreases-emit_sequence l = 2 * l.deeper + 1

abbrev pub decreases-emit_nested : goal.decreases-emit_nested
decreases-emit_nested l = 2 * l.left
