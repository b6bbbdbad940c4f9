use Rattle.std.proofs.Common.{◌≡◌, drop}
use Rattle.alma_pool.specs.Due.{bad_turn_behind}
use Rattle.alma_pool.proofs.turns.bad_turn.Given as goal

abbrev pub invariant-loop-at : goal.invariant-loop-at
invariant-loop-at l = bad_turn_behind l.programs 0 l.turns ≡ bad_turn_behind l.programs l.at (drop l.at l.turns)
